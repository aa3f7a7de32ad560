-- How a refusal is seen, and that nothing of it is lost.
use Rattle.std.specs.Prelude.{◌≡◌, refl}
use Rattle.refusals.specs.declared.Reason.{Reason}
use Rattle.refusals.specs.declared.Reason.TheVariants.{BadArray, TooDeep, NoRoom, BadStart, BadField, TooLong, InvalidSyntax, InvalidToken, InvalidSymbol, NotImplemented, InvalidIdentifier, AssertWithoutAction, AssertWithoutComma, FuncWithoutName, IfWithoutBody, ConstWithoutValue, ExpectedEq, ExpectedColon, NoParameters, ExpectedArrow, HashNotTerminated, ArrayNotTerminated, NotCallable, TryWithoutCatch, BreakWithoutSemicolon, ContinueWithoutSemicolon, WrongSign, TooShort, NotUnicode, TreeTooDeep, NoTree}
use Rattle.refusals.specs.declared.Refusal.TheInside.{Inside}
use Rattle.refusals.specs.declared.numbered.ByNumber.TheInside as by
use Rattle.refusals.specs.Reasons.{number, reason}
use Rattle.refusals.specs.Refusal.{Numbered, refusal}

-- The number of its reason, and its place.
abbrev pub seen : Inside → Numbered
seen a = refusal (number a.reason) a.place

-- The refusal that is seen so.
abbrev pub inside : Numbered → Inside
inside n = record { reason = reason n.number; place = n.place }

-- A reason is told from its number.
pub reason_number : (r : Reason) → reason (number r) ≡ r
reason_number BadArray = refl
reason_number TooDeep = refl
reason_number NoRoom = refl
reason_number BadStart = refl
reason_number BadField = refl
reason_number TooLong = refl
reason_number InvalidSyntax = refl
reason_number InvalidToken = refl
reason_number InvalidSymbol = refl
reason_number NotImplemented = refl
reason_number InvalidIdentifier = refl
reason_number AssertWithoutAction = refl
reason_number AssertWithoutComma = refl
reason_number FuncWithoutName = refl
reason_number IfWithoutBody = refl
reason_number ConstWithoutValue = refl
reason_number ExpectedEq = refl
reason_number ExpectedColon = refl
reason_number NoParameters = refl
reason_number ExpectedArrow = refl
reason_number HashNotTerminated = refl
reason_number ArrayNotTerminated = refl
reason_number NotCallable = refl
reason_number TryWithoutCatch = refl
reason_number BreakWithoutSemicolon = refl
reason_number ContinueWithoutSemicolon = refl
reason_number WrongSign = refl
reason_number TooShort = refl
reason_number NotUnicode = refl
reason_number TreeTooDeep = refl
reason_number NoTree = refl

pub inside_seen : (a : Inside) → inside (seen a) ≡ a
inside_seen a = rw (reason_number a.reason) refl

-- A refusal by its number, as it stands, and the one that is seen so.
abbrev pub told : by.Inside → Numbered
told a = refusal a.number a.place

abbrev pub untold : Numbered → by.Inside
untold n = record { number = n.number; place = n.place }

pub untold_told : (a : by.Inside) → untold (told a) ≡ a
untold_told a = refl
