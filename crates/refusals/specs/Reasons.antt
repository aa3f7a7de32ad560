-- The numbers of the reasons.
use Rattle.std.specs.Prelude.{ℕ, [], ◌∷◌, get_or}
use Rattle.grammar.specs.Parsed as refused
use Rattle.refusals.specs.declared.Reason.{Reason}
use Rattle.refusals.specs.declared.Reason.TheVariants.{BadArray, TooDeep, NoRoom, BadStart, BadField, TooLong, InvalidSyntax, InvalidToken, InvalidSymbol, NotImplemented, InvalidIdentifier, AssertWithoutAction, AssertWithoutComma, FuncWithoutName, IfWithoutBody, ConstWithoutValue, ExpectedEq, ExpectedColon, NoParameters, ExpectedArrow, HashNotTerminated, ArrayNotTerminated, NotCallable, TryWithoutCatch, BreakWithoutSemicolon, ContinueWithoutSemicolon, WrongSign, TooShort, NotUnicode, TreeTooDeep, NoTree}

-- The number of a reason: the definition's, where it has one.
abbrev pub number : Reason → ℕ
number BadArray = refused.BadArray
number TooDeep = refused.TooDeep
number NoRoom = refused.NoRow
number BadStart = refused.BadStart
number BadField = 5
number TooLong = 6
number InvalidSyntax = refused.InvalidSyntax
number InvalidToken = refused.InvalidToken
number InvalidSymbol = refused.InvalidSymbol
number NotImplemented = refused.NotImplemented
number InvalidIdentifier = refused.InvalidIdentifier
number AssertWithoutAction = refused.AssertWithoutAction
number AssertWithoutComma = refused.AssertWithoutComma
number FuncWithoutName = refused.FuncWithoutName
number IfWithoutBody = refused.IfWithoutBody
number ConstWithoutValue = refused.ConstWithoutValue
number ExpectedEq = refused.ExpectedEq
number ExpectedColon = refused.ExpectedColon
number NoParameters = refused.NoParameters
number ExpectedArrow = refused.ExpectedArrow
number HashNotTerminated = refused.HashNotTerminated
number ArrayNotTerminated = refused.ArrayNotTerminated
number NotCallable = refused.NotCallable
number TryWithoutCatch = refused.TryWithoutCatch
number BreakWithoutSemicolon = refused.BreakWithoutSemicolon
number ContinueWithoutSemicolon = refused.ContinueWithoutSemicolon
number WrongSign = refused.WrongSign
number TooShort = 32
number NotUnicode = 33
number TreeTooDeep = 34
number NoTree = 38

-- The reason with a number. No reason has 0, 7 to 9, 31 or 35 to 37.
abbrev pub reason : ℕ → Reason
reason n =
    get_or
    (NoTree ∷ BadArray ∷ TooDeep ∷ NoRoom ∷ BadStart ∷ BadField ∷ TooLong ∷ NoTree ∷ NoTree ∷ NoTree ∷ InvalidSyntax ∷ InvalidToken ∷ InvalidSymbol ∷ NotImplemented ∷ InvalidIdentifier ∷ AssertWithoutAction ∷ AssertWithoutComma ∷ FuncWithoutName ∷ IfWithoutBody ∷ ConstWithoutValue ∷ ExpectedEq ∷ ExpectedColon ∷ NoParameters ∷ ExpectedArrow ∷ HashNotTerminated ∷ ArrayNotTerminated ∷ NotCallable ∷ TryWithoutCatch ∷ BreakWithoutSemicolon ∷ ContinueWithoutSemicolon ∷ WrongSign ∷ NoTree ∷ TooShort ∷ NotUnicode ∷ TreeTooDeep ∷ [])
    n NoTree
