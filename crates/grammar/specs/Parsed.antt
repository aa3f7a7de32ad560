-- What a reader answers, and the steps that readers are written in.
use Rattle.std.specs.Prelude.{ℕ, zero, suc, Bool, true, false, List, [], ◌∷◌, eqb}
use Rattle.grammar.specs.Tree.{Tree, ended}

-- A refusal with its number and place, or what was read, the place of the current token and the rows left.
pub data Parsed (A : Type 0) : Type 0 where
  refused : (number place : ℕ) → Parsed A
  read : A → (at room : ℕ) → Parsed A

-- What reads from a place with a number of rows.
abbrev pub Reader : Type 0 → Type 0
Reader A = (at room : ℕ) → Parsed A

infixl 20 ◌>>=◌ ◌>>◌
-- What was read is handed on; a refusal passes upward at once.
unfoldable pub ◌>>=◌ : {A B : Type 0} → Parsed A → (A × ℕ × ℕ → Parsed B) → Parsed B
refused n p >>= f = refused n p
read a at room >>= f = f (a, at, room)

-- A condition that was met, or the refusal that it gives.
pub data Check : Type 0 where
  met : Check
  failed : (number place : ℕ) → Check

-- The condition that a test holds.
unfoldable pub need : Bool → (number place : ℕ) → Check
need true n p = met
need false n p = failed n p

-- What follows a condition.
unfoldable pub ◌>>◌ : {A : Type 0} → Check → Parsed A → Parsed A
met >> x = x
failed n p >> x = refused n p

-- The refusals by their numbers.
abbrev pub BadArray : ℕ
BadArray = 1

abbrev pub TooDeep : ℕ
TooDeep = 2

abbrev pub NoRow : ℕ
NoRow = 3

abbrev pub BadStart : ℕ
BadStart = 4

abbrev pub InvalidSyntax : ℕ
InvalidSyntax = 10

abbrev pub InvalidToken : ℕ
InvalidToken = 11

abbrev pub InvalidSymbol : ℕ
InvalidSymbol = 12

abbrev pub NotImplemented : ℕ
NotImplemented = 13

abbrev pub InvalidIdentifier : ℕ
InvalidIdentifier = 14

abbrev pub AssertWithoutAction : ℕ
AssertWithoutAction = 15

abbrev pub AssertWithoutComma : ℕ
AssertWithoutComma = 16

abbrev pub FuncWithoutName : ℕ
FuncWithoutName = 17

abbrev pub IfWithoutBody : ℕ
IfWithoutBody = 18

abbrev pub ConstWithoutValue : ℕ
ConstWithoutValue = 19

abbrev pub ExpectedEq : ℕ
ExpectedEq = 20

abbrev pub ExpectedColon : ℕ
ExpectedColon = 21

abbrev pub NoParameters : ℕ
NoParameters = 22

abbrev pub ExpectedArrow : ℕ
ExpectedArrow = 23

abbrev pub HashNotTerminated : ℕ
HashNotTerminated = 24

abbrev pub ArrayNotTerminated : ℕ
ArrayNotTerminated = 25

abbrev pub NotCallable : ℕ
NotCallable = 26

abbrev pub TryWithoutCatch : ℕ
TryWithoutCatch = 27

abbrev pub BreakWithoutSemicolon : ℕ
BreakWithoutSemicolon = 28

abbrev pub ContinueWithoutSemicolon : ℕ
ContinueWithoutSemicolon = 29

abbrev pub WrongSign : ℕ
WrongSign = 30

-- A row is due: a tree, where a row is left for its root, which ends at the current token.
unfoldable pub build : Tree → Reader Tree
build t at zero = refused NoRow at
build t at (suc room) = read (ended at t) at room

-- A test whose branches wait.
unfoldable pub choose : {A : Type 0} → Bool → (Unit {0} → Parsed A) → (Unit {0} → Parsed A) → Parsed A
choose true f g = f tt
choose false f g = g tt

-- One arm of a match on a token's word.
pub data Arm (A : Type 0) : Type 0 where
  ◌⇒◌ : ℕ → Reader A → Arm A

infix 70 ◌⇒◌
-- The first arm that has the word, or else the last.
unfoldable pub match : {A : Type 0} → ℕ → List (Arm A) → Reader A → Reader A
match w [] other at room = other at room
match w ((k ⇒ f) ∷ arms) other at room = choose (eqb w k) (λ _. f at room) (λ _. match w arms other at room)

-- How often a loop may turn: as often as the longest array has tokens, so that no loop comes to its end by this.
unfoldable pub turns : ℕ
turns = 32768

-- What a loop without turns answers, which never happens.
abbrev pub Unreached : ℕ
Unreached = 0
