-- By which rules is read: the original's, and what was asked for besides.
use Rattle.std.specs.Prelude.{ℕ, Bool, false, not, ◌||◌, List}
use Rattle.grammar.specs.Words.{next_is}

-- What is asked for besides the original's rules: strict, that a call with arguments has its closer, and the bodies of while, foreach and finally
-- their opener.
pub record Rules : Type 0 where
  pub strict : Bool

-- Nothing: the original's own rules.
abbrev pub original : Rules
original = record { strict = false }

-- Whether a sign comes next, where the rules ask for it.
unfoldable pub fits : Rules → List ℕ → (at w : ℕ) → Bool
fits rules ts at w = not rules.strict || next_is ts at w
