-- Whether a sign comes, by the tests of the body: none is due, or it is next.
use Rattle.std.proofs.Common.{ℕ, ◌≡◌, refl, not, ◌||◌, List}
use Rattle.grammar.specs.Words.{next_is}
use Rattle.grammar.specs.Rules.{fits}
use Rattle.modes.specs.declared.Mode.TheVariants.{Old, Strict}
use Rattle.modes.specs.declared.Due.{Due}
use Rattle.modes.specs.declared.Due.TheVariants.{Always, By}
use Rattle.modes.specs.Modes.{asked, comes}

pub sign : (due : Due) (ts : List ℕ) (at w : ℕ) → comes due ts at w ≡ (not (asked due) || next_is ts at w)
unfolding fits
sign Always ts at w = refl
sign (By Old) ts at w = refl
sign (By Strict) ts at w = refl
