-- What a check that is met tells.
use Prim.Native.Nat.{ℕ}
use native.Mathlib.Omega.{arith}
use mathlib.Core.Path.{◌≡◌, refl}
use mathlib.Core.Bool.{Bool, true, false}
use Rattle.grammar.specs.Parsed.{Check, met, failed, need}
use Rattle.grammar.specs.Script.{both}

pub both_met : (a b : Check) → both a b ≡ met → (a ≡ met) × (b ≡ met)
unfolding both
both_met met b e = (refl, e)
both_met (failed n p) b e = let z : ◌≡◌ {A = ℕ} 0 1 = cc in absurd (omega arith)

pub need_met : (b : Bool) (n p : ℕ) → need b n p ≡ met → b ≡ true
unfolding need
need_met true n p e = refl
need_met false n p e = let z : ◌≡◌ {A = ℕ} 0 1 = cc in absurd (omega arith)
