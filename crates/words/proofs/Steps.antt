-- Where a step of the cursor leads.
use Prim.Native.Nat.{ℕ, ◌+◌, ◌≤◌, ◌<◌}
use native.Mathlib.Omega.{arith}
use mathlib.Core.Path.{◌≡◌, refl}
use mathlib.Core.Bool.{Bool, true, false}
use mathlib.Core.List.{List}
use lib.ListN.{length}
use lib.Dec.{ltb}
use borrow.Author.Tests.{ltb-true, lt-ltb}
use Rattle.grammar.specs.Words.{step}

-- A step does not go back.
pub step_on : (ts : List ℕ) (at : ℕ) → at ≤ step ts at
unfolding step
step_on ts at = go (ltb (at + 1) (length ts)) refl
  where
    go : (b : Bool) → ltb (at + 1) (length ts) ≡ b → at ≤ step ts at
    go true e = rw e (omega arith)
    go false e = rw e (omega arith)

-- A step stays in the array.
pub step_within : (ts : List ℕ) (at : ℕ) → at < length ts → step ts at < length ts
unfolding step
step_within ts at h = go (ltb (at + 1) (length ts)) refl
  where
    go : (b : Bool) → ltb (at + 1) (length ts) ≡ b → step ts at < length ts
    go true e = rw e (ltb-true _ _ e)
    go false e = rw e h

-- Before the last place a step goes one on.
pub step_one : (ts : List ℕ) (at : ℕ) → at + 1 < length ts → step ts at ≡ at + 1
unfolding step
step_one ts at h = rw (lt-ltb _ _ h)
