-- One of two cases, and a number that is in neither of two runs.
use Prim.Native.Nat.{ℕ, zero, suc, ◌+◌, ◌≤◌, ◌<◌}
use native.Mathlib.Omega.{arith}
use mathlib.Core.Path.{◌≡◌, refl}
use mathlib.Core.Bool.{Bool, true, false}
use mathlib.Core.Logic.{◌⊎◌, inl, inr}
use lib.Dec.{eqb, ltb}
use borrow.Author.Tests.{eqb-true, eqb-false, ltb-true, ltb-false}
use Rattle.tokens.proofs.Tests.{NoneFrom}

-- equal or not
pub same_or : (a b : ℕ) → (a ≡ b) ⊎ (a ≡ b → ⊥)
same_or a b = go (eqb a b) refl
  where
    go : (e : Bool) → eqb a b ≡ e → (a ≡ b) ⊎ (a ≡ b → ⊥)
    go true e = inl (eqb-true a b e)
    go false e = inr (eqb-false a b e)

-- less or not
pub less_or : (a b : ℕ) → (a < b) ⊎ (b ≤ a)
less_or a b = go (ltb a b) refl
  where
    go : (e : Bool) → ltb a b ≡ e → (a < b) ⊎ (b ≤ a)
    go true e = inl (ltb-true a b e)
    go false e = inr (ltb-false a b e)

-- no test both holds and fails
pub no_both : {A : Type 0} → true ≡ false → A
no_both e = absurd (let z : ◌≡◌ {A = ℕ} 0 1 = cc in omega arith)

-- a number that is none of so many from b on, and before that none of so many from a on, as a match leaves it
abbrev pub Neither : (a m b n x : ℕ) → Type 0
Neither a m b zero x = NoneFrom a m x
Neither a m b (suc n) x = Neither a m b n x × (x ≡ b + n → ⊥)

pub beyond : (a m b n x : ℕ) → b ≤ x → Neither a m b n x → b + n ≤ x
beyond a m b zero x l none = omega arith
beyond a m b (suc n) x l none = let other = none.1 in omega (arith, beyond a m b n x l none.0)

pub none_before : (a m b n x : ℕ) → Neither a m b n x → NoneFrom a m x
none_before a m b zero x none = none
none_before a m b (suc n) x none = none_before a m b n x none.0
