-- What a test that is computed at each of some numbers tells of any one of them.
use Prim.Native.Nat.{ℕ, zero, suc, ◌+◌, ◌≤◌, ◌<◌}
use native.Mathlib.Nat.{eq-or-lt_of_le, le_of_suc-le-suc, not-suc-le-zero}
use native.Mathlib.Omega.{arith}
use mathlib.Core.Path.{◌≡◌}
use mathlib.Core.Bool.{Bool, true, false, ◌&&◌, ◌||◌, and-eq-true_iff}
use mathlib.Core.List.{List, [], ◌∷◌}
use mathlib.Core.Logic.{⊎_elim}
use lib.Dec.{eqb}

-- The test passes at each number of a list.
abbrev pub all : (ℕ → Bool) → List ℕ → Bool
all p [] = true
all p (k ∷ ks) = p k && all p ks

-- The test passes at each number below another.
abbrev pub below : (ℕ → Bool) → ℕ → Bool
below p zero = true
below p (suc n) = p n && below p n

-- Whether a list has a number.
abbrev pub has : List ℕ → ℕ → Bool
has [] x = false
has (k ∷ ks) x = eqb k x || has ks x

-- What holds of each number below another holds of one of them.
pub under : (p : ℕ → Bool) (n : ℕ) → below p n ≡ true → (k : ℕ) → k < n → p k ≡ true
under p zero h k l = absurd (not-suc-le-zero l)
under p (suc n) h k l =
    let both = (and-eq-true_iff (p n) (below p n)).0 h in
    ⊎_elim (λ e. rw e both.0) (λ m. under p n both.1 k m) (eq-or-lt_of_le (le_of_suc-le-suc l))

-- A number is none of so many from another on: what a `_` arm knows.
abbrev pub NoneFrom : (at count x : ℕ) → Type 0
NoneFrom at zero x = Unit
NoneFrom at (suc n) x = NoneFrom at n x × (x ≡ at + n → ⊥)

-- Then it is past them if it is not before them.
pub past : (at count x : ℕ) → at ≤ x → NoneFrom at count x → at + count ≤ x
past at zero x l none = omega arith
past at (suc n) x l none =
    let other = none.1 in
    omega (arith, past at n x l none.0)
