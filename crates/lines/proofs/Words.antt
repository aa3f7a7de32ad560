-- Numbers that are counted up, and a slice that is filled by them.
use mathlib.Core.Path.{◌≡◌, refl, ap, ◌∙◌}
use mathlib.Core.List.{List, [], ◌∷◌, ◌++◌, map}
use Prim.Native.Nat.{ℕ, zero, suc, ◌+◌, ◌<◌}
use native.Mathlib.Nat.{zero-add}
use native.Mathlib.Omega.{arith}
use lib.ListN.{length, drop, set}
use lib.Seq.{drop-cons, set_at, append_snoc}
use Rattle.lines.specs.Lines.{from}

-- one more number stands behind the others
counted : {A : Type 0} (f : ℕ → A) (first count : ℕ) → map f (from first (suc count)) ≡ map f (from first count) ++ (f (first + count) ∷ [])
unfolding from
counted f first zero = let e : first ≡ first + 0 = omega arith in ap (λ i. f i ∷ []) e
counted f first (suc count) =
    let e : suc first + count ≡ first + suc count = omega arith in
    ap (λ l. f first ∷ l) (counted f (suc first) count ∙ ap (λ i. map f (from (suc first) count) ++ (f i ∷ [])) e)

long : {A : Type 0} (f : ℕ → A) (first count : ℕ) → length (map f (from first count)) ≡ count
unfolding from
long f first zero = refl
long f first (suc count) = ap suc (long f (suc first) count)

-- the next word is stored behind those that are there
pub one_more : (f : ℕ → ℕ) (words : List ℕ) (k : ℕ) → k < length words → set (map f (from 0 k) ++ drop k words) k (f k) ≡ map f (from 0 (suc k)) ++ drop (suc k) words
one_more f words k h =
    rw (drop-cons words k 0 h, set_at (map f (from 0 k)) _ _ _ k (long f 0 k), counted f 0 k, zero-add, append_snoc)
