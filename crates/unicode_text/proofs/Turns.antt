-- A turn of the sequences: the first one is taken off, or there is none.
use mathlib.Core.Path.{◌≡◌, refl}
use mathlib.Core.Bool.{true, false}
use mathlib.Core.List.{List, [], ◌∷◌}
use Prim.Native.Nat.{ℕ, zero, suc}
use lib.ListN.{drop}
use Rattle.unicode_text.specs.Unicode.{table, first, sequences}

module _ (bound b : ℕ) (bytes : List ℕ) where
  pub turned : {n : ℕ} → first table (b ∷ bytes) ≡ suc n → sequences (suc bound) (b ∷ bytes) ≡ sequences bound (drop n bytes)
  unfolding sequences
  turned e = rw (e, sequences)

  pub stopped : first table (b ∷ bytes) ≡ 0 → sequences (suc bound) (b ∷ bytes) ≡ false
  unfolding sequences
  stopped e = rw (e, sequences)

-- without bytes there is none
pub none_left : (bound : ℕ) → sequences bound [] ≡ true
unfolding sequences
none_left zero = refl
none_left (suc bound) = refl
