-- A number read byte by byte, the high one first: each turn reads one more, and eight bytes give 64 bits.
use Prim.Native.Nat.{ℕ, suc, min, ◌+◌, ◌*◌, ◌^◌, ◌≤◌, ◌<◌}
use mathlib.Core.Path.{◌≡◌, refl, sym, ap, ◌∙◌}
use mathlib.Core.List.{List}
use native.Mathlib.Decide.{dec_lt}
use native.Mathlib.Nat.{pow-suc, pow-le-pow_right}
use native.Mathlib.Omega.{arith}
use lib.ListN.{length, take, get_or}
use lib.Seq.{take_all, take-length}
use Rattle.fields.specs.Field.{number}
use Rattle.json_values.proofs.Turns.{number_turn}

-- the number of so many bytes is read
pub record Read (bytes : List ℕ) (n i : ℕ) : Type 0 where
  pub few : length bytes ≤ 8
  pub read : n ≡ number 0 (take i bytes)
  pub small : n < 256 ^ i

module _ (bytes : List ℕ) (n i : ℕ) (r : Read bytes n i) (more : i < length bytes) where
  pub room : n < 2 ^ 56
  room = omega (arith, r.small, pow-le-pow_right {n = 256} (omega arith) {i = i} {j = 7} (omega (arith, r.few)))

  pub turned : get_or bytes i 0 < 256 → Read bytes (n * 256 + get_or bytes i 0) (suc i)
  turned b = record {
    few = r.few;
    read = ap (λ m. m * 256 + get_or bytes i 0) r.read ∙ sym (number_turn bytes i more);
    small = rw (pow-suc 256 i) (omega (arith, r.small));
  }

-- nothing is read yet
pub begun : (bytes : List ℕ) → length bytes ≤ 8 → Read bytes 0 0
unfolding number
begun bytes h = record { few = h; read = refl; small = omega arith }

-- all of a front is read, whether or not there are as many bytes
front : (most : ℕ) (bytes : List ℕ) → take (min most (length bytes)) bytes ≡ take most bytes
front most bytes = go (dec_lt most (length bytes))
  where
    go : Dec (most < length bytes) → take (min most (length bytes)) bytes ≡ take most bytes
    go (yes h) = let e : min most (length bytes) ≡ most = omega arith in ap (λ k. take k bytes) e
    go (no h) = let e : min most (length bytes) ≡ length bytes = omega arith in rw (e, take-length) (sym (take_all most bytes (omega arith)))

pub ended : (most : ℕ) (bytes : List ℕ) {k n i : ℕ} → k ≡ min most (length bytes) → Read (take k bytes) n i → i ≡ length (take k bytes) → n ≡ number 0 (take most bytes)
ended most bytes {k} e r whole = r.read ∙ ap (λ j. number 0 (take j (take k bytes))) whole ∙ rw take-length (ap (number 0) (ap (λ j. take j bytes) e ∙ front most bytes))
