-- Scalar values and their bytes, by size.
use mathlib.Core.Path.{◌≡◌, refl}
use mathlib.Core.Bool.{Bool, true, false, cond, not, and-eq-true_iff}
use mathlib.Core.Logic.{◌⊎◌, inl, inr}
use mathlib.Core.List.{[], ◌∷◌}
use Prim.Native.Nat.{ℕ, ◌+◌, ◌*◌, ◌-◌, ◌/◌, ◌%◌, ◌≤◌, ◌<◌}
use native.Mathlib.Decide.{dec_lt}
use native.Mathlib.Omega.{arith}
use borrow.Author.Tests.{le-leb, lt-leb, leb-true, leb-false, lt-ltb, le-ltb}
use lib.Dec.{leb, ltb}
use lib.ListN.{length}
use Rattle.unicode_text.specs.Unicode.{◌to◌, within, scalar, encode}

-- scalar values below and above the surrogates
pub low_scalar : (c : ℕ) → c < 0xD800 → scalar c ≡ true
unfolding scalar
low_scalar c h = rw (le-leb c 0x10FFFF (omega arith), lt-leb 0xD800 c h)

pub high_scalar : (c : ℕ) → 0xDFFF < c → c ≤ 0x10FFFF → scalar c ≡ true
unfolding scalar
high_scalar c h k = rw (le-leb c 0x10FFFF k, le-leb 0xD800 c (omega arith), lt-leb c 0xDFFF h)

-- among them there is none, and none above the last
pub no_scalar : (c : ℕ) → 0xD800 ≤ c → c ≤ 0xDFFF → scalar c ≡ false
unfolding scalar
no_scalar c l h = rw (le-leb c 0x10FFFF (omega arith), le-leb 0xD800 c l, le-leb c 0xDFFF h)

pub above_scalar : (c : ℕ) → 0x10FFFF < c → scalar c ≡ false
unfolding scalar
above_scalar c h = rw (lt-leb c 0x10FFFF h)

pub ruleset scalars = (low_scalar, high_scalar, no_scalar, above_scalar)

-- what a scalar value is not
pub record Point (c : ℕ) : Type 0 where
  pub most : c ≤ 0x10FFFF
  pub apart : (c < 0xD800) ⊎ (0xDFFF < c)

pub point : (c : ℕ) → scalar c ≡ true → Point c
unfolding scalar
point c s = go (dec_lt c 0xD800)
  where
    both : (leb c 0x10FFFF ≡ true) × (not (within c (0xD800 to 0xDFFF)) ≡ true)
    both = (and-eq-true_iff (leb c 0x10FFFF) (not (within c (0xD800 to 0xDFFF)))).0 s

    over : 0xD800 ≤ c → (t : Bool) → leb c 0xDFFF ≡ t → 0xDFFF < c
    over l true e =
        let no : ◌≡◌ {A = Bool} false true = rw (le-leb 0xD800 c l, e) at both.1 in
        let z : ◌≡◌ {A = ℕ} 0 1 = cc in
        absurd (omega arith)
    over l false e = leb-false c 0xDFFF e

    go : Dec (c < 0xD800) → Point c
    go (yes h) = record { most = leb-true c 0x10FFFF both.0; apart = inl h }
    go (no h) = record { most = leb-true c 0x10FFFF both.0; apart = inr (over (omega arith) (leb c 0xDFFF) refl) }

-- the digits of a value: the last of base 64, the one before it, and the one before that
abbrev pub last : ℕ → ℕ
last c = 0x80 + c % 64

abbrev pub third : ℕ → ℕ
third c = 0x80 + c / 64 % 64

abbrev pub second : ℕ → ℕ
second c = 0x80 + c / 4096 % 64

-- the value of two bytes, of three and of four
abbrev pub value_2 : ℕ → ℕ → ℕ
value_2 b x = (b - 0xC0) * 64 + (x - 0x80)

abbrev pub value_3 : ℕ → ℕ → ℕ → ℕ
value_3 b x y = (b - 0xE0) * 4096 + (x - 0x80) * 64 + (y - 0x80)

abbrev pub value_4 : ℕ → ℕ → ℕ → ℕ → ℕ
value_4 b x y z = (b - 0xF0) * 262144 + (x - 0x80) * 4096 + (y - 0x80) * 64 + (z - 0x80)

-- the bytes by size
module _ (c : ℕ) where
  pub encode_1 : c < 0x80 → encode c ≡ c ∷ []
  unfolding encode
  encode_1 h = rw (lt-ltb c 0x80 h)

  pub encode_2 : 0x80 ≤ c → c < 0x800 → encode c ≡ (0xC0 + c / 64) ∷ last c ∷ []
  unfolding encode
  encode_2 l h = rw (le-ltb c 0x80 l, lt-ltb c 0x800 h)

  pub encode_3 : 0x800 ≤ c → c < 0x10000 → encode c ≡ (0xE0 + c / 4096) ∷ third c ∷ last c ∷ []
  unfolding encode
  encode_3 l h = rw (le-ltb c 0x80 (omega arith), le-ltb c 0x800 l, lt-ltb c 0x10000 h)

  pub encode_4 : 0x10000 ≤ c → encode c ≡ (0xF0 + c / 262144) ∷ second c ∷ third c ∷ last c ∷ []
  unfolding encode
  encode_4 l = rw (le-ltb c 0x80 (omega arith), le-ltb c 0x800 (omega arith), le-ltb c 0x10000 l)

  -- a value has a byte
  pub some : 0 < length (encode c)
  unfolding encode
  some = go (ltb c 0x80) (ltb c 0x800) (ltb c 0x10000)
    where
      go : (s t u : Bool) → 0 < length (cond s (c ∷ []) (cond t ((0xC0 + c / 64) ∷ last c ∷ []) (cond u ((0xE0 + c / 4096) ∷ third c ∷ last c ∷ []) ((0xF0 + c / 262144) ∷ second c ∷ third c ∷ last c ∷ []))))
      go true t u = omega arith
      go false true u = omega arith
      go false false true = omega arith
      go false false false = omega arith
