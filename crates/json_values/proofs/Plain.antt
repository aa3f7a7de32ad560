-- Bytes of a JSON string: which stand behind a backslash, which as they are, which go by their number; and digits.
use mathlib.Core.Path.{◌≡◌}
use mathlib.Core.Logic.{◌⊎◌, inl, inr}
use mathlib.Core.List.{[], ◌∷◌, ◌++◌}
use Prim.Native.Nat.{ℕ, ◌/◌, ◌%◌, ◌+◌, ◌≤◌, ◌<◌}
use native.Mathlib.Decide.{dec_lt}
use native.Mathlib.Omega.{arith}
use borrow.Author.Tests.{lt-ltb, le-ltb, ne_eqb}
use Rattle.lines.specs.Lines.{letters}
use Rattle.json_text.specs.Values.{hex, escape}

pub behind_backslash : (b : ℕ) → (b ≡ 0x22) ⊎ (b ≡ 0x5C) → escape b ≡ 0x5C ∷ b ∷ []
unfolding escape
behind_backslash b (inl e) = rw e
behind_backslash b (inr e) = rw e

module _ (b : ℕ) (q : b ≡ 0x22 → ⊥) (s : b ≡ 0x5C → ⊥) where
  pub plain : 0x1F < b → escape b ≡ b ∷ []
  unfolding escape
  plain h = rw (ne_eqb b 0x22 q, ne_eqb b 0x5C s, lt-ltb 0x1F b h)

  pub by_number : b ≤ 0x1F → (b ≡ 0x08 → ⊥) → (b ≡ 0x09 → ⊥) → (b ≡ 0x0A → ⊥) → (b ≡ 0x0C → ⊥) → (b ≡ 0x0D → ⊥)
      → escape b ≡ letters "\\u00" ++ (hex (b / 16) ∷ hex (b % 16) ∷ [])
  unfolding escape
  by_number h e8 e9 e10 e12 e13 =
      rw (ne_eqb b 0x22 q, ne_eqb b 0x5C s, le-ltb 0x1F b h, ne_eqb b 8 e8, ne_eqb b 9 e9, ne_eqb b 10 e10, ne_eqb b 12 e12, ne_eqb b 13 e13)

-- A digit is none of those that are escaped.
pub hex_plain : (d : ℕ) → d < 16 → escape (hex d) ≡ hex d ∷ []
unfolding hex
hex_plain d h = go (dec_lt d 10)
  where
    go : Dec (d < 10) → escape (hex d) ≡ hex d ∷ []
    go (yes l) = rw (lt-ltb d 10 l) (plain (48 + d) (λ e. omega arith) (λ e. omega arith) (omega arith))
    go (no l) = rw (le-ltb d 10 (omega arith)) (plain (55 + d) (λ e. omega arith) (λ e. omega arith) (omega arith))
