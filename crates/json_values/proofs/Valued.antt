-- Values by class: which characters there are, and that a proper payload's value is that of what is shown.
use mathlib.Core.Path.{◌≡◌, refl, ap, ◌∙◌}
use mathlib.Core.Bool.{true, false}
use mathlib.Core.Logic.{inl, inr}
use mathlib.Core.List.{List, []}
use Prim.Native.Nat.{ℕ, ◌≤◌, ◌<◌}
use native.Mathlib.Decide.{ℕ_discrete}
use native.Mathlib.Omega.{arith}
use borrow.Author.Tests.{lt-leb, eqb-true, ne_eqb}
use lib.ListN.{length, take}
use lib.Seq.{take_all}
use lib.Utf8.{encode as bytes_of}
use Rattle.std.specs.Char.{InScalarRange, OutOfScalarRange}
use Rattle.grammar.specs.Words.{class}
use Rattle.unicode_text.specs.Unicode.{scalar, encode}
use Rattle.unicode_text.proofs.Values.{low_scalar, high_scalar, no_scalar}
use Rattle.fields.specs.Field.{allowed, number, unicode}
use Rattle.payloads.specs.Claims.{Proper}
use Rattle.json_text.specs.Values.{signed, quoted}
use Rattle.json_text.specs.Json.{shown, value}
use Rattle.json_values.specs.Valued.{character, valued, AsValue}

-- A number above the last is no character.
pub beyond : (c : ℕ) → 0x10FFFF < c → scalar c ≡ false
unfolding scalar
beyond c h = rw (lt-leb c 0x10FFFF h)

-- The library's scalar values are those of the Standard's definition, and so are their bytes.
pub in_range : (c : ℕ) → InScalarRange c → scalar c ≡ true
in_range c (inl h) = low_scalar c h
in_range c (inr h) = high_scalar c (omega (arith, h)) (omega (arith, h))

pub out_of_range : (c : ℕ) → c ≤ 0x10FFFF → OutOfScalarRange c → scalar c ≡ false
out_of_range c l (inl h) = no_scalar c (omega (arith, h)) (omega (arith, h))
out_of_range c l (inr h) = absurd (omega (arith, h))

pub same_bytes : (c : ℕ) → bytes_of c ≡ encode c
unfolding bytes_of encode
same_bytes c = refl

pub no_character : (c : ℕ) → scalar c ≡ false → character c ≡ []
unfolding character
no_character c h = rw h

pub a_character : (c : ℕ) → scalar c ≡ true → character c ≡ quoted (encode c)
unfolding character
a_character c h = rw h

-- A class that is none of the four has its bytes as a text.
pub text_value : (c : ℕ) (bytes : List ℕ) → (c ≡ 3 → ⊥) → (c ≡ 5 → ⊥) → (c ≡ 6 → ⊥) → (c ≡ 4 → ⊥) → valued c bytes ≡ quoted bytes
unfolding valued class
text_value c bytes e3 e5 e6 e4 = rw (ne_eqb c 3 e3, ne_eqb c 5 e5, ne_eqb c 6 e6, ne_eqb c 4 e4)

-- as many bytes as are read
all_read : (size : ℕ) (bytes : List ℕ) → length bytes ≡ size → number 0 (take size bytes) ≡ number 0 bytes
all_read size bytes e = ap (number 0) (take_all size bytes (omega arith))

of_integer : (bytes : List ℕ) → Proper 3 bytes → valued 3 bytes ≡ value 3 (shown 3 bytes)
unfolding valued value shown class allowed
of_integer bytes p = ap signed (all_read 8 bytes (eqb-true (length bytes) 8 p.right))

of_character : (bytes : List ℕ) → Proper 6 bytes → valued 6 bytes ≡ value 6 (shown 6 bytes)
unfolding valued value shown class allowed unicode
of_character bytes p =
    ap character (all_read 4 bytes (eqb-true (length bytes) 4 p.right)) ∙ a_character (number 0 bytes) p.text

-- The values of proper payloads are those of what is shown.
pub as_value : AsValue
unfolding valued value shown class
as_value c bytes p = go (ℕ_discrete c 3) (ℕ_discrete c 5) (ℕ_discrete c 6) (ℕ_discrete c 4)
  where
    go : Dec (c ≡ 3) → Dec (c ≡ 5) → Dec (c ≡ 6) → Dec (c ≡ 4) → valued c bytes ≡ value c (shown c bytes)
    go (yes e) f g h = rw e (of_integer bytes (rw e at p))
    go (no e) (yes f) g h = rw f
    go (no e) (no f) (yes g) h = rw g (of_character bytes (rw g at p))
    go (no e) (no f) (no g) (yes h) = rw h
    go (no e) (no f) (no g) (no h) = rw (ne_eqb c 3 e, ne_eqb c 5 f, ne_eqb c 6 g, ne_eqb c 4 h)
