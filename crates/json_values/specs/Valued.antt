-- The JSON value of any payload, also of one that doesn't go with its class.
use Rattle.std.specs.Prelude.{ℕ, ◌≡◌, cond, List, [], eqb, take}
use Rattle.unicode_text.specs.Unicode.{scalar, encode}
use Rattle.fields.specs.Field.{number}
use Rattle.text.specs.Fold.{folded}
use Rattle.payloads.specs.Needs.{Integer, Str, Float, Char}
use Rattle.payloads.specs.Claims.{Proper}
use Rattle.json_text.specs.Values.{signed, hexes, quoted}
use Rattle.json_text.specs.Json.{shown, value}

-- A string of one character; nothing where the number is no scalar value.
unfoldable pub character : ℕ → List ℕ
character c = cond (scalar c) (quoted (encode c)) []

-- The value by class: an Integer's number is that of its first eight bytes, a Char's that of its first four.
unfoldable pub valued : (class : ℕ) → List ℕ → List ℕ
valued c bytes =
    cond (eqb c Integer) (signed (number 0 (take 8 bytes)))
    (cond (eqb c Float) (quoted (hexes bytes))
    (cond (eqb c Char) (character (number 0 (take 4 bytes)))
    (cond (eqb c Str) (quoted (folded bytes))
    (quoted bytes))))

-- Of a payload that goes with its class it is the value of what is shown.
abbrev pub AsValue : Type 0
AsValue = (class : ℕ) (bytes : List ℕ) → Proper class bytes → valued class bytes ≡ value class (shown class bytes)
