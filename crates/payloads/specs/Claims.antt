-- What is claimed of the fields of a file, and of what is looked up by its index.
use Rattle.std.specs.Prelude.{ℕ, ◌≤◌, ◌<◌, ◌≡◌, true, List, [], ◌∷◌, map, length}
use Rattle.fields.specs.Field.{allowed, unicode, word}
use Rattle.files.specs.File.{read}
use Rattle.payloads.specs.Fields.{fields_of, class_at, payload_at}
use Rattle.payloads.specs.Index.{held, laid, class_by, payload_by, most_fields}

-- Numbers that are bytes.
abbrev pub Bytes : List ℕ → Type 0
Bytes [] = Unit {0}
Bytes (b ∷ bs) = (b < 256) × Bytes bs

-- A payload that goes with its class, as the reader of token files lets it pass.
pub record Proper (class : ℕ) (bytes : List ℕ) : Type 0 where
  pub are_bytes : Bytes bytes
  pub right : allowed class (length bytes) ≡ true
  pub text : unicode class bytes ≡ true

-- Of a file that is accepted, the words are those of its fields, and each field's payload goes with its class.
abbrev pub SameFields : Type 0
SameFields =
    (bytes words : List ℕ) → held bytes ≡ read words → Bytes bytes
    → (words ≡ map (λ f. word f.0 f.1) (fields_of bytes))
    × (length words ≤ most_fields)
    × ((p : ℕ) → p < length (fields_of bytes) → Proper (class_at (fields_of bytes) p) (payload_at (fields_of bytes) p))

-- And what is looked up by its index is the class and the payload of the field with that number.
abbrev pub LooksUp : Type 0
LooksUp =
    (bytes words : List ℕ) (place : ℕ) → held bytes ≡ read words
    → (class_by bytes (laid bytes (read words)) (length words) place ≡ class_at (fields_of bytes) place)
    × (payload_by bytes (laid bytes (read words)) (length words) place ≡ payload_at (fields_of bytes) place)
