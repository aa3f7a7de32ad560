-- Token files: fields one behind another, and the token words that they give.
use Rattle.std.specs.Prelude.{ℕ, zero, suc, List, [], ◌∷◌, Ok, Err, drop}
use Rattle.refusals.specs.declared.Reason.TheVariants as reason
use Rattle.refusals.specs.Reasons.{number as number_of}
use Rattle.fields.specs.Field.{first}

-- What a file holds: the words of its fields in order, or a refusal's number and place.
pub data Content : Type 0 where
  read : (words : List ℕ) → Content
  refused : (number place : ℕ) → Content

-- The refusal of a buffer with too few words.
abbrev pub NoRoom : ℕ
NoRoom = number_of reason.NoRoom

-- The refusal of a file with too many bytes.
abbrev pub TooLong : ℕ
TooLong = number_of reason.TooLong

-- The most bytes of a file.
abbrev pub most : ℕ
most = 60000

-- A word, and then those that follow; a refusal stays.
unfoldable pub before : ℕ → Content → Content
before w (read words) = read (w ∷ words)
before w (refused number place) = refused number place

-- The words of the fields, the first of which has this number; a bad one is refused at its own. No more fields than bytes: the bound.
unfoldable pub fields : (bound number : ℕ) → List ℕ → Content
fields zero number bytes = read []
fields (suc bound) number [] = read []
fields (suc bound) number (b ∷ bytes) =
    elim (first (b ∷ bytes)) [ Ok field ↦ before field.word (fields bound (suc number) (drop field.width (b ∷ bytes))) | Err r ↦ refused (number_of r) number ]
