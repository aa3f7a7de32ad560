-- Files worked out by computing the definition.
use mathlib.Core.Path.{◌≡◌, refl}
use mathlib.Core.List.{List, [], ◌∷◌}
use Prim.Native.Nat.{ℕ}
use lib.ListN.{replicate}
use Rattle.grammar.specs.Words.{class}
use Rattle.unicode_text.specs.Unicode.{scalar, table, begins, first as sequence, sequences, well_formed}
use Rattle.fields.specs.Field.{allowed, number, unicode, whole, first}
use Rattle.std.specs.Prelude.{Result, Ok, Err}
use Rattle.refusals.specs.Refusal.{Numbered, refusal}
use Rattle.files.specs.File.{before, fields}
use Rattle.files.specs.Entry.{within, content, file_answer, file_buffer}

-- that a file is answered so, with these words left in a buffer of so many
abbrev pub Gives : List ℕ → (room : ℕ) → Result ℕ Numbered → List ℕ → Type 0
Gives bytes room r words = (file_answer bytes room ≡ r) × (file_buffer bytes room ≡ words)

-- a + b * c
abbrev pub sum : List ℕ
sum =
    7 ∷ 0 ∷ 1 ∷ 0x61 ∷ 8 ∷ 0 ∷ 1 ∷ 1 ∷ 7 ∷ 0 ∷ 1 ∷ 0x62 ∷ 8 ∷ 0 ∷ 1 ∷ 3 ∷ 7 ∷ 0 ∷ 1 ∷ 0x63 ∷ 2 ∷ 0 ∷ 0 ∷ []

-- it is read, with zeros behind; a word less of room is refused
pub sum_read : Gives sum 8 (Ok 6) (1792 ∷ 2049 ∷ 1792 ∷ 2051 ∷ 1792 ∷ 512 ∷ 0 ∷ 0 ∷ []) × Gives sum 5 (Err (refusal 3 0)) (replicate 5 0)
unfolding allowed class unicode well_formed sequences sequence table begins whole first before fields within content
sum_read = ((refl, refl), (refl, refl))

-- an empty file has no fields
pub empty_read : Gives [] 2 (Ok 0) (0 ∷ 0 ∷ [])
unfolding fields within content
empty_read = (refl, refl)

-- EOF and a Char of three bytes is refused at field 1, where the buffer is too short as well; so is a Str that is cut short
pub bad_read : Gives (2 ∷ 0 ∷ 0 ∷ 6 ∷ 0 ∷ 3 ∷ 1 ∷ 2 ∷ 3 ∷ []) 0 (Err (refusal 5 1)) [] × Gives (2 ∷ 0 ∷ 0 ∷ 4 ∷ 1 ∷ 0 ∷ 9 ∷ []) 1 (Err (refusal 5 1)) (0 ∷ [])
unfolding allowed class unicode whole first before fields within content
bad_read = ((refl, refl), (refl, refl))

-- a Char D800 is refused 33 at its field, before a Str that is cut short; a Str of a lone byte FF behind EOF too, and before the lack of room
pub not_unicode_read : Gives (2 ∷ 0 ∷ 0 ∷ 6 ∷ 0 ∷ 4 ∷ 0 ∷ 0 ∷ 0xD8 ∷ 0 ∷ 4 ∷ 0 ∷ 1 ∷ []) 3 (Err (refusal 33 1)) (replicate 3 0) × Gives (2 ∷ 0 ∷ 0 ∷ 4 ∷ 0 ∷ 1 ∷ 0xFF ∷ []) 0 (Err (refusal 33 1)) []
unfolding allowed class scalar number unicode well_formed sequences sequence table begins whole first before fields within content
not_unicode_read = ((refl, refl), (refl, refl))
