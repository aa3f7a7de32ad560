-- What is claimed of a file that is accepted.
use Rattle.std.specs.Prelude.{ℕ, ◌+◌, ◌*◌, ◌-◌, ◌≡◌, true, List, [], ◌∷◌, ◌++◌, Ok, length, replicate}
use Rattle.fields.specs.Field.{allowed, unicode, word}
use Rattle.files.specs.Entry.{file_answer, file_buffer}

-- Fields, one behind another and nothing else, and their words: each has a length that goes with its tag, and holds Unicode as far as that asks for it.
pub data Holds : (bytes words : List ℕ) → Type 0 where
  none : Holds [] []
  field : (tag high low : ℕ) (payload rest words : List ℕ) → length payload ≡ high * 256 + low → allowed tag (length payload) ≡ true → unicode tag payload ≡ true
      → Holds rest words
      → Holds (tag ∷ high ∷ low ∷ (payload ++ rest)) (word tag payload ∷ words)

-- Such fields, so many of them, whose words stand in front of a buffer of so many words.
pub record Unicodes (bytes : List ℕ) (room count : ℕ) : Type 0 where
  pub words : List ℕ
  pub held : Holds bytes words
  pub counted : length words ≡ count
  pub front : file_buffer bytes room ≡ words ++ replicate (room - count) 0

-- A file that is accepted is such fields.
abbrev pub UnicodePayloads : Type 0
UnicodePayloads = (bytes : List ℕ) (room count : ℕ) → file_answer bytes room ≡ Ok count → Unicodes bytes room count
