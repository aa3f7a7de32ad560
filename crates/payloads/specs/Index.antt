-- The index of a file: where each of its fields begins, and what is looked up by it.
use Rattle.std.specs.Prelude.{ℕ, ◌+◌, ◌*◌, ◌-◌, cond, List, [], ◌∷◌, ◌++◌, ltb, length, take, drop, get_or, replicate}
use Rattle.fields.specs.Field.{head}
use Rattle.files.specs.File.{Content, read, refused}
use Rattle.files.specs.Entry.{content}
use Rattle.payloads.specs.Fields.{Field, NoClass, fields_of}

-- The most fields of a file.
abbrev pub most_fields : ℕ
most_fields = 20000

-- What a file holds: the words of its fields, or a refusal. With as many words of room as there are bytes there is always room.
abbrev pub held : List ℕ → Content
held bytes = content bytes (length bytes)

-- Where fields begin, the first of them at a place.
unfoldable pub begins : (at : ℕ) → List Field → List ℕ
begins at [] = []
begins at (f ∷ fs) = at ∷ begins (at + (head + length f.1)) fs

-- Every word of the index: where the fields begin and zeros behind, or all zeros after a refusal.
abbrev pub laid : List ℕ → Content → List ℕ
laid bytes (read words) = begins 0 (fields_of bytes) ++ replicate (most_fields - length words) 0
laid bytes (refused number place) = replicate most_fields 0

-- Where the field with a number begins by an index; 0 behind its end.
abbrev pub start_of : (starts : List ℕ) → ℕ → ℕ
start_of starts place = get_or starts place 0

-- The class that is looked up: the byte where the field begins.
unfoldable pub class_by : (bytes starts : List ℕ) (count place : ℕ) → ℕ
class_by bytes starts count place = cond (ltb place count) (get_or bytes (start_of starts place) NoClass) NoClass

-- The length of a payload by the two bytes behind the class, and the payload that is looked up: as many bytes as there are of it.
unfoldable pub size_by : (bytes : List ℕ) (start : ℕ) → ℕ
size_by bytes start = get_or bytes (start + 1) 0 * 256 + get_or bytes (start + 2) 0

unfoldable pub payload_by : (bytes starts : List ℕ) (count place : ℕ) → List ℕ
payload_by bytes starts count place =
    cond (ltb place count) (take (size_by bytes (start_of starts place)) (drop (start_of starts place + head) bytes)) []
