-- Reading a file into a buffer: the answer, and every word of the buffer.
use Rattle.std.specs.Prelude.{ℕ, ◌-◌, cond, List, ◌++◌, Result, Ok, Err, leb, length, replicate}
use Rattle.refusals.specs.Refusal.{Numbered, refusal}
use Rattle.files.specs.File.{Content, read, refused, NoRoom, TooLong, most, fields}

-- The words in a buffer of so many, where it has room for them.
unfoldable pub within : (room : ℕ) → Content → Content
within room (read words) = cond (leb (length words) room) (read words) (refused NoRoom 0)
within room (refused number place) = refused number place

-- What a file gives to a buffer of so many words: no more bytes than the most, then good fields, then room.
unfoldable pub content : List ℕ → (room : ℕ) → Content
content bytes room =
    cond (leb (length bytes) most) (within room (fields (length bytes) 0 bytes)) (refused TooLong 0)

-- What reading answers: the field count, or a refusal's number and its place.
abbrev pub answered : Content → Result ℕ Numbered
answered (read words) = Ok (length words)
answered (refused number place) = Err (refusal number place)

-- Every word of the buffer: the words of the fields in front and zeros behind, or all zeros after a refusal.
abbrev pub laid : (room : ℕ) → Content → List ℕ
laid room (read words) = words ++ replicate (room - length words) 0
laid room (refused number place) = replicate room 0

-- The answer for a file and a buffer of so many words.
abbrev pub file_answer : List ℕ → (room : ℕ) → Result ℕ Numbered
file_answer bytes room = answered (content bytes room)

-- Every word of a buffer of so many words after the file was read into it.
abbrev pub file_buffer : List ℕ → (room : ℕ) → List ℕ
file_buffer bytes room = laid room (content bytes room)
