-- What writing a tree as JSON answers, and every byte that it leaves.
use Rattle.std.specs.Prelude.{ℕ, ◌-◌, ◌≤◌, ◌<◌, List, ◌++◌, length, replicate, Result, Ok, Err}
use Rattle.grammar.specs.Tree.{Tree}
use Rattle.trees.specs.Pool.{Holds}
use Rattle.payloads.specs.Fields.{fields_of}
use Rattle.refusals.specs.Refusal.{Numbered, refusal, counted}
use Rattle.placed.specs.Over.{LowestOf, NoneOf, Over}
use Rattle.json_text.specs.Json.{text}
use Rattle.json_writer.specs.Deep.{TooDeep}

-- The refusals of a tree that is too deep, and of an output that is too short.
abbrev pub Deep : ℕ
Deep = 34

abbrev pub TooShort : ℕ
TooShort = 32

-- The number and the values of an answer: 0, the length of the text and zeros, or a refusal's number and place, and zeros.
abbrev pub numbers : Result ℕ Numbered → List ℕ
numbers = counted

-- The bytes that are left: none of what was put stays after a refusal.
abbrev pub cleared : Result ℕ Numbered → List ℕ → List ℕ
cleared (Ok long) out = out
cleared (Err e) out = replicate (length out) 0

-- The answer r for a pool, a root, a file and so many bytes of room, and the bytes as they are then: by case the refusal of the check over the file, 34 at the
-- lowest row that is too deep, 32 at 0 where the text is longer than the room, or the text and zeros behind it. After a refusal all are zero.
pub data Tells (pool : List ℕ) (root : ℕ) (file : List ℕ) (room : ℕ) : Result ℕ Numbered → (out : List ℕ) → Type 0 where
  no_tree : {e : Numbered} → Over pool root file (Err e) → Tells pool root file room (Err e) (replicate room 0)
  too_deep : {count p : ℕ} → Over pool root file (Ok count) → LowestOf pool root (TooDeep pool root) p
      → Tells pool root file room (Err (refusal Deep p)) (replicate room 0)
  too_short : {count : ℕ} (t : Tree) → Over pool root file (Ok count) → NoneOf pool root (TooDeep pool root) → Holds pool root t
      → room < length (text (fields_of file) t) → Tells pool root file room (Err (refusal TooShort 0)) (replicate room 0)
  a_text : {count : ℕ} (t : Tree) → Over pool root file (Ok count) → NoneOf pool root (TooDeep pool root) → Holds pool root t
      → length (text (fields_of file) t) ≤ room
      → Tells pool root file room (Ok (length (text (fields_of file) t))) (text (fields_of file) t ++ replicate (room - length (text (fields_of file) t)) 0)
