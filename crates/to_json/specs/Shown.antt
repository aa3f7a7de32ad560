-- What `to_json` prints for a file.
use Rattle.std.specs.Prelude.{ℕ, ◌≡◌, List, [], ◌∷◌, ◌++◌, take, Result, Ok, Err}
use Rattle.grammar.specs.Tree.{Trees, sizes}
use Rattle.grammar.specs.Parsed.{Parsed, read, refused}
use Rattle.grammar.specs.Rules.{original}
use Rattle.grammar.specs.Script.{whole_script, rows, pool}
use Rattle.refusals.specs.Refusal.{Numbered, refusal}
use Rattle.files.specs.File.{Content}
use Rattle.files.specs.File as file
use Rattle.files.specs.Entry.{content}
use Rattle.lines.specs.Lines.{first_line}
use Rattle.json_writer.specs.Tells.{Tells}

-- What is read from a file, with so many rows: its script by the original's rules, or the refusal of the file.
unfoldable pub outcome : Content → (rows : ℕ) → Parsed Trees
outcome (file.read words) rows = whole_script original words rows
outcome (file.refused number place) rows = refused number place

-- The line of a refusal, as `outline` prints it.
abbrev pub no : (number place : ℕ) → List ℕ
no number place = first_line (Err (refusal number place))

-- What is printed of the answer and the bytes of the JSON writer: its text and a newline, or the line of its refusal.
abbrev pub printed : Result ℕ Numbered → (out : List ℕ) → List ℕ
printed (Ok long) out = take long out ++ (10 ∷ [])
printed (Err e) out = no e.number e.place

-- What is shown of the tree at a root of a pool, over a file, with so many bytes of room for its text.
pub data ShowsTree (pool : List ℕ) (root : ℕ) (file : List ℕ) (room : ℕ) : (shown : List ℕ) → Type 0 where
  told_of : {r : Result ℕ Numbered} {out : List ℕ} → Tells pool root file room r out → ShowsTree pool root file room (printed r out)

-- The bytes of the longest text that is shown.
abbrev pub most : ℕ
most = 4194304

-- What is shown for the bytes of a file, with buffers of so many token words, pool words and text bytes: the line of the file's refusal or of the
-- parser's, or what is shown of the tree that the parser leaves.
pub data Shows (bytes : List ℕ) (words size room : ℕ) : (shown : List ℕ) → Type 0 where
  no_script : {number place : ℕ} → outcome (content bytes words) (rows size) ≡ refused number place → Shows bytes words size room (no number place)
  a_script : {us : Trees} {at left : ℕ} {shown : List ℕ} → outcome (content bytes words) (rows size) ≡ read us at left
      → ShowsTree (pool size (read us at left)) (sizes us) bytes room shown → Shows bytes words size room shown
