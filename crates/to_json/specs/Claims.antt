-- What is claimed of what is shown.
use Rattle.std.specs.Prelude.{ℕ, ◌≡◌, true, List, [], ◌∷◌, ◌++◌, ◌⊎◌}
use Rattle.grammar.specs.Tree.{Tree, Trees, sizes}
use Rattle.grammar.specs.Parsed.{read}
use Rattle.grammar.specs.Script.{rows, pool}
use Rattle.unicode_text.specs.Unicode.{well_formed}
use Rattle.files.specs.Entry.{content}
use Rattle.payloads.specs.Fields.{fields_of}
use Rattle.payloads.specs.Claims.{Bytes}
use Rattle.trees.specs.Pool.{Holds}
use Rattle.json_text.specs.Json.{text}
use Rattle.json_text.specs.Rfc.{Text}
use Rattle.to_json.specs.Shown.{outcome, no, Shows}

-- A file and the sizes of the buffers have one text that is shown.
abbrev pub OneText : Type 0
OneText = (bytes : List ℕ) (words size room : ℕ) (x y : List ℕ) → Shows bytes words size room x → Shows bytes words size room y → x ≡ y

-- The JSON text of a script's tree and a newline are shown; the text is JSON by the grammar of RFC 8259, in well-formed UTF-8.
pub record Json (bytes : List ℕ) (words size : ℕ) (shown : List ℕ) : Type 0 where
  pub us : Trees
  pub at : ℕ
  pub left : ℕ
  pub tree : Tree
  pub was_read : outcome (content bytes words) (rows size) ≡ read us at left
  pub holds : Holds (pool size (read us at left)) (sizes us) tree
  pub is : shown ≡ text (fields_of bytes) tree ++ (10 ∷ [])
  pub grammatical : Text (text (fields_of bytes) tree)
  pub utf8 : well_formed (text (fields_of bytes) tree) ≡ true

-- So it is, or the line of a refusal is shown.
abbrev pub LineOrJson : Type 0
LineOrJson =
    (bytes : List ℕ) (words size room : ℕ) (shown : List ℕ) → Bytes bytes → Shows bytes words size room shown
    → ((number : ℕ) × (place : ℕ) × (shown ≡ no number place)) ⊎ Json bytes words size shown
