-- What `outline` prints for a file.
use Rattle.std.specs.Prelude.{ℕ, List}
use Rattle.grammar.specs.Tree.{Trees}
use Rattle.grammar.specs.Parsed.{Parsed, refused}
use Rattle.grammar.specs.Rules.{original}
use Rattle.grammar.specs.Script.{whole_script, rows}
use Rattle.files.specs.File.{Content}
use Rattle.files.specs.File as file
use Rattle.files.specs.Entry.{content}
use Rattle.lines.specs.Lines.{printed}

-- What is read from a file, with so many rows: its script by the original's rules, or the refusal of the file.
unfoldable pub outcome : Content → (rows : ℕ) → Parsed Trees
outcome (file.read words) rows = whole_script original words rows
outcome (file.refused number place) rows = refused number place

-- The text for the bytes of a file, with buffers of so many token words and of so many pool words.
unfoldable pub outlined : (bytes : List ℕ) (words size : ℕ) → List ℕ
outlined bytes words size = printed (outcome (content bytes words) (rows size)) size
