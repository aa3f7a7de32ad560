-- What an entry reads, by which of the three it is.
use Rattle.std.specs.Prelude.{ℕ, List, ltb, length}
use Rattle.grammar.specs.Words.{EOF, Zero}
use Rattle.grammar.specs.Tree.{Tree, Trees, nil, ◌▸◌}
use Rattle.grammar.specs.Tree as tree
use Rattle.grammar.specs.Parsed.{Parsed, read, Reader, ◌>>=◌, need, ◌>>◌, build, turns, BadStart}
use Rattle.grammar.specs.Rules.{Rules}
use Rattle.grammar.specs.Expressions.{expression}
use Rattle.grammar.specs.Statements.{statement, statements}
use Rattle.grammar.specs.Script.{nesting, array_good}
use Rattle.reader.specs.declared.Entry.{Entry}
use Rattle.reader.specs.declared.Entry.TheVariants as what

-- The statements of a script, in a block at place 0.
unfoldable pub script : Rules → List ℕ → (at room : ℕ) → Parsed Tree
script rules ts at room = do
  (list, at, room) ← statements rules ts (expression rules ts nesting) (statement rules ts nesting) EOF turns nil at room
  build (tree.block 0 list) at room

-- What an entry reads behind its checks.
unfoldable pub reads : Entry → Rules → List ℕ → Reader Trees
reads what.Expression rules ts at room = do
  (t, at, room) ← expression rules ts nesting Zero at room
  read (t ▸ nil) at room
reads what.Statement rules ts at room = statement rules ts nesting at room
reads what.Script rules ts at room = do
  (t, at, room) ← script rules ts at room
  read (t ▸ nil) at room

-- An entry: the checks, and what is read from a start place.
unfoldable pub enters : Entry → Rules → List ℕ → (start room : ℕ) → Parsed Trees
enters entry rules ts start room = do
  array_good ts
  need (ltb start (length ts)) BadStart 0
  reads entry rules ts start room
