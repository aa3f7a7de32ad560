-- What the walk through a tree needs, and what it leaves.
use Rattle.std.specs.Prelude.{ℕ, ◌≤◌, ◌≡◌, true, List, length, get_or}
use Rattle.grammar.specs.Tree.{Tree, size}
use Rattle.grammar.specs.Script.{word_of}
use Rattle.slots.specs.Slots.{any-root, fits}
use Rattle.trees.specs.Pool.{count, In, Holds}
use Rattle.trees.specs.Survey.{Told}
use Rattle.trees.specs.Verdict.{NoneBad}
use Rattle.written.specs.Written.{written}
use Rattle.written.specs.Written as form
use Rattle.writer.specs.Wrote.{front}

-- A tree at the root with no bad row, and for each of its rows the one link to it.
pub record Ready (pool : List ℕ) (root : ℕ) (owners links : List ℕ) : Type 0 where
  pub inside : In pool root
  pub good : NoneBad pool root
  pub tree : Tree
  pub holds : Holds pool root tree
  pub fit : fits any-root tree ≡ true
  pub last : word_of pool root 7 ≡ 0
  pub small : size tree ≤ count pool
  pub told : (t : ℕ) → In pool t → Told pool root t (get_or owners t 0) (get_or links t 0)

-- The count of the tokens of the tree, and the slices with them in front.
pub record Walked (pool : List ℕ) (root n : ℕ) (ws ps ws' ps' : List ℕ) : Type 0 where
  pub each : (t : Tree) → Holds pool root t
      → (n ≡ length (written t)) × (ws' ≡ front (length ws) (form.words (written t))) × (ps' ≡ front (length ps) (form.places (written t)))
