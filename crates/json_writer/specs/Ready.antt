-- What the functions that write the rows of a tree need.
use Rattle.std.specs.Prelude.{ℕ, ◌+◌, ◌≤◌, ◌<◌, ◌≡◌, true, cond, List, ◌∷◌, ◌++◌, ltb, length, Ok}
use Rattle.grammar.specs.Tree.{Tree, infixed, node, Trees, nil, ◌▸◌}
use Rattle.grammar.specs.Script.{rows}
use Rattle.files.specs.File.{read}
use Rattle.payloads.specs.Fields.{fields_of}
use Rattle.payloads.specs.Claims.{Bytes}
use Rattle.payloads.specs.Index.{held, laid}
use Rattle.trees.specs.Pool.{In, row_fine, Reached, Holds, HoldsAll}
use Rattle.lines.specs.Decimal.{decimal}
use Rattle.lines.specs.Lines.{letters}
use Rattle.json_text.specs.Values.{quoted}
use Rattle.json_text.specs.Json.{name}
use Rattle.json_text.specs.Claims.{all_placed, each_placed}
use Rattle.placed.specs.Over.{Over}
use Rattle.json_writer.specs.Deep.{Begins, Tied}

-- The head of a row up to its place, and the key of a slot between a comma and a colon.
unfoldable pub first_members : (kind mark place : ℕ) → List ℕ
first_members k m p = letters "{\"kind\":" ++ (quoted (name k) ++ (letters ",\"mark\":" ++ (decimal m ++ (letters ",\"place\":" ++ decimal p))))

unfoldable pub key : (i : ℕ) → List ℕ
key i = letters ",\"c" ++ ((48 + i) ∷ letters "\":")

-- The larger of two numbers.
unfoldable pub higher : ℕ → ℕ → ℕ
higher m n = cond (ltb m n) n m

-- How many rows the longest path in a tree has, and the longest in trees.
unfoldable mutual
  pub tall : Tree → ℕ
  tall (infixed m p l r z) = 1 + higher (tall l) (tall r)
  tall (node k m p a b c d z) = 1 + higher (higher (tallest a) (tallest b)) (higher (tallest c) (tallest d))

  pub tallest : Trees → ℕ
  tallest nil = 0
  tallest (t ▸ ts) = higher (tall t) (tallest ts)

-- The index of an accepted file with so many fields.
pub record Indexes (file starts : List ℕ) (count : ℕ) : Type 0 where
  pub are_bytes : Bytes file
  pub words : List ℕ
  pub given : held file ≡ read words
  pub index : starts ≡ laid file (read words)
  pub counted : count ≡ length words

-- The tree of a row: what the row reaches has no fault, its payloads are fields of the file, and no path in it has more rows than are left.
pub record Ready (pool file : List ℕ) (r left : ℕ) : Type 0 where
  pub inside : In pool r
  pub fine : (q : ℕ) → Reached pool r q → row_fine pool q ≡ true
  pub tree : Tree
  pub holds : Holds pool r tree
  pub placed : all_placed (fields_of file) tree ≡ true
  pub low : tall tree ≤ left

-- The same of the trees from a row on; there are none at 0.
pub record AllReady (pool file : List ℕ) (c left : ℕ) : Type 0 where
  pub begins : Begins pool c
  pub trees : Trees
  pub holds : HoldsAll pool c trees
  pub placed : each_placed (fields_of file) trees ≡ true
  pub low : tallest trees ≤ left

-- What the check over a file leaves of a tree: the tree, the file's index and the links of its rows.
pub record Passed (pool : List ℕ) (root : ℕ) (file starts : List ℕ) (count : ℕ) (links : List ℕ) : Type 0 where
  pub over : Over pool root file (Ok count)
  pub are_bytes : Bytes file
  pub index : starts ≡ laid file (held file)
  pub tied : Tied pool root links
  pub wide : rows (length pool) < length links
