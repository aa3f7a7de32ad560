-- What a tree in a pool is, exactly: the check's answer, the number of its rows, and the rows that the parser lays out.
use Rattle.std.specs.Prelude.{ℕ, ◌≤◌, ◌≡◌, true, List, ◌++◌, Result, Ok}
use Rattle.grammar.specs.Tree.{Tree, nil, ◌▸◌, size, sizes, lay}
use Rattle.grammar.specs.Parsed.{read}
use Rattle.grammar.specs.Script as script
use Rattle.grammar.specs.Claims.{OfEntries}
use Rattle.refusals.specs.Refusal.{Numbered}
use Rattle.slots.specs.Slots.{any-root, fits, how_many, all_fit}
use Rattle.trees.specs.Pool.{count, In, Holds}
use Rattle.trees.specs.Verdict.{Verdict}
use Rattle.trees.specs.Complete.{Has, Distinct, Orderly, refs}

-- A pool holds a tree at a root: the root is a row of the pool and in no list, the tree fits, its rows are all different, and each has its children
-- before it and its next behind it.
pub record IsTree (pool : List ℕ) (root : ℕ) (t : Tree) : Type 0 where
  pub inside : In pool root
  pub in_no_list : script.word_of pool root 7 ≡ 0
  pub holds : Holds pool root t
  pub fitting : fits any-root t ≡ true
  pub different : Distinct (refs pool holds)
  pub in_order : (r : ℕ) → Has r (refs pool holds) → Orderly pool r

-- The check says of just these pools and roots that they are a tree, and the tree is one.
abbrev pub Exact : Type 0
Exact =
    (pool : List ℕ) (root : ℕ)
    → (Verdict pool root (Ok tt) → (t : Tree) × IsTree pool root t)
    × ((t : Tree) (c : Result Unit Numbered) → IsTree pool root t → Verdict pool root c → c ≡ Ok tt)
    × ((t u : Tree) → IsTree pool root t → IsTree pool root u → t ≡ u)

-- A tree has no more rows than its pool.
abbrev pub Bounded : Type 0
Bounded = (pool : List ℕ) (root : ℕ) (t : Tree) → IsTree pool root t → size t ≤ count pool

-- The rows of a tree that fits, laid out from the pool's first row on, are that tree, with whatever words behind them; its root is the last of them.
abbrev pub Laid : Type 0
Laid = (t : Tree) (rest : List ℕ) → fits any-root t ≡ true → size t ≤ script.most_rows → IsTree (lay t 0 0 ++ rest) (size t) t

-- So is the pool that the parser fills, at the root that it answers.
abbrev pub Filled : Type 0
Filled =
    (words at room : ℕ) (t : Tree) → fits any-root t ≡ true → size t ≤ script.rows words
    → IsTree (script.pool words (read (t ▸ nil) at room)) (sizes (t ▸ nil)) t

-- So the check passes every tree that the parser reads into a pool, if it fits.
abbrev pub Passes : Type 0
Passes =
    (words : ℕ) (c : Result Unit Numbered)
    → OfEntries (λ ts start room us at left.
    room ≡ script.rows words → how_many us ≡ 1 → all_fit any-root us ≡ true → Verdict (script.pool words (read us at left)) (sizes us) c → c ≡ Ok tt)
