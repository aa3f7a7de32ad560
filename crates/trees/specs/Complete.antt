-- The rows of a tree that a pool holds: each with its owner, the owner's word, and the slot that it stands in.
use Rattle.std.specs.Prelude.{ℕ, ◌<◌, ◌≡◌, true, ◌⊎◌, List, [], ◌∷◌, ◌++◌, map}
use Rattle.grammar.specs.Tree.{Tree, Trees}
use Rattle.grammar.specs.Script.{word_of}
use Rattle.slots.specs.Slots.{Slot, any-root, slot, fits}
use Rattle.trees.specs.Pool.{In, Holds, infix_row, row, HoldsAll, none, more}
use Rattle.trees.specs.Verdict.{NoneBad}

-- A row of a tree.
pub record Entry : Type 0 where
  pub row : ℕ
  pub owner : ℕ
  pub word : ℕ
  pub slot : Slot

abbrev pub entry : (row owner word : ℕ) → Slot → Entry
entry r p k s = record { row = r; owner = p; word = k; slot = s }

-- Whether a number is in a list, and whether all in a list are different.
abbrev pub Has : ℕ → List ℕ → Type 0
Has x [] = ⊥
Has x (y ∷ ys) = (x ≡ y) ⊎ Has x ys

abbrev pub Distinct : List ℕ → Type 0
Distinct [] = Unit
Distinct (x ∷ xs) = (Has x xs → ⊥) × Distinct xs

module _ (pool : List ℕ) where
  unfoldable mutual
    -- The rows from one on that is word k of row p, in a slot; and those below a row.
    pub entries : {c : ℕ} {us : Trees} → (p k : ℕ) → Slot → HoldsAll pool c us → List Entry
    entries p k s (none z q) = []
    entries {c} p k s (more t ts i h hs q) = entry c p k s ∷ (below h ++ entries c 7 s hs)

    pub below : {r : ℕ} {t : Tree} → Holds pool r t → List Entry
    below {r} (infix_row a b e ha hb hc hd q) =
        entries r 3 (slot (word_of pool r 0) 0) ha
        ++ (entries r 4 (slot (word_of pool r 0) 1) hb ++ (entries r 5 (slot (word_of pool r 0) 2) hc ++ entries r 6 (slot (word_of pool r 0) 3) hd))
    below {r} (row a b c d n ha hb hc hd q) =
        entries r 3 (slot (word_of pool r 0) 0) ha
        ++ (entries r 4 (slot (word_of pool r 0) 1) hb ++ (entries r 5 (slot (word_of pool r 0) 2) hc ++ entries r 6 (slot (word_of pool r 0) 3) hd))

  -- Children are earlier rows, and the next is a later one.
  pub record Orderly (r : ℕ) : Type 0 where
    pub c0 : word_of pool r 3 < r
    pub c1 : word_of pool r 4 < r
    pub c2 : word_of pool r 5 < r
    pub c3 : word_of pool r 6 < r
    pub next : (word_of pool r 7 ≡ 0) ⊎ (r < word_of pool r 7)

  -- The rows of a root's tree.
  abbrev pub refs : {root : ℕ} {t : Tree} → Holds pool root t → List ℕ
  refs {root} h = root ∷ map (λ e. e.row) (below h)

  -- A tree of different rows, each earlier or later as it must be, has no bad row.
  abbrev pub Complete : Type 0
  Complete =
      (root : ℕ) (t : Tree) (h : Holds pool root t) → In pool root → fits any-root t ≡ true → word_of pool root 7 ≡ 0
      → Distinct (refs h) → ((r : ℕ) → Has r (refs h) → Orderly r) → NoneBad pool root
