-- Pools: which rows a root reaches, which of them are bad, and the tree that a pool holds.
use Rattle.std.specs.Prelude.{ℕ, ◌+◌, ◌≤◌, ◌<◌, ◌≡◌, Bool, true, false, ◌&&◌, List, length}
use Rattle.grammar.specs.Tree.{Tree, infixed, node, Trees, nil, ◌▸◌}
use Rattle.grammar.specs.Script.{rows, word_of}
use Rattle.slots.specs.Slots.{any-root, one, Slot, ◌of◌, slot, marked}
use Rattle.slots.specs.Fine.{is_list, child_fine, next_fine, taken}

module _ (pool : List ℕ) where
  -- The references of the pool's rows. The words of a row: 0 kind, 1 mark, 2 place, 3 to 6 children, 7 next, 8 end.
  abbrev pub count : ℕ
  count = rows (length pool)

  abbrev pub In : ℕ → Type 0
  In r = (1 ≤ r) × (r ≤ count)

  -- Whether the words of a row are those of a row of its kind, wherever it stands.
  unfoldable pub row_fine : ℕ → Bool
  row_fine r =
      marked (word_of pool r 0) (word_of pool r 1)
      && child_fine (slot (word_of pool r 0) 0).many r (word_of pool r 3)
      && child_fine (slot (word_of pool r 0) 1).many r (word_of pool r 4)
      && child_fine (slot (word_of pool r 0) 2).many r (word_of pool r 5)
      && child_fine (slot (word_of pool r 0) 3).many r (word_of pool r 6)
      && next_fine count r (word_of pool r 7)

  -- The rows reached from a root by child and next words.
  pub data Reached (root : ℕ) : ℕ → Type 0 where
    start : Reached root root
    on : {r k t : ℕ} → Reached root r → 3 ≤ k → k ≤ 7 → word_of pool r k ≡ t → In t → Reached root t

  -- A link to a row: the root's own, or a word of a reached row.
  pub data Link (root t : ℕ) : (row word : ℕ) → Type 0 where
    root_link : root ≡ t → Link root t 0 0
    word_link : {r k : ℕ} → Reached root r → 1 ≤ r → 3 ≤ k → k ≤ 7 → word_of pool r k ≡ t → Link root t r k

  -- The slot that a row stands in: the root's, a child word's, or that of the row before it in its list.
  pub data Stands (root : ℕ) : Slot → ℕ → Type 0 where
    as_root : Stands root (one of any-root) root
    as_child : {s : Slot} {r i t : ℕ} → Reached root r → i ≤ 3 → word_of pool r (3 + i) ≡ t → In t → slot (word_of pool r 0) i ≡ s → Stands root s t
    as_next : {s : Slot} {r t : ℕ} → Stands root s r → Reached root r → is_list s.many ≡ true → word_of pool r 7 ≡ t → In t → r < t → Stands root s t

  -- Two different links.
  pub record Twice (root t : ℕ) : Type 0 where
    pub row₁ : ℕ
    pub word₁ : ℕ
    pub row₂ : ℕ
    pub word₂ : ℕ
    pub link₁ : Link root t row₁ word₁
    pub link₂ : Link root t row₂ word₂
    pub different : row₁ ≡ row₂ → word₁ ≡ word₂ → ⊥

  -- A bad row: its own words are at fault, it is reached twice, or it doesn't fit where it stands.
  pub data Bad (root r : ℕ) : Type 0 where
    fault : row_fine r ≡ false → Bad root r
    twice : Twice root r → Bad root r
    misfit : (s : Slot) → Stands root s r → taken s (word_of pool r 0) (word_of pool r 1) (word_of pool r 7) ≡ false → Bad root r

  mutual
    -- The tree that a row holds, and the trees from a row on by next words; 0 is the end.
    pub data Holds : ℕ → Tree → Type 0 where
      infix_row : {r : ℕ} {t : Tree} (a b : Tree) → word_of pool r 0 ≡ 12 → HoldsAll (word_of pool r 3) (a ▸ nil) → HoldsAll (word_of pool r 4) (b ▸ nil)
          → HoldsAll (word_of pool r 5) nil → HoldsAll (word_of pool r 6) nil → t ≡ infixed (word_of pool r 1) (word_of pool r 2) a b (word_of pool r 8) → Holds r t
      row : {r : ℕ} {t : Tree} (a b c d : Trees) → (word_of pool r 0 ≡ 12 → ⊥) → HoldsAll (word_of pool r 3) a → HoldsAll (word_of pool r 4) b
          → HoldsAll (word_of pool r 5) c → HoldsAll (word_of pool r 6) d → t ≡ node (word_of pool r 0) (word_of pool r 1) (word_of pool r 2) a b c d (word_of pool r 8) → Holds r t

    pub data HoldsAll : ℕ → Trees → Type 0 where
      none : {r : ℕ} {us : Trees} → r ≡ 0 → us ≡ nil → HoldsAll r us
      more : {r : ℕ} {us : Trees} (t : Tree) (ts : Trees) → In r → Holds r t → HoldsAll (word_of pool r 7) ts → us ≡ t ▸ ts → HoldsAll r us
