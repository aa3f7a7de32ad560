-- What the check answers.
use Rattle.std.specs.Prelude.{ℕ, ◌<◌, ◌≡◌, true, List, [], ◌∷◌, Option, None, Some, Result, Ok, Err}
use Rattle.grammar.specs.Tree.{Tree}
use Rattle.refusals.specs.Refusal.{Numbered, refusal}
use Rattle.slots.specs.Slots.{any-root, fits}
use Rattle.trees.specs.Pool.{In, Reached, Bad, Holds}

-- The refusal of rows that are no tree.
abbrev pub NoTree : ℕ
NoTree = 38

-- The number and the values of an answer: 0 and zeros, or a refusal's number and place, and zeros.
abbrev pub numbers : Result Unit Numbered → List ℕ
numbers (Ok u) = 0 ∷ 0 ∷ 0 ∷ 0 ∷ []
numbers (Err e) = e.number ∷ e.place ∷ 0 ∷ 0 ∷ []

module _ (pool : List ℕ) (root : ℕ) where
  -- The lowest bad row that the root reaches.
  pub record Lowest (p : ℕ) : Type 0 where
    pub inside : In pool p
    pub reached : Reached pool root p
    pub bad : Bad pool root p
    pub first : (q : ℕ) → q < p → Reached pool root q → Bad pool root q → ⊥

  abbrev pub NoneBad : Type 0
  NoneBad = (q : ℕ) → Reached pool root q → Bad pool root q → ⊥

  -- The first bad row, or none.
  pub data First : Option ℕ → Type 0 where
    none_bad : NoneBad → First None
    lowest : {p : ℕ} → Lowest p → First (Some p)

  -- The answer: no root, the lowest bad row, or a tree.
  pub data Verdict : Result Unit Numbered → Type 0 where
    no_root : (In pool root → ⊥) → Verdict (Err (refusal NoTree 0))
    bad_row : {p : ℕ} → In pool root → Lowest p → Verdict (Err (refusal NoTree p))
    a_tree : (t : Tree) → In pool root → NoneBad → Holds pool root t → fits any-root t ≡ true → Verdict (Ok tt)
