-- How deep rows stand below a root, and which of them are too deep.
use Rattle.std.specs.Prelude.{ℕ, suc, ◌≤◌, ◌<◌, ◌≡◌, true, ◌⊎◌, List, length, get_or, Option, None, Some}
use Rattle.grammar.specs.Script.{word_of}
use Rattle.trees.specs.Pool.{In, row_fine, Reached}
use Rattle.trees.specs.Survey.{Surveyed}
use Rattle.placed.specs.Over.{LowestOf, NoneOf}

-- The most rows on a path from a root through children.
abbrev pub most_deep : ℕ
most_deep = 128

module _ (pool : List ℕ) (root : ℕ) where
  -- How many rows are on the path from the root to a row, both counted. A next word is no step.
  pub data At : (r depth : ℕ) → Type 0 where
    top : At root 1
    child : {r k t n : ℕ} → At r n → 3 ≤ k → k ≤ 6 → word_of pool r k ≡ t → In pool t → At t (suc n)
    next : {r t n : ℕ} → At r n → word_of pool r 7 ≡ t → In pool t → At t n

  -- A row with more rows on the path to it than the most.
  pub record TooDeep (r : ℕ) : Type 0 where
    pub depth : ℕ
    pub path : At r depth
    pub more : most_deep < depth

  -- The first row that is too deep, or none.
  pub data FirstDeep : Option ℕ → Type 0 where
    none_deep : NoneOf pool root TooDeep → FirstDeep None
    lowest_deep : {p : ℕ} → LowestOf pool root TooDeep p → FirstDeep (Some p)

-- Links that a survey of the root left, whatever the owners that it found.
pub record Tied (pool : List ℕ) (root : ℕ) (links : List ℕ) : Type 0 where
  pub owners : List ℕ
  pub told : Surveyed pool root owners links

module _ (pool : List ℕ) where
  -- Row c begins a list, and what it reaches has no fault; or c is 0, and there is no list.
  abbrev pub Begins : (c : ℕ) → Type 0
  Begins c = (c ≡ 0 → ⊥) → In pool c × ((q : ℕ) → Reached pool c q → row_fine pool q ≡ true)

  -- A row at most so many levels down in the list that begins at row c. The list's own rows are on the first level.
  pub record Within (c left t : ℕ) : Type 0 where
    pub inside : In pool c
    pub depth : ℕ
    pub path : At pool c t depth
    pub near : depth ≤ left

  -- The lowest row with a link, or none.
  pub data FirstLinked (links : List ℕ) : Option ℕ → Type 0 where
    none_linked : ((q : ℕ) → In pool q → get_or links q 0 ≡ 0) → FirstLinked links None
    lowest_linked : {p : ℕ} → In pool p → (get_or links p 0 ≡ 0 → ⊥) → ((q : ℕ) → 1 ≤ q → q < p → get_or links q 0 ≡ 0) → FirstLinked links (Some p)

-- The numbers at such places became 0, and the others are as they were.
pub record Clears (P : ℕ → Type 0) (xs ys : List ℕ) : Type 0 where
  pub long : length ys ≡ length xs
  pub gone : (t : ℕ) → P t → get_or ys t 0 ≡ 0
  pub rest : (t : ℕ) → (get_or ys t 0 ≡ get_or xs t 0) ⊎ P t
