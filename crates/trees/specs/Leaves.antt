-- What a survey answers and leaves in the memory that it is lent, and the part of a pool that a small one looks at.
use Rattle.std.specs.Prelude.{ℕ, suc, ◌*◌, ◌-◌, ◌≡◌, List, length, get_or, take, Result}
use Rattle.grammar.specs.Tree.{width}
use Rattle.refusals.specs.Refusal.{Numbered}
use Rattle.trees.specs.Pool.{In}
use Rattle.trees.specs.Survey.{Surveyed}
use Rattle.trees.specs.Verdict.{Verdict}

-- The most rows of a small pool.
abbrev pub few_rows : ℕ
few_rows = 4096

-- The front of a pool that has no more rows.
unfoldable pub front : List ℕ → List ℕ
front pool = take (width * suc few_rows - 1) pool

-- So many numbers, all of them 0.
pub record Zero (n : ℕ) (xs : List ℕ) : Type 0 where
  pub long : length xs ≡ n
  pub each : (i : ℕ) → get_or xs i 0 ≡ 0

-- Links and a queue of zeros.
pub record Cleared (n : ℕ) (owners words queue : List ℕ) : Type 0 where
  pub no_owners : Zero n owners
  pub no_words : Zero n words
  pub no_queue : Zero n queue

-- The answer c, and what is left: the links of the rows that the root reaches, zeros where the pool has no such root, and a queue of zeros.
pub record Leaves (pool : List ℕ) (root n : ℕ) (c : Result Unit Numbered) (owners words queue : List ℕ) : Type 0 where
  pub verdict : Verdict pool root c
  pub owners_long : length owners ≡ n
  pub words_long : length words ≡ n
  pub links : In pool root → Surveyed pool root owners words
  pub none : (In pool root → ⊥) → Zero n owners × Zero n words
  pub queue_none : Zero n queue
