-- What the check over a file leaves in the memory that it is lent.
use Rattle.std.specs.Prelude.{ℕ, ◌≡◌, List, Result, length}
use Rattle.refusals.specs.Refusal.{Numbered}
use Rattle.payloads.specs.Index.{held, laid}
use Rattle.trees.specs.Pool.{In}
use Rattle.trees.specs.Survey.{Surveyed}
use Rattle.trees.specs.Leaves.{Zero}
use Rattle.placed.specs.Over.{Over}

-- The answer c, the file's index, and as the survey of trees leaves them the links of the rows that the root reaches.
pub record Left (pool : List ℕ) (root : ℕ) (bytes : List ℕ) (n : ℕ) (c : Result ℕ Numbered) (starts owners words queue : List ℕ) : Type 0 where
  pub verdict : Over pool root bytes c
  pub index : starts ≡ laid bytes (held bytes)
  pub owners_long : length owners ≡ n
  pub words_long : length words ≡ n
  pub links : In pool root → Surveyed pool root owners words
  pub none : (In pool root → ⊥) → Zero n owners × Zero n words
  pub queue_none : Zero n queue
