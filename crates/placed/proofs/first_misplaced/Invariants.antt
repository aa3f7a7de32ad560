-- `first_misplaced`: no row below the one that is looked at is misplaced.
use Rattle.std.proofs.Common.{ℕ, ◌<◌}
use Rattle.placed.specs.Steps.{Misplaced}
use Rattle.placed.proofs.first_misplaced.Given as goal

abbrev pub invariant-loop-r : goal.invariant-loop-r
invariant-loop-r l = (q : ℕ) → q < l.r → Misplaced l.pool l.words l.indexed.file.now l.indexed.starts.now l.indexed.count q → ⊥
