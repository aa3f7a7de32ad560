-- `leaves`: the numbers so far are `other`.
use Rattle.std.proofs.Common.{◌≡◌, ◌++◌, drop, replicate}
use Rattle.recorded.proofs.leaves.Given as goal

abbrev pub invariant-loop-number : goal.invariant-loop-number
invariant-loop-number g l = l.lent ≡ replicate l.number-index l.other ++ drop l.number-index l.initial.lent
