-- `fill`: a pass over the fields, each word stored behind those before it.
use Rattle.std.proofs.Common.{◌-◌, length}
use Rattle.files.proofs.Pass.{Pass}
use Rattle.files.proofs.fill.Given as goal

abbrev pub invariant-loop-at : goal.invariant-loop-at
invariant-loop-at l = Pass l.bytes l.fn.words l.words l.at l.count

abbrev pub decreases-loop-at : goal.decreases-loop-at
decreases-loop-at l = length l.bytes - l.at
