-- `folded_length`: a pass over the payload, counting.
use Rattle.std.proofs.Common.{◌-◌, length}
use Rattle.text.proofs.Pass.{Pass}
use Rattle.text.proofs.folded_length.Given as goal

abbrev pub invariant-loop-at : goal.invariant-loop-at
invariant-loop-at l = Pass l.payload l.at l.count

abbrev pub decreases-loop-at : goal.decreases-loop-at
decreases-loop-at l = length l.payload - l.at
