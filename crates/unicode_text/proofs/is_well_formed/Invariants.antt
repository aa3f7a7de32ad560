-- `is_well_formed`: a pass over the bytes, sequence by sequence.
use Rattle.std.proofs.Common.{◌-◌, length}
use Rattle.unicode_text.proofs.Pass.{Pass}
use Rattle.unicode_text.proofs.is_well_formed.Given as goal

abbrev pub invariant-loop-at : goal.invariant-loop-at
invariant-loop-at l = Pass l.bytes l.at

abbrev pub decreases-loop-at : goal.decreases-loop-at
decreases-loop-at l = length l.bytes - l.at
