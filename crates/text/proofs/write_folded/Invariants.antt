-- `write_folded`: a pass over the payload, each folded byte stored behind those before it.
use Rattle.std.proofs.Common.{◌≡◌, ◌-◌, ◌++◌, length, take, drop}
use Rattle.text.specs.Fold.{folded}
use Rattle.text.proofs.Pass.{Pass}
use Rattle.text.proofs.write_folded.Given as goal

abbrev pub invariant-loop-at : goal.invariant-loop-at
invariant-loop-at l = Pass l.payload l.at l.count × (l.work ≡ take l.count (folded l.payload) ++ drop l.count l.fn.work)

abbrev pub decreases-loop-at : goal.decreases-loop-at
decreases-loop-at l = length l.payload - l.at
