-- `first_bad`: the loop keeps what `Sofar` says of the rows below.
use Rattle.trees.proofs.Firsts.{Sofar}
use Rattle.trees.proofs.bad.first_bad.Given as goal

abbrev pub invariant-loop-r : goal.invariant-loop-r
invariant-loop-r l = Sofar l.pool l.root l.stands l.r
