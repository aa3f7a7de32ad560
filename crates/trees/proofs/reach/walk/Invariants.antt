-- `walk`: the loop keeps what `Walk` says.
use Rattle.std.proofs.Common.{◌≡◌, length, ◌*◌, ◌-◌}
use Rattle.trees.proofs.Walk.{Walk}
use Rattle.trees.proofs.reach.walk.Given as goal

abbrev pub invariant-loop-j : goal.invariant-loop-j
invariant-loop-j g l = Walk l.pool l.root l.links.owners l.links.words l.links.queue l.found l.j × (length l.links.words ≡ g.row.N)

abbrev pub decreases-loop-j : goal.decreases-loop-j
decreases-loop-j g l = 5 * g.row.N - l.j
