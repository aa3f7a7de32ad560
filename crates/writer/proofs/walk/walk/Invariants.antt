-- `Going` holds at each turn, and each turn takes one of the steps that are left.
use Rattle.std.proofs.Common.{◌-◌, length}
use Rattle.writer.specs.Ready.{Ready}
use Rattle.writer.proofs.Going.{Going}
use Rattle.writer.proofs.walk.walk.Given as goal

abbrev pub invariant-loop : goal.invariant-loop
invariant-loop g l =
    (ready : Ready l.pool l.root l.links.owners l.links.words)
    × Going l.pool l.root l.links.owners l.links.words ready (length l.fn.words) (length l.fn.places) l.at (l.end - l.counter) l.words l.places
