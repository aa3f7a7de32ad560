-- `retell::retell_all` ends: the cases go up.
use Rattle.std.proofs.Common.{◌-◌}
use Rattle.retell.proofs.retell_all.Given as goal

abbrev pub decreases-loop-tally : goal.decreases-loop-tally
decreases-loop-tally g l = 18446744073709551615 - l.tally.cases
