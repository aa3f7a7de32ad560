-- `replay::replay_all` is safe: no count is above that of the cases.
use Rattle.std.proofs.Common.{◌≤◌}
use Rattle.replay.proofs.replay_all.Given as goal

abbrev pub invariant-loop-number : goal.invariant-loop-number
invariant-loop-number g l = record {
  replayed : l.replayed ≤ l.number;
  differing : l.differing ≤ l.number;
  skipped : l.skipped ≤ l.number;
}
