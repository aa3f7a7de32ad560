-- `first_linked` has found no link so far.
use Rattle.std.proofs.Common.{ℕ, ◌≡◌, ◌≤◌, ◌<◌, get_or}
use Rattle.json_writer.proofs.deep.first_linked.Given as goal

abbrev pub invariant-loop-r : goal.invariant-loop-r
invariant-loop-r l = (q : ℕ) → 1 ≤ q → q < l.r → get_or l.links q 0 ≡ 0
