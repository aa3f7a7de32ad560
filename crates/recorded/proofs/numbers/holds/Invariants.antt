-- `holds`: so far the slice has the numbers.
use Rattle.std.proofs.Common.{ℕ, IsTrue, get_or, ◌<◌}
use Rattle.recorded.proofs.numbers.holds.Given as goal

abbrev pub invariant-loop-i : goal.invariant-loop-i
invariant-loop-i g l = (k : ℕ) → k < l.i → IsTrue (g.T.PartialEq.eq (get_or l.slice k (g.T.Number.at l.bytes k)) (g.T.Number.at l.bytes k))
