-- `fill`: the numbers stand in the slice so far.
use Rattle.std.proofs.Common.{◌≡◌, ℕ, get_or, ◌<◌}
use Rattle.recorded.proofs.numbers.fill.Given as goal

abbrev pub invariant-loop-i : goal.invariant-loop-i
invariant-loop-i g l = (k : ℕ) → k < l.i → get_or l.slice k (g.T.Number.at l.bytes k) ≡ g.T.Number.at l.bytes k
