-- `put_folded` goes on with the folded bytes so far put, and with bytes behind them that stand as they are.
use Rattle.std.proofs.Common.{◌-◌, length}
use Rattle.json_values.proofs.Folding.{Folding}
use Rattle.json_values.proofs.output.Out.put_folded.Given as goal

abbrev pub invariant-loop-i : goal.invariant-loop-i
invariant-loop-i l = Folding l.bytes l.initial.self l.self l.start l.i

abbrev pub decreases-loop-i : goal.decreases-loop-i
decreases-loop-i l = length l.bytes - l.i
