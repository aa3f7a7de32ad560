-- `put_quoted` goes on with the escapes of the bytes so far put, and with bytes behind them that stand as they are.
use Rattle.std.proofs.Common.{take}
use Rattle.std.specs.Prelude.{Ok}
use Rattle.json_text.specs.Values.{escaped}
use Rattle.json_values.specs.Puts.{Puts}
use Rattle.json_values.proofs.Runs.{Run}
use Rattle.json_values.proofs.output.Out.put_quoted.Given as goal

abbrev pub invariant-loop-i : goal.invariant-loop-i
invariant-loop-i l = Run l.bytes l.start l.i × Puts (escaped (take l.start l.bytes)) l.initial.self l.self (Ok tt)
