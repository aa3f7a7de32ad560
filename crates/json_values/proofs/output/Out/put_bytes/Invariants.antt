-- `put_bytes` goes on with the bytes so far put.
use Rattle.std.proofs.Common.{take}
use Rattle.std.specs.Prelude.{Ok}
use Rattle.json_values.specs.Puts.{Puts}
use Rattle.json_values.proofs.output.Out.put_bytes.Given as goal

abbrev pub invariant-loop-b : goal.invariant-loop-b
invariant-loop-b l = Puts (take l.b-index l.bytes) l.fn.self l.self (Ok tt)
