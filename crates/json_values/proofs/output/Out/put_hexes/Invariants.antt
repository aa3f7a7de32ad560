-- `put_hexes` goes on with the digits of the bytes so far put.
use Rattle.std.proofs.Common.{take}
use Rattle.std.specs.Prelude.{Ok}
use Rattle.json_text.specs.Values.{hexes, escaped}
use Rattle.json_values.specs.Puts.{Puts}
use Rattle.json_values.proofs.output.Out.put_hexes.Given as goal

abbrev pub invariant-loop-b : goal.invariant-loop-b
invariant-loop-b l = Puts (escaped (hexes (take l.b-index l.bytes))) l.initial.self l.self (Ok tt)
