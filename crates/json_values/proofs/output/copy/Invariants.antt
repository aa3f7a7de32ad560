-- `copy` goes on with the bytes so far copied.
use Rattle.std.proofs.Common.{◌≡◌, take}
use Rattle.json_values.proofs.output.copy.Given as goal

abbrev pub invariant-loop-i : goal.invariant-loop-i
invariant-loop-i l = take l.i l.to ≡ take l.i l.bytes
