-- `number_of` goes on with the number of the bytes so far read.
use Rattle.json_values.proofs.Read.{Read}
use Rattle.json_values.proofs.values.number_of.Given as goal

abbrev pub invariant-loop-b : goal.invariant-loop-b
invariant-loop-b l = Read l.b-items l.n l.b-index
