-- `lines::line_before`: the numbers behind those that are left are there.
use Rattle.lines.proofs.Buffers.{Line}
use Rattle.lines.proofs.line_before.Given as goal

abbrev pub invariant-loop-n : goal.invariant-loop-n
invariant-loop-n l = Line l.numbers l.initial.buf l.buf l.at l.n-iterator.iter.rest.now l.behind
