-- `lines::row_words`: the first words are there.
use Rattle.std.proofs.Common.{◌≡◌, ◌++◌, map, drop}
use Rattle.rows.specs.Rows.{read}
use Rattle.lines.specs.Lines.{from}
use Rattle.lines.proofs.row_words.Given as goal

abbrev pub invariant-loop-k : goal.invariant-loop-k
invariant-loop-k l = l.word-items ≡ map (read l.pool l.reference) (from 0 l.k) ++ drop l.k l.initial.word-items
