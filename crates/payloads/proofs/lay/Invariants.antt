-- `lay`: so many fields are laid, and the next begins at `at`.
use Rattle.payloads.proofs.Hop.{Hop}
use Rattle.payloads.proofs.lay.Given as goal

abbrev pub invariant-loop-start : goal.invariant-loop-start
invariant-loop-start l = Hop l.file l.initial.start-items l.start-items l.count l.at l.start-index
