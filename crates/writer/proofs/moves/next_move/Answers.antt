-- `next_move` meets its contract: up, or onward.
use borrow.Author.Tests.{eq-eqb, ne_eqb}
use Rattle.writer.specs.Walk as w
use Rattle.writer.proofs.moves.next_move.Goals as goal

pub returns-then-j-eq-UPWARD : goal.returns-then-j-eq-UPWARD
unfolding w.move
returns-then-j-eq-UPWARD c = rw (eq-eqb _ _ c.if-j-eq-UPWARD.true) c.up.ensures

pub returns-else-j-eq-UPWARD : goal.returns-else-j-eq-UPWARD
unfolding w.move
returns-else-j-eq-UPWARD c = rw (ne_eqb _ _ c.if-j-eq-UPWARD.false) c.onward.ensures
