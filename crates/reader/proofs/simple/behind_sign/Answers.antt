-- `behind_sign` meets its contract: a sign, and the expression after it.
use Rattle.std.proofs.Common.{refl, sym, ◌∙◌}
use Rattle.reader.specs.Promises.{behind_sign, item}
use Rattle.reader.proofs.Answers.{by_eq, refuses, need_met, need_failed, bounded_refused, later}
use Rattle.reader.proofs.Moves.{on_step, stands_step, ready_step, le_trans}
use Rattle.reader.proofs.simple.behind_sign.Goals as goal

pub returns-then-not-next_is : goal.returns-then-not-next_is
unfolding behind_sign
returns-then-not-next_is c = (bounded_refused, λ from slots zs left s. refuses _ _ _ (need_failed _ _ _ (sym c.next_is.ensures ∙ c.if-not-next_is.true)) c.new.ensures)

pub behind-requires : goal.behind-requires
behind-requires c = (ready_step _ _ c.iterate-d.ensures (ready_step _ _ c.iterate.ensures c.requires.0), c.requires.1)

pub returns : goal.returns
unfolding behind_sign item
returns c = (
  later refl (le_trans (on_step _ _ c.iterate.ensures) (on_step _ _ c.iterate-d.ensures)) c.behind.ensures.0,
  λ from slots zs left s. by_eq (need_met _ _ _ (sym c.next_is.ensures ∙ c.if-not-next_is.false))
      (rw (← c.iterate.ensures, ← c.iterate-d.ensures) (c.behind.ensures.1 _ _ _ _ (stands_step _ _ c.iterate-d.ensures (stands_step _ _ c.iterate.ensures s)))),
)
