-- `closed` meets its contract: the row is built where its sign comes next, and refused else.
use Rattle.std.proofs.Common.{refl, sym, ◌∙◌}
use Rattle.reader.specs.Promises.{closed}
use Rattle.reader.proofs.Answers.{by_eq, refuses, need_met, need_failed, bounded_refused, later}
use Rattle.reader.proofs.Moves.{on_step, within_step, stands_step, small_in}
use Rattle.reader.proofs.part.closed.Goals as goal

pub put_row-requires : goal.put_row-requires
put_row-requires c = (c.requires.0.fits, c.requires.1, small_in c.requires.0 (within_step _ _ c.iterate.ensures c.requires.0.within))

pub returns-then-next_symbol_is : goal.returns-then-next_symbol_is
unfolding closed
returns-then-next_symbol_is c =
    let p = c.put_row.ensures _ (within_step _ _ c.iterate.ensures c.requires.0.within) in (
      later refl (on_step _ _ c.iterate.ensures) p.0,
      λ from bs slots t zs left s e. by_eq (need_met _ _ _ (sym c.next_symbol_is.ensures ∙ c.if-next_symbol_is.true))
          (rw (← c.iterate.ensures) (p.1 _ bs _ _ _ _ (stands_step _ _ c.iterate.ensures s) e)),
    )

pub returns : goal.returns
unfolding closed
returns c = (bounded_refused, λ from bs slots t zs left s e. refuses _ _ _ (need_failed _ _ _ (sym c.next_symbol_is.ensures ∙ c.if-next_symbol_is.false)) c.new.ensures)
