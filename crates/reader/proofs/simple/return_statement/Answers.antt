-- `return_statement` meets its contract: the keyword alone, or a row around the expression after it.
use Rattle.std.proofs.Common.{[], refl, sym, ◌∙◌}
use Rattle.grammar.specs.Statements.{return}
use Rattle.reader.specs.Promises.{around}
use Rattle.reader.specs.Meets.{of_node}
use Rattle.reader.proofs.Answers.{at_once, by_eq, choose_true, choose_false, sooner}
use Rattle.reader.proofs.Moves.{on_step, within_step, stands_step, ready_step, small, small_in}
use Rattle.reader.proofs.simple.return_statement.Goals as goal

pub put_row-requires : goal.put_row-requires
put_row-requires c = (c.requires.fits, small c.requires, small_in c.requires (within_step _ _ c.iterate-d.ensures c.requires.within))

pub returns-then-next_symbol_is : goal.returns-then-next_symbol_is
unfolding return
returns-then-next_symbol_is c =
    by_eq (choose_true _ _ (sym c.next_symbol_is.ensures ∙ c.if-next_symbol_is.true)) (rw (← c.iterate-d.ensures)
    ((c.put_row.ensures c.args.source.now.tokens.now (within_step _ _ c.iterate-d.ensures c.requires.within)).1 _ [] _ _ _ _ (stands_step _ _ c.iterate-d.ensures (at_once _ _ c.requires.within))
    (record { few = tt; root = of_node; refs = (refl, refl, refl, refl) })))

pub around-requires : goal.around-requires
around-requires c = (ready_step _ _ c.iterate-d.ensures c.requires, small c.requires)

pub returns : goal.returns
unfolding return around
returns c = sooner (on_step _ _ c.iterate-d.ensures) (by_eq (choose_false _ _ (sym c.next_symbol_is.ensures ∙ c.if-next_symbol_is.false)) (rw (← c.iterate-d.ensures) c.around.ensures))
