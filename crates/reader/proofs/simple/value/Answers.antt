-- `value` meets its contract: an equals sign, and a row around the expression after it.
use Rattle.std.proofs.Common.{sym, ◌∙◌}
use Rattle.grammar.specs.Statements.{value}
use Rattle.reader.specs.Promises.{around}
use Rattle.reader.proofs.Answers.{by_eq, refuses, need_met, need_failed, sooner}
use Rattle.reader.proofs.Moves.{on_step, ready_step, small}
use Rattle.reader.proofs.simple.value.Goals as goal

pub returns-then-not-current_symbol_is : goal.returns-then-not-current_symbol_is
unfolding value
returns-then-not-current_symbol_is c = rw (← c.iterate-d.ensures) (refuses _ _ _ (need_failed _ _ _ (sym c.current_symbol_is.ensures ∙ c.if-not-current_symbol_is.true)) c.new.ensures)

pub around-requires : goal.around-requires
around-requires c = (ready_step _ _ c.iterate-e.ensures (ready_step _ _ c.iterate-d.ensures c.requires), small c.requires)

pub returns : goal.returns
unfolding value around
returns c =
    sooner (on_step _ _ c.iterate-d.ensures) (sooner (on_step _ _ c.iterate-e.ensures)
    (rw (← c.iterate-d.ensures) (by_eq (need_met _ _ _ (sym c.current_symbol_is.ensures ∙ c.if-not-current_symbol_is.false)) (rw (← c.iterate-e.ensures) c.around.ensures))))
