-- `var_or_const` meets its contract: a name, and the value behind it or, but for const, none.
use Rattle.std.proofs.Common.{[], ap, not, refl, sym, ◌∙◌}
use Rattle.reader.specs.Promises.{var_or_const}
use Rattle.reader.specs.Meets.{of_node}
use Rattle.reader.proofs.Answers.{at_once, by_eq, refuses, need_met, need_failed, choose_true, choose_false}
use Rattle.reader.proofs.Moves.{within_step, stands_step, small, small_in}
use Rattle.reader.proofs.simple.var_or_const.Goals as goal

pub returns-then-not-is_identifier : goal.returns-then-not-is_identifier
unfolding var_or_const
returns-then-not-is_identifier c = refuses _ _ _ (need_failed _ _ _ (sym c.is_identifier.ensures ∙ c.if-not-is_identifier.true)) c.new.ensures

pub returns-then-is_const : goal.returns-then-is_const
unfolding var_or_const
returns-then-is_const c = refuses _ _ _ (need_met _ _ _ (sym c.is_identifier.ensures ∙ c.if-not-is_identifier.false) ∙ choose_true _ _ (sym c.next_symbol_is.ensures ∙ c.if-next_symbol_is.true) ∙ need_failed _ _ _ (ap not (sym c.is_const.ensures ∙ c.if-is_const.true))) (rw c.iterate-d.ensures at c.new-then-is_const.ensures)

pub put_row-requires : goal.put_row-requires
put_row-requires c = (c.requires.fits, small c.requires, small_in c.requires (within_step _ _ c.iterate-d.ensures c.requires.within))

pub returns-then-next_symbol_is : goal.returns-then-next_symbol_is
unfolding var_or_const
returns-then-next_symbol_is c =
    by_eq (need_met _ _ _ (sym c.is_identifier.ensures ∙ c.if-not-is_identifier.false) ∙ choose_true _ _ (sym c.next_symbol_is.ensures ∙ c.if-next_symbol_is.true) ∙ need_met _ _ _ (ap not (sym c.is_const.ensures ∙ c.if-is_const.false))) (rw (← c.iterate-d.ensures)
    ((c.put_row.ensures c.args.source.now.tokens.now (within_step _ _ c.iterate-d.ensures c.requires.within)).1 _ [] _ _ _ _ (stands_step _ _ c.iterate-d.ensures (at_once _ _ c.requires.within))
    (record { few = tt; root = of_node; refs = (refl, refl, refl, refl) })))

pub returns : goal.returns
unfolding var_or_const
returns c = by_eq (need_met _ _ _ (sym c.is_identifier.ensures ∙ c.if-not-is_identifier.false) ∙ choose_false _ _ (sym c.next_symbol_is.ensures ∙ c.if-next_symbol_is.false)) c.value.ensures
