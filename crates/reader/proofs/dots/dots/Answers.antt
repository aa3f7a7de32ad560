-- `dots` meets its contract: the names so far are a list in the first rows, and each turn links one more.
use Rattle.std.proofs.Common.{[], ap, arith, refl, sym, ◌∙◌, ◌∷◌}
use Rattle.grammar.specs.Words.{SDot, step}
use Rattle.grammar.specs.Tree.{nil}
use Rattle.grammar.specs.Expressions.{dots, get_identifier}
use Rattle.reader.specs.Meets.{of_node}
use Rattle.reader.proofs.Answers.{bounds, no_list, taken, pass, by_eq, refuses, need_met, need_failed, choose_true, choose_false, then_read, then_refused, then_eq, exit}
use Rattle.reader.proofs.Loops.{starts, stops, lengthens}
use Rattle.reader.proofs.Moves.{on_step, within_step, stands_step, moves_next, small_in}
use Rattle.reader.proofs.dots.dots.Goals as goal

pub loop-e-init : goal.loop-e-init
loop-e-init c = record { same = refl; state = rw c.nothing-all.ensures (starts (dots _) nil c.requires.sound.few (no_list _ _ c.requires.within) refl) }

pub returns-then-not-is_identifier : goal.returns-then-not-is_identifier
unfolding dots get_identifier
returns-then-not-is_identifier c = refuses _ _ _ (c.loop-e.invariant.state.eq ∙ choose_true _ _ (sym c.next_symbol_is.ensures ∙ c.loop-e-test.true) ∙ then_refused _ (rw (← (c.iterate-e.ensures ∙ ap (step _) c.iterate.ensures)) (need_failed _ _ _ (sym c.is_identifier.ensures ∙ c.if-not-is_identifier.true)))) c.new.ensures

pub put_row-requires : goal.put_row-requires
put_row-requires c = (omega (arith, c.requires.fits, c.loop-e.invariant.same), small_in c.requires (within_step _ _ c.iterate-e.ensures (within_step _ _ c.iterate.ensures c.loop-e.invariant.state.stands.within)), small_in c.requires (within_step _ _ c.iterate-e.ensures (within_step _ _ c.iterate.ensures c.loop-e.invariant.state.stands.within)))

pub returns-in_err-name : goal.returns-in_err-name
unfolding dots get_identifier
returns-in_err-name c = by_eq (c.loop-e.invariant.state.eq ∙ choose_true _ _ (sym c.next_symbol_is.ensures ∙ c.loop-e-test.true) ∙ then_eq _ (rw (← (c.iterate-e.ensures ∙ ap (step _) c.iterate.ensures)) (need_met _ _ _ (sym c.is_identifier.ensures ∙ c.if-not-is_identifier.false)))) (pass _ ((c.put_row.ensures c.args.tokens.now (within_step _ _ c.iterate-e.ensures (within_step _ _ c.iterate.ensures c.loop-e.invariant.state.stands.within))).1 _ (c.loop-e.invariant.state.value ∷ []) [] _ _ _ (stands_step _ _ c.iterate-e.ensures (stands_step _ _ c.iterate.ensures c.loop-e.invariant.state.stands)) (record { few = tt; root = of_node; refs = (refl, refl, refl, refl) })) c.in_err-name.was (exit c.from_residual.ensures.1))

pub loop-e-smaller : goal.loop-e-smaller
loop-e-smaller c =
    let read_1 = taken ((c.put_row.ensures c.args.tokens.now (within_step _ _ c.iterate-e.ensures (within_step _ _ c.iterate.ensures c.loop-e.invariant.state.stands.within))).1 _ (c.loop-e.invariant.state.value ∷ []) [] _ _ _ (stands_step _ _ c.iterate-e.ensures (stands_step _ _ c.iterate.ensures c.loop-e.invariant.state.stands)) (record { few = tt; root = of_node; refs = (refl, refl, refl, refl) })) c.in_ok-name.was in
    omega (arith, read_1.stands.within, (bounds (c.put_row.ensures c.args.tokens.now (within_step _ _ c.iterate-e.ensures (within_step _ _ c.iterate.ensures c.loop-e.invariant.state.stands.within))).0 c.in_ok-name.was).on, moves_next SDot c.requires.sound c.loop-e.invariant.state.stands.within (sym c.next_symbol_is.ensures ∙ c.loop-e-test.true) refl, c.iterate.ensures, on_step _ _ c.iterate-e.ensures)

pub loop-e-preserved : goal.loop-e-preserved
unfolding dots get_identifier
loop-e-preserved c =
    let read_1 = taken ((c.put_row.ensures c.args.tokens.now (within_step _ _ c.iterate-e.ensures (within_step _ _ c.iterate.ensures c.loop-e.invariant.state.stands.within))).1 _ (c.loop-e.invariant.state.value ∷ []) [] _ _ _ (stands_step _ _ c.iterate-e.ensures (stands_step _ _ c.iterate.ensures c.loop-e.invariant.state.stands)) (record { few = tt; root = of_node; refs = (refl, refl, refl, refl) })) c.in_ok-name.was in
    record {
      same = c.link.auto.pool ∙ c.put_row.auto.pool ∙ c.loop-e.invariant.same;
      state = rw (c.first_of.ensures, c.link.ensures) (lengthens c.loop-e.invariant.state _ read_1.stands read_1.head (choose_true _ _ (sym c.next_symbol_is.ensures ∙ c.loop-e-test.true) ∙ then_eq _ (rw (← (c.iterate-e.ensures ∙ ap (step _) c.iterate.ensures)) (need_met _ _ _ (sym c.is_identifier.ensures ∙ c.if-not-is_identifier.false))) ∙ then_read _ read_1.eq) (omega (arith, (bounds (c.put_row.ensures c.args.tokens.now (within_step _ _ c.iterate-e.ensures (within_step _ _ c.iterate.ensures c.loop-e.invariant.state.stands.within))).0 c.in_ok-name.was).on, moves_next SDot c.requires.sound c.loop-e.invariant.state.stands.within (sym c.next_symbol_is.ensures ∙ c.loop-e-test.true) refl, c.iterate.ensures, on_step _ _ c.iterate-e.ensures)) (omega arith) read_1.stands.within);
    }

pub returns : goal.returns
unfolding dots
returns c = stops c.loop-e.invariant.state _ refl (choose_false _ _ (sym c.next_symbol_is.ensures ∙ c.loop-e-test.false))
