-- The readers of expressions meet their contracts: each answer goes from what the callees leave in the part to what the definition reads.
use Rattle.std.proofs.Common.{ℕ, [], ◌∷◌, false, not, eqb, refl, sym, ap, ◌∙◌, arith, rules}
use lib.Dec.{lit<}
use mathlib.Core.Bool.{false≢true}
use borrow.Author.Tests.{eq-eqb, ne_eqb}
use Rattle.grammar.specs.Words.{SRparen, SComma, SColon, step, order, goes_on, operates, class}
use Rattle.grammar.specs.Parsed.{WrongSign, match, choose}
use Rattle.grammar.specs.Expressions as spec
use Rattle.tokens.specs.Tokens.{word}
use Rattle.tokens.proofs.Round.{word_token}
use Rattle.tokens.proofs.Besides.{other_keyword, other_operator}
use Rattle.modes.specs.declared.Due.TheVariants as due
use Rattle.reader.specs.Meets.{of_node, of_infix}
use Rattle.reader.specs.Promises as contract
use Rattle.reader.proofs.Answers.{taken, bounds, bounded_tree, bounded_told, pass, pass_on, by_eq, refuses, then_read, need_met, need_failed, choose_true, choose_false, at_once, sooner, later, read_on, read_none, exit}
use Rattle.reader.proofs.Parts.{in_part, back_read, part_length}
use Rattle.reader.proofs.Loops.{starts, stops, turns_on, lengthens}
use Rattle.reader.proofs.Moves.{falls, le_refl, le_trans, on_step, within_step, ready_step, ready_same, stands_step, small, small_in, fits_same, front_le, moves_next, goes_onward, operates_on}
use Rattle.reader.proofs.Roots.{is_called}
use Rattle.reader.proofs.Matches.{word_of, no_start, unstarted, reads_marked}
use Rattle.reader.proofs.Definitions.{array_first, array_ended, hash_first, hash_ended, call_first, call_ended, lambda_first, lambda_second, lambda_ended, pair_first, pair_stops, pair_second, pair_ended, too_deep, one_less, list_none, list_some, others, by_infix}
use Rattle.reader.proofs.Others.{token_unstarted, token_idle}
use Rattle.reader.proofs.expressions.+expressions.Goals as goal

-- `actual`: what is read in the part that is lent from the first free row on.
pub actual-returns : goal.actual-returns
actual-returns t c =
    let m = rw c.end-i.ensures at c.enclosed.ensures in
    let q = taken m c.in_ok-arguments.was in (
      bounded_tree (omega (arith, q.stands.front.fit, part_length c.args.rows c.args.pool.now, c.requires.1)) q.stands.on q.stands.within,
      λ from slots zs left s. rw c.end-i.ensures (back_read s (in_part (contract.closed_list (due.By c.args.source.now.mode) _ _ _ false SRparen WrongSign c.args.c) s m) c.in_ok-arguments.was),
    )

-- `behind`: what is read in the part that is lent from the first free row on.
pub behind-returns : goal.behind-returns
behind-returns t c =
    let m = rw c.end-i.ensures at c.item.ensures in
    let q = taken m c.in_ok-one.was in (
      bounded_tree (omega (arith, q.stands.front.fit, part_length c.args.rows c.args.pool.now, c.requires.1)) q.stands.on q.stands.within,
      λ from slots zs left s. rw c.end-i.ensures (back_read s (in_part (contract.item _ _ _ c.args.order c.args.paired c.args.c) s m) c.in_ok-one.was),
    )

-- `around`: an expression, and a row around it.
pub around-returns-in_err-child : goal.around-returns-in_err-child
unfolding contract.around
around-returns-in_err-child t c = pass _ c.expression.ensures c.in_err-child.was (exit c.from_residual.ensures.1)

pub around-returns : goal.around-returns
unfolding contract.around
around-returns t c =
    let q = taken c.expression.ensures c.in_ok-child.was in
    by_eq (then_read _ q.eq) ((c.put_row.ensures c.args.source.now.tokens.now q.stands.within).1 _ [] _ _ _ _ q.stands (record { few = tt; root = of_node; refs = (q.head, refl, refl, refl) }))

-- `array`: nothing between its signs, or a list and the closing sign.
pub array-put_row-requires : goal.array-put_row-requires
array-put_row-requires t c = (c.requires.fits, small c.requires, small_in c.requires (within_step _ _ c.iterate-d.ensures c.requires.within))

pub array-returns-then-next_symbol_is : goal.array-returns-then-next_symbol_is
unfolding spec.array
array-returns-then-next_symbol_is t c =
    by_eq (choose_true _ _ (sym c.next_symbol_is.ensures ∙ c.if-next_symbol_is.true)) (rw (← c.iterate-d.ensures)
    ((c.put_row.ensures c.args.source.now.tokens.now (within_step _ _ c.iterate-d.ensures c.requires.within)).1 _ [] _ _ _ _ (stands_step _ _ c.iterate-d.ensures (at_once _ _ c.requires.within)) (record { few = tt; root = of_node; refs = (refl, refl, refl, refl) })))

pub array-returns-in_err-values : goal.array-returns-in_err-values
array-returns-in_err-values t c = pass_on (array_first _ _ _ _ _ (sym c.next_symbol_is.ensures ∙ c.if-next_symbol_is.false)) c.enclosed.ensures c.in_err-values.was (exit c.from_residual.ensures.1)

pub array-returns : goal.array-returns
array-returns t c =
    let q = taken c.enclosed.ensures c.in_ok-values.was in
    by_eq (array_ended _ _ _ _ _ (sym c.next_symbol_is.ensures ∙ c.if-next_symbol_is.false) q.eq)
    ((c.put_row-2.ensures c.args.source.now.tokens.now q.stands.within).1 _ [] _ _ _ _ q.stands (record { few = tt; root = of_node; refs = (q.head, refl, refl, refl) }))

-- `hash`: nothing between its signs, or pairs and the closing sign.
pub hash-put_row-requires : goal.hash-put_row-requires
hash-put_row-requires t c = (c.requires.fits, small c.requires, small_in c.requires (within_step _ _ c.iterate-d.ensures c.requires.within))

pub hash-returns-then-next_symbol_is : goal.hash-returns-then-next_symbol_is
unfolding spec.hash_literal
hash-returns-then-next_symbol_is t c =
    by_eq (choose_true _ _ (sym c.next_symbol_is.ensures ∙ c.if-next_symbol_is.true)) (rw (← c.iterate-d.ensures)
    ((c.put_row.ensures c.args.source.now.tokens.now (within_step _ _ c.iterate-d.ensures c.requires.within)).1 _ [] _ _ _ _ (stands_step _ _ c.iterate-d.ensures (at_once _ _ c.requires.within)) (record { few = tt; root = of_node; refs = (refl, refl, refl, refl) })))

pub hash-returns-in_err-pairs : goal.hash-returns-in_err-pairs
hash-returns-in_err-pairs t c = pass_on (hash_first _ _ _ _ _ (sym c.next_symbol_is.ensures ∙ c.if-next_symbol_is.false)) c.enclosed.ensures c.in_err-pairs.was (exit c.from_residual.ensures.1)

pub hash-returns : goal.hash-returns
hash-returns t c =
    let q = taken c.enclosed.ensures c.in_ok-pairs.was in
    by_eq (hash_ended _ _ _ _ _ (sym c.next_symbol_is.ensures ∙ c.if-next_symbol_is.false) q.eq)
    ((c.put_row-2.ensures c.args.source.now.tokens.now q.stands.within).1 _ [] _ _ _ _ q.stands (record { few = tt; root = of_node; refs = (q.head, refl, refl, refl) }))

-- `at_keyword`: each keyword has its arm in the definition, and no other begins an expression.
pub at_keyword-returns-in-KTrue : goal.at_keyword-returns-in-KTrue
unfolding spec.prefix_part match choose
at_keyword-returns-in-KTrue t c = rw (c.requires.1, c.in-KTrue.is) (c.leaf.ensures _ c.requires.0.within)

pub at_keyword-returns-in-KFalse : goal.at_keyword-returns-in-KFalse
unfolding spec.prefix_part match choose
at_keyword-returns-in-KFalse t c = rw (c.requires.1, c.in-KFalse.is) (c.leaf-in-KFalse.ensures _ c.requires.0.within)

pub at_keyword-returns-in-KLambda : goal.at_keyword-returns-in-KLambda
unfolding spec.prefix_part match choose
at_keyword-returns-in-KLambda t c = rw (c.requires.1, c.in-KLambda.is) c.lambda.ensures

pub at_keyword-returns-in-KNone : goal.at_keyword-returns-in-KNone
unfolding spec.prefix_part match choose
at_keyword-returns-in-KNone t c = rw (c.requires.1, c.in-KNone.is) (c.leaf-in-KNone.ensures _ c.requires.0.within)

pub at_keyword-returns-in-KThread : goal.at_keyword-returns-in-KThread
unfolding spec.prefix_part match choose
at_keyword-returns-in-KThread t c = rw (c.requires.1, c.in-KThread.is) c.started.ensures

pub at_keyword-returns-in-KAsync : goal.at_keyword-returns-in-KAsync
unfolding spec.prefix_part match choose
at_keyword-returns-in-KAsync t c = rw (c.requires.1, c.in-KAsync.is) c.started-in-KAsync.ensures

pub at_keyword-returns-in_default : goal.at_keyword-returns-in_default
unfolding class
at_keyword-returns-in_default t c = unstarted _ _ _ 13 c.requires.1 (other_keyword (no_start 13) (9 ∷ 18 ∷ 19 ∷ 24 ∷ 26 ∷ 27 ∷ []) {k = c.args.k} refl (search rules) refl) c.new.ensures

-- `at_symbol`: each operator has its arm in the definition, and no other begins an expression.
pub at_symbol-returns-in-SLBox : goal.at_symbol-returns-in-SLBox
unfolding spec.prefix_part match choose
at_symbol-returns-in-SLBox t c = rw (c.requires.1, c.in-SLBox.is) c.array.ensures

pub at_symbol-returns-in-SLBrace : goal.at_symbol-returns-in-SLBrace
unfolding spec.prefix_part match choose
at_symbol-returns-in-SLBrace t c = rw (c.requires.1, c.in-SLBrace.is) c.hash.ensures

pub at_symbol-returns-in-SIncr : goal.at_symbol-returns-in-SIncr
unfolding spec.prefix_part match choose
at_symbol-returns-in-SIncr t c = rw (c.requires.1, c.in-SIncr.is) c.prefix.ensures

pub at_symbol-returns-in-SDecr : goal.at_symbol-returns-in-SDecr
unfolding spec.prefix_part match choose
at_symbol-returns-in-SDecr t c = rw (c.requires.1, c.in-SDecr.is) c.prefix-in-SDecr.ensures

pub at_symbol-returns-in-SExcl : goal.at_symbol-returns-in-SExcl
unfolding spec.prefix_part match choose
at_symbol-returns-in-SExcl t c = rw (c.requires.1, c.in-SExcl.is) c.prefix-in-SExcl.ensures

pub at_symbol-returns-in-SNeg : goal.at_symbol-returns-in-SNeg
unfolding spec.prefix_part match choose
at_symbol-returns-in-SNeg t c = rw (c.requires.1, c.in-SNeg.is) c.prefix-in-SNeg.ensures

pub at_symbol-returns-in-SLParen : goal.at_symbol-returns-in-SLParen
unfolding spec.prefix_part match choose
at_symbol-returns-in-SLParen t c = rw (c.requires.1, c.in-SLParen.is) c.sub_exp.ensures

pub at_symbol-returns-in-SDollar : goal.at_symbol-returns-in-SDollar
unfolding spec.prefix_part match choose
at_symbol-returns-in-SDollar t c = rw (c.requires.1, c.in-SDollar.is) c.shell.ensures

pub at_symbol-returns-in_default : goal.at_symbol-returns-in_default
unfolding class
at_symbol-returns-in_default t c = unstarted _ _ _ 12 c.requires.1 (other_operator (no_start 12) (5 ∷ 14 ∷ 18 ∷ 24 ∷ 29 ∷ 30 ∷ 34 ∷ 40 ∷ []) {s = c.args.s} refl (search rules) refl) c.new.ensures

-- `call`: no arguments, or a list of them behind the caller with its closing sign.
pub call-put_row-requires : goal.call-put_row-requires
call-put_row-requires t c = (c.requires.0.fits, small c.requires.0, small_in c.requires.0 (within_step _ _ c.iterate-d.ensures c.requires.0.within))

pub call-returns-then-next_symbol_is : goal.call-returns-then-next_symbol_is
unfolding spec.call
call-returns-then-next_symbol_is t c =
    let w = within_step _ _ c.iterate-d.ensures c.requires.0.within in (
      later refl (on_step _ _ c.iterate-d.ensures) (c.put_row.ensures c.args.source.now.tokens.now w).0,
      λ from u zs left s e. by_eq (choose_true _ _ (sym c.next_symbol_is.ensures ∙ c.if-next_symbol_is.true)) (rw (← c.iterate-d.ensures)
          ((c.put_row.ensures c.args.source.now.tokens.now w).1 _ [] _ _ _ _ (stands_step _ _ c.iterate-d.ensures s) (record { few = tt; root = of_node; refs = (e, refl, refl, refl) }))),
    )

pub call-returns-in_err-arguments : goal.call-returns-in_err-arguments
call-returns-in_err-arguments t c = (bounded_told (exit c.from_residual.ensures.1), λ from u zs left s e. pass_on (call_first _ _ _ u _ _ (sym c.next_symbol_is.ensures ∙ c.if-next_symbol_is.false)) (c.actual.ensures.1 _ _ _ _ s) c.in_err-arguments.was (exit c.from_residual.ensures.1))

pub call-returns : goal.call-returns
call-returns t c =
    let b = bounds c.actual.ensures.0 c.in_ok-arguments.was in (
      later c.actual.auto.pool b.on (c.put_row-2.ensures c.args.source.now.tokens.now b.within).0,
      λ from u zs left s e. let q = taken (c.actual.ensures.1 _ _ _ _ s) c.in_ok-arguments.was in
          by_eq (call_ended _ _ _ u _ _ (sym c.next_symbol_is.ensures ∙ c.if-next_symbol_is.false) q.eq)
          ((c.put_row-2.ensures c.args.source.now.tokens.now q.stands.within).1 _ [] _ _ _ _ q.stands (record { few = tt; root = of_node; refs = (e, q.head, refl, refl) })),
    )

-- `climb`: the tree so far is in the first rows, and each turn puts an operation around it.
pub climb-loop-at-init : goal.climb-loop-at-init
climb-loop-at-init t c =
    record {
      same = refl;
      fit = c.requires.1;
      on = omega arith;
      within = c.requires.0.within;
      state = λ from u zs left s e. starts _ u c.requires.0.sound.few s e;
    }

pub climb-operation-requires : goal.climb-operation-requires
climb-operation-requires t c = (
  falls _ _ _ _ _ _ _ c.decreases (le_trans c.loop-at.invariant.on (on_step _ _ c.iterate-at.ensures)) (lit< tt),
  (ready_step _ _ c.iterate-at.ensures (ready_same c.requires.0 c.loop-at.invariant.same c.loop-at.invariant.within), c.loop-at.invariant.fit, rw c.iterate-at.ensures (operates_on _ _ (ap (goes_on _) (sym (ap word c.next.ensures ∙ word_token _ (c.requires.0.sound.good (step c.args.source.now.tokens.now c.loop-at.tree.next)))) ∙ sym c.goes_on.ensures ∙ c.loop-at-test.true))),
)

pub climb-returns-in_err-tree : goal.climb-returns-in_err-tree
unfolding spec.climb
climb-returns-in_err-tree t c = (
  bounded_told (exit c.from_residual.ensures.1),
  λ from u zs left s e. let w = c.loop-at.invariant.state from u zs left s e in
      by_eq (w.eq ∙ choose_true _ _ (ap (goes_on _) (sym (ap word c.next.ensures ∙ word_token _ (c.requires.0.sound.good (step c.args.source.now.tokens.now c.loop-at.tree.next)))) ∙ sym c.goes_on.ensures ∙ c.loop-at-test.true)) (rw (← c.iterate-at.ensures) ((pass _ (c.operation.ensures.1 _ _ _ _ (stands_step _ _ c.iterate-at.ensures w.stands) w.head) c.in_err-tree.was (exit c.from_residual.ensures.1)))),
)

pub climb-loop-at-smaller : goal.climb-loop-at-smaller
climb-loop-at-smaller t c =
    let b = bounds c.operation.ensures.0 c.in_ok-tree.was in
    omega (arith, b.on, b.within, goes_onward _ c.requires.0.sound c.loop-at.invariant.within (ap (goes_on _) (sym (ap word c.next.ensures ∙ word_token _ (c.requires.0.sound.good (step c.args.source.now.tokens.now c.loop-at.tree.next)))) ∙ sym c.goes_on.ensures ∙ c.loop-at-test.true), c.iterate-at.ensures)

pub climb-loop-at-preserved : goal.climb-loop-at-preserved
unfolding spec.climb
climb-loop-at-preserved t c =
    let b = bounds c.operation.ensures.0 c.in_ok-tree.was in
    record {
      same = c.operation.auto.pool ∙ c.loop-at.invariant.same;
      fit = omega (arith, b.fit, c.operation.auto.pool);
      on = le_trans c.loop-at.invariant.on (le_trans (on_step _ _ c.iterate-at.ensures) b.on);
      within = b.within;
      state = λ from u zs left s e. let w = c.loop-at.invariant.state from u zs left s e in
          let q = taken (c.operation.ensures.1 _ _ _ _ (stands_step _ _ c.iterate-at.ensures w.stands) w.head) c.in_ok-tree.was in
          turns_on w _ _ (choose_true _ _ (ap (goes_on _) (sym (ap word c.next.ensures ∙ word_token _ (c.requires.0.sound.good (step c.args.source.now.tokens.now c.loop-at.tree.next)))) ∙ sym c.goes_on.ensures ∙ c.loop-at-test.true) ∙ rw (← c.iterate-at.ensures) (then_read _ q.eq)) (omega (arith, b.on, goes_onward _ c.requires.0.sound c.loop-at.invariant.within (ap (goes_on _) (sym (ap word c.next.ensures ∙ word_token _ (c.requires.0.sound.good (step c.args.source.now.tokens.now c.loop-at.tree.next)))) ∙ sym c.goes_on.ensures ∙ c.loop-at-test.true), c.iterate-at.ensures)) q.head q.stands;
    }

pub climb-returns : goal.climb-returns
unfolding spec.climb
climb-returns t c = (
  bounded_tree (omega (arith, c.loop-at.invariant.fit, c.loop-at.invariant.same)) c.loop-at.invariant.on c.loop-at.invariant.within,
  λ from u zs left s e. let w = c.loop-at.invariant.state from u zs left s e in
      stops w _ refl (choose_false _ _ (ap (goes_on _) (sym (ap word c.next.ensures ∙ word_token _ (c.requires.0.sound.good (step c.args.source.now.tokens.now c.loop-at.tree.next)))) ∙ sym c.goes_on.ensures ∙ c.loop-at-test.false)),
)

-- `enclosed`: the list, and its closing sign where it is due.
pub enclosed-returns-in_err-members : goal.enclosed-returns-in_err-members
unfolding contract.closed_list
enclosed-returns-in_err-members t c = pass _ c.list.ensures c.in_err-members.was (exit c.from_residual.ensures.1)

pub enclosed-returns-then-not-comes : goal.enclosed-returns-then-not-comes
unfolding contract.closed_list
enclosed-returns-then-not-comes t c =
    let q = taken c.list.ensures c.in_ok-members.was in
    refuses _ _ _ (then_read _ q.eq ∙ need_failed _ _ _ (sym c.comes.ensures ∙ c.if-not-comes.true)) c.new.ensures

pub enclosed-returns : goal.enclosed-returns
unfolding contract.closed_list
enclosed-returns t c =
    let q = taken c.list.ensures c.in_ok-members.was in
    by_eq (then_read _ q.eq ∙ need_met _ _ _ (sym c.comes.ensures ∙ c.if-not-comes.false))
    (rw (← c.iterate-e.ensures) (read_on q.head (stands_step _ _ c.iterate-e.ensures q.stands)))

-- `entries`: the list so far is in the first rows, and each turn links one more entry.
pub entries-loop-e-init : goal.entries-loop-e-init
entries-loop-e-init t c =
    record {
      same = refl;
      fit = c.requires.1;
      on = omega arith;
      within = c.requires.0.within;
      state = λ from u zs left s e. starts _ u c.requires.0.sound.few s e;
    }

pub entries-behind-requires : goal.entries-behind-requires
entries-behind-requires t c = (
  falls _ _ _ _ _ _ _ c.decreases (le_trans c.loop-e.invariant.on (le_trans (on_step _ _ c.iterate.ensures) (on_step _ _ c.iterate-e.ensures))) (lit< tt),
  (ready_step _ _ c.iterate-e.ensures (ready_step _ _ c.iterate.ensures (ready_same c.requires.0 c.loop-e.invariant.same c.loop-e.invariant.within)), c.loop-e.invariant.fit),
)

pub entries-returns-in_err-one : goal.entries-returns-in_err-one
unfolding spec.entries
entries-returns-in_err-one t c = (
  bounded_told (exit c.from_residual.ensures.1),
  λ from u zs left s e. let w = c.loop-e.invariant.state from u zs left s e in
      by_eq (w.eq ∙ choose_true _ _ (sym c.next_symbol_is.ensures ∙ c.loop-e-test.true)) (rw (← c.iterate.ensures, ← c.iterate-e.ensures) (pass _ (c.behind.ensures.1 _ _ _ _ (stands_step _ _ c.iterate-e.ensures (stands_step _ _ c.iterate.ensures w.stands))) c.in_err-one.was (exit c.from_residual.ensures.1))),
)

pub entries-loop-e-smaller : goal.entries-loop-e-smaller
entries-loop-e-smaller t c =
    let b = bounds c.behind.ensures.0 c.in_ok-one.was in
    omega (arith, b.on, b.within, moves_next SComma c.requires.0.sound c.loop-e.invariant.within (sym c.next_symbol_is.ensures ∙ c.loop-e-test.true) refl, c.iterate.ensures, on_step _ _ c.iterate-e.ensures)

pub entries-loop-e-preserved : goal.entries-loop-e-preserved
unfolding spec.entries
entries-loop-e-preserved t c =
    let b = bounds c.behind.ensures.0 c.in_ok-one.was in
    record {
      same = c.link.auto.pool ∙ c.behind.auto.pool ∙ c.loop-e.invariant.same;
      fit = omega (arith, b.fit, c.link.auto.pool, c.behind.auto.pool);
      on = le_trans c.loop-e.invariant.on (le_trans (on_step _ _ c.iterate.ensures) (le_trans (on_step _ _ c.iterate-e.ensures) b.on));
      within = b.within;
      state = λ from u zs left s e. let w = c.loop-e.invariant.state from u zs left s e in
          let q = taken (c.behind.ensures.1 _ _ _ _ (stands_step _ _ c.iterate-e.ensures (stands_step _ _ c.iterate.ensures w.stands))) c.in_ok-one.was in
          rw (c.first_of.ensures, c.link.ensures)
          (lengthens w _ q.stands q.head (choose_true _ _ (sym c.next_symbol_is.ensures ∙ c.loop-e-test.true) ∙ rw (← c.iterate.ensures, ← c.iterate-e.ensures) (then_read _ q.eq)) (omega (arith, b.on, moves_next SComma c.requires.0.sound c.loop-e.invariant.within (sym c.next_symbol_is.ensures ∙ c.loop-e-test.true) refl, c.iterate.ensures, on_step _ _ c.iterate-e.ensures)) (omega arith) b.within);
    }

pub entries-returns : goal.entries-returns
unfolding spec.entries
entries-returns t c = (
  bounded_tree (omega (arith, c.loop-e.invariant.fit, c.loop-e.invariant.same)) c.loop-e.invariant.on c.loop-e.invariant.within,
  λ from u zs left s e. let w = c.loop-e.invariant.state from u zs left s e in
      stops w _ refl (choose_false _ _ (sym c.next_symbol_is.ensures ∙ c.loop-e-test.false)),
)

-- `expression`: refused where no more may be open, else the prefix part, a semicolon or the loop.
pub expression-returns-then-allow-eq0 : goal.expression-returns-then-allow-eq0
expression-returns-then-allow-eq0 t c = refuses _ _ _ (too_deep _ _ _ _ _ _ c.if-allow-eq0.true) c.new.ensures

pub expression-returns-in_err-left : goal.expression-returns-in_err-left
unfolding spec.level
expression-returns-in_err-left t c = by_eq (one_less _ _ _ _ _ _ c.if-allow-eq0.false) ((pass _ c.prefix_part.ensures c.in_err-left.was (exit c.from_residual.ensures.1)))

pub expression-returns-then-next_symbol_is : goal.expression-returns-then-next_symbol_is
unfolding spec.level
expression-returns-then-next_symbol_is t c =
    let q = taken c.prefix_part.ensures c.in_ok-left.was in
    by_eq (one_less _ _ _ _ _ _ c.if-allow-eq0.false ∙ then_read _ q.eq ∙ choose_true _ _ (sym c.next_symbol_is.ensures ∙ c.if-next_symbol_is.true))
    (rw (← c.iterate-e.ensures) (read_on q.head (stands_step _ _ c.iterate-e.ensures q.stands)))

pub expression-returns : goal.expression-returns
unfolding spec.level
expression-returns t c =
    let q = taken c.prefix_part.ensures c.in_ok-left.was in
    by_eq (one_less _ _ _ _ _ _ c.if-allow-eq0.false ∙ then_read _ q.eq ∙ choose_false _ _ (sym c.next_symbol_is.ensures ∙ c.if-next_symbol_is.false))
    (c.climb.ensures.1 _ _ _ _ q.stands q.head)

-- `index`: the index behind its left side, and the closing sign.
pub index-behind-requires : goal.index-behind-requires
index-behind-requires t c = (falls _ _ _ _ _ _ _ c.decreases (on_step _ _ c.iterate-e.ensures) (lit< tt), (ready_step _ _ c.iterate-e.ensures c.requires.0, c.requires.1))

pub index-returns-in_err-key : goal.index-returns-in_err-key
unfolding spec.index contract.item
index-returns-in_err-key t c = (bounded_told (exit c.from_residual.ensures.1), λ from u zs left s e. rw (← c.iterate-e.ensures) (pass _ (c.behind.ensures.1 _ _ _ _ (stands_step _ _ c.iterate-e.ensures s)) c.in_err-key.was (exit c.from_residual.ensures.1)))

pub index-returns : goal.index-returns
unfolding spec.index contract.item contract.closed
index-returns t c =
    let b = bounds c.behind.ensures.0 c.in_ok-key.was in (
      later c.behind.auto.pool (le_trans (on_step _ _ c.iterate-e.ensures) b.on) c.closed.ensures.0,
      λ from u zs left s e. let q = taken (c.behind.ensures.1 _ _ _ _ (stands_step _ _ c.iterate-e.ensures s)) c.in_ok-key.was in
          rw (← c.iterate-e.ensures) (by_eq (then_read _ q.eq) (c.closed.ensures.1 _ [] _ _ _ _ q.stands (record { few = tt; root = of_node; refs = (e, q.head, refl, refl) }))),
    )

-- `infix_exp`: the right side behind the left, above the operator's order.
pub infix_exp-behind-requires : goal.infix_exp-behind-requires
infix_exp-behind-requires t c = (falls _ _ _ _ _ _ _ c.decreases (on_step _ _ c.iterate-d.ensures) (lit< tt), (ready_step _ _ c.iterate-d.ensures c.requires.0, c.requires.1))

pub infix_exp-returns-in_err-right : goal.infix_exp-returns-in_err-right
unfolding spec.infix_expression contract.item
infix_exp-returns-in_err-right t c = (bounded_told (exit c.from_residual.ensures.1), λ from u zs left s e. rw (← c.iterate-d.ensures, ← (c.order_of-order.ensures ∙ ap order (ap word c.current-t.ensures ∙ word_token _ (c.requires.0.sound.good c.args.left.next)))) (pass _ (c.behind.ensures.1 _ _ _ _ (stands_step _ _ c.iterate-d.ensures s)) c.in_err-right.was (exit c.from_residual.ensures.1)))

pub infix_exp-returns : goal.infix_exp-returns
unfolding spec.infix_expression contract.item
infix_exp-returns t c =
    let b = bounds c.behind.ensures.0 c.in_ok-right.was in (
      later c.behind.auto.pool (le_trans (on_step _ _ c.iterate-d.ensures) b.on) (c.put_row.ensures c.args.source.now.tokens.now b.within).0,
      λ from u zs left s e. let q = taken (c.behind.ensures.1 _ _ _ _ (stands_step _ _ c.iterate-d.ensures s)) c.in_ok-right.was in
          rw (← c.iterate-d.ensures, ← (c.order_of-order.ensures ∙ ap order (ap word c.current-t.ensures ∙ word_token _ (c.requires.0.sound.good c.args.left.next))), ← (ap word c.current-t.ensures ∙ word_token _ (c.requires.0.sound.good c.args.left.next)), ← c.infix_mark.ensures) (by_eq (then_read _ q.eq)
          ((c.put_row.ensures c.args.source.now.tokens.now q.stands.within).1 _ [] _ _ _ _ q.stands (record { few = tt; root = of_infix; refs = (e, q.head, refl, refl) }))),
    )

-- `item`: a pair, or an expression.
pub item-returns-then-paired : goal.item-returns-then-paired
unfolding contract.item
item-returns-then-paired t c = rw c.if-paired.true c.pair.ensures

pub item-returns : goal.item-returns
unfolding contract.item
item-returns t c = rw c.if-paired.false c.expression.ensures

-- `lambda`: parameters, an arrow, and the body behind it.
pub lambda-returns-then-next_symbol_is : goal.lambda-returns-then-next_symbol_is
unfolding spec.lambda
lambda-returns-then-next_symbol_is t c = refuses _ _ _ (need_failed _ _ _ (ap not (sym c.next_symbol_is.ensures ∙ c.if-next_symbol_is.true))) c.new.ensures

pub lambda-returns-then-next_symbol_is-2 : goal.lambda-returns-then-next_symbol_is-2
unfolding spec.lambda
lambda-returns-then-next_symbol_is-2 t c = refuses _ _ _ (need_met _ _ _ (ap not (sym c.next_symbol_is.ensures ∙ c.if-next_symbol_is.false)) ∙ need_failed _ _ _ (ap not (sym c.next_symbol_is-2.ensures ∙ c.if-next_symbol_is-2.true))) c.new-then-next_symbol_is-2.ensures

pub lambda-returns-in_err-parameters : goal.lambda-returns-in_err-parameters
lambda-returns-in_err-parameters t c = pass_on (lambda_first _ _ _ _ _ (sym c.next_symbol_is.ensures ∙ c.if-next_symbol_is.false) (sym c.next_symbol_is-2.ensures ∙ c.if-next_symbol_is-2.false)) c.enclosed.ensures c.in_err-parameters.was (exit c.from_residual.ensures.1)

pub lambda-behind-requires : goal.lambda-behind-requires
lambda-behind-requires t c =
    let q = taken c.enclosed.ensures c.in_ok-parameters.was in (
      falls _ _ _ _ _ _ _ c.decreases (le_trans q.stands.on (on_step _ _ c.iterate-e.ensures)) (lit< tt),
      (ready_step _ _ c.iterate-e.ensures (ready_same c.requires c.enclosed.auto.pool q.stands.within), front_le q.stands.front),
    )

pub lambda-returns-in_err-inner : goal.lambda-returns-in_err-inner
unfolding contract.item
lambda-returns-in_err-inner t c =
    let q = taken c.enclosed.ensures c.in_ok-parameters.was in
    pass_on (lambda_second _ _ _ _ _ (sym c.next_symbol_is.ensures ∙ c.if-next_symbol_is.false) (sym c.next_symbol_is-2.ensures ∙ c.if-next_symbol_is-2.false) q.eq c.iterate-e.ensures) (c.behind.ensures.1 _ _ _ _ (stands_step _ _ c.iterate-e.ensures q.stands)) c.in_err-inner.was (exit c.from_residual-in_err-inner.ensures.1)

pub lambda-returns : goal.lambda-returns
unfolding contract.item
lambda-returns t c =
    let q = taken c.enclosed.ensures c.in_ok-parameters.was in
    let p = taken (c.behind.ensures.1 _ _ _ _ (stands_step _ _ c.iterate-e.ensures q.stands)) c.in_ok-inner.was in
    by_eq (lambda_ended _ _ _ _ _ (sym c.next_symbol_is.ensures ∙ c.if-next_symbol_is.false) (sym c.next_symbol_is-2.ensures ∙ c.if-next_symbol_is-2.false) q.eq c.iterate-e.ensures p.eq)
    ((c.put_row.ensures c.args.source.now.tokens.now p.stands.within).1 _ [] _ _ _ _ p.stands (record { few = tt; root = of_node; refs = (q.head, p.head, refl, refl) }))

-- `list`: no list before a closing bracket, or an item and the entries behind it.
pub list-returns-then-is_empty : goal.list-returns-then-is_empty
list-returns-then-is_empty t c = rw c.nothing.ensures (by_eq (list_none _ _ _ _ _ _ (sym c.is_empty.ensures ∙ c.if-is_empty.true)) (read_none _ _ c.requires.within))

pub list-behind-requires : goal.list-behind-requires
list-behind-requires t c = (falls _ _ _ _ _ _ _ c.decreases (on_step _ _ c.iterate-e.ensures) (lit< tt), (ready_step _ _ c.iterate-e.ensures c.requires, omega arith))

pub list-returns-in_err-one : goal.list-returns-in_err-one
list-returns-in_err-one t c = by_eq (list_some _ _ _ _ _ _ (sym c.is_empty.ensures ∙ c.if-is_empty.false)) (rw (← c.iterate-e.ensures) (pass _ (c.behind.ensures.1 _ [] _ _ (at_once _ _ (ready_step _ _ c.iterate-e.ensures c.requires).within)) c.in_err-one.was (exit c.from_residual.ensures.1)))

pub list-entries-requires : goal.list-entries-requires
list-entries-requires t c =
    let q = taken (c.behind.ensures.1 _ [] _ _ (at_once _ _ (ready_step _ _ c.iterate-e.ensures c.requires).within)) c.in_ok-one.was in (
      falls _ _ _ _ _ _ _ c.decreases (le_trans (on_step _ _ c.iterate-e.ensures) q.stands.on) (lit< tt),
      (ready_same c.requires c.behind.auto.pool q.stands.within, front_le q.stands.front),
    )

pub list-returns : goal.list-returns
list-returns t c =
    let q = taken (c.behind.ensures.1 _ [] _ _ (at_once _ _ (ready_step _ _ c.iterate-e.ensures c.requires).within)) c.in_ok-one.was in
    sooner (on_step _ _ c.iterate-e.ensures) (by_eq (list_some _ _ _ _ _ _ (sym c.is_empty.ensures ∙ c.if-is_empty.false)) (rw (← c.iterate-e.ensures) (by_eq (then_read _ q.eq) (c.entries.ensures.1 _ _ _ _ q.stands q.head))))

-- `operation`: a suffix, a call or an index by its operator, and an infix operator else.
pub operation-returns-in_default : goal.operation-returns-in_default
operation-returns-in_default t c = absurd (false≢true (sym (token_idle c.current-t.result c.in_default.not-Operator) ∙ ap operates (sym (word_of c.requires.0 c.current-t.ensures)) ∙ c.requires.2))

pub operation-returns-in-SIncr : goal.operation-returns-in-SIncr
unfolding spec.operation match choose spec.suffix_expression
operation-returns-in-SIncr t c =
    let p = c.suffix.ensures _ c.requires.0.within in
    (p.0, λ from u zs left s e. rw (word_of c.requires.0 c.current-t.ensures, c.in-Operator.is, c.in-SIncr.is) (p.1 _ _ _ _ s e))

pub operation-returns-in-SDecr : goal.operation-returns-in-SDecr
unfolding spec.operation match choose spec.suffix_expression
operation-returns-in-SDecr t c =
    let p = c.suffix-in-SDecr.ensures _ c.requires.0.within in
    (p.0, λ from u zs left s e. rw (word_of c.requires.0 c.current-t.ensures, c.in-Operator.is, c.in-SDecr.is) (p.1 _ _ _ _ s e))

pub operation-returns-in-SLParen : goal.operation-returns-in-SLParen
unfolding spec.operation match choose
operation-returns-in-SLParen t c = (c.call.ensures.0, λ from u zs left s e. rw (word_of c.requires.0 c.current-t.ensures, c.in-Operator.is, c.in-SLParen.is) (c.call.ensures.1 _ _ _ _ s e))

pub operation-returns-in-SLBox : goal.operation-returns-in-SLBox
unfolding spec.operation match choose
operation-returns-in-SLBox t c = (c.index.ensures.0, λ from u zs left s e. rw (word_of c.requires.0 c.current-t.ensures, c.in-Operator.is, c.in-SLBox.is) (c.index.ensures.1 _ _ _ _ s e))

pub operation-returns-in_default-s : goal.operation-returns-in_default-s
operation-returns-in_default-s t c = by_infix _ _ (word_of c.requires.0 c.current-t.ensures) (other_operator others (5 ∷ 29 ∷ 30 ∷ 34 ∷ []) c.in-Operator.is (search rules) refl) c.infix_exp.ensures

-- `pair`: the key, a colon, and the value behind it.
pub pair-returns-in_err-key : goal.pair-returns-in_err-key
pair-returns-in_err-key t c = pass_on (pair_first _ _ _ _ _) c.expression.ensures c.in_err-key.was (exit c.from_residual.ensures.1)

pub pair-returns-then-not-next_symbol_is : goal.pair-returns-then-not-next_symbol_is
pair-returns-then-not-next_symbol_is t c =
    let q = taken c.expression.ensures c.in_ok-key.was in
    refuses _ _ _ (pair_stops _ _ _ _ _ q.eq (sym c.next_symbol_is.ensures ∙ c.if-not-next_symbol_is.true)) c.new.ensures

pub pair-behind-requires : goal.pair-behind-requires
pair-behind-requires t c =
    let q = taken c.expression.ensures c.in_ok-key.was in (
      omega (arith, c.decreases, q.stands.on, q.stands.within, moves_next SColon c.requires.sound q.stands.within (sym c.next_symbol_is.ensures ∙ c.if-not-next_symbol_is.false) refl, c.iterate-e.ensures, on_step _ _ c.iterate-v.ensures),
      (ready_step _ _ c.iterate-v.ensures (ready_step _ _ c.iterate-e.ensures (ready_same c.requires c.expression.auto.pool q.stands.within)), front_le q.stands.front),
    )

pub pair-returns-in_err-value : goal.pair-returns-in_err-value
unfolding contract.item
pair-returns-in_err-value t c =
    let q = taken c.expression.ensures c.in_ok-key.was in
    pass_on (pair_second _ _ _ _ _ q.eq (sym c.next_symbol_is.ensures ∙ c.if-not-next_symbol_is.false) c.iterate-e.ensures c.iterate-v.ensures) (c.behind.ensures.1 _ _ _ _ (stands_step _ _ c.iterate-v.ensures (stands_step _ _ c.iterate-e.ensures q.stands))) c.in_err-value.was (exit c.from_residual-in_err-value.ensures.1)

pub pair-put_row-requires : goal.pair-put_row-requires
pair-put_row-requires t c =
    let q = taken c.expression.ensures c.in_ok-key.was in
    let p = taken (c.behind.ensures.1 _ _ _ _ (stands_step _ _ c.iterate-v.ensures (stands_step _ _ c.iterate-e.ensures q.stands))) c.in_ok-value.was in (
      fits_same _ _ _ c.requires.fits (c.behind.auto.pool ∙ c.expression.auto.pool),
      small_in c.requires (within_step _ _ c.iterate-e.ensures q.stands.within),
      small_in c.requires p.stands.within,
    )

pub pair-returns : goal.pair-returns
unfolding contract.item
pair-returns t c =
    let q = taken c.expression.ensures c.in_ok-key.was in
    let p = taken (c.behind.ensures.1 _ _ _ _ (stands_step _ _ c.iterate-v.ensures (stands_step _ _ c.iterate-e.ensures q.stands))) c.in_ok-value.was in
    by_eq (pair_ended _ _ _ _ _ q.eq (sym c.next_symbol_is.ensures ∙ c.if-not-next_symbol_is.false) c.iterate-e.ensures c.iterate-v.ensures p.eq)
    ((c.put_row.ensures c.args.source.now.tokens.now p.stands.within).1 _ [] _ _ _ _ p.stands (record { few = tt; root = of_node; refs = (q.head, p.head, refl, refl) }))

-- `prefix`: a row around what is behind its operator.
pub prefix-around-requires : goal.prefix-around-requires
prefix-around-requires t c = (falls _ _ _ _ _ _ _ c.decreases (on_step _ _ c.iterate-d.ensures) (lit< tt), (ready_step _ _ c.iterate-d.ensures c.requires, small c.requires))

pub prefix-returns : goal.prefix-returns
unfolding spec.prefix contract.around
prefix-returns t c = sooner (on_step _ _ c.iterate-d.ensures) (rw (← c.iterate-d.ensures) c.around.ensures)

-- `prefix_part`: each token has its arm in the definition, and no other begins an expression.
pub prefix_part-dot_expression-requires : goal.prefix_part-dot_expression-requires
prefix_part-dot_expression-requires t c = (c.requires, word_of c.requires c.current-t.ensures ∙ ap word c.in-Identifier.is)

pub prefix_part-at_keyword-requires : goal.prefix_part-at_keyword-requires
prefix_part-at_keyword-requires t c = (falls _ _ _ _ _ _ _ c.decreases (le_refl _) (lit< tt), (c.requires, word_of c.requires c.current-t.ensures ∙ ap word c.in-Keyword.is))

pub prefix_part-at_symbol-requires : goal.prefix_part-at_symbol-requires
prefix_part-at_symbol-requires t c = (falls _ _ _ _ _ _ _ c.decreases (le_refl _) (lit< tt), (c.requires, word_of c.requires c.current-t.ensures ∙ ap word c.in-Operator.is))

pub prefix_part-returns-in-Identifier : goal.prefix_part-returns-in-Identifier
unfolding spec.prefix_part match choose
prefix_part-returns-in-Identifier t c = rw (word_of c.requires c.current-t.ensures, c.in-Identifier.is) c.dot_expression.ensures

pub prefix_part-returns-in-Integer : goal.prefix_part-returns-in-Integer
unfolding spec.prefix_part match choose
prefix_part-returns-in-Integer t c = rw (word_of c.requires c.current-t.ensures, c.in-Integer.is) (c.leaf.ensures _ c.requires.within)

pub prefix_part-returns-in-Float : goal.prefix_part-returns-in-Float
unfolding spec.prefix_part match choose
prefix_part-returns-in-Float t c = rw (word_of c.requires c.current-t.ensures, c.in-Float.is) (c.leaf-in-Float.ensures _ c.requires.within)

pub prefix_part-returns-in-Char : goal.prefix_part-returns-in-Char
unfolding spec.prefix_part match choose
prefix_part-returns-in-Char t c = rw (word_of c.requires c.current-t.ensures, c.in-Char.is) (c.leaf-in-Char.ensures _ c.requires.within)

pub prefix_part-returns-in-Str : goal.prefix_part-returns-in-Str
unfolding spec.prefix_part match choose
prefix_part-returns-in-Str t c = rw (word_of c.requires c.current-t.ensures, c.in-Str.is) (c.leaf-in-Str.ensures _ c.requires.within)

pub prefix_part-returns-in_default : goal.prefix_part-returns-in_default
prefix_part-returns-in_default t c =
    let n = c.in_default in
    unstarted _ _ _ 11 (word_of c.requires c.current-t.ensures) (token_unstarted c.current-t.result n.not-Integer n.not-Str n.not-Float n.not-Char n.not-Identifier n.not-Operator n.not-Keyword) c.new.ensures

-- `shell`: a row around the command, which is raw behind a dot.
pub shell-around-requires : goal.shell-around-requires
shell-around-requires t c = (
  falls _ _ _ _ _ _ _ c.decreases (le_trans (on_step _ _ c.iterate-d.ensures) (on_step _ _ c.iterate-e.ensures)) (lit< tt),
  (ready_step _ _ c.iterate-e.ensures (ready_step _ _ c.iterate-d.ensures c.requires), small c.requires),
)

pub shell-returns-then-next_symbol_is : goal.shell-returns-then-next_symbol_is
unfolding spec.shell spec.command contract.around
shell-returns-then-next_symbol_is t c =
    sooner (on_step _ _ c.iterate-d.ensures) (sooner (on_step _ _ c.iterate-e.ensures)
    (by_eq (choose_true _ _ (sym c.next_symbol_is.ensures ∙ c.if-next_symbol_is.true)) (rw (← c.iterate-d.ensures, ← c.iterate-e.ensures) c.around.ensures)))

pub shell-around-requires-2 : goal.shell-around-requires-2
shell-around-requires-2 t c = (falls _ _ _ _ _ _ _ c.decreases (on_step _ _ c.iterate-d.ensures) (lit< tt), (ready_step _ _ c.iterate-d.ensures c.requires, small c.requires))

pub shell-returns : goal.shell-returns
unfolding spec.shell spec.command contract.around
shell-returns t c = sooner (on_step _ _ c.iterate-d.ensures) (by_eq (choose_false _ _ (sym c.next_symbol_is.ensures ∙ c.if-next_symbol_is.false)) (rw (← c.iterate-d.ensures) c.around-2.ensures))

-- `started`: an expression that is a call, with a flag in its row.
pub started-expression-requires : goal.started-expression-requires
started-expression-requires t c = (falls _ _ _ _ _ _ _ c.decreases (on_step _ _ c.iterate-e.ensures) (lit< tt), ready_step _ _ c.iterate-e.ensures c.requires)

pub started-returns-in_err-child : goal.started-returns-in_err-child
unfolding spec.started
started-returns-in_err-child t c = rw (← c.iterate-e.ensures) (pass _ c.expression.ensures c.in_err-child.was (exit c.from_residual.ensures.1))

pub started-returns-then-word-code : goal.started-returns-then-word-code
unfolding spec.started
started-returns-then-word-code t c =
    let q = taken c.expression.ensures c.in_ok-child.was in
    refuses _ _ _ (rw (← c.iterate-e.ensures) (then_read _ q.eq ∙ need_failed _ _ _ (is_called _ q.stands ∙ ap (λ (n : ℕ). eqb n 11) (sym c.word.ensures) ∙ ap (eqb c.word.result) (sym c.code.ensures) ∙ ne_eqb _ _ c.if-word-code.true))) c.new.ensures

pub started-returns : goal.started-returns
unfolding spec.started
started-returns t c =
    let q = taken c.expression.ensures c.in_ok-child.was in
    sooner (on_step _ _ c.iterate-e.ensures) (by_eq (rw (← c.iterate-e.ensures) (then_read _ q.eq ∙ need_met _ _ _ (is_called _ q.stands ∙ ap (λ (n : ℕ). eqb n 11) (sym c.word.ensures) ∙ ap (eqb c.word.result) (sym c.code.ensures) ∙ eq-eqb _ _ c.if-word-code.false)))
    (reads_marked _ _ q.stands q.head c.mark.ensures))

-- `sub_exp`: an expression in brackets, with the flag of brackets in its row.
pub sub_exp-returns-then-next_symbol_is : goal.sub_exp-returns-then-next_symbol_is
unfolding spec.sub_expression
sub_exp-returns-then-next_symbol_is t c = refuses _ _ _ (rw (← c.iterate-d.ensures) (need_failed _ _ _ (ap not (sym c.next_symbol_is.ensures ∙ c.if-next_symbol_is.true)))) c.new.ensures

pub sub_exp-expression-requires : goal.sub_exp-expression-requires
sub_exp-expression-requires t c = (falls _ _ _ _ _ _ _ c.decreases (on_step _ _ c.iterate-d.ensures) (lit< tt), ready_step _ _ c.iterate-d.ensures c.requires)

pub sub_exp-returns-in_err-child : goal.sub_exp-returns-in_err-child
unfolding spec.sub_expression
sub_exp-returns-in_err-child t c = rw (← c.iterate-d.ensures) (by_eq (need_met _ _ _ (ap not (sym c.next_symbol_is.ensures ∙ c.if-next_symbol_is.false))) (pass _ c.expression.ensures c.in_err-child.was (exit c.from_residual.ensures.1)))

pub sub_exp-returns-then-not-next_symbol_is : goal.sub_exp-returns-then-not-next_symbol_is
unfolding spec.sub_expression
sub_exp-returns-then-not-next_symbol_is t c =
    let q = taken c.expression.ensures c.in_ok-child.was in
    refuses _ _ _ (rw (← c.iterate-d.ensures) (need_met _ _ _ (ap not (sym c.next_symbol_is.ensures ∙ c.if-next_symbol_is.false)) ∙ then_read _ q.eq ∙ need_failed _ _ _ (sym c.next_symbol_is-2.ensures ∙ c.if-not-next_symbol_is.true))) c.new-then-not-next_symbol_is.ensures

pub sub_exp-returns : goal.sub_exp-returns
unfolding spec.sub_expression
sub_exp-returns t c =
    let q = taken c.expression.ensures c.in_ok-child.was in
    sooner (on_step _ _ c.iterate-d.ensures) (rw (← c.iterate-d.ensures)
    (by_eq (need_met _ _ _ (ap not (sym c.next_symbol_is.ensures ∙ c.if-next_symbol_is.false)) ∙ then_read _ q.eq ∙ need_met _ _ _ (sym c.next_symbol_is-2.ensures ∙ c.if-not-next_symbol_is.false))
    (rw (← c.iterate.ensures) (reads_marked _ _ (stands_step _ _ c.iterate.ensures q.stands) q.head c.mark.ensures))))
