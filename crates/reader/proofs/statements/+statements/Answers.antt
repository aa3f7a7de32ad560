-- The readers of statements meet their contracts.
use Rattle.std.proofs.Common.{[], ap, arith, refl, suc, sym, ◌-◌, ◌∙◌, ◌≡◌}
use borrow.Author.Tests.{eq-eqb}
use Rattle.grammar.specs.Words.{SSemiColon, is, next_is}
use Rattle.grammar.specs.Parsed.{refused, match, choose}
use Rattle.grammar.specs.Statements.{alone, throw, kept, statement, if, while, function, statements, block, opened, level}
use Rattle.tokens.specs.Tokens.{word}
use Rattle.modes.specs.Modes.{by}
use Rattle.reader.specs.Promises.{further, closed, around, body, braced, clause}
use Rattle.reader.proofs.Answers.{by_eq, refuses, need_met, need_failed, sooner, taken, choose_true, choose_false, at_once, pass_on, bounded_tree, bounded_told, bounded_refused, later, read_nothing, read_none, bounds, pass, then_read, exit}
use Rattle.reader.proofs.Moves.{falls, on_step, ready_step, small, fits_same, front_le, le_trans, ready_same, small_in, stands_step, within_step, is_not_end, moves}
use Rattle.reader.proofs.Lists.{by_expression, as_list}
use Rattle.reader.proofs.Shared.{var_as, const_as, else_as, finally_as}
use Rattle.reader.specs.Meets.{of_node}
use Rattle.reader.proofs.Parts.{in_part, back_read, part_length}
use Rattle.reader.proofs.Ends.{not_at_end, begins, passes}
use Rattle.reader.proofs.Matches.{word_of}
use Rattle.reader.proofs.Loops.{starts, stops, turns_on, lengthens}
use Rattle.reader.proofs.Readings.AtKeyword as at_keyword_reading
use Rattle.tokens.specs.declared.Token.TheVariants as token
use Rattle.reader.proofs.Readings.Block as block_reading
use Rattle.reader.proofs.Readings.ForEach as for_each_reading
use Rattle.reader.proofs.Readings.ForLoop as for_loop_reading
use Rattle.reader.proofs.Readings.Function as function_reading
use Rattle.reader.proofs.Readings.IfStatement as if_statement_reading
use Rattle.reader.proofs.Readings.TryStatement as try_statement_reading
use Rattle.reader.proofs.Readings.WhileStatement as while_statement_reading
use mathlib.Core.Bool.{and-eq-true_iff}
use Rattle.reader.proofs.Rests.{Other, some_keyword, some_token, plain_token, plain_keyword}
use Rattle.reader.proofs.statements.+statements.Goals as goal

-- `at_keyword` meets its contract: each keyword of a statement has its arm in the definition, and any other begins an expression.

pub at_keyword-returns-then-ends_too_soon : goal.at_keyword-returns-then-ends_too_soon
at_keyword-returns-then-ends_too_soon t c =
    let both = (and-eq-true_iff (further (word (token.Keyword c.args.k))) (next_is c.args.source.now.tokens.now c.args.c SSemiColon)).0 (sym c.ends_too_soon.ensures ∙ c.if-ends_too_soon.true) in
    refuses _ _ _ (at_keyword_reading.stops _ _ _ _ _ _ both.1 (rw c.requires.1 both.0)) (rw c.iterate-d.ensures at c.new.ensures)

pub at_keyword-var_or_const-requires : goal.at_keyword-var_or_const-requires
at_keyword-var_or_const-requires t c = ready_step _ _ c.iterate-d.ensures c.requires.0

pub at_keyword-var_or_const-requires-in-KConst : goal.at_keyword-var_or_const-requires-in-KConst
at_keyword-var_or_const-requires-in-KConst t c = ready_step _ _ c.iterate-d.ensures c.requires.0

pub at_keyword-function-requires : goal.at_keyword-function-requires
at_keyword-function-requires t c = (falls _ _ _ _ _ _ _ c.decreases (on_step _ _ c.iterate-d.ensures) (omega arith), ready_step _ _ c.iterate-d.ensures c.requires.0)

pub at_keyword-around-requires : goal.at_keyword-around-requires
at_keyword-around-requires t c = (ready_step _ _ c.iterate-d.ensures c.requires.0, small c.requires.0)

pub at_keyword-returns-in-KBreak : goal.at_keyword-returns-in-KBreak
unfolding kept match choose alone closed
at_keyword-returns-in-KBreak t c = rw (c.requires.1, c.in-KBreak.is) c.alone.ensures

pub at_keyword-returns-in-KContinue : goal.at_keyword-returns-in-KContinue
unfolding kept match choose alone closed
at_keyword-returns-in-KContinue t c = rw (c.requires.1, c.in-KContinue.is) c.alone-in-KContinue.ensures

pub at_keyword-returns-in-KVar : goal.at_keyword-returns-in-KVar
unfolding further
at_keyword-returns-in-KVar t c =
    by_eq (at_keyword_reading.goes_on _ _ _ _ _ _ _ (at_keyword_reading.at_var _ _ _ _ _ _) c.requires.1 c.in-KVar.is refl (sym c.ends_too_soon.ensures ∙ c.if-ends_too_soon.false) ∙ var_as _ _ _ _ _ _)
    (sooner (on_step _ _ c.iterate-d.ensures) (rw (← c.iterate-d.ensures) c.var_or_const.ensures))

pub at_keyword-returns-in-KConst : goal.at_keyword-returns-in-KConst
unfolding further
at_keyword-returns-in-KConst t c =
    by_eq (at_keyword_reading.goes_on _ _ _ _ _ _ _ (at_keyword_reading.at_const _ _ _ _ _ _) c.requires.1 c.in-KConst.is refl (sym c.ends_too_soon.ensures ∙ c.if-ends_too_soon.false) ∙ const_as _ _ _ _ _ _)
    (sooner (on_step _ _ c.iterate-d.ensures) (rw (← c.iterate-d.ensures) c.var_or_const-in-KConst.ensures))

pub at_keyword-returns-in-KIf : goal.at_keyword-returns-in-KIf
unfolding further
at_keyword-returns-in-KIf t c =
    by_eq (at_keyword_reading.goes_on _ _ _ _ _ _ _ (at_keyword_reading.at_if _ _ _ _ _ _) c.requires.1 c.in-KIf.is refl (sym c.ends_too_soon.ensures ∙ c.if-ends_too_soon.false))
    c.if_statement.ensures

pub at_keyword-returns-in-KAssert : goal.at_keyword-returns-in-KAssert
unfolding further
at_keyword-returns-in-KAssert t c =
    by_eq (at_keyword_reading.goes_on _ _ _ _ _ _ _ (at_keyword_reading.at_assert _ _ _ _ _ _) c.requires.1 c.in-KAssert.is refl (sym c.ends_too_soon.ensures ∙ c.if-ends_too_soon.false))
    c.assert_statement.ensures

pub at_keyword-returns-in-KWhile : goal.at_keyword-returns-in-KWhile
unfolding further
at_keyword-returns-in-KWhile t c =
    by_eq (at_keyword_reading.goes_on _ _ _ _ _ _ _ (at_keyword_reading.at_while _ _ _ _ _ _) c.requires.1 c.in-KWhile.is refl (sym c.ends_too_soon.ensures ∙ c.if-ends_too_soon.false))
    c.while_statement.ensures

pub at_keyword-returns-in-KReturn : goal.at_keyword-returns-in-KReturn
unfolding kept match choose
at_keyword-returns-in-KReturn t c = rw (c.requires.1, c.in-KReturn.is) c.return_statement.ensures

pub at_keyword-returns-in-KFunc : goal.at_keyword-returns-in-KFunc
unfolding further
at_keyword-returns-in-KFunc t c =
    by_eq (at_keyword_reading.goes_on _ _ _ _ _ _ _ (at_keyword_reading.at_function _ _ _ _ _ _) c.requires.1 c.in-KFunc.is refl (sym c.ends_too_soon.ensures ∙ c.if-ends_too_soon.false))
    (sooner (on_step _ _ c.iterate-d.ensures) (rw (← c.iterate-d.ensures) c.function.ensures))

pub at_keyword-returns-in-KFor : goal.at_keyword-returns-in-KFor
unfolding further
at_keyword-returns-in-KFor t c =
    by_eq (at_keyword_reading.goes_on _ _ _ _ _ _ _ (at_keyword_reading.at_for _ _ _ _ _ _) c.requires.1 c.in-KFor.is refl (sym c.ends_too_soon.ensures ∙ c.if-ends_too_soon.false))
    c.for_loop.ensures

pub at_keyword-returns-in-KThrow : goal.at_keyword-returns-in-KThrow
unfolding further throw around
at_keyword-returns-in-KThrow t c =
    by_eq (at_keyword_reading.goes_on _ _ _ _ _ _ _ (at_keyword_reading.at_throw _ _ _ _ _ _) c.requires.1 c.in-KThrow.is refl (sym c.ends_too_soon.ensures ∙ c.if-ends_too_soon.false))
    (sooner (on_step _ _ c.iterate-d.ensures) (rw (← c.iterate-d.ensures) c.around.ensures))

pub at_keyword-returns-in-KTry : goal.at_keyword-returns-in-KTry
unfolding further
at_keyword-returns-in-KTry t c =
    by_eq (at_keyword_reading.goes_on _ _ _ _ _ _ _ (at_keyword_reading.at_try _ _ _ _ _ _) c.requires.1 c.in-KTry.is refl (sym c.ends_too_soon.ensures ∙ c.if-ends_too_soon.false))
    c.try_statement.ensures

pub at_keyword-returns-in-KForEach : goal.at_keyword-returns-in-KForEach
unfolding further
at_keyword-returns-in-KForEach t c =
    by_eq (at_keyword_reading.goes_on _ _ _ _ _ _ _ (at_keyword_reading.at_foreach _ _ _ _ _ _) c.requires.1 c.in-KForEach.is refl (sym c.ends_too_soon.ensures ∙ c.if-ends_too_soon.false))
    c.for_each.ensures

pub at_keyword-returns-in_default : goal.at_keyword-returns-in_default
at_keyword-returns-in_default t c =
    let other : Other c.args.k = record {
      not_break = c.in_default.not-KBreak;
      not_continue = c.in_default.not-KContinue;
      not_var = c.in_default.not-KVar;
      not_const = c.in_default.not-KConst;
      not_if = c.in_default.not-KIf;
      not_assert = c.in_default.not-KAssert;
      not_while = c.in_default.not-KWhile;
      not_return = c.in_default.not-KReturn;
      not_func = c.in_default.not-KFunc;
      not_for = c.in_default.not-KFor;
      not_throw = c.in_default.not-KThrow;
      not_try = c.in_default.not-KTry;
      not_for_each = c.in_default.not-KForEach;
    } in
    by_expression _ _ _ _ c.requires.1 (plain_keyword c.args.k other) c.around-in_default.ensures

-- `block` meets its contract: nothing between its signs, or a statement and those behind it up to the closing brace.

pub block-put_row-requires : goal.block-put_row-requires
block-put_row-requires t c = (c.requires.fits, small_in c.requires (within_step _ _ c.iterate-d.ensures c.requires.within), small_in c.requires (within_step _ _ c.iterate-e.ensures (within_step _ _ c.iterate-d.ensures c.requires.within)))

pub block-returns-then-next_symbol_is : goal.block-returns-then-next_symbol_is
unfolding block opened
block-returns-then-next_symbol_is t c =
    rw (← c.iterate-d.ensures) (by_eq (choose_true _ _ (sym c.next_symbol_is.ensures ∙ c.if-next_symbol_is.true)) (rw (← c.iterate-e.ensures)
    ((c.put_row.ensures c.args.source.now.tokens.now (within_step _ _ c.iterate-e.ensures (within_step _ _ c.iterate-d.ensures c.requires.within))).1 _ [] _ _ _ _ (stands_step _ _ c.iterate-e.ensures (stands_step _ _ c.iterate-d.ensures (at_once _ _ c.requires.within)))
    (record { few = tt; root = of_node; refs = (refl, refl, refl, refl) }))))

pub block-statement-requires : goal.block-statement-requires
block-statement-requires t c = (falls _ _ _ _ _ _ _ c.decreases (le_trans (on_step _ _ c.iterate-d.ensures) (on_step _ _ c.iterate-e.ensures)) (omega arith), ready_step _ _ c.iterate-e.ensures (ready_step _ _ c.iterate-d.ensures c.requires))

pub block-returns-in_err-one : goal.block-returns-in_err-one
block-returns-in_err-one t c = pass_on (block_reading.first _ _ _ _ _ _ c.iterate-d.ensures (sym c.next_symbol_is.ensures ∙ c.if-next_symbol_is.false) c.iterate-e.ensures) c.statement.ensures c.in_err-one.was (exit c.from_residual.ensures.1)

pub block-statements-requires : goal.block-statements-requires
block-statements-requires t c =
    let read_1 = taken c.statement.ensures c.in_ok-one.was in (
      falls _ _ _ _ _ _ _ c.decreases (le_trans (on_step _ _ c.iterate-d.ensures) (le_trans (on_step _ _ c.iterate-e.ensures) (le_trans read_1.stands.on (on_step _ _ c.iterate-g.ensures)))) (omega arith),
      (ready_step _ _ c.iterate-g.ensures (ready_same c.requires c.statement.auto.pool read_1.stands.within), front_le read_1.stands.front),
    )

pub block-returns-in_err-all : goal.block-returns-in_err-all
block-returns-in_err-all t c =
    let read_1 = taken c.statement.ensures c.in_ok-one.was in
    pass_on (block_reading.second _ _ _ _ _ _ c.iterate-d.ensures (sym c.next_symbol_is.ensures ∙ c.if-next_symbol_is.false) c.iterate-e.ensures read_1.eq c.iterate-g.ensures) (c.statements.ensures.1 _ _ _ _ (stands_step _ _ c.iterate-g.ensures read_1.stands) read_1.head) c.in_err-all.was (exit c.from_residual-in_err-all.ensures.1)

pub block-put_row-requires-2 : goal.block-put_row-requires-2
block-put_row-requires-2 t c =
    let read_1 = taken c.statement.ensures c.in_ok-one.was in
    let read_2 = taken (c.statements.ensures.1 _ _ _ _ (stands_step _ _ c.iterate-g.ensures read_1.stands) read_1.head) c.in_ok-all.was in
    (fits_same _ _ _ c.requires.fits (c.statements.auto.pool ∙ c.statement.auto.pool), small_in c.requires (within_step _ _ c.iterate-d.ensures c.requires.within), small_in c.requires read_2.stands.within)

pub block-returns : goal.block-returns
block-returns t c =
    let read_1 = taken c.statement.ensures c.in_ok-one.was in
    let read_2 = taken (c.statements.ensures.1 _ _ _ _ (stands_step _ _ c.iterate-g.ensures read_1.stands) read_1.head) c.in_ok-all.was in
    sooner (le_trans (on_step _ _ c.iterate-d.ensures) (on_step _ _ c.iterate-e.ensures)) (by_eq (block_reading.ended _ _ _ _ _ _ c.iterate-d.ensures (sym c.next_symbol_is.ensures ∙ c.if-next_symbol_is.false) c.iterate-e.ensures read_1.eq c.iterate-g.ensures read_2.eq)
    ((c.put_row-2.ensures c.args.source.now.tokens.now read_2.stands.within).1 _ [] _ _ _ _ read_2.stands (record { few = tt; root = of_node; refs = (read_2.head, refl, refl, refl) })))

-- `block_behind` meets its contract: a block in the part that is lent from the first free row on.

pub block_behind-returns : goal.block_behind-returns
block_behind-returns t c =
    let read_1 = taken (rw c.end-i.ensures at c.block.ensures) c.in_ok-one.was in (
      bounded_tree (omega (arith, read_1.stands.front.fit, part_length c.args.rows c.args.pool.now, c.requires.1)) read_1.stands.on read_1.stands.within,
      λ from slots zs left s. rw c.end-i.ensures (back_read s (in_part (block _ _ _ _ c.args.c) s (rw c.end-i.ensures at c.block.ensures)) c.in_ok-one.was),
    )

-- `body` meets its contract: the sign, and the block in braces behind it.

pub body-returns-then-not-next_symbol_is : goal.body-returns-then-not-next_symbol_is
unfolding body
body-returns-then-not-next_symbol_is t c = (bounded_refused, λ from slots zs left s. refuses _ _ _ (need_failed _ _ _ (sym c.next_symbol_is.ensures ∙ c.if-not-next_symbol_is.true)) c.new.ensures)

pub body-braced-requires : goal.body-braced-requires
body-braced-requires t c = (falls _ _ _ _ _ _ _ c.decreases (on_step _ _ c.iterate-d.ensures) (omega arith), (ready_step _ _ c.iterate-d.ensures c.requires.0, c.requires.1))

pub body-returns : goal.body-returns
unfolding body
body-returns t c = (
  later refl (on_step _ _ c.iterate-d.ensures) c.braced.ensures.0,
  λ from slots zs left s. by_eq (need_met _ _ _ (sym c.next_symbol_is.ensures ∙ c.if-not-next_symbol_is.false)) (rw (← c.iterate-d.ensures) (c.braced.ensures.1 _ _ _ _ (stands_step _ _ c.iterate-d.ensures s))),
)

-- `braced` meets its contract: an opening brace that comes next, and the block.

pub braced-returns-then-not-comes : goal.braced-returns-then-not-comes
unfolding braced
braced-returns-then-not-comes t c = (bounded_refused, λ from slots zs left s. refuses _ _ _ (need_failed _ _ _ (sym c.comes.ensures ∙ c.if-not-comes.true)) c.new.ensures)

pub braced-returns : goal.braced-returns
unfolding braced
braced-returns t c =
    (c.block_behind.ensures.0, λ from slots zs left s. by_eq (need_met _ _ _ (sym c.comes.ensures ∙ c.if-not-comes.false)) (c.block_behind.ensures.1 _ _ _ _ s))

-- `clause` meets its contract: the block of a keyword, or none.

pub clause-returns-then-not-next_keyword_is : goal.clause-returns-then-not-next_keyword_is
unfolding clause
clause-returns-then-not-next_keyword_is t c = (
  bounded_tree c.requires.1 (omega arith) c.requires.0.within,
  λ from slots zs left s. by_eq (choose_false _ _ (sym c.next_keyword_is.ensures ∙ c.if-not-next_keyword_is.true)) (read_nothing s),
)

pub clause-braced-requires : goal.clause-braced-requires
clause-braced-requires t c = (falls _ _ _ _ _ _ _ c.decreases (on_step _ _ c.iterate-d.ensures) (omega arith), (ready_step _ _ c.iterate-d.ensures c.requires.0, c.requires.1))

pub clause-returns : goal.clause-returns
unfolding clause
clause-returns t c = (
  later refl (on_step _ _ c.iterate-d.ensures) c.braced.ensures.0,
  λ from slots zs left s. by_eq (choose_true _ _ (sym c.next_keyword_is.ensures ∙ c.if-not-next_keyword_is.false)) (rw (← c.iterate-d.ensures)
      (as_list (c.braced.ensures.1 _ _ _ _ (stands_step _ _ c.iterate-d.ensures s)))),
)

-- `for_each` meets its contract: what it runs over, an index, an element, and the body behind them.

pub for_each-expression-requires : goal.for_each-expression-requires
for_each-expression-requires t c = ready_step _ _ c.iterate-d.ensures c.requires

pub for_each-returns-in_err-over : goal.for_each-returns-in_err-over
for_each-returns-in_err-over t c = pass_on (for_each_reading.first _ _ _ _ _ _ c.iterate-d.ensures) c.expression.ensures c.in_err-over.was (exit c.from_residual.ensures.1)

pub for_each-returns-in_err-position : goal.for_each-returns-in_err-position
for_each-returns-in_err-position t c =
    let read_1 = taken c.expression.ensures c.in_ok-over.was in
    pass_on (for_each_reading.second _ _ _ _ _ _ c.iterate-d.ensures read_1.eq) (c.behind_sign.ensures.1 _ _ _ _ read_1.stands) c.in_err-position.was (exit c.from_residual-in_err-position.ensures.1)

pub for_each-returns-in_err-element : goal.for_each-returns-in_err-element
for_each-returns-in_err-element t c =
    let read_1 = taken c.expression.ensures c.in_ok-over.was in
    let read_2 = taken (c.behind_sign.ensures.1 _ _ _ _ read_1.stands) c.in_ok-position.was in
    pass_on (for_each_reading.third _ _ _ _ _ _ c.iterate-d.ensures read_1.eq read_2.eq) (c.behind_sign-2.ensures.1 _ _ _ _ read_2.stands) c.in_err-element.was (exit c.from_residual-in_err-element.ensures.1)

pub for_each-body-requires : goal.for_each-body-requires
for_each-body-requires t c =
    let read_1 = taken c.expression.ensures c.in_ok-over.was in
    let read_2 = taken (c.behind_sign.ensures.1 _ _ _ _ read_1.stands) c.in_ok-position.was in
    let read_3 = taken (c.behind_sign-2.ensures.1 _ _ _ _ read_2.stands) c.in_ok-element.was in
    (falls _ _ _ _ _ _ _ c.decreases (le_trans (on_step _ _ c.iterate-d.ensures) read_3.stands.on) (omega arith), (ready_same c.requires (c.behind_sign-2.auto.pool ∙ c.behind_sign.auto.pool ∙ c.expression.auto.pool) read_3.stands.within, front_le read_3.stands.front))

pub for_each-returns-in_err-inner : goal.for_each-returns-in_err-inner
for_each-returns-in_err-inner t c =
    let read_1 = taken c.expression.ensures c.in_ok-over.was in
    let read_2 = taken (c.behind_sign.ensures.1 _ _ _ _ read_1.stands) c.in_ok-position.was in
    let read_3 = taken (c.behind_sign-2.ensures.1 _ _ _ _ read_2.stands) c.in_ok-element.was in
    pass_on (for_each_reading.fourth _ _ _ _ _ _ c.iterate-d.ensures read_1.eq read_2.eq read_3.eq) (c.body.ensures.1 _ _ _ _ read_3.stands) c.in_err-inner.was (exit c.from_residual-in_err-inner.ensures.1)

pub for_each-returns : goal.for_each-returns
for_each-returns t c =
    let read_1 = taken c.expression.ensures c.in_ok-over.was in
    let read_2 = taken (c.behind_sign.ensures.1 _ _ _ _ read_1.stands) c.in_ok-position.was in
    let read_3 = taken (c.behind_sign-2.ensures.1 _ _ _ _ read_2.stands) c.in_ok-element.was in
    let read_4 = taken (c.body.ensures.1 _ _ _ _ read_3.stands) c.in_ok-inner.was in
    sooner (on_step _ _ c.iterate-d.ensures) (by_eq (for_each_reading.ended _ _ _ _ _ _ c.iterate-d.ensures read_1.eq read_2.eq read_3.eq read_4.eq)
    ((c.put_row.ensures c.args.source.now.tokens.now read_4.stands.within).1 _ [] _ _ _ _ read_4.stands (record { few = tt; root = of_node; refs = (read_1.head, read_2.head, read_3.head, read_4.head) })))

-- `for_loop` meets its contract: a target, what it runs over, and the body behind them.

pub for_loop-expression-requires : goal.for_loop-expression-requires
for_loop-expression-requires t c = ready_step _ _ c.iterate-d.ensures c.requires

pub for_loop-returns-in_err-target : goal.for_loop-returns-in_err-target
for_loop-returns-in_err-target t c = pass_on (for_loop_reading.first _ _ _ _ _ _ c.iterate-d.ensures) c.expression.ensures c.in_err-target.was (exit c.from_residual.ensures.1)

pub for_loop-returns-in_err-over : goal.for_loop-returns-in_err-over
for_loop-returns-in_err-over t c =
    let read_1 = taken c.expression.ensures c.in_ok-target.was in
    pass_on (for_loop_reading.second _ _ _ _ _ _ c.iterate-d.ensures read_1.eq) (c.behind_sign.ensures.1 _ _ _ _ read_1.stands) c.in_err-over.was (exit c.from_residual-in_err-over.ensures.1)

pub for_loop-body-requires : goal.for_loop-body-requires
for_loop-body-requires t c =
    let read_1 = taken c.expression.ensures c.in_ok-target.was in
    let read_2 = taken (c.behind_sign.ensures.1 _ _ _ _ read_1.stands) c.in_ok-over.was in
    (falls _ _ _ _ _ _ _ c.decreases (le_trans (on_step _ _ c.iterate-d.ensures) read_2.stands.on) (omega arith), (ready_same c.requires (c.behind_sign.auto.pool ∙ c.expression.auto.pool) read_2.stands.within, front_le read_2.stands.front))

pub for_loop-returns-in_err-inner : goal.for_loop-returns-in_err-inner
for_loop-returns-in_err-inner t c =
    let read_1 = taken c.expression.ensures c.in_ok-target.was in
    let read_2 = taken (c.behind_sign.ensures.1 _ _ _ _ read_1.stands) c.in_ok-over.was in
    pass_on (for_loop_reading.third _ _ _ _ _ _ c.iterate-d.ensures read_1.eq read_2.eq) (c.body.ensures.1 _ _ _ _ read_2.stands) c.in_err-inner.was (exit c.from_residual-in_err-inner.ensures.1)

pub for_loop-returns : goal.for_loop-returns
for_loop-returns t c =
    let read_1 = taken c.expression.ensures c.in_ok-target.was in
    let read_2 = taken (c.behind_sign.ensures.1 _ _ _ _ read_1.stands) c.in_ok-over.was in
    let read_3 = taken (c.body.ensures.1 _ _ _ _ read_2.stands) c.in_ok-inner.was in
    sooner (on_step _ _ c.iterate-d.ensures) (by_eq (for_loop_reading.ended _ _ _ _ _ _ c.iterate-d.ensures read_1.eq read_2.eq read_3.eq)
    ((c.put_row.ensures c.args.source.now.tokens.now read_3.stands.within).1 _ [] _ _ _ _ read_3.stands (record { few = tt; root = of_node; refs = (read_1.head, read_2.head, read_3.head, refl) })))

-- `function` meets its contract: a name, parameters in brackets, and the body behind them.

pub function-returns-then-not-is_identifier : goal.function-returns-then-not-is_identifier
unfolding function
function-returns-then-not-is_identifier t c = refuses _ _ _ (need_failed _ _ _ (sym c.is_identifier.ensures ∙ c.if-not-is_identifier.true)) c.new.ensures

pub function-returns-then-not-next_symbol_is : goal.function-returns-then-not-next_symbol_is
unfolding function
function-returns-then-not-next_symbol_is t c = refuses _ _ _ (need_met _ _ _ (sym c.is_identifier.ensures ∙ c.if-not-is_identifier.false) ∙ need_failed _ _ _ (sym c.next_symbol_is.ensures ∙ c.if-not-next_symbol_is.true)) c.new-then-not-next_symbol_is.ensures

pub function-enclosed-requires : goal.function-enclosed-requires
function-enclosed-requires t c = ready_step _ _ c.iterate-d.ensures c.requires

pub function-returns-in_err-parameters : goal.function-returns-in_err-parameters
function-returns-in_err-parameters t c = pass_on (function_reading.first _ _ _ _ _ _ (sym c.is_identifier.ensures ∙ c.if-not-is_identifier.false) (sym c.next_symbol_is.ensures ∙ c.if-not-next_symbol_is.false) c.iterate-d.ensures) c.enclosed.ensures c.in_err-parameters.was (exit c.from_residual.ensures.1)

pub function-braced-requires : goal.function-braced-requires
function-braced-requires t c =
    let read_1 = taken c.enclosed.ensures c.in_ok-parameters.was in
    (falls _ _ _ _ _ _ _ c.decreases (le_trans (on_step _ _ c.iterate-d.ensures) read_1.stands.on) (omega arith), (ready_same c.requires c.enclosed.auto.pool read_1.stands.within, front_le read_1.stands.front))

pub function-returns-in_err-inner : goal.function-returns-in_err-inner
function-returns-in_err-inner t c =
    let read_1 = taken c.enclosed.ensures c.in_ok-parameters.was in
    pass_on (function_reading.second _ _ _ _ _ _ (sym c.is_identifier.ensures ∙ c.if-not-is_identifier.false) (sym c.next_symbol_is.ensures ∙ c.if-not-next_symbol_is.false) c.iterate-d.ensures read_1.eq) (c.braced.ensures.1 _ _ _ _ read_1.stands) c.in_err-inner.was (exit c.from_residual-in_err-inner.ensures.1)

pub function-returns : goal.function-returns
function-returns t c =
    let read_1 = taken c.enclosed.ensures c.in_ok-parameters.was in
    let read_2 = taken (c.braced.ensures.1 _ _ _ _ read_1.stands) c.in_ok-inner.was in
    sooner (on_step _ _ c.iterate-d.ensures) (by_eq (function_reading.ended _ _ _ _ _ _ (sym c.is_identifier.ensures ∙ c.if-not-is_identifier.false) (sym c.next_symbol_is.ensures ∙ c.if-not-next_symbol_is.false) c.iterate-d.ensures read_1.eq read_2.eq)
    ((c.put_row.ensures c.args.source.now.tokens.now read_2.stands.within).1 _ [] _ _ _ _ read_2.stands (record { few = tt; root = of_node; refs = (read_1.head, read_2.head, refl, refl) })))

-- `if_statement` meets its contract: the condition in brackets, the body behind it, and the block of an else or none.

pub if_statement-returns-then-not-next_symbol_is : goal.if_statement-returns-then-not-next_symbol_is
unfolding if
if_statement-returns-then-not-next_symbol_is t c = refuses _ _ _ (need_failed _ _ _ (sym c.next_symbol_is.ensures ∙ c.if-not-next_symbol_is.true) ∙ ap (refused _) (sym c.iterate-d.ensures)) c.new.ensures

pub if_statement-expression-requires : goal.if_statement-expression-requires
if_statement-expression-requires t c = ready_step _ _ c.iterate-e.ensures (ready_step _ _ c.iterate-d.ensures c.requires)

pub if_statement-returns-in_err-condition : goal.if_statement-returns-in_err-condition
if_statement-returns-in_err-condition t c = pass_on (if_statement_reading.first _ _ _ _ _ _ (sym c.next_symbol_is.ensures ∙ c.if-not-next_symbol_is.false) c.iterate-d.ensures c.iterate-e.ensures) c.expression.ensures c.in_err-condition.was (exit c.from_residual.ensures.1)

pub if_statement-body-requires : goal.if_statement-body-requires
if_statement-body-requires t c =
    let read_1 = taken c.expression.ensures c.in_ok-condition.was in
    (falls _ _ _ _ _ _ _ c.decreases (le_trans (on_step _ _ c.iterate-d.ensures) (le_trans (on_step _ _ c.iterate-e.ensures) read_1.stands.on)) (omega arith), (ready_same c.requires c.expression.auto.pool read_1.stands.within, front_le read_1.stands.front))

pub if_statement-returns-in_err-inner : goal.if_statement-returns-in_err-inner
if_statement-returns-in_err-inner t c =
    let read_1 = taken c.expression.ensures c.in_ok-condition.was in
    pass_on (if_statement_reading.second _ _ _ _ _ _ (sym c.next_symbol_is.ensures ∙ c.if-not-next_symbol_is.false) c.iterate-d.ensures c.iterate-e.ensures read_1.eq) (c.body.ensures.1 _ _ _ _ read_1.stands) c.in_err-inner.was (exit c.from_residual-in_err-inner.ensures.1)

pub if_statement-clause-requires : goal.if_statement-clause-requires
if_statement-clause-requires t c =
    let read_1 = taken c.expression.ensures c.in_ok-condition.was in
    let read_2 = taken (c.body.ensures.1 _ _ _ _ read_1.stands) c.in_ok-inner.was in
    (falls _ _ _ _ _ _ _ c.decreases (le_trans (on_step _ _ c.iterate-d.ensures) (le_trans (on_step _ _ c.iterate-e.ensures) read_2.stands.on)) (omega arith), (ready_same c.requires (c.body.auto.pool ∙ c.expression.auto.pool) read_2.stands.within, front_le read_2.stands.front))

pub if_statement-returns-in_err-other : goal.if_statement-returns-in_err-other
if_statement-returns-in_err-other t c =
    let read_1 = taken c.expression.ensures c.in_ok-condition.was in
    let read_2 = taken (c.body.ensures.1 _ _ _ _ read_1.stands) c.in_ok-inner.was in
    pass_on (if_statement_reading.third _ _ _ _ _ _ (sym c.next_symbol_is.ensures ∙ c.if-not-next_symbol_is.false) c.iterate-d.ensures c.iterate-e.ensures read_1.eq read_2.eq) (by_eq (else_as _ _ _ _ _ _) (c.clause.ensures.1 _ _ _ _ read_2.stands)) c.in_err-other.was (exit c.from_residual-in_err-other.ensures.1)

pub if_statement-returns : goal.if_statement-returns
if_statement-returns t c =
    let read_1 = taken c.expression.ensures c.in_ok-condition.was in
    let read_2 = taken (c.body.ensures.1 _ _ _ _ read_1.stands) c.in_ok-inner.was in
    let read_3 = taken (by_eq (else_as _ _ _ _ _ _) (c.clause.ensures.1 _ _ _ _ read_2.stands)) c.in_ok-other.was in
    sooner (le_trans (on_step _ _ c.iterate-d.ensures) (on_step _ _ c.iterate-e.ensures)) (by_eq (if_statement_reading.ended _ _ _ _ _ _ (sym c.next_symbol_is.ensures ∙ c.if-not-next_symbol_is.false) c.iterate-d.ensures c.iterate-e.ensures read_1.eq read_2.eq read_3.eq)
    ((c.put_row.ensures c.args.source.now.tokens.now read_3.stands.within).1 _ [] _ _ _ _ read_3.stands (record { few = tt; root = of_node; refs = (read_1.head, read_2.head, read_3.head, refl) })))

-- `one_behind` meets its contract: a statement in the part that is lent from the first free row on.

pub one_behind-returns : goal.one_behind-returns
one_behind-returns t c =
    let read_1 = taken (rw c.end-i.ensures at c.statement.ensures) c.in_ok-one.was in (
      record { begun = not_at_end _ _ _ _ _ read_1.eq },
      (
        bounded_tree (omega (arith, read_1.stands.front.fit, part_length c.args.rows c.args.pool.now, c.requires.1)) read_1.stands.on read_1.stands.within,
        λ from slots zs left s. rw c.end-i.ensures (back_read s (in_part (statement (by c.args.source.now.mode) c.args.source.now.tokens.now c.args.allow c.args.c) s (rw c.end-i.ensures at c.statement.ensures)) c.in_ok-one.was),
      ),
    )

-- `statement` meets its contract: refused where no more may be open; else nothing, a statement by its keyword, or an expression.

pub statement-returns-then-allow-eq0 : goal.statement-returns-then-allow-eq0
unfolding statement
statement-returns-then-allow-eq0 t c = refuses _ _ _ (rw c.if-allow-eq0.true) c.new.ensures

pub statement-at_keyword-requires : goal.statement-at_keyword-requires
statement-at_keyword-requires t c = (omega (arith, c.decreases, c.if-allow-eq0.false), (c.requires, word_of c.requires c.current-t.ensures ∙ ap word c.in-Keyword.is))

pub statement-returns-in-Empty : goal.statement-returns-in-Empty
unfolding statement level is
statement-returns-in-Empty t c = let more : c.args.allow ≡ suc (c.args.allow - 1) = omega (arith, c.if-allow-eq0.false) in rw (more, c.nothing.ensures) (by_eq (choose_true _ _ (eq-eqb _ _ (word_of c.requires c.current-t.ensures ∙ ap word c.in-Empty.is))) (read_none _ _ c.requires.within))

pub statement-returns-in-Keyword : goal.statement-returns-in-Keyword
unfolding statement level is
statement-returns-in-Keyword t c =
    let more : c.args.allow ≡ suc (c.args.allow - 1) = omega (arith, c.if-allow-eq0.false) in
    let w = word_of c.requires c.current-t.ensures ∙ ap word c.in-Keyword.is in
    rw more (by_eq (choose_false _ _ (rw w (some_keyword c.in-Keyword.k))) (as_list c.at_keyword.ensures))

pub statement-returns-in_default : goal.statement-returns-in_default
unfolding statement level is
statement-returns-in_default t c =
    let more : c.args.allow ≡ suc (c.args.allow - 1) = omega (arith, c.if-allow-eq0.false) in
    let w = word_of c.requires c.current-t.ensures in
    rw more (by_eq (choose_false _ _ (rw w (some_token c.current-t.result c.in_default.not-Empty)))
    (as_list (by_expression _ _ _ _ w (plain_token c.current-t.result c.in_default.not-Keyword) c.around.ensures)))

-- `statements` meets its contract: the list so far is in the first rows; a semicolon is passed over, and a statement linked behind it.

pub statements-loop-close-init : goal.statements-loop-close-init
statements-loop-close-init t c =
    record { same = refl; fit = c.requires.1; on = omega arith; within = c.requires.0.within; state = λ from us zs left s e. starts _ us c.requires.0.sound.few s e }

pub statements-loop-close-smaller-then-current_symbol_is : goal.statements-loop-close-smaller-then-current_symbol_is
statements-loop-close-smaller-then-current_symbol_is t c = omega (arith, moves c.requires.0.sound c.loop-close.invariant.within (is_not_end _ _ SSemiColon (sym c.current_symbol_is.ensures ∙ c.if-current_symbol_is.true) refl), c.iterate.ensures, c.loop-close.invariant.within)

pub statements-loop-close-preserved-then-current_symbol_is : goal.statements-loop-close-preserved-then-current_symbol_is
unfolding statements
statements-loop-close-preserved-then-current_symbol_is t c =
    record {
      same = c.loop-close.invariant.same;
      fit = c.loop-close.invariant.fit;
      on = le_trans c.loop-close.invariant.on (on_step _ _ c.iterate.ensures);
      within = within_step _ _ c.iterate.ensures c.loop-close.invariant.within;
      state = λ from us zs left s e. let w = c.loop-close.invariant.state from us zs left s e in
          turns_on w w.value w.left (choose_false _ _ (sym c.current_is.ensures ∙ c.loop-close-test.true) ∙ choose_true _ _ (sym c.current_symbol_is.ensures ∙ c.if-current_symbol_is.true) ∙ rw (← c.iterate.ensures)) (omega (arith, moves c.requires.0.sound c.loop-close.invariant.within (is_not_end _ _ SSemiColon (sym c.current_symbol_is.ensures ∙ c.if-current_symbol_is.true) refl), c.iterate.ensures)) w.head (stands_step _ _ c.iterate.ensures w.stands);
    }

pub statements-returns-in_err-one : goal.statements-returns-in_err-one
unfolding statements
statements-returns-in_err-one t c = (bounded_told (exit c.from_residual.ensures.1), λ from us zs left s e. let w = c.loop-close.invariant.state from us zs left s e in by_eq (w.eq ∙ choose_false _ _ (sym c.current_is.ensures ∙ c.loop-close-test.true) ∙ choose_false _ _ (sym c.current_symbol_is.ensures ∙ c.if-current_symbol_is.false)) (pass _ (c.one_behind.ensures.1.1 _ _ _ _ w.stands) c.in_err-one.was (exit c.from_residual.ensures.1)))

pub statements-loop-close-smaller : goal.statements-loop-close-smaller
statements-loop-close-smaller t c = let b = bounds c.one_behind.ensures.1.0 c.in_ok-one.was in omega (arith, passes c.requires.0.sound b.on b.within (begins c.one_behind.ensures.0 c.in_ok-one.was), c.iterate-else-current_symbol_is.ensures, within_step _ _ c.iterate-else-current_symbol_is.ensures b.within)

pub statements-loop-close-preserved : goal.statements-loop-close-preserved
unfolding statements
statements-loop-close-preserved t c =
    let b = bounds c.one_behind.ensures.1.0 c.in_ok-one.was in
    record {
      same = c.link.auto.pool ∙ c.one_behind.auto.pool ∙ c.loop-close.invariant.same;
      fit = omega (arith, b.fit, c.link.auto.pool, c.one_behind.auto.pool);
      on = le_trans c.loop-close.invariant.on (le_trans b.on (on_step _ _ c.iterate-else-current_symbol_is.ensures));
      within = within_step _ _ c.iterate-else-current_symbol_is.ensures b.within;
      state = λ from us zs left s e. let w = c.loop-close.invariant.state from us zs left s e in let q = taken (c.one_behind.ensures.1.1 _ _ _ _ w.stands) c.in_ok-one.was in
          rw (c.first_of.ensures, c.link.ensures)
          (lengthens w _ q.stands q.head (choose_false _ _ (sym c.current_is.ensures ∙ c.loop-close-test.true) ∙ choose_false _ _ (sym c.current_symbol_is.ensures ∙ c.if-current_symbol_is.false) ∙ then_read _ q.eq ∙ rw (← c.iterate-else-current_symbol_is.ensures)) (omega (arith, passes c.requires.0.sound b.on b.within (begins c.one_behind.ensures.0 c.in_ok-one.was), c.iterate-else-current_symbol_is.ensures)) (on_step _ _ c.iterate-else-current_symbol_is.ensures) (within_step _ _ c.iterate-else-current_symbol_is.ensures b.within));
    }

pub statements-returns : goal.statements-returns
unfolding statements
statements-returns t c = (
  bounded_tree (omega (arith, c.loop-close.invariant.fit, c.loop-close.invariant.same)) c.loop-close.invariant.on c.loop-close.invariant.within,
  λ from us zs left s e. let w = c.loop-close.invariant.state from us zs left s e in
      stops w _ refl (choose_true _ _ (sym c.current_is.ensures ∙ c.loop-close-test.false)),
)

-- `try_statement` meets its contract: a block, what is caught, the block for it, and the block of a finally or none.

pub try_statement-returns-in_err-tried : goal.try_statement-returns-in_err-tried
try_statement-returns-in_err-tried t c = pass_on (try_statement_reading.first _ _ _ _ _ _) ((rw c.nothing.ensures at c.braced.ensures).1 _ [] _ _ (at_once _ _ c.requires.within)) c.in_err-tried.was (exit c.from_residual.ensures.1)

pub try_statement-returns-in_err-error : goal.try_statement-returns-in_err-error
try_statement-returns-in_err-error t c =
    let read_1 = taken ((rw c.nothing.ensures at c.braced.ensures).1 _ [] _ _ (at_once _ _ c.requires.within)) c.in_ok-tried.was in
    pass_on (try_statement_reading.second _ _ _ _ _ _ read_1.eq) (c.behind_sign.ensures.1 _ _ _ _ read_1.stands) c.in_err-error.was (exit c.from_residual-in_err-error.ensures.1)

pub try_statement-returns-in_err-caught : goal.try_statement-returns-in_err-caught
try_statement-returns-in_err-caught t c =
    let read_1 = taken ((rw c.nothing.ensures at c.braced.ensures).1 _ [] _ _ (at_once _ _ c.requires.within)) c.in_ok-tried.was in
    let read_2 = taken (c.behind_sign.ensures.1 _ _ _ _ read_1.stands) c.in_ok-error.was in
    pass_on (try_statement_reading.third _ _ _ _ _ _ read_1.eq read_2.eq) (c.braced-2.ensures.1 _ _ _ _ read_2.stands) c.in_err-caught.was (exit c.from_residual-in_err-caught.ensures.1)

pub try_statement-returns-in_err-last : goal.try_statement-returns-in_err-last
try_statement-returns-in_err-last t c =
    let read_1 = taken ((rw c.nothing.ensures at c.braced.ensures).1 _ [] _ _ (at_once _ _ c.requires.within)) c.in_ok-tried.was in
    let read_2 = taken (c.behind_sign.ensures.1 _ _ _ _ read_1.stands) c.in_ok-error.was in
    let read_3 = taken (c.braced-2.ensures.1 _ _ _ _ read_2.stands) c.in_ok-caught.was in
    pass_on (try_statement_reading.fourth _ _ _ _ _ _ read_1.eq read_2.eq read_3.eq) (by_eq (finally_as _ _ _ _ _ _) (c.clause.ensures.1 _ _ _ _ read_3.stands)) c.in_err-last.was (exit c.from_residual-in_err-last.ensures.1)

pub try_statement-returns : goal.try_statement-returns
try_statement-returns t c =
    let read_1 = taken ((rw c.nothing.ensures at c.braced.ensures).1 _ [] _ _ (at_once _ _ c.requires.within)) c.in_ok-tried.was in
    let read_2 = taken (c.behind_sign.ensures.1 _ _ _ _ read_1.stands) c.in_ok-error.was in
    let read_3 = taken (c.braced-2.ensures.1 _ _ _ _ read_2.stands) c.in_ok-caught.was in
    let read_4 = taken (by_eq (finally_as _ _ _ _ _ _) (c.clause.ensures.1 _ _ _ _ read_3.stands)) c.in_ok-last.was in
    by_eq (try_statement_reading.ended _ _ _ _ _ _ read_1.eq read_2.eq read_3.eq read_4.eq)
    ((c.put_row.ensures c.args.source.now.tokens.now read_4.stands.within).1 _ [] _ _ _ _ read_4.stands (record { few = tt; root = of_node; refs = (read_1.head, read_2.head, read_3.head, read_4.head) }))

-- `while_statement` meets its contract: the condition in brackets, and the body behind it.

pub while_statement-returns-then-not-next_symbol_is : goal.while_statement-returns-then-not-next_symbol_is
unfolding while
while_statement-returns-then-not-next_symbol_is t c = refuses _ _ _ (need_failed _ _ _ (sym c.next_symbol_is.ensures ∙ c.if-not-next_symbol_is.true)) c.new.ensures

pub while_statement-expression-requires : goal.while_statement-expression-requires
while_statement-expression-requires t c = ready_step _ _ c.iterate-d.ensures (ready_step _ _ c.iterate.ensures c.requires)

pub while_statement-returns-in_err-condition : goal.while_statement-returns-in_err-condition
while_statement-returns-in_err-condition t c = pass_on (while_statement_reading.first _ _ _ _ _ _ (sym c.next_symbol_is.ensures ∙ c.if-not-next_symbol_is.false) c.iterate.ensures c.iterate-d.ensures) c.expression.ensures c.in_err-condition.was (exit c.from_residual.ensures.1)

pub while_statement-body-requires : goal.while_statement-body-requires
while_statement-body-requires t c =
    let read_1 = taken c.expression.ensures c.in_ok-condition.was in
    (falls _ _ _ _ _ _ _ c.decreases (le_trans (on_step _ _ c.iterate.ensures) (le_trans (on_step _ _ c.iterate-d.ensures) read_1.stands.on)) (omega arith), (ready_same c.requires c.expression.auto.pool read_1.stands.within, front_le read_1.stands.front))

pub while_statement-returns-in_err-inner : goal.while_statement-returns-in_err-inner
while_statement-returns-in_err-inner t c =
    let read_1 = taken c.expression.ensures c.in_ok-condition.was in
    pass_on (while_statement_reading.second _ _ _ _ _ _ (sym c.next_symbol_is.ensures ∙ c.if-not-next_symbol_is.false) c.iterate.ensures c.iterate-d.ensures read_1.eq) (c.body.ensures.1 _ _ _ _ read_1.stands) c.in_err-inner.was (exit c.from_residual-in_err-inner.ensures.1)

pub while_statement-returns : goal.while_statement-returns
while_statement-returns t c =
    let read_1 = taken c.expression.ensures c.in_ok-condition.was in
    let read_2 = taken (c.body.ensures.1 _ _ _ _ read_1.stands) c.in_ok-inner.was in
    sooner (le_trans (on_step _ _ c.iterate.ensures) (on_step _ _ c.iterate-d.ensures)) (by_eq (while_statement_reading.ended _ _ _ _ _ _ (sym c.next_symbol_is.ensures ∙ c.if-not-next_symbol_is.false) c.iterate.ensures c.iterate-d.ensures read_1.eq read_2.eq)
    ((c.put_row.ensures c.args.source.now.tokens.now read_2.stands.within).1 _ [] _ _ _ _ read_2.stands (record { few = tt; root = of_node; refs = (read_1.head, read_2.head, refl, refl) })))
