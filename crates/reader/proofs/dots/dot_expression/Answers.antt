-- `dot_expression` meets its contract: the name alone, or the names behind it in a second slot.
use Rattle.std.proofs.Common.{[], refl, sym, ◌∙◌}
use borrow.Author.Tests.{eq-eqb}
use Rattle.grammar.specs.Words.{is}
use Rattle.grammar.specs.Tree.{nil}
use Rattle.grammar.specs.Parsed.{turns}
use Rattle.grammar.specs.Expressions.{dots, dot_expression, get_identifier}
use Rattle.reader.specs.Meets.{of_node}
use Rattle.reader.proofs.Answers.{told, taken, pass, by_eq, need_met, choose_true, choose_false, then_read, then_eq, exit}
use Rattle.reader.proofs.Parts.{back_read, in_part}
use Rattle.reader.proofs.dots.dot_expression.Goals as goal

pub returns-in_err-name : goal.returns-in_err-name
unfolding dot_expression get_identifier is
returns-in_err-name c = by_eq (then_eq _ (need_met _ _ _ (eq-eqb _ _ c.requires.1))) (pass _ (c.leaf.ensures c.args.tokens.now c.requires.0.within) c.in_err-name.was (exit c.from_residual.ensures.1))

pub returns-then-not-next_symbol_is : goal.returns-then-not-next_symbol_is
unfolding dot_expression get_identifier is
returns-then-not-next_symbol_is c =
    let read_1 = taken (c.leaf.ensures c.args.tokens.now c.requires.0.within) c.in_ok-name.was in
    by_eq (then_eq _ (need_met _ _ _ (eq-eqb _ _ c.requires.1)) ∙ then_read _ read_1.eq ∙ choose_false _ _ (sym c.next_symbol_is.ensures ∙ c.if-not-next_symbol_is.true)) (by_eq (sym read_1.eq) (told c.in_ok-name.was (c.leaf.ensures c.args.tokens.now c.requires.0.within)))

pub returns-in_err-names : goal.returns-in_err-names
unfolding dot_expression get_identifier is
returns-in_err-names c =
    let read_1 = taken (c.leaf.ensures c.args.tokens.now c.requires.0.within) c.in_ok-name.was in
    by_eq (then_eq _ (need_met _ _ _ (eq-eqb _ _ c.requires.1)) ∙ then_read _ read_1.eq ∙ choose_true _ _ (sym c.next_symbol_is.ensures ∙ c.if-not-next_symbol_is.false)) (pass _ (in_part (dots c.args.tokens.now turns nil c.in_ok-name.name.next) read_1.stands (rw c.end-i.ensures at c.dots.ensures)) c.in_err-names.was (exit c.from_residual-in_err-names.ensures.1))

pub returns : goal.returns
unfolding dot_expression get_identifier is
returns c =
    let read_1 = taken (c.leaf.ensures c.args.tokens.now c.requires.0.within) c.in_ok-name.was in
    let read_2 = taken (rw (← c.end-i.ensures) at (back_read read_1.stands (in_part (dots c.args.tokens.now turns nil c.in_ok-name.name.next) read_1.stands (rw c.end-i.ensures at c.dots.ensures)) c.in_ok-names.was)) refl in
    by_eq (then_eq _ (need_met _ _ _ (eq-eqb _ _ c.requires.1)) ∙ then_read _ read_1.eq ∙ choose_true _ _ (sym c.next_symbol_is.ensures ∙ c.if-not-next_symbol_is.false) ∙ then_read _ read_2.eq)
    ((c.put_row.ensures c.args.tokens.now read_2.stands.within).1 _ [] _ _ _ _ read_2.stands (record { few = tt; root = of_node; refs = (read_1.head, read_2.head, refl, refl) }))
