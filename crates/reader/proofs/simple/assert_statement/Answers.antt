-- `assert_statement` meets its contract: what is asserted, a comma, and what is else.
use Rattle.std.proofs.Common.{List, [], ap, false, not, refl, sym, true, ℕ, ◌∙◌, ◌≡◌}
use Rattle.grammar.specs.Words.{SSemiColon, SComma, Zero, step, next_is}
use Rattle.grammar.specs.Tree.{Tree, Trees}
use Rattle.grammar.specs.Tree as tree
use Rattle.grammar.specs.Parsed.{refused, read, Reader, build, AssertWithoutAction, AssertWithoutComma}
use Rattle.grammar.specs.Expressions.{Rec}
use Rattle.grammar.specs.Statements.{assert}
use Rattle.grammar.specs.Rules.{Rules}
use Rattle.reader.specs.Promises.{behind_sign}
use Rattle.reader.specs.Meets.{of_node}
use Rattle.reader.proofs.Answers.{taken, by_eq, refuses, need_met, need_failed, sooner, Starts, starts_at, goes, pass_on, exit}
use Rattle.reader.proofs.Bodies.{sign_then}
use Rattle.reader.proofs.Moves.{on_step, ready_step}
use Rattle.reader.proofs.simple.assert_statement.Goals as goal

-- The definition, one reading after another.
module _ (rules : Rules) (ts : List ℕ) (expr : Rec) (stmt : Reader Trees) (start room : ℕ) {d : ℕ} (i : d ≡ step ts start) where
  unfoldable first : Starts (assert rules ts expr stmt start room) (expr Zero d room)
  unfolding assert
  first = starts_at (λ (k : ℕ). expr Zero k room) _ i

  module _ {target : Tree} {at left : ℕ} (e : expr Zero d room ≡ read target at left) where
    stops : next_is ts at SSemiColon ≡ true → assert rules ts expr stmt start room ≡ refused AssertWithoutAction (step ts at)
    unfolding first
    stops semi = goes first e ∙ need_failed _ _ _ (ap not semi)

    module _ (more : next_is ts at SSemiColon ≡ false) where
      unfoldable second : Starts (assert rules ts expr stmt start room) (behind_sign ts expr SComma AssertWithoutComma at left)
      unfolding first
      second = record { rest = _; eq = goes first e ∙ need_met _ _ _ (ap not more) ∙ sym (sign_then ts _ _ _ expr _ _) }

      ended : {fail : Tree} {at' left' : ℕ} → behind_sign ts expr SComma AssertWithoutComma at left ≡ read fail at' left'
          → assert rules ts expr stmt start room ≡ build (tree.assert start target fail) at' left'
      unfolding second
      ended f = goes second f

pub expression-requires : goal.expression-requires
expression-requires c = ready_step _ _ c.iterate-s.ensures c.requires

pub returns-in_err-condition : goal.returns-in_err-condition
returns-in_err-condition c = pass_on (first _ _ _ _ _ _ c.iterate-s.ensures) (sooner (on_step _ _ c.iterate-s.ensures) c.expression.ensures) c.in_err-condition.was (exit c.from_residual.ensures.1)

pub returns-then-next_symbol_is : goal.returns-then-next_symbol_is
returns-then-next_symbol_is c =
    let read_1 = taken (sooner (on_step _ _ c.iterate-s.ensures) c.expression.ensures) c.in_ok-condition.was in
    refuses _ _ _ (stops _ _ _ _ _ _ c.iterate-s.ensures read_1.eq (sym c.next_symbol_is.ensures ∙ c.if-next_symbol_is.true)) (rw c.iterate-e.ensures at c.new.ensures)

pub returns-in_err-action : goal.returns-in_err-action
returns-in_err-action c =
    let read_1 = taken (sooner (on_step _ _ c.iterate-s.ensures) c.expression.ensures) c.in_ok-condition.was in
    pass_on (second _ _ _ _ _ _ c.iterate-s.ensures read_1.eq (sym c.next_symbol_is.ensures ∙ c.if-next_symbol_is.false)) (c.behind_sign.ensures.1 _ _ _ _ read_1.stands) c.in_err-action.was (exit c.from_residual-in_err-action.ensures.1)

pub returns : goal.returns
returns c =
    let read_1 = taken (sooner (on_step _ _ c.iterate-s.ensures) c.expression.ensures) c.in_ok-condition.was in
    let read_2 = taken (c.behind_sign.ensures.1 _ _ _ _ read_1.stands) c.in_ok-action.was in
    by_eq (ended _ _ _ _ _ _ c.iterate-s.ensures read_1.eq (sym c.next_symbol_is.ensures ∙ c.if-next_symbol_is.false) read_2.eq)
    ((c.put_row.ensures c.args.source.now.tokens.now read_2.stands.within).1 _ [] _ _ _ _ read_2.stands (record { few = tt; root = of_node; refs = (read_1.head, read_2.head, refl, refl) }))
