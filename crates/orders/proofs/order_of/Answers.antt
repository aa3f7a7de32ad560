-- `orders::order_of` meets its contract: each arm's symbols have the arm's order, and the other tokens have the lowest. Assumes nothing.
use Rattle.std.proofs.Common.{rules, List, ℕ, [], ◌∷◌, eqb, refl}
use borrow.Author.Tests.{eqb-true}
use Rattle.grammar.specs.Words.{class, code, by_code, orders, order}
use Rattle.tokens.specs.Tokens.{word}
use Rattle.tokens.proofs.Besides.{one_operator, other_operator}
use Rattle.orders.proofs.order_of.Goals as goal

-- The codes of the arms with an order.
abbrev arms : List ℕ
arms =
    15 ∷ 23 ∷ 22 ∷ 27 ∷ 28 ∷ 31 ∷ 32 ∷ 33 ∷ 26 ∷ 25 ∷ 21 ∷ 20 ∷ 16 ∷ 17 ∷ 8 ∷ 7 ∷ 9 ∷ 10 ∷ 1 ∷ 2 ∷ 3 ∷ 4 ∷ 13 ∷ 24 ∷ 14 ∷ 29 ∷ 30 ∷ 5 ∷ 34 ∷ 38 ∷ []

pub returns-in-SEq : goal.returns-in-SEq
unfolding class code by_code orders order
returns-in-SEq c =
    eqb-true 1 (order (word c.args.t))
    (one_operator (λ w. eqb 1 (order w)) (15 ∷ 23 ∷ 22 ∷ 27 ∷ 28 ∷ 31 ∷ 32 ∷ 33 ∷ []) c.in-Operator.is c.in-SEq.is refl)

pub returns-in-SEeq : goal.returns-in-SEeq
unfolding class code by_code orders order
returns-in-SEeq c = eqb-true 6 (order (word c.args.t)) (one_operator (λ w. eqb 6 (order w)) (16 ∷ 17 ∷ []) c.in-Operator.is c.in-SEeq.is refl)

pub returns-in-SGt : goal.returns-in-SGt
unfolding class code by_code orders order
returns-in-SGt c = eqb-true 7 (order (word c.args.t)) (one_operator (λ w. eqb 7 (order w)) (8 ∷ 7 ∷ 9 ∷ 10 ∷ []) c.in-Operator.is c.in-SGt.is refl)

pub returns-in-SIncr : goal.returns-in-SIncr
unfolding class code by_code orders order
returns-in-SIncr c = eqb-true 11 (order (word c.args.t)) (one_operator (λ w. eqb 11 (order w)) (29 ∷ 30 ∷ []) c.in-Operator.is c.in-SIncr.is refl)

pub returns-in_default-s : goal.returns-in_default-s
unfolding class code by_code orders order
returns-in_default-s c =
    eqb-true 0 (order (word c.args.t)) (other_operator (λ w. eqb 0 (order w)) arms c.in-Operator.is (search rules) refl)
