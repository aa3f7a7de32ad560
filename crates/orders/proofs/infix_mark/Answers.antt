-- `orders::infix_mark` meets its contract: each arm's symbol has the arm's mark, and the others and the other tokens have none. Assumes nothing.
use Rattle.std.proofs.Common.{rules, ◌-◌, List, ℕ, [], ◌∷◌, eqb, refl}
use borrow.Author.Tests.{eqb-true}
use Rattle.grammar.specs.Words.{class, code, by_code, infixes, infix_of}
use Rattle.tokens.specs.Tokens.{word}
use Rattle.tokens.proofs.Besides.{other_operator}
use Rattle.orders.proofs.infix_mark.Goals as goal

-- The codes of the arms with a mark.
abbrev arms : List ℕ
arms = 1 ∷ 2 ∷ 3 ∷ 4 ∷ 13 ∷ 20 ∷ 21 ∷ 15 ∷ 16 ∷ 17 ∷ 10 ∷ 8 ∷ 9 ∷ 7 ∷ 26 ∷ 25 ∷ 27 ∷ 28 ∷ 31 ∷ 32 ∷ 22 ∷ 23 ∷ 33 ∷ []

pub returns-in_default-s : goal.returns-in_default-s
unfolding class code by_code infixes infix_of
returns-in_default-s c =
    eqb-true 0 (infix_of (word c.args.t) - 1) (other_operator (λ w. eqb 0 (infix_of w - 1)) arms c.in-Operator.is (search rules) refl)
