-- What the definition of `if_statement` reads, one reading after another.
use Rattle.std.proofs.Common.{List, ap, sym, true, ℕ, ◌∙◌, ◌≡◌}
use Rattle.grammar.specs.Words.{SLParen, SRparen, Zero, step, next_is}
use Rattle.grammar.specs.Tree.{Tree, Trees}
use Rattle.grammar.specs.Tree as tree
use Rattle.grammar.specs.Parsed.{read, Reader, build, InvalidToken, IfWithoutBody}
use Rattle.grammar.specs.Expressions.{Rec}
use Rattle.grammar.specs.Statements.{block, else, if}
use Rattle.grammar.specs.Rules.{Rules}
use Rattle.modes.specs.declared.Due.TheVariants.{Always}
use Rattle.reader.specs.Promises.{body}
use Rattle.reader.proofs.Answers.{need_met, Starts, starts_at, starts_after, goes}
use Rattle.reader.proofs.Bodies.{body_then}

module _ (rules : Rules) (ts : List ℕ) (expr : Rec) (stmt : Reader Trees) (start room : ℕ) {c d : ℕ} (met : next_is ts start SLParen ≡ true) (i : c ≡ step ts start) (j : d ≡ step ts c) where
  unfoldable pub first : Starts (if rules ts expr stmt start room) (expr Zero d room)
  unfolding if
  first = starts_after (need_met _ _ _ met) (starts_at (λ (k : ℕ). expr Zero k room) _ (j ∙ ap (step ts) i))

  module _ {condition : Tree} {at left : ℕ} (e : expr Zero d room ≡ read condition at left) where
    unfoldable pub second : Starts (if rules ts expr stmt start room) (body Always ts (block rules ts expr stmt) SRparen InvalidToken IfWithoutBody at left)
    unfolding first
    second = record { rest = _; eq = goes first e ∙ sym (body_then ts _ _ _ Always (block rules ts expr stmt) _ _ _) }

    module _ {main : Tree} {at' left' : ℕ} (e' : body Always ts (block rules ts expr stmt) SRparen InvalidToken IfWithoutBody at left ≡ read main at' left') where
      unfoldable pub third : Starts (if rules ts expr stmt start room) (else rules ts expr stmt at' left')
      unfolding second
      third = record { rest = _; eq = goes second e' }

      pub ended : {alternate : Trees} {at'' left'' : ℕ} → else rules ts expr stmt at' left' ≡ read alternate at'' left''
          → if rules ts expr stmt start room ≡ build (tree.if start condition main alternate) at'' left''
      unfolding third
      ended f = goes third f
