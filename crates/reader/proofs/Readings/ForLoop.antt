-- What the definition of `for_loop` reads, one reading after another.
use Rattle.std.proofs.Common.{List, sym, ℕ, ◌∙◌, ◌≡◌}
use Rattle.grammar.specs.Words.{KIn, SImpl, Zero, step}
use Rattle.grammar.specs.Tree.{Tree, Trees}
use Rattle.grammar.specs.Tree as tree
use Rattle.grammar.specs.Parsed.{read, Reader, build, InvalidSyntax}
use Rattle.grammar.specs.Expressions.{Rec}
use Rattle.grammar.specs.Statements.{block, for}
use Rattle.grammar.specs.Rules.{Rules}
use Rattle.modes.specs.declared.Due.TheVariants.{Always}
use Rattle.reader.specs.Promises.{behind_sign, body}
use Rattle.reader.proofs.Answers.{Starts, starts_at, goes}
use Rattle.reader.proofs.Bodies.{sign_then, body_then}

module _ (rules : Rules) (ts : List ℕ) (expr : Rec) (stmt : Reader Trees) (start room : ℕ) {d : ℕ} (i : d ≡ step ts start) where
  unfoldable pub first : Starts (for rules ts expr stmt start room) (expr Zero d room)
  unfolding for
  first = starts_at (λ (k : ℕ). expr Zero k room) _ i

  module _ {target : Tree} {at left : ℕ} (e : expr Zero d room ≡ read target at left) where
    unfoldable pub second : Starts (for rules ts expr stmt start room) (behind_sign ts expr KIn InvalidSyntax at left)
    unfolding first
    second = record { rest = _; eq = goes first e ∙ sym (sign_then ts _ _ _ expr _ _) }

    module _ {iter : Tree} {at' left' : ℕ} (e' : behind_sign ts expr KIn InvalidSyntax at left ≡ read iter at' left') where
      unfoldable pub third : Starts (for rules ts expr stmt start room) (body Always ts (block rules ts expr stmt) SImpl InvalidSyntax InvalidSyntax at' left')
      unfolding second
      third = record { rest = _; eq = goes second e' ∙ sym (body_then ts _ _ _ Always (block rules ts expr stmt) _ _ _) }

      pub ended : {main : Tree} {at'' left'' : ℕ} → body Always ts (block rules ts expr stmt) SImpl InvalidSyntax InvalidSyntax at' left' ≡ read main at'' left''
          → for rules ts expr stmt start room ≡ build (tree.for start target iter main) at'' left''
      unfolding third
      ended f = goes third f
