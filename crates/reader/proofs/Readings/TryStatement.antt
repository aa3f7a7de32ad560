-- What the definition of `try_statement` reads, one reading after another.
use Rattle.std.proofs.Common.{List, sym, ℕ, ◌∙◌, ◌≡◌}
use Rattle.grammar.specs.Words.{KCatch}
use Rattle.grammar.specs.Tree.{Tree, Trees}
use Rattle.grammar.specs.Tree as tree
use Rattle.grammar.specs.Parsed.{read, Reader, build, InvalidSyntax, TryWithoutCatch}
use Rattle.grammar.specs.Expressions.{Rec}
use Rattle.grammar.specs.Statements.{block, finally, try}
use Rattle.grammar.specs.Rules.{Rules}
use Rattle.modes.specs.declared.Due.TheVariants.{Always}
use Rattle.reader.specs.Promises.{behind_sign, braced}
use Rattle.reader.proofs.Answers.{Starts, goes}
use Rattle.reader.proofs.Bodies.{sign_then, braced_then}

module _ (rules : Rules) (ts : List ℕ) (expr : Rec) (stmt : Reader Trees) (start room : ℕ) where
  unfoldable pub first : Starts (try rules ts expr stmt start room) (braced Always ts (block rules ts expr stmt) InvalidSyntax start room)
  unfolding try
  first = record { rest = _; eq = sym (braced_then ts _ _ _ Always (block rules ts expr stmt) _) }

  module _ {body : Tree} {at left : ℕ} (e : braced Always ts (block rules ts expr stmt) InvalidSyntax start room ≡ read body at left) where
    unfoldable pub second : Starts (try rules ts expr stmt start room) (behind_sign ts expr KCatch TryWithoutCatch at left)
    unfolding first
    second = record { rest = _; eq = goes first e ∙ sym (sign_then ts _ _ _ expr _ _) }

    module _ {exception : Tree} {at' left' : ℕ} (e' : behind_sign ts expr KCatch TryWithoutCatch at left ≡ read exception at' left') where
      unfoldable pub third : Starts (try rules ts expr stmt start room) (braced Always ts (block rules ts expr stmt) InvalidSyntax at' left')
      unfolding second
      third = record { rest = _; eq = goes second e' ∙ sym (braced_then ts _ _ _ Always (block rules ts expr stmt) _) }

      module _ {catch : Tree} {at'' left'' : ℕ} (e'' : braced Always ts (block rules ts expr stmt) InvalidSyntax at' left' ≡ read catch at'' left'') where
        unfoldable pub fourth : Starts (try rules ts expr stmt start room) (finally rules ts expr stmt at'' left'')
        unfolding third
        fourth = record { rest = _; eq = goes third e'' }

        pub ended : {final : Trees} {at''' left''' : ℕ} → finally rules ts expr stmt at'' left'' ≡ read final at''' left'''
            → try rules ts expr stmt start room ≡ build (tree.try start body exception catch final) at''' left'''
        unfolding fourth
        ended f = goes fourth f
