-- What the definition of `for_each` reads, one reading after another.
use Rattle.std.proofs.Common.{List, sym, ℕ, ◌∙◌, ◌≡◌}
use Rattle.grammar.specs.Words.{SComma, SImpl, Zero, step}
use Rattle.grammar.specs.Tree.{Tree, Trees}
use Rattle.grammar.specs.Tree as tree
use Rattle.grammar.specs.Parsed.{read, Reader, build, InvalidSyntax, WrongSign}
use Rattle.grammar.specs.Expressions.{Rec}
use Rattle.grammar.specs.Statements.{block, foreach}
use Rattle.modes.specs.declared.Mode.{Mode}
use Rattle.modes.specs.declared.Due.TheVariants.{By}
use Rattle.modes.specs.Modes.{by}
use Rattle.reader.specs.Promises.{behind_sign, body}
use Rattle.reader.proofs.Answers.{Starts, starts_at, goes}
use Rattle.reader.proofs.Bodies.{sign_then, body_then}

module _ (mode : Mode) (ts : List ℕ) (expr : Rec) (stmt : Reader Trees) (start room : ℕ) {d : ℕ} (i : d ≡ step ts start) where
  unfoldable pub first : Starts (foreach (by mode) ts expr stmt start room) (expr Zero d room)
  unfolding foreach
  first = starts_at (λ (k : ℕ). expr Zero k room) _ i

  module _ {iter : Tree} {at left : ℕ} (e : expr Zero d room ≡ read iter at left) where
    unfoldable pub second : Starts (foreach (by mode) ts expr stmt start room) (behind_sign ts expr SComma InvalidSyntax at left)
    unfolding first
    second = record { rest = _; eq = goes first e ∙ sym (sign_then ts _ _ _ expr _ _) }

    module _ {index : Tree} {at' left' : ℕ} (e' : behind_sign ts expr SComma InvalidSyntax at left ≡ read index at' left') where
      unfoldable pub third : Starts (foreach (by mode) ts expr stmt start room) (behind_sign ts expr SComma InvalidSyntax at' left')
      unfolding second
      third = record { rest = _; eq = goes second e' ∙ sym (sign_then ts _ _ _ expr _ _) }

      module _ {element : Tree} {at'' left'' : ℕ} (e'' : behind_sign ts expr SComma InvalidSyntax at' left' ≡ read element at'' left'') where
        unfoldable pub fourth : Starts (foreach (by mode) ts expr stmt start room) (body (By mode) ts (block (by mode) ts expr stmt) SImpl InvalidSyntax WrongSign at'' left'')
        unfolding third
        fourth = record { rest = _; eq = goes third e'' ∙ sym (body_then ts _ _ _ (By mode) (block (by mode) ts expr stmt) _ _ _) }

        pub ended : {inner : Tree} {at''' left''' : ℕ} → body (By mode) ts (block (by mode) ts expr stmt) SImpl InvalidSyntax WrongSign at'' left'' ≡ read inner at''' left'''
            → foreach (by mode) ts expr stmt start room ≡ build (tree.foreach start iter index element inner) at''' left'''
        unfolding fourth
        ended f = goes fourth f
