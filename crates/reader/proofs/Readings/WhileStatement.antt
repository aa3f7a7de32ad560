-- What the definition of `while_statement` reads, one reading after another.
use Rattle.std.proofs.Common.{List, ap, sym, true, ℕ, ◌∙◌, ◌≡◌}
use Rattle.grammar.specs.Words.{SLParen, SRparen, Zero, step, next_is}
use Rattle.grammar.specs.Tree.{Tree, Trees}
use Rattle.grammar.specs.Tree as tree
use Rattle.grammar.specs.Parsed.{read, Reader, build, InvalidSyntax, WrongSign}
use Rattle.grammar.specs.Expressions.{Rec}
use Rattle.grammar.specs.Statements.{block, while}
use Rattle.modes.specs.declared.Mode.{Mode}
use Rattle.modes.specs.declared.Due.TheVariants.{By}
use Rattle.modes.specs.Modes.{by}
use Rattle.reader.specs.Promises.{body}
use Rattle.reader.proofs.Answers.{need_met, Starts, starts_at, starts_after, goes}
use Rattle.reader.proofs.Bodies.{body_then}

module _ (mode : Mode) (ts : List ℕ) (expr : Rec) (stmt : Reader Trees) (start room : ℕ) {c d : ℕ} (met : next_is ts start SLParen ≡ true) (i : c ≡ step ts start) (j : d ≡ step ts c) where
  unfoldable pub first : Starts (while (by mode) ts expr stmt start room) (expr Zero d room)
  unfolding while
  first = starts_after (need_met _ _ _ met) (starts_at (λ (k : ℕ). expr Zero k room) _ (j ∙ ap (step ts) i))

  module _ {target : Tree} {at left : ℕ} (e : expr Zero d room ≡ read target at left) where
    unfoldable pub second : Starts (while (by mode) ts expr stmt start room) (body (By mode) ts (block (by mode) ts expr stmt) SRparen InvalidSyntax WrongSign at left)
    unfolding first
    second = record { rest = _; eq = goes first e ∙ sym (body_then ts _ _ _ (By mode) (block (by mode) ts expr stmt) _ _ _) }

    pub ended : {inner : Tree} {at' left' : ℕ} → body (By mode) ts (block (by mode) ts expr stmt) SRparen InvalidSyntax WrongSign at left ≡ read inner at' left'
        → while (by mode) ts expr stmt start room ≡ build (tree.while start target inner) at' left'
    unfolding second
    ended f = goes second f
