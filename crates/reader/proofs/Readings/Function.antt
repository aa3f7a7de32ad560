-- What the definition of `function` reads, one reading after another.
use Rattle.std.proofs.Common.{List, false, sym, true, ℕ, ◌∙◌, ◌≡◌}
use Rattle.grammar.specs.Words.{Identifier, SLParen, SRparen, SLBrace, step, is, next_is}
use Rattle.grammar.specs.Tree.{Tree, Trees}
use Rattle.grammar.specs.Tree as tree
use Rattle.grammar.specs.Parsed.{Parsed, read, Reader, ◌>>=◌, ◌>>◌, need, build, InvalidSyntax}
use Rattle.grammar.specs.Expressions.{Rec}
use Rattle.grammar.specs.Statements.{block, function}
use Rattle.grammar.specs.Rules.{Rules}
use Rattle.modes.specs.declared.Due.TheVariants.{Always}
use Rattle.reader.specs.Promises.{items, closed_list, braced}
use Rattle.reader.proofs.Answers.{need_met, Starts, starts_at, starts_after, goes}
use Rattle.reader.proofs.Bodies.{closed_then, braced_then}

module _ (rules : Rules) (ts : List ℕ) (expr : Rec) (stmt : Reader Trees) (name room : ℕ) {d : ℕ} (named : is ts name Identifier ≡ true) (met : next_is ts name SLParen ≡ true) (i : d ≡ step ts name) where
  abbrev pub rest : Trees × ℕ × ℕ → Parsed Tree
  rest (parameters, at, left) = need (next_is ts at SLBrace) InvalidSyntax at >> (block rules ts expr stmt at left >>= λ (main, at, left). build (tree.function name parameters main) at left)

  unfoldable pub first : Starts (function rules ts expr stmt name room) (closed_list Always rules ts expr false SRparen InvalidSyntax d room)
  unfolding function items
  first =
      starts_after (need_met _ _ _ named ∙ need_met _ _ _ met ∙ sym (closed_then Always rules ts expr false SRparen InvalidSyntax (step ts name) room rest))
      (starts_at (λ (k : ℕ). closed_list Always rules ts expr false SRparen InvalidSyntax k room) rest i)

  module _ {parameters : Trees} {at left : ℕ} (e : closed_list Always rules ts expr false SRparen InvalidSyntax d room ≡ read parameters at left) where
    unfoldable pub second : Starts (function rules ts expr stmt name room) (braced Always ts (block rules ts expr stmt) InvalidSyntax at left)
    unfolding first
    second = record { rest = _; eq = goes first e ∙ sym (braced_then ts _ _ _ Always (block rules ts expr stmt) _) }

    pub ended : {main : Tree} {at' left' : ℕ} → braced Always ts (block rules ts expr stmt) InvalidSyntax at left ≡ read main at' left'
        → function rules ts expr stmt name room ≡ build (tree.function name parameters main) at' left'
    unfolding second
    ended f = goes second f
