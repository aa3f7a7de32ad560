-- What the definition of `block` reads, one reading after another.
use Rattle.std.proofs.Common.{List, ap, false, sym, ℕ, ◌∙◌, ◌≡◌}
use Rattle.grammar.specs.Words.{SRBrace, step, next_is}
use Rattle.grammar.specs.Tree.{Trees}
use Rattle.grammar.specs.Tree as tree
use Rattle.grammar.specs.Parsed.{read, Reader, build, turns}
use Rattle.grammar.specs.Expressions.{Rec}
use Rattle.grammar.specs.Statements.{statements, block, opened}
use Rattle.grammar.specs.Rules.{Rules}
use Rattle.reader.proofs.Answers.{choose_false, Starts, starts_at, starts_after, goes}

module _ (rules : Rules) (ts : List ℕ) (expr : Rec) (stmt : Reader Trees) (start room : ℕ) {c d : ℕ} (i : c ≡ step ts start) (some : next_is ts c SRBrace ≡ false) (j : d ≡ step ts c) where
  unfoldable pub first : Starts (block rules ts expr stmt start room) (stmt d room)
  unfolding block opened
  first = starts_after (ap (λ (k : ℕ). opened rules ts expr stmt k room) (sym i) ∙ choose_false _ _ some) (starts_at (λ (k : ℕ). stmt k room) _ j)

  module _ {us : Trees} {at left g : ℕ} (e : stmt d room ≡ read us at left) (k : g ≡ step ts at) where
    unfoldable pub second : Starts (block rules ts expr stmt start room) (statements rules ts expr stmt SRBrace turns us g left)
    unfolding first
    second = starts_after (goes first e) (starts_at (λ (n : ℕ). statements rules ts expr stmt SRBrace turns us n left) _ k)

    pub ended : {list : Trees} {at' left' : ℕ} → statements rules ts expr stmt SRBrace turns us g left ≡ read list at' left' → block rules ts expr stmt start room ≡ build (tree.block c list) at' left'
    unfolding second
    ended f = goes second f
