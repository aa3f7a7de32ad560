-- The names so far are a list in the first rows, and the definition's loop has come as far.
use Rattle.std.proofs.Common.{◌≡◌, ℕ, ◌-◌, ◌/◌, List, length}
use Rattle.grammar.specs.Tree.{nil, width}
use Rattle.grammar.specs.Expressions.{dots}
use Rattle.reader.specs.Meets.{many}
use Rattle.reader.proofs.Loops.{Turning}
use Rattle.reader.proofs.dots.dots.Given as goal

pub record Inv (ts pool₀ : List ℕ) (first : ℕ) (d₀ : ℕ) (pool : List ℕ) (k head d : ℕ) : Type 0 where
  pub same : length pool ≡ length pool₀
  pub state : Turning many (dots ts) ts d₀ nil d₀ (length pool₀ / width) first k head pool₀ pool d

abbrev pub invariant-loop-e : goal.invariant-loop-e
invariant-loop-e l = Inv l.tokens l.initial.pool l.first l.c l.pool l.all.rows l.all.head l.all.next

abbrev pub decreases-loop-e : goal.decreases-loop-e
decreases-loop-e l = length l.tokens - l.all.next
