-- What falls at each call of the cycle, the nesting and the tokens that are left and then a rank, and what the two loops keep.
use Rattle.std.proofs.Common.{◌≡◌, ◌+◌, ◌*◌, ◌-◌, ◌≤◌, ◌<◌, ℕ, List, [], ◌∷◌, length}
use Rattle.grammar.specs.Tree.{Tree, Trees, nil, ◌▸◌, size, head_ref, width}
use Rattle.grammar.specs.Expressions as spec
use Rattle.modes.specs.Modes.{by}
use Rattle.reader.specs.Meets.{Stands, one, many}
use Rattle.reader.specs.Promises as contract
use Rattle.reader.proofs.Loops.{Turning}
use Rattle.reader.proofs.expressions.+expressions.Given as goal

abbrev pub decreases-actual : goal.decreases-actual
decreases-actual l = 16 * (l.less + (length l.source.now.tokens.now - l.c)) + 8

abbrev pub decreases-around : goal.decreases-around
decreases-around l = 16 * (l.less + (length l.source.now.tokens.now - l.c)) + 1

abbrev pub decreases-array : goal.decreases-array
decreases-array l = 16 * (l.less + (length l.source.now.tokens.now - l.c)) + 8

abbrev pub decreases-at_keyword : goal.decreases-at_keyword
decreases-at_keyword l = 16 * (l.less + (length l.source.now.tokens.now - l.c)) + 9

abbrev pub decreases-at_symbol : goal.decreases-at_symbol
decreases-at_symbol l = 16 * (l.less + (length l.source.now.tokens.now - l.c)) + 9

abbrev pub decreases-behind : goal.decreases-behind
decreases-behind l = 16 * (l.less + (length l.source.now.tokens.now - l.c)) + 4

abbrev pub decreases-call : goal.decreases-call
decreases-call l = 16 * (l.less + (length l.source.now.tokens.now - l.left.next)) + 9

abbrev pub decreases-climb : goal.decreases-climb
decreases-climb l = 16 * (l.less + (length l.source.now.tokens.now - l.left.next)) + 11

abbrev pub decreases-enclosed : goal.decreases-enclosed
decreases-enclosed l = 16 * (l.less + (length l.source.now.tokens.now - l.c)) + 7

abbrev pub decreases-entries : goal.decreases-entries
decreases-entries l = 16 * (l.less + (length l.source.now.tokens.now - l.front.next)) + 5

abbrev pub decreases-expression : goal.decreases-expression
decreases-expression l = 16 * (l.allow + (length l.source.now.tokens.now - l.c)) + 0

abbrev pub decreases-hash : goal.decreases-hash
decreases-hash l = 16 * (l.less + (length l.source.now.tokens.now - l.c)) + 8

abbrev pub decreases-index : goal.decreases-index
decreases-index l = 16 * (l.less + (length l.source.now.tokens.now - l.left.next)) + 5

abbrev pub decreases-infix_exp : goal.decreases-infix_exp
decreases-infix_exp l = 16 * (l.less + (length l.source.now.tokens.now - l.left.next)) + 5

abbrev pub decreases-item : goal.decreases-item
decreases-item l = 16 * (l.less + (length l.source.now.tokens.now - l.c)) + 3

abbrev pub decreases-lambda : goal.decreases-lambda
decreases-lambda l = 16 * (l.less + (length l.source.now.tokens.now - l.c)) + 8

abbrev pub decreases-list : goal.decreases-list
decreases-list l = 16 * (l.less + (length l.source.now.tokens.now - l.c)) + 6

abbrev pub decreases-operation : goal.decreases-operation
decreases-operation l = 16 * (l.less + (length l.source.now.tokens.now - l.left.next)) + 10

abbrev pub decreases-pair : goal.decreases-pair
decreases-pair l = 16 * (l.less + (length l.source.now.tokens.now - l.c)) + 2

abbrev pub decreases-prefix : goal.decreases-prefix
decreases-prefix l = 16 * (l.less + (length l.source.now.tokens.now - l.c)) + 2

abbrev pub decreases-prefix_part : goal.decreases-prefix_part
decreases-prefix_part l = 16 * (l.less + (length l.source.now.tokens.now - l.c)) + 10

abbrev pub decreases-shell : goal.decreases-shell
decreases-shell l = 16 * (l.less + (length l.source.now.tokens.now - l.c)) + 2

abbrev pub decreases-started : goal.decreases-started
decreases-started l = 16 * (l.less + (length l.source.now.tokens.now - l.c)) + 1

abbrev pub decreases-sub_exp : goal.decreases-sub_exp
decreases-sub_exp l = 16 * (l.less + (length l.source.now.tokens.now - l.c)) + 1

-- The numbers fit, and from any tree in the first rows the definition's loop has come as far.
abbrev pub invariant-climb-loop-at : goal.invariant-climb-loop-at
invariant-climb-loop-at l = record {
  same : length l.pool ≡ length l.initial.pool;
  fit : width * l.tree.rows ≤ length l.pool;
  on : l.initial.tree.next ≤ l.tree.next;
  within : l.tree.next < length l.source.tokens.now;
  state : (from : ℕ) (t : Tree) (zs : List ℕ) (left : ℕ) → Stands l.source.tokens.now from ((t ▸ nil) ∷ []) l.first l.initial.tree.rows left zs l.initial.pool l.initial.tree.next → l.initial.tree.head ≡ l.first + size t
      → Turning one (spec.climb (by l.source.mode) l.source.tokens.now (spec.expression (by l.source.mode) l.source.tokens.now l.less) l.order) l.source.tokens.now from t l.initial.tree.next left l.first l.tree.rows l.tree.head zs l.pool l.tree.next;
}

abbrev pub decreases-climb-loop-at : goal.decreases-climb-loop-at
decreases-climb-loop-at l = length l.source.tokens.now - l.tree.next

-- The numbers fit, and from any list in the first rows the definition's loop has come as far.
abbrev pub invariant-entries-loop-e : goal.invariant-entries-loop-e
invariant-entries-loop-e l = record {
  same : length l.pool ≡ length l.initial.pool;
  fit : width * l.all.rows ≤ length l.pool;
  on : l.initial.all.next ≤ l.all.next;
  within : l.all.next < length l.source.tokens.now;
  state : (from : ℕ) (us : Trees) (zs : List ℕ) (left : ℕ) → Stands l.source.tokens.now from (us ∷ []) l.first l.initial.all.rows left zs l.initial.pool l.initial.all.next → l.initial.all.head ≡ head_ref us l.first
      → Turning many (spec.entries (by l.source.mode) l.source.tokens.now (spec.expression (by l.source.mode) l.source.tokens.now l.less) (contract.item (by l.source.mode) l.source.tokens.now (spec.expression (by l.source.mode) l.source.tokens.now l.less) 0 l.paired))
      l.source.tokens.now from us l.initial.all.next left l.first l.all.rows l.all.head zs l.pool l.all.next;
}

abbrev pub decreases-entries-loop-e : goal.decreases-entries-loop-e
decreases-entries-loop-e l = length l.source.tokens.now - l.all.next
