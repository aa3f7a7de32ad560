-- What falls at each call: the nesting that is left and the tokens that are left together, and then a rank. And what holds at each turn of `statements`:
-- the numbers fit, and from any list in the first rows the definition's loop has come as far.
use Rattle.std.proofs.Common.{◌≡◌, ℕ, ◌+◌, ◌*◌, ◌-◌, ◌≤◌, ◌<◌, List, [], ◌∷◌, length}
use Rattle.grammar.specs.Tree.{Trees, head_ref, width}
use Rattle.grammar.specs.Rules.{Rules}
use Rattle.grammar.specs.Expressions.{expression}
use Rattle.grammar.specs.Statements.{statement, statements}
use Rattle.tokens.specs.Tokens.{word}
use Rattle.tokens.specs.declared.Token.{Token}
use Rattle.modes.specs.Modes.{by}
use Rattle.reader.specs.Meets.{Stands, many}
use Rattle.reader.proofs.Loops.{Turning}
use Rattle.reader.proofs.statements.+statements.Given as goal

pub record Inv (rules : Rules) (ts pool₀ : List ℕ) (first : ℕ) (close : Token) (allow k₀ h₀ d₀ : ℕ) (pool : List ℕ) (k h d : ℕ) : Type 0 where
  pub same : length pool ≡ length pool₀
  pub fit : width * k ≤ length pool
  pub on : d₀ ≤ d
  pub within : d < length ts
  pub state : (from : ℕ) (us : Trees) (zs : List ℕ) (left : ℕ) → Stands ts from (us ∷ []) first k₀ left zs pool₀ d₀ → h₀ ≡ head_ref us first
      → Turning many (statements rules ts (expression rules ts allow) (statement rules ts allow) (word close)) ts from us d₀ left first k h zs pool d

abbrev pub decreases-at_keyword : goal.decreases-at_keyword
decreases-at_keyword l = 16 * (l.less + (length l.source.now.tokens.now - l.c)) + 8

abbrev pub decreases-block : goal.decreases-block
decreases-block l = 16 * (l.less + (length l.source.now.tokens.now - l.c)) + 3

abbrev pub decreases-block_behind : goal.decreases-block_behind
decreases-block_behind l = 16 * (l.less + (length l.source.now.tokens.now - l.c)) + 4

abbrev pub decreases-body : goal.decreases-body
decreases-body l = 16 * (l.less + (length l.source.now.tokens.now - l.last.next)) + 6

abbrev pub decreases-braced : goal.decreases-braced
decreases-braced l = 16 * (l.less + (length l.source.now.tokens.now - l.last.next)) + 5

abbrev pub decreases-clause : goal.decreases-clause
decreases-clause l = 16 * (l.less + (length l.source.now.tokens.now - l.last.next)) + 6

abbrev pub decreases-for_each : goal.decreases-for_each
decreases-for_each l = 16 * (l.less + (length l.source.now.tokens.now - l.c)) + 7

abbrev pub decreases-for_loop : goal.decreases-for_loop
decreases-for_loop l = 16 * (l.less + (length l.source.now.tokens.now - l.c)) + 7

abbrev pub decreases-function : goal.decreases-function
decreases-function l = 16 * (l.less + (length l.source.now.tokens.now - l.c)) + 6

abbrev pub decreases-if_statement : goal.decreases-if_statement
decreases-if_statement l = 16 * (l.less + (length l.source.now.tokens.now - l.c)) + 7

abbrev pub decreases-one_behind : goal.decreases-one_behind
decreases-one_behind l = 16 * (l.allow + (length l.source.now.tokens.now - l.c)) + 1

abbrev pub decreases-statement : goal.decreases-statement
decreases-statement l = 16 * (l.allow + (length l.source.now.tokens.now - l.c)) + 0

abbrev pub decreases-statements : goal.decreases-statements
decreases-statements l = 16 * (l.allow + (length l.source.now.tokens.now - l.front.next)) + 2

abbrev pub decreases-try_statement : goal.decreases-try_statement
decreases-try_statement l = 16 * (l.less + (length l.source.now.tokens.now - l.c)) + 7

abbrev pub decreases-while_statement : goal.decreases-while_statement
decreases-while_statement l = 16 * (l.less + (length l.source.now.tokens.now - l.c)) + 7

abbrev pub invariant-statements-loop-close : goal.invariant-statements-loop-close
invariant-statements-loop-close l = Inv (by l.source.mode) l.source.tokens.now l.initial.pool l.first l.close l.allow l.initial.all.rows l.initial.all.head l.initial.all.next l.pool l.all.rows l.all.head l.all.next

abbrev pub decreases-statements-loop-close : goal.decreases-statements-loop-close
decreases-statements-loop-close l = length l.source.tokens.now - l.all.next
