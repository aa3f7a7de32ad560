-- More nesting and more rows change nothing that is accepted: what is left of the rows is as many more.
use Prim.Native.Nat.{ℕ, zero, suc, ◌+◌, ◌≤◌}
use native.Mathlib.Nat.{suc-add}
use native.Mathlib.Omega.{arith}
use mathlib.Core.Path.{◌≡◌, refl, ap}
use mathlib.Core.List.{List}
use mathlib.Core.Logic.{inl}
use Rattle.grammar.specs.Words.{tok, step}
use Rattle.grammar.specs.Parsed.{Parsed, read}
use Rattle.grammar.specs.Rules.{Rules}
use Rattle.grammar.specs.Expressions.{expression}
use Rattle.grammar.specs.Statements.{statement}
use Rattle.grammar.specs.Claims.{MoreNesting, MoreRows}
use Rattle.grammar.proofs.Like.{one_tree, one_list}
use Rattle.grammar.proofs.Walk.{Relation, Beside, by_one_rule, Alike, Alikes, level_alike, statement_level_alike}
use Rattle.grammar.proofs.Agree.{Agree, let_off, both_read, agreed}
use Rattle.grammar.proofs.Entries.{all_entries}

-- Every refusal is let off.
abbrev Any : ℕ → Type 0
Any number = Unit {0}

abbrev plus : (k n : ℕ) → ℕ
plus k n = n + k

-- Where x accepts, y gives the same, with k more rows left.
abbrev Below : (k : ℕ) → Relation
Below k = Agree Any ◌≡◌ (plus k)

accepted : {A : Type 0} {R : A → A → Type 0} {a : A} {at n : ℕ} (k : ℕ) (y : Parsed A) → ((a b : A) → R a b → a ≡ b) → Below k A R (read a at n) y → y ≡ read a at (n + k)
accepted k y same (both_read {b = b} r p) = rw (p, same _ b r)

module _ (k : ℕ) (rules : Rules) (ts : List ℕ) where
  below : Beside ◌≡◌ (plus k) (Below k) rules rules ts ts
  below = by_one_rule rules ts ts (agreed Any ◌≡◌ (plus k) (λ n. suc-add n k) (inl tt)) (λ a b. ap (tok ts)) (λ a b. ap (step ts))

  expression_under : (d d' : ℕ) → d ≤ d' → (pre : ℕ) → Alike below (expression rules ts d pre) (expression rules ts d' pre)
  unfolding expression
  expression_under zero d' h pre at bt n p = let_off tt
  expression_under (suc d) zero h pre at bt n p = absurd (omega arith)
  expression_under (suc d) (suc d') h pre at bt n p =
      level_alike below (expression rules ts d) (expression rules ts d') (expression_under d d' (omega arith)) pre at bt n p

  statement_under : (d d' : ℕ) → d ≤ d' → Alikes below (statement rules ts d) (statement rules ts d')
  unfolding statement
  statement_under zero d' h at bt n p = let_off tt
  statement_under (suc d) zero h at bt n p = absurd (omega arith)
  statement_under (suc d) (suc d') h at bt n p =
      let le : d ≤ d' = omega arith in
      statement_level_alike below (expression rules ts d) (expression rules ts d') (expression_under d d' le) (statement rules ts d) (statement rules ts d') (statement_under d d' le) at bt n p

pub nesting_more : MoreNesting
nesting_more rules ts d d' more at room c left h = (
  λ pre t e. accepted more _ one_tree (rw e at (expression_under more rules ts d d' h pre at at room refl)),
  λ us e. accepted more _ one_list (rw e at (statement_under more rules ts d d' h at at room refl)),
)

pub rows_more : MoreRows
rows_more rules ts start room more us at left =
    let (x, s, w) = all_entries (below more rules ts) start room in
    (λ e. accepted more _ one_list (rw e at x), λ e. accepted more _ one_list (rw e at s), λ e. accepted more _ one_list (rw e at w))
