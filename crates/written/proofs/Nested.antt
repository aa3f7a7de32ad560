-- With less nesting an answer is the same, or a refusal as too deep; and every refusal is at a place in the array.
use Prim.Native.Nat.{ℕ, zero, suc, ◌≤◌, ◌<◌}
use native.Mathlib.Omega.{arith}
use mathlib.Core.Path.{◌≡◌, refl, ap}
use mathlib.Core.List.{List}
use lib.ListN.{length}
use mathlib.Core.Logic.{inl, inr}
use Rattle.grammar.specs.Words.{tok, step}
use Rattle.grammar.specs.Tree.{nil}
use Rattle.grammar.specs.Parsed.{Parsed, refused, read, turns, TooDeep}
use Rattle.grammar.specs.Rules.{Rules}
use Rattle.grammar.specs.Expressions.{expression}
use Rattle.grammar.specs.Statements.{statement, statements}
use Rattle.grammar.specs.Claims.{Unless}
use Rattle.grammar.proofs.Like.{nils, one_tree, one_list}
use Rattle.grammar.proofs.Walk.{Beside, by_one_rule, Alike, Alikes, level_alike, expression_alike, statements_alike, statement_level_alike, statement_alike}
use Rattle.grammar.proofs.Turns.{in_step}
use Rattle.grammar.proofs.Agree.{Agree, let_off, both_refuse, both_read, agreed}

-- A refusal as too deep is let off.
abbrev Two : ℕ → Type 0
Two number = number ≡ TooDeep

abbrev same : ℕ → ℕ
same room = room

-- A refusal as too deep, or the same.
or_same : {A : Type 0} {R : A → A → Type 0} (x y : Parsed A) → ((a b : A) → R a b → a ≡ b) → Agree Two ◌≡◌ same A R x y → Unless TooDeep x y
or_same x y one (let_off h) = inl h
or_same x y one (both_refuse p) = inr (rw p)
or_same x y one (both_read {a} {b} r p) = inr (rw (p, one a b r))

module _ (rules : Rules) (ts : List ℕ) where
  less : Beside ◌≡◌ same (Agree Two ◌≡◌ same) rules rules ts ts
  less = by_one_rule rules ts ts (agreed Two ◌≡◌ same (λ n. refl) (inr refl)) (λ a b. ap (tok ts)) (λ a b. ap (step ts))

  expression_under : (d d' : ℕ) → d ≤ d' → (pre : ℕ) → Alike less (expression rules ts d pre) (expression rules ts d' pre)
  unfolding expression
  expression_under zero d' h pre at bt n p = let_off refl
  expression_under (suc d) zero h pre at bt n p = absurd (omega arith)
  expression_under (suc d) (suc d') h pre at bt n p =
      level_alike less (expression rules ts d) (expression rules ts d') (expression_under d d' (omega arith)) pre at bt n p

  statement_under : (d d' : ℕ) → d ≤ d' → Alikes less (statement rules ts d) (statement rules ts d')
  unfolding statement
  statement_under zero d' h at bt n p = let_off refl
  statement_under (suc d) zero h at bt n p = absurd (omega arith)
  statement_under (suc d) (suc d') h at bt n p =
      let le : d ≤ d' = omega arith in
      statement_level_alike less (expression rules ts d) (expression rules ts d') (expression_under d d' le) (statement rules ts d) (statement rules ts d') (statement_under d d' le) at bt n p

  -- The readers with less nesting.
  pub less_expression : (d d' : ℕ) → d ≤ d' → (pre at room : ℕ) → Unless TooDeep (expression rules ts d pre at room) (expression rules ts d' pre at room)
  less_expression d d' h pre at room = or_same _ _ one_tree (expression_under d d' h pre at at room refl)

  pub less_statement : (d d' : ℕ) → d ≤ d' → (at room : ℕ) → Unless TooDeep (statement rules ts d at room) (statement rules ts d' at room)
  less_statement d d' h at room = or_same _ _ one_list (statement_under d d' h at at room refl)

  pub less_statements : (d d' close : ℕ) → d ≤ d' → (at room : ℕ)
      → Unless TooDeep (statements rules ts (expression rules ts d) (statement rules ts d) close turns nil at room)
      (statements rules ts (expression rules ts d') (statement rules ts d') close turns nil at room)
  less_statements d d' close h at room =
      or_same _ _ one_list
      (statements_alike less (expression rules ts d) (expression rules ts d') (expression_under d d' h) (statement rules ts d) (statement rules ts d') (statement_under d d' h)
      close turns nil nil nils at at room refl)

-- Places in the array, which correspond where they are the same.
abbrev Inside : List ℕ → ℕ → ℕ → Type 0
Inside ts a b = (a ≡ b) × (a < length ts)

-- No refusal is let off.
abbrev None : ℕ → Type 0
None number = ⊥

-- A refusal at a place in the array.
abbrev pub Placed : {A : Type 0} → List ℕ → Parsed A → Type 0
Placed ts (refused n p) = p < length ts
Placed ts (read a at room) = Unit {0}

placed : {A : Type 0} {R : A → A → Type 0} (ts : List ℕ) (x y : Parsed A) → Agree None (Inside ts) same A R x y → Placed ts x
placed ts x y (let_off h) = absurd h
placed ts x y (both_refuse h) = h.1
placed ts x y (both_read r h) = tt

module _ (rules : Rules) (ts : List ℕ) where
  inside : Beside (Inside ts) same (Agree None (Inside ts) same) rules rules ts ts
  inside = by_one_rule rules ts ts (agreed None (Inside ts) same (λ n. refl) (inr refl)) (λ a b h. ap (tok ts) h.0) (λ a b h. (ap (step ts) h.0, in_step ts a h.1))

  -- From a place in the array the readers refuse at one.
  pub expression_placed : (d pre at room : ℕ) → at < length ts → Placed ts (expression rules ts d pre at room)
  expression_placed d pre at room h = placed ts _ _ (expression_alike inside d pre at at room (refl, h))

  pub statement_placed : (d at room : ℕ) → at < length ts → Placed ts (statement rules ts d at room)
  statement_placed d at room h = placed ts _ _ (statement_alike inside d at at room (refl, h))

  pub statements_placed : (d close at room : ℕ) → at < length ts → Placed ts (statements rules ts (expression rules ts d) (statement rules ts d) close turns nil at room)
  statements_placed d close at room h =
      placed ts _ _
      (statements_alike inside (expression rules ts d) (expression rules ts d) (expression_alike inside d) (statement rules ts d) (statement rules ts d) (statement_alike inside d)
      close turns nil nil nils at at room (refl, h))
