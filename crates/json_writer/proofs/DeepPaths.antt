-- How deep rows stand: a row that a root reaches has a depth, and where no row is bad it has one.
use Prim.Native.Nat.{ℕ, suc, ◌≤◌}
use native.Mathlib.Omega.{arith}
use mathlib.Core.Path.{◌≡◌, refl, ap, sym, subst, ◌∙◌}
use mathlib.Core.Logic.{⊎_elim}
use mathlib.Core.List.{List}
use Rattle.grammar.specs.Script.{word_of}
use Rattle.slots.proofs.Either.{less_or}
use Rattle.trees.specs.Pool.{In, Reached, start, on, Link, root_link, word_link}
use Rattle.trees.specs.Verdict.{NoneBad}
use Rattle.trees.proofs.Sound.{inside, one_link}
use Rattle.json_writer.specs.Deep.{At, top, child, next}

module _ {pool : List ℕ} {root : ℕ} where
  -- what has a depth is reached
  pub at_reached : {r n : ℕ} → At pool root r n → Reached pool root r
  at_reached top = start
  at_reached (child a l u e i) = on (at_reached a) l (omega arith) e i
  at_reached (next a e i) = on {k = 7} (at_reached a) (omega arith) (omega arith) e i

  -- and what is reached has a depth
  pub reached_at : {r : ℕ} → Reached pool root r → (n : ℕ) × At pool root r n
  reached_at start = (1, top)
  reached_at (on {r} {k} {t} h l u e i) =
      let w = reached_at h in
      ⊎_elim (λ s. (suc w.0, child w.1 l (omega arith) e i))
      (λ s. let q : k ≡ 7 = omega arith in (w.0, next w.1 (subst (λ (j : ℕ). word_of pool r j ≡ t) q e) i)) (less_or k 7)

-- the last step of a path
data Last (pool : List ℕ) (root t n : ℕ) : Type 0 where
  at_top : root ≡ t → n ≡ 1 → Last pool root t n
  by_child : {r k m : ℕ} → At pool root r m → 3 ≤ k → k ≤ 6 → word_of pool r k ≡ t → n ≡ suc m → Last pool root t n
  by_next : {r : ℕ} → At pool root r n → word_of pool r 7 ≡ t → Last pool root t n

last : {pool : List ℕ} {root t n : ℕ} → At pool root t n → Last pool root t n
last top = at_top refl refl
last (child a l u e i) = by_child a l u e refl
last (next a e i) = by_next a e

module _ (pool : List ℕ) (root : ℕ) (good : NoneBad pool root) (i : In pool root) where
  some : {r n : ℕ} → At pool root r n → 1 ≤ r
  some a = (inside pool root good i (at_reached a)).0

  -- the links that steps are, and that a row has one of them
  child_link : {r k t n : ℕ} → At pool root r n → 3 ≤ k → k ≤ 6 → word_of pool r k ≡ t → Link pool root t r k
  child_link a l u e = word_link (at_reached a) (some a) l (omega arith) e

  next_link : {r t n : ℕ} → At pool root r n → word_of pool r 7 ≡ t → Link pool root t r 7
  next_link a e = word_link {k = 7} (at_reached a) (some a) (omega arith) (omega arith) e

  one : {t n a b a' b' : ℕ} → At pool root t n → Link pool root t a b → Link pool root t a' b' → (a ≡ a') × (b ≡ b')
  one p l m = one_link pool root good i (at_reached p) l m

  -- two paths to a row end by the same step
  depths : {t m n : ℕ} → At pool root t m → Last pool root t n → m ≡ n
  depths top (at_top e q) = sym q
  depths top (by_child a l u e q) = absurd (omega (arith, some a, (one top (root_link refl) (child_link a l u e)).0))
  depths top (by_next a e) = absurd (omega (arith, some a, (one top (root_link refl) (next_link a e)).0))
  depths (child a l u e o) (at_top f q) = absurd (omega (arith, some a, (one (child a l u e o) (root_link f) (child_link a l u e)).0))
  depths (child a l u e o) (by_child {m} a' l' u' e' q) =
      let s = (one (child a l u e o) (child_link a l u e) (child_link a' l' u' e')).0 in
      ap suc (depths {n = m} a (last (subst (λ (x : ℕ). At pool root x m) (sym s) a'))) ∙ sym q
  depths (child a l u e o) (by_next a' e') = absurd (omega (arith, u, (one (child a l u e o) (child_link a l u e) (next_link a' e')).1))
  depths (next a e o) (at_top f q) = absurd (omega (arith, some a, (one (next a e o) (root_link f) (next_link a e)).0))
  depths (next a e o) (by_child a' l' u' e' q) = absurd (omega (arith, u', (one (next a e o) (next_link a e) (child_link a' l' u' e')).1))
  depths {n} (next a e o) (by_next a' e') =
      let s = (one (next a e o) (next_link a e) (next_link a' e')).0 in
      depths {n = n} a (last (subst (λ (x : ℕ). At pool root x n) (sym s) a'))

  -- a row has one depth
  pub one_depth : {r m n : ℕ} → At pool root r m → At pool root r n → m ≡ n
  one_depth a b = depths a (last b)
