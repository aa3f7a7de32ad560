-- The rows that a root reaches, and the links that lead to them.
use Prim.Native.Nat.{ℕ, ◌≤◌}
use native.Mathlib.Omega.{arith}
use mathlib.Core.Path.{◌≡◌, refl, sym, ◌∙◌}
use mathlib.Core.Logic.{◌⊎◌, inl, inr, ⊎_elim}
use mathlib.Core.List.{List}
use lib.ListN.{length, get_or}
use lib.Seq.{ext_get_or}
use Rattle.grammar.specs.Script.{word_of}
use Rattle.slots.proofs.Either.{less_or}
use Rattle.trees.specs.Pool.{count, In, Reached, start, on, Link, root_link, word_link, Twice}
use Rattle.trees.specs.Survey.{Told, unreached, the_root, by_two, by_one, Surveyed}

-- a row of the pool or not
pub in_or : (pool : List ℕ) (t : ℕ) → In pool t ⊎ (In pool t → ⊥)
in_or pool t =
    ⊎_elim (λ a. inr (λ o. omega (arith, o)))
    (λ a. ⊎_elim (λ b. inr (λ o. omega (arith, o))) (λ b. inl (a, b)) (less_or (count pool) t))
    (less_or t 1)

module _ {pool : List ℕ} {root : ℕ} where
  -- what is reached is in the pool
  pub reached_in : {t : ℕ} → In pool root → Reached pool root t → In pool t
  reached_in i start = i
  reached_in i (on r a b e n) = n

  -- what a link leads to is reached
  pub link_reaches : {t a b : ℕ} → In pool t → Link pool root t a b → Reached pool root t
  link_reaches i (root_link e) = rw (sym e) start
  link_reaches i (word_link x y z u v) = on x z u v i

  -- a row has a link just where it is reached
  pub linked_reached : {t a b : ℕ} → In pool t → Told pool root t a b → (b ≡ 0 → ⊥) → Reached pool root t
  linked_reached i (unreached y z n) f = absurd (f z)
  linked_reached i (the_root y z e u) f = rw (sym e) start
  linked_reached i (by_two y z w) f = link_reaches i w.link₁
  linked_reached i (by_one h o l u e n v) f = on h l u e i

  pub reached_linked : {t a b : ℕ} → Told pool root t a b → Reached pool root t → b ≡ 0 → ⊥
  reached_linked (unreached y z n) h f = n h
  reached_linked (the_root y z e u) h f = omega arith
  reached_linked (by_two y z w) h f = omega arith
  reached_linked (by_one h' o l u e n v) h f = omega arith

  -- what no word of a reached row refers to is not reached twice
  root_link_only : {t a b : ℕ} → ((r k : ℕ) → Reached pool root r → 3 ≤ k → k ≤ 7 → word_of pool r k ≡ t → ⊥) → Link pool root t a b → (a ≡ 0) × (b ≡ 0)
  root_link_only u (root_link e) = (refl, refl)
  root_link_only u (word_link x y z w v) = absurd (u _ _ x z w v)

  pub root_once : {t : ℕ} → ((r k : ℕ) → Reached pool root r → 3 ≤ k → k ≤ 7 → word_of pool r k ≡ t → ⊥) → Twice pool root t → ⊥
  root_once u w =
      let a = root_link_only u w.link₁ in
      let b = root_link_only u w.link₂ in
      w.different (a.0 ∙ sym b.0) (a.1 ∙ sym b.1)

  -- nor is what one word alone refers to
  word_link_only : {t owner word a b : ℕ} → (root ≡ t → ⊥) → ((r k : ℕ) → Reached pool root r → 3 ≤ k → k ≤ 7 → word_of pool r k ≡ t → (r ≡ owner) × (k ≡ word))
      → Link pool root t a b → (a ≡ owner) × (b ≡ word)
  word_link_only n u (root_link e) = absurd (n e)
  word_link_only n u (word_link x y z w v) = u _ _ x z w v

  pub word_once : {t owner word : ℕ} → (root ≡ t → ⊥) → ((r k : ℕ) → Reached pool root r → 3 ≤ k → k ≤ 7 → word_of pool r k ≡ t → (r ≡ owner) × (k ≡ word)) → Twice pool root t → ⊥
  word_once n u w =
      let a = word_link_only n u w.link₁ in
      let b = word_link_only n u w.link₂ in
      w.different (a.0 ∙ sym b.0) (a.1 ∙ sym b.1)

  -- a row has one link
  one_link : {t a b a' b' : ℕ} → In pool t → Told pool root t a b → Told pool root t a' b' → (a ≡ a') × (b ≡ b')
  one_link i (unreached y z n) (unreached y' z' n') = (y ∙ sym y', z ∙ sym z')
  one_link i (unreached y z n) (the_root y' z' e u) = absurd (n (rw (sym e) start))
  one_link i (unreached y z n) (by_two y' z' w) = absurd (n (link_reaches i w.link₁))
  one_link i (unreached y z n) (by_one re ip lo hi e nr u) = absurd (n (on re lo hi e i))
  one_link i (the_root y z e u) (unreached y' z' n) = absurd (n (rw (sym e) start))
  one_link i (the_root y z e u) (the_root y' z' e' u') = (y ∙ sym y', z ∙ sym z')
  one_link i (the_root y z e u) (by_two y' z' w) = absurd (root_once u w)
  one_link i (the_root y z e u) (by_one re ip lo hi e' nr u') = absurd (nr e)
  one_link i (by_two y z w) (unreached y' z' n) = absurd (n (link_reaches i w.link₁))
  one_link i (by_two y z w) (the_root y' z' e u) = absurd (root_once u w)
  one_link i (by_two y z w) (by_two y' z' w') = (y ∙ sym y', z ∙ sym z')
  one_link i (by_two y z w) (by_one re ip lo hi e nr u) = absurd (word_once nr u w)
  one_link i (by_one re ip lo hi e nr u) (unreached y z n) = absurd (n (on re lo hi e i))
  one_link i (by_one re ip lo hi e nr u) (the_root y z e' u') = absurd (nr e')
  one_link i (by_one re ip lo hi e nr u) (by_two y z w) = absurd (word_once nr u w)
  one_link i (by_one re ip lo hi e nr u) (by_one re' ip' lo' hi' e' nr' u') = u' _ _ re lo hi e

  -- so a survey finds one list of owners and one of words
  pub one_survey : {a b a' b' : List ℕ} → Surveyed pool root a b → Surveyed pool root a' b' → length a ≡ length a' → length b ≡ length b' → (a ≡ a') × (b ≡ b')
  one_survey {a} {b} {a'} {b'} s s' l m = (ext_get_or 0 a a' l (λ t h. (same t).0), ext_get_or 0 b b' m (λ t h. (same t).1))
    where
      same : (t : ℕ) → (get_or a t 0 ≡ get_or a' t 0) × (get_or b t 0 ≡ get_or b' t 0)
      same t =
          ⊎_elim (λ i. one_link i (s.each t i) (s'.each t i))
          (λ n. let o = s.outside t n in let o' = s'.outside t n in (o.0 ∙ sym o'.0, o.1 ∙ sym o'.1)) (in_or pool t)
