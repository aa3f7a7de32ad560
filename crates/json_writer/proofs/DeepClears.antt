-- Clearing the links of a list's rows, row by row.
use Prim.Native.Nat.{ℕ, suc, ◌≤◌, ◌<◌}
use native.Mathlib.Omega.{arith}
use mathlib.Core.Path.{◌≡◌, refl, ap, sym, subst, ◌∙◌}
use mathlib.Core.Bool.{true, ◌&&◌, and-eq-true_iff}
use mathlib.Core.Logic.{◌⊎◌, inl, inr, ⊎_elim}
use mathlib.Core.List.{List}
use lib.Dec.{ltb, leb}
use lib.ListN.{length, set, length-set}
use lib.Seq.{get_or-set_same, get_or-set_other}
use borrow.Author.Tests.{ltb-true, leb-true, ne_eqb}
use Rattle.grammar.specs.Script.{word_of}
use Rattle.slots.specs.Slots.{Many, slot, marked}
use Rattle.slots.specs.Fine.{child_fine, next_fine}
use Rattle.slots.proofs.Either.{same_or}
use Rattle.trees.specs.Pool.{count, In, row_fine, Reached, start, on}
use Rattle.trees.proofs.Sound.{child_used, six}
use Rattle.json_writer.specs.Deep.{At, top, child, next, Begins, Within, Clears}

-- nothing is cleared
pub clears_none : {P : ℕ → Type 0} (xs : List ℕ) → ((t : ℕ) → P t → ⊥) → Clears P xs xs
clears_none xs none = record { long = refl; gone = λ t p. absurd (none t p); rest = λ t. inl refl }

-- one place, and then others
clears_one : (xs : List ℕ) (r : ℕ) → r < length xs → Clears (λ t. t ≡ r) xs (set xs r 0)
clears_one xs r h = record {
  long = length-set xs r 0;
  gone = λ t e. rw e (get_or-set_same xs r 0 0 h);
  rest = λ t. ⊎_elim (λ e. inr e) (λ e. inl (get_or-set_other xs r t 0 0 e)) (same_or t r);
}

clears_then : {P Q : ℕ → Type 0} {xs ys zs : List ℕ} → Clears P xs ys → Clears Q ys zs → Clears (λ t. P t ⊎ Q t) xs zs
clears_then a b = record {
  long = b.long ∙ a.long;
  gone = λ t. ⊎_elim (λ p. ⊎_elim (λ e. e ∙ a.gone t p) (λ q. b.gone t q) (b.rest t)) (λ q. b.gone t q);
  rest = λ t. ⊎_elim (λ e. ⊎_elim (λ f. inl (e ∙ f)) (λ p. inr (inl p)) (a.rest t)) (λ q. inr (inr q)) (b.rest t);
}

-- the same places, said otherwise
clears_as : {P Q : ℕ → Type 0} {xs ys : List ℕ} → ((t : ℕ) → P t → Q t) → ((t : ℕ) → Q t → P t) → Clears P xs ys → Clears Q xs ys
clears_as f g c = record {
  long = c.long;
  gone = λ t q. c.gone t (g t q);
  rest = λ t. ⊎_elim (λ e. inl e) (λ p. inr (f t p)) (c.rest t);
}

module _ {pool : List ℕ} {c : ℕ} where
  -- what a word of a row reaches, the row reaches
  reaches_over : {k q : ℕ} → 3 ≤ k → k ≤ 7 → In pool (word_of pool c k) → Reached pool (word_of pool c k) q → Reached pool c q
  reaches_over l u i start = on start l u refl i
  reaches_over l u i (on h a b e o) = on (reaches_over l u i h) a b e o

  -- a path from a child, and one from the next row, with a step before it
  from_child : {k t n : ℕ} → 3 ≤ k → k ≤ 6 → In pool (word_of pool c k) → At pool (word_of pool c k) t n → At pool c t (suc n)
  from_child l u i top = child top l u refl i
  from_child l u i (child a x y e o) = child (from_child l u i a) x y e o
  from_child l u i (next a e o) = next (from_child l u i a) e o

  from_next : {t n : ℕ} → In pool (word_of pool c 7) → At pool (word_of pool c 7) t n → At pool c t n
  from_next i top = next top refl i
  from_next i (child a x y e o) = child (from_next i a) x y e o
  from_next i (next a e o) = next (from_next i a) e o

module _ (pool : List ℕ) (c : ℕ) where
  -- the first step of a path
  data First (t n : ℕ) : Type 0 where
    itself : t ≡ c → n ≡ 1 → First t n
    by_child : {k m : ℕ} → 3 ≤ k → k ≤ 6 → In pool (word_of pool c k) → At pool (word_of pool c k) t m → n ≡ suc m → First t n
    by_next : In pool (word_of pool c 7) → At pool (word_of pool c 7) t n → First t n

  -- the word of the row itself
  own_word : (k : ℕ) {r t : ℕ} → r ≡ c → word_of pool r k ≡ t → word_of pool c k ≡ t
  own_word k {r} {t} f e = subst (λ (x : ℕ). word_of pool x k ≡ t) f e

  then_child : {r k t n : ℕ} → First r n → 3 ≤ k → k ≤ 6 → word_of pool r k ≡ t → In pool t → First t (suc n)
  then_child {r} {k} {t} (itself f q) l u e i =
      let w = own_word k f e in
      by_child l u (subst (λ (x : ℕ). In pool x) (sym w) i) (subst (λ (x : ℕ). At pool (word_of pool c k) x 1) w top) (ap suc q)
  then_child (by_child x y o a q) l u e i = by_child x y o (child a l u e i) (ap suc q)
  then_child (by_next o a) l u e i = by_next o (child a l u e i)

  then_next : {r t n : ℕ} → First r n → word_of pool r 7 ≡ t → In pool t → First t n
  then_next {r} {t} {n} (itself f q) e i =
      let w = own_word 7 f e in
      by_next (subst (λ (x : ℕ). In pool x) (sym w) i)
      (subst (λ (m : ℕ). At pool (word_of pool c 7) t m) (sym q) (subst (λ (x : ℕ). At pool (word_of pool c 7) x 1) w top))
  then_next (by_child x y o a q) e i = by_child x y o (next a e i) q
  then_next (by_next o a) e i = by_next o (next a e i)

  first : {t n : ℕ} → At pool c t n → First t n
  first top = itself refl refl
  first (child a l u e i) = then_child (first a) l u e i
  first (next a e i) = then_next (first a) e i

module _ (pool : List ℕ) (r less : ℕ) where
  -- a row below r by one of its words before k, and such a row or r itself
  pub record Under (k t : ℕ) : Type 0 where
    pub word : ℕ
    pub low : 3 ≤ word
    pub high : word < k
    pub within : Within pool (word_of pool r word) less t

  abbrev pub Own : (k t : ℕ) → Type 0
  Own k t = (t ≡ r) ⊎ Under k t

  -- clearing r, and then a word's list
  pub own_first : (xs : List ℕ) → r < length xs → Clears (Own 3) xs (set xs r 0)
  own_first xs h =
      clears_as (λ t e. inl e) (λ t. ⊎_elim (λ e. e) (λ u. absurd (omega (arith, u.low, u.high)))) (clears_one xs r h)

  pub own_more : {k : ℕ} {xs ys zs : List ℕ} → 3 ≤ k → Clears (Own k) xs ys → Clears (Within pool (word_of pool r k) less) ys zs → Clears (Own (suc k)) xs zs
  own_more {k} l a b = clears_as to from (clears_then a b)
    where
      to : (t : ℕ) → Own k t ⊎ Within pool (word_of pool r k) less t → Own (suc k) t
      to t =
          ⊎_elim (⊎_elim (λ e. inl e) (λ u. inr (record { word = u.word; low = u.low; high = omega (arith, u.high); within = u.within })))
          (λ w. inr (record { word = k; low = l; high = omega arith; within = w }))

      from : (t : ℕ) → Own (suc k) t → Own k t ⊎ Within pool (word_of pool r k) less t
      from t =
          ⊎_elim (λ e. inl (inl e))
          (λ u.
          ⊎_elim (λ s. inr (subst (λ (j : ℕ). Within pool (word_of pool r j) less t) s u.within))
          (λ s. inl (inr (record { word = u.word; low = u.low; high = omega (arith, u.high); within = u.within }))) (same_or u.word k))

  -- the row with its children, and those behind it
  pub own_list : {xs ys zs : List ℕ} → In pool r → Clears (Own 7) xs ys → Clears (Within pool (word_of pool r 7) (suc less)) ys zs → Clears (Within pool r (suc less)) xs zs
  own_list i a b = clears_as to from (clears_then a b)
    where
      to : (t : ℕ) → Own 7 t ⊎ Within pool (word_of pool r 7) (suc less) t → Within pool r (suc less) t
      to t =
          ⊎_elim
          (⊎_elim (λ e. record { inside = i; depth = 1; path = rw e top; near = omega arith })
          (λ u.
          let w = u.within in
          record { inside = i; depth = suc w.depth; path = from_child u.low (omega (arith, u.high)) w.inside w.path; near = omega (arith, w.near) }))
          (λ w. record { inside = i; depth = w.depth; path = from_next w.inside w.path; near = w.near })

      split : {t n : ℕ} → n ≤ suc less → First pool r t n → Own 7 t ⊎ Within pool (word_of pool r 7) (suc less) t
      split h (itself e q) = inl (inl e)
      split h (by_child {k} {m} l u o p q) =
          inl (inr (record { word = k; low = l; high = omega arith; within = record { inside = o; depth = m; path = p; near = omega arith } }))
      split {t} {n} h (by_next o p) = inr (record { inside = o; depth = n; path = p; near = h })

      from : (t : ℕ) → Within pool r (suc less) t → Own 7 t ⊎ Within pool (word_of pool r 7) (suc less) t
      from t w = split w.near (first pool r w.path)

-- a row's lists begin at rows without fault
module _ (pool : List ℕ) {r : ℕ} (i : In pool r) (fine : (q : ℕ) → Reached pool r q → row_fine pool q ≡ true) where
  -- the parts of the test
  abbrev kind : ℕ
  kind = word_of pool r 0

  parts : (marked kind (word_of pool r 1) ≡ true) × (child_fine (slot kind 0).many r (word_of pool r 3) ≡ true) × (child_fine (slot kind 1).many r (word_of pool r 4) ≡ true)
      × (child_fine (slot kind 2).many r (word_of pool r 5) ≡ true) × (child_fine (slot kind 3).many r (word_of pool r 6) ≡ true) × (next_fine (count pool) r (word_of pool r 7) ≡ true)
  unfolding row_fine
  parts = six _ _ _ _ _ _ (fine r start)

  begins : {k : ℕ} → 3 ≤ k → k ≤ 7 → ((word_of pool r k ≡ 0 → ⊥) → In pool (word_of pool r k)) → Begins pool (word_of pool r k)
  begins l u o n = (o n, λ q h. fine q (reaches_over l u (o n) h))

  begins_child : (m : Many) {k : ℕ} → 3 ≤ k → k ≤ 7 → child_fine m r (word_of pool r k) ≡ true → Begins pool (word_of pool r k)
  begins_child m {k} l u f = begins l u (λ n. omega (arith, n, (child_used m r (word_of pool r k) n f).1, i))

  pub begins_0 : Begins pool (word_of pool r 3)
  begins_0 = begins_child (slot kind 0).many (omega arith) (omega arith) parts.1

  pub begins_1 : Begins pool (word_of pool r 4)
  begins_1 = begins_child (slot kind 1).many (omega arith) (omega arith) parts.2

  pub begins_2 : Begins pool (word_of pool r 5)
  begins_2 = begins_child (slot kind 2).many (omega arith) (omega arith) parts.3

  pub begins_3 : Begins pool (word_of pool r 6)
  begins_3 = begins_child (slot kind 3).many (omega arith) (omega arith) parts.4

  pub behind : (word_of pool r 7 ≡ 0 → ⊥) → (r < word_of pool r 7) × (word_of pool r 7 ≤ count pool)
  unfolding next_fine
  behind n =
      let nx = word_of pool r 7 in
      let f : (ltb r nx && leb nx (count pool)) ≡ true = rw (ne_eqb nx 0 n) at parts.5 in
      let g = (and-eq-true_iff (ltb r nx) (leb nx (count pool))).0 f in
      (ltb-true r nx g.0, leb-true nx (count pool) g.1)

  pub begins_next : Begins pool (word_of pool r 7)
  begins_next = begins {k = 7} (omega arith) (omega arith) (λ n. omega (arith, n, behind n))
