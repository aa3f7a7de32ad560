-- A tree that fits, by its kind: what stands in its slots, and how deep that is.
use Prim.Native.Nat.{ℕ, zero, suc, ◌+◌, ◌/◌, ◌%◌, ◌≤◌, ◌<◌, max}
use native.Mathlib.Omega.{arith}
use mathlib.Core.Path.{◌≡◌, refl}
use mathlib.Core.Bool.{Bool, true, false, not, ◌&&◌, ◌||◌, and-eq-true_iff}
use mathlib.Core.List.{[], ◌∷◌}
use mathlib.Core.Logic.{◌⊎◌, inl, inr}
use lib.Dec.{eqb, ltb, leb}
use borrow.Author.Tests.{ltb-true, leb-true, eqb-true, eqb-false}
use Rattle.grammar.specs.Tree.{Tree, infixed, node, Trees, nil, ◌▸◌, ended, Grouped}
use Rattle.grammar.specs.Claims.{Value, an_identifier, an_integer, a_float, a_char, a_string, a_true, a_false, a_none}
use Rattle.slots.specs.Slots.{Takes, expressions, pairs, names, plain-identifier, Many, no, one, at_most_one, any, some, of_expressions, kind_of, slot, is_expression, takes, counts, marked, how_many, fits, all_fit}
use Rattle.written.specs.Written.{forms, look, form, piece, pieces, write}
use Rattle.written.specs.Claims.{above, beside, deep, deeps}
use Rattle.written.proofs.Dress.{seen, seens, dressed, dresseds, inner}

-- What a slot holds, by how many it takes.
pub data Holds : Many → Trees → Type 0 where
  empty : Holds no nil
  single : {t : Tree} → Holds one (t ▸ nil)
  absent : Holds at_most_one nil
  present : {t : Tree} → Holds at_most_one (t ▸ nil)
  list : {us : Trees} → Holds any us
  full : {t : Tree} {us : Trees} → Holds some (t ▸ us)

pub never : {A : Type 0} → false ≡ true → A
never h = let z : ◌≡◌ {A = ℕ} 0 1 = cc in absurd (omega arith)

pub holds : (m : Many) (us : Trees) → counts m (how_many us) ≡ true → Holds m us
unfolding counts
holds no nil h = empty
holds no (t ▸ us) h = absurd (omega (arith, eqb-true (1 + how_many us) 0 h))
holds one nil h = never h
holds one (t ▸ nil) h = single
holds one (t ▸ u ▸ us) h = absurd (omega (arith, eqb-true (1 + (1 + how_many us)) 1 h))
holds at_most_one nil h = absent
holds at_most_one (t ▸ nil) h = present
holds at_most_one (t ▸ u ▸ us) h = absurd (omega (arith, ltb-true (1 + (1 + how_many us)) 2 h))
holds any us h = list
holds some nil h = never h
holds some (t ▸ us) h = full

pub or_true : (a b : Bool) → a || b ≡ true → (a ≡ true) ⊎ (b ≡ true)
or_true true b h = inl refl
or_true false b h = inr h

pub marks_of : (k m n : ℕ) → (kind_of k).marks ≡ n → n ≤ 256 → marked k m ≡ true → m % 256 < n
unfolding marked
marks_of k m n e l h = go (or_true (ltb m (kind_of k).marks) (is_expression k && leb Grouped m && ltb m (Grouped + (kind_of k).marks)) h)
  where
    go : (ltb m (kind_of k).marks ≡ true) ⊎ (is_expression k && leb Grouped m && ltb m (Grouped + (kind_of k).marks) ≡ true) → m % 256 < n
    go (inl q) = omega (arith, ltb-true m (kind_of k).marks q)
    go (inr q) =
        let (x, y) = (and-eq-true_iff (is_expression k && leb Grouped m) (ltb m (Grouped + (kind_of k).marks))).0 q in
        let (u, v) = (and-eq-true_iff (is_expression k) (leb Grouped m)).0 x in
        omega (arith, ltb-true m (Grouped + (kind_of k).marks) y, leb-true Grouped m v)

-- One for each of the numbers below one, and the choice among them.
infixl 5 ◌▹◌
pub data Each (P : ℕ → Type 0) : ℕ → Type 0 where
  start : Each P 0
  ◌▹◌ : {n : ℕ} → Each P n → P n → Each P (suc n)

pub pick : (P : ℕ → Type 0) (n k : ℕ) → k < n → Each P n → P k
pick P zero k h e = absurd (omega arith)
pick P (suc n) k h (e ▹ p) = go (eqb k n) refl (λ l. pick P n k l e)
  where
    go : (c : Bool) → eqb k n ≡ c → (k < n → P k) → P k
    go true q f = let z : k ≡ n = eqb-true k n q in rw z p
    go false q f = let z : ¬ (k ≡ n) = eqb-false k n q in f (omega arith)

first_in : (x y n : ℕ) → 0 + max x y ≤ n → x ≤ n
first_in x y n h = omega arith

-- A tree that a slot takes, and trees that it takes.
pub record Fit (s : Takes) (t : Tree) : Type 0 where
  pub fit : fits s t ≡ true

pub record AllFit (s : Takes) (us : Trees) : Type 0 where
  pub fit : all_fit s us ≡ true

pub fit_head : {s : Takes} {t : Tree} {us : Trees} → AllFit s (t ▸ us) → Fit s t
unfolding all_fit
fit_head {s} {t} {us} h = record { fit = ((and-eq-true_iff (fits s t) (all_fit s us)).0 h.fit).0 }

pub fit_tail : {s : Takes} {t : Tree} {us : Trees} → AllFit s (t ▸ us) → AllFit s us
unfolding all_fit
fit_tail {s} {t} {us} h = record { fit = ((and-eq-true_iff (fits s t) (all_fit s us)).0 h.fit).1 }

-- What fitting says of a row.
pub record Row (s : Takes) (k m : ℕ) (x y z w : Trees) : Type 0 where
  pub taken : takes s k m ≡ true
  pub other : not (eqb k 12) ≡ true
  pub mark : marked k m ≡ true
  pub h0 : Holds (slot k 0).many x
  pub h1 : Holds (slot k 1).many y
  pub h2 : Holds (slot k 2).many z
  pub h3 : Holds (slot k 3).many w
  pub f0 : AllFit (slot k 0).kinds x
  pub f1 : AllFit (slot k 1).kinds y
  pub f2 : AllFit (slot k 2).kinds z
  pub f3 : AllFit (slot k 3).kinds w

pub row : {end : ℕ} (s : Takes) (k m p : ℕ) (x y z w : Trees) → Fit s (node k m p x y z w end) → Row s k m x y z w
unfolding fits
row s k m p x y z w h =
    let (e, f3) = (and-eq-true_iff _ (all_fit (slot k 3).kinds w)).0 h.fit in
    let (e, c3) = (and-eq-true_iff _ (counts (slot k 3).many (how_many w))).0 e in
    let (e, f2) = (and-eq-true_iff _ (all_fit (slot k 2).kinds z)).0 e in
    let (e, c2) = (and-eq-true_iff _ (counts (slot k 2).many (how_many z))).0 e in
    let (e, f1) = (and-eq-true_iff _ (all_fit (slot k 1).kinds y)).0 e in
    let (e, c1) = (and-eq-true_iff _ (counts (slot k 1).many (how_many y))).0 e in
    let (e, f0) = (and-eq-true_iff _ (all_fit (slot k 0).kinds x)).0 e in
    let (e, c0) = (and-eq-true_iff _ (counts (slot k 0).many (how_many x))).0 e in
    let (e, mk) = (and-eq-true_iff _ (marked k m)).0 e in
    let (tk, ot) = (and-eq-true_iff (takes s k m) (not (eqb k 12))).0 e in
    record {
      taken = tk;
      other = ot;
      mark = mk;
      h0 = holds (slot k 0).many x c0;
      h1 = holds (slot k 1).many y c1;
      h2 = holds (slot k 2).many z c2;
      h3 = holds (slot k 3).many w c3;
      f0 = record { fit = f0 };
      f1 = record { fit = f1 };
      f2 = record { fit = f2 };
      f3 = record { fit = f3 };
    }

-- The expressions that are written in brackets, with `n` open at most where they are read.
pub data Bracket (n : ℕ) : Tree → Type 0 where
  an_infix : {m p end : ℕ} {l r : Tree} → m % 256 < 23 → Fit expressions l → Fit expressions r → deep l + 1 ≤ n → deep r + 2 ≤ n → Bracket n (infixed m p l r end)
  an_index : {m p end : ℕ} {l i : Tree} → m % 256 ≡ 0 → Fit expressions l → Fit expressions i → deep l + 1 ≤ n → deep i + 2 ≤ n
      → Bracket n (node 10 m p (l ▸ nil) (i ▸ nil) nil nil end)
  a_call : {m p end : ℕ} {f : Tree} {us : Trees} → m % 256 < 4 → Fit expressions f → AllFit expressions us → deep f + (1 + m % 2 + m / 2 % 2) ≤ n
      → deeps us + (2 + m % 2 + m / 2 % 2) ≤ n → Bracket n (node 11 m p (f ▸ nil) us nil nil end)
  a_prefix : {m p end : ℕ} {t : Tree} → m % 256 < 4 → Fit expressions t → deep t + 2 ≤ n → Bracket n (node 13 m p (t ▸ nil) nil nil nil end)
  a_suffix : {m p end : ℕ} {t : Tree} → m % 256 < 2 → Fit expressions t → deep t + 1 ≤ n → Bracket n (node 14 m p (t ▸ nil) nil nil nil end)
  a_lambda : {m p end : ℕ} {u t : Tree} {us : Trees} → m % 256 ≡ 0 → AllFit expressions (u ▸ us) → Fit expressions t → deeps (u ▸ us) + 2 ≤ n → deep t + 2 ≤ n
      → Bracket n (node 15 m p (u ▸ us) (t ▸ nil) nil nil end)
  a_shell : {m p end : ℕ} {t : Tree} → m % 256 < 2 → Fit expressions t → deep t + 2 ≤ n → Bracket n (node 16 m p (t ▸ nil) nil nil nil end)

-- All expressions.
pub data Shape (n : ℕ) : Tree → Type 0 where
  a_value : {k m p w q end : ℕ} {made : ℕ → Tree} → Value w made → write (node k m p nil nil nil nil end) ≡ (w, q) ∷ []
      → ((s : ℕ) → seen (ended s (made s)) ≡ dressed (node k m p nil nil nil nil end)) → 1 ≤ n → Shape n (node k m p nil nil nil nil end)
  an_array : {m p end : ℕ} {us : Trees} → m % 256 ≡ 0 → AllFit expressions us → deeps us + 1 ≤ n → Shape n (node 8 m p us nil nil nil end)
  a_hash : {m p end : ℕ} {us : Trees} → m % 256 ≡ 0 → AllFit pairs us → deeps us + 1 ≤ n → Shape n (node 9 m p us nil nil nil end)
  an_attribute : {m p q i end : ℕ} {u : Tree} {us : Trees} → m % 256 ≡ 0 → AllFit names (u ▸ us) → 1 ≤ n
      → Shape n (node 17 m p (node 2 0 q nil nil nil nil i ▸ nil) (u ▸ us) nil nil end)
  bracketed : {t : Tree} → Bracket n t → Shape n t

-- The plain identifier of a dotted name.
bare : (m p : ℕ) (x y z w : Trees) (end : ℕ) → m ≡ 0 → Holds no x → Holds no y → Holds no z → Holds no w
    → (q : ℕ) × ((i : ℕ) × (node 2 m p x y z w end ≡ node 2 0 q nil nil nil nil i))
bare m p x y z w end e empty empty empty empty = (p, (end, rw e))

identified : (t : Tree) → Fit plain-identifier t → (q : ℕ) × ((i : ℕ) × (t ≡ node 2 0 q nil nil nil nil i))
unfolding fits takes slot kind_of of_expressions
identified (infixed m p l r end) h = never h.fit
identified (node k m p x y z w end) h =
    let r = row plain-identifier k m p x y z w h in
    let (i, j) = (and-eq-true_iff (eqb k 2) (eqb m 0)).0 r.taken in
    let e : k ≡ 2 = eqb-true k 2 i in
    let r2 : Row plain-identifier 2 m x y z w = rw e at r in
    rw e (bare m p x y z w end (eqb-true m 0 j) r2.h0 r2.h1 r2.h2 r2.h3)

-- The names of a dotted name, and the pairs of a hash.
pub data Named : Tree → Type 0 where
  a_name : {m p end : ℕ} → m % 256 ≡ 0 → Named (node 18 m p nil nil nil nil end)

pub data Paired (n : ℕ) : Tree → Type 0 where
  a_pair : {m p end : ℕ} {k v : Tree} → m % 256 ≡ 0 → Fit expressions k → Fit expressions v → deep k ≤ n → deep v ≤ n
      → Paired n (node 19 m p (k ▸ nil) (v ▸ nil) nil nil end)

pub zero_mark : (k m : ℕ) → (kind_of k).marks ≡ 1 → marked k m ≡ true → m % 256 ≡ 0
zero_mark k m e h = omega (arith, marks_of k m 1 e (omega arith) h)

pub named : (t : Tree) → Fit names t → Named t
unfolding fits takes slot kind_of of_expressions
named (infixed m p l r end) h = never h.fit
named (node k m p x y z w end) h =
    let r = row names k m p x y z w h in
    let e : k ≡ 18 = eqb-true k 18 r.taken in
    let r2 : Row names 18 m x y z w = rw e at r in
    rw e (go x y z w (zero_mark 18 m refl r2.mark) r2.h0 r2.h1 r2.h2 r2.h3)
  where
    go : (x y z w : Trees) → m % 256 ≡ 0 → Holds no x → Holds no y → Holds no z → Holds no w → Named (node 18 m p x y z w end)
    go x y z w e empty empty empty empty = a_name e

pub paired : (n : ℕ) (t : Tree) → Fit pairs t → deep t ≤ n → Paired n t
unfolding fits takes slot kind_of of_expressions deep deeps above beside
paired n (infixed m p l r end) h q = never h.fit
paired n (node k m p x y z w end) h q =
    let r = row pairs k m p x y z w h in
    let e : k ≡ 19 = eqb-true k 19 r.taken in
    let r2 : Row pairs 19 m x y z w = rw e at r in
    rw e (go x y z w (zero_mark 19 m refl r2.mark) r2.h0 r2.h1 r2.h2 r2.h3 r2.f0 r2.f1 (rw e at q))
  where
    go : (x y z w : Trees) → m % 256 ≡ 0 → Holds one x → Holds one y → Holds no z → Holds no w → AllFit expressions x → AllFit expressions y
        → deep (node 19 m p x y z w end) ≤ n → Paired n (node 19 m p x y z w end)
    go x y z w e single single empty empty f g q = a_pair e (fit_head f) (fit_head g) (omega arith) (omega arith)

module _ (n end : ℕ) where
  abbrev Make : ℕ → Type 0
  Make k = (m p : ℕ) (x y z w : Trees) → Row expressions k m x y z w → deep (node k m p x y z w end) ≤ n → Shape n (node k m p x y z w end)

  -- The values: rows without slots.
  leaf : {w' : ℕ} {made : ℕ → Tree} (k q m p : ℕ) (x y z w : Trees) → Value w' made → write (node k m p nil nil nil nil end) ≡ (w', q) ∷ []
      → ((s : ℕ) → seen (ended s (made s)) ≡ dressed (node k m p nil nil nil nil end)) → above k m ≡ 1
      → Holds no x → Holds no y → Holds no z → Holds no w → deep (node k m p x y z w end) ≤ n → Shape n (node k m p x y z w end)
  unfolding deep deeps
  leaf k q m p x y z w v e f a empty empty empty empty h = a_value v e f (omega arith)

  of_bool : Make 7
  unfolding deep deeps above slot kind_of of_expressions write form look forms pieces piece seen seens dressed dresseds inner
  of_bool m p x y z w r h = go (m % 256) refl
    where
      go : (i : ℕ) → m % 256 ≡ i → Shape n (node 7 m p x y z w end)
      go zero e = leaf 7 0 m p x y z w a_false (rw e) (λ s. rw e) refl r.h0 r.h1 r.h2 r.h3 h
      go (suc zero) e = leaf 7 0 m p x y z w a_true (rw e) (λ s. rw e) refl r.h0 r.h1 r.h2 r.h3 h
      go (suc (suc i)) e = absurd (omega (arith, marks_of 7 m 2 refl (omega arith) r.mark))

  of_array : Make 8
  unfolding deep deeps above slot kind_of of_expressions
  of_array m p x y z w r h = go x y z w r.h1 r.h2 r.h3 r.f0 h
    where
      go : (x y z w : Trees) → Holds no y → Holds no z → Holds no w → AllFit expressions x → deep (node 8 m p x y z w end) ≤ n → Shape n (node 8 m p x y z w end)
      go x y z w empty empty empty f h = an_array (zero_mark 8 m refl r.mark) f (omega arith)

  of_hash : Make 9
  unfolding deep deeps above slot kind_of of_expressions
  of_hash m p x y z w r h = go x y z w r.h1 r.h2 r.h3 r.f0 h
    where
      go : (x y z w : Trees) → Holds no y → Holds no z → Holds no w → AllFit pairs x → deep (node 9 m p x y z w end) ≤ n → Shape n (node 9 m p x y z w end)
      go x y z w empty empty empty f h = a_hash (zero_mark 9 m refl r.mark) f (omega arith)

  of_index : Make 10
  unfolding deep deeps above beside slot kind_of of_expressions
  of_index m p x y z w r h = go x y z w r.h0 r.h1 r.h2 r.h3 r.f0 r.f1 h
    where
      go : (x y z w : Trees) → Holds one x → Holds one y → Holds no z → Holds no w → AllFit expressions x → AllFit expressions y
          → deep (node 10 m p x y z w end) ≤ n → Shape n (node 10 m p x y z w end)
      go x y z w single single empty empty f g h = bracketed (an_index (zero_mark 10 m refl r.mark) (fit_head f) (fit_head g) (omega arith) (omega arith))

  of_call : Make 11
  unfolding deep deeps above beside slot kind_of of_expressions
  of_call m p x y z w r h = go x y z w r.h0 r.h2 r.h3 r.f0 r.f1 h
    where
      go : (x y z w : Trees) → Holds one x → Holds no z → Holds no w → AllFit expressions x → AllFit expressions y
          → deep (node 11 m p x y z w end) ≤ n → Shape n (node 11 m p x y z w end)
      go x y z w single empty empty f g h = bracketed (a_call (marks_of 11 m 4 refl (omega arith) r.mark) (fit_head f) g (omega arith) (omega arith))

  of_prefix : Make 13
  unfolding deep deeps above slot kind_of of_expressions
  of_prefix m p x y z w r h = go x y z w r.h0 r.h1 r.h2 r.h3 r.f0 h
    where
      go : (x y z w : Trees) → Holds one x → Holds no y → Holds no z → Holds no w → AllFit expressions x
          → deep (node 13 m p x y z w end) ≤ n → Shape n (node 13 m p x y z w end)
      go x y z w single empty empty empty f h = bracketed (a_prefix (marks_of 13 m 4 refl (omega arith) r.mark) (fit_head f) (omega arith))

  of_suffix : Make 14
  unfolding deep deeps above slot kind_of of_expressions
  of_suffix m p x y z w r h = go x y z w r.h0 r.h1 r.h2 r.h3 r.f0 h
    where
      go : (x y z w : Trees) → Holds one x → Holds no y → Holds no z → Holds no w → AllFit expressions x
          → deep (node 14 m p x y z w end) ≤ n → Shape n (node 14 m p x y z w end)
      go x y z w single empty empty empty f h = bracketed (a_suffix (marks_of 14 m 2 refl (omega arith) r.mark) (fit_head f) (omega arith))

  of_lambda : Make 15
  unfolding deep deeps above beside slot kind_of of_expressions
  of_lambda m p x y z w r h = go x y z w r.h0 r.h1 r.h2 r.h3 r.f0 r.f1 h
    where
      go : (x y z w : Trees) → Holds some x → Holds one y → Holds no z → Holds no w → AllFit expressions x → AllFit expressions y
          → deep (node 15 m p x y z w end) ≤ n → Shape n (node 15 m p x y z w end)
      go x y z w full single empty empty f g h = bracketed (a_lambda (zero_mark 15 m refl r.mark) f (fit_head g) (omega arith) (omega arith))

  of_shell : Make 16
  unfolding deep deeps above slot kind_of of_expressions
  of_shell m p x y z w r h = go x y z w r.h0 r.h1 r.h2 r.h3 r.f0 h
    where
      go : (x y z w : Trees) → Holds one x → Holds no y → Holds no z → Holds no w → AllFit expressions x
          → deep (node 16 m p x y z w end) ≤ n → Shape n (node 16 m p x y z w end)
      go x y z w single empty empty empty f h =
          bracketed (a_shell (marks_of 16 m 2 refl (omega arith) r.mark) (fit_head f) (omega arith))

  of_attribute : Make 17
  unfolding deep deeps above beside slot kind_of of_expressions
  of_attribute m p x y z w r h = go x y z w r.h0 r.h1 r.h2 r.h3 r.f0 r.f1 h
    where
      go : (x y z w : Trees) → Holds one x → Holds some y → Holds no z → Holds no w → AllFit plain-identifier x → AllFit names y
          → deep (node 17 m p x y z w end) ≤ n → Shape n (node 17 m p x y z w end)
      go x y z w (single {t}) (full {t = u} {us}) empty empty f g h =
          let (q, (i, e)) = identified t (fit_head f) in
          let h2 : deep (node 17 m p (node 2 0 q nil nil nil nil i ▸ nil) (u ▸ us) nil nil end) ≤ n = rw e at h in
          rw e (an_attribute (zero_mark 17 m refl r.mark) g (first_in 1 _ n h2))

  all_made : Each Make 18
  unfolding deep deeps above slot kind_of of_expressions is_expression takes write form look forms pieces piece seen seens dressed dresseds inner
  all_made =
      start
      ▹ (λ m p x y z w r h. never r.taken)
      ▹ (λ m p x y z w r h. let e : m % 256 ≡ 0 = zero_mark 1 m refl r.mark in leaf 1 0 m p x y z w a_none refl (λ s. rw e) refl r.h0 r.h1 r.h2 r.h3 h)
      ▹ (λ m p x y z w r h. let e : m % 256 ≡ 0 = zero_mark 2 m refl r.mark in leaf 2 p m p x y z w an_identifier refl (λ s. rw e) refl r.h0 r.h1 r.h2 r.h3 h)
      ▹ (λ m p x y z w r h. let e : m % 256 ≡ 0 = zero_mark 3 m refl r.mark in leaf 3 p m p x y z w an_integer refl (λ s. rw e) refl r.h0 r.h1 r.h2 r.h3 h)
      ▹ (λ m p x y z w r h. let e : m % 256 ≡ 0 = zero_mark 4 m refl r.mark in leaf 4 p m p x y z w a_float refl (λ s. rw e) refl r.h0 r.h1 r.h2 r.h3 h)
      ▹ (λ m p x y z w r h. let e : m % 256 ≡ 0 = zero_mark 5 m refl r.mark in leaf 5 p m p x y z w a_char refl (λ s. rw e) refl r.h0 r.h1 r.h2 r.h3 h)
      ▹ (λ m p x y z w r h. let e : m % 256 ≡ 0 = zero_mark 6 m refl r.mark in leaf 6 p m p x y z w a_string refl (λ s. rw e) refl r.h0 r.h1 r.h2 r.h3 h)
      ▹ of_bool
      ▹ of_array
      ▹ of_hash
      ▹ of_index
      ▹ of_call
      ▹ (λ m p x y z w r h. never r.other)
      ▹ of_prefix
      ▹ of_suffix
      ▹ of_lambda
      ▹ of_shell
      ▹ of_attribute

module _ (n : ℕ) where
  -- Every expression that fits has a shape.
  pub shape : (t : Tree) → Fit expressions t → deep t ≤ n → Shape n t
  unfolding deep fits takes is_expression kind_of of_expressions
  shape (infixed m p l r end) o h =
      let (e, fr) = (and-eq-true_iff (marked 12 m && fits expressions l) (fits expressions r)).0 o.fit in
      let (mk, fl) = (and-eq-true_iff (marked 12 m) (fits expressions l)).0 e in
      bracketed (an_infix {l = l} {r = r} (marks_of 12 m 23 refl (omega arith) mk) (record { fit = fl }) (record { fit = fr }) (omega arith) (omega arith))
  shape (node k m p x y z w end) o h =
      let r = row expressions k m p x y z w o in
      let (i, j) = (and-eq-true_iff (leb 1 k) (ltb k 18)).0 r.taken in
      pick (Make n end) 18 k (ltb-true k 18 j) (all_made n end) m p x y z w r h

  pub least : {t : Tree} → Shape n t → 1 ≤ n
  least (a_value v e f h) = h
  least (an_array e f h) = omega arith
  least (a_hash e f h) = omega arith
  least (an_attribute e f h) = h
  least (bracketed (an_infix e f g h i)) = omega arith
  least (bracketed (an_index e f g h i)) = omega arith
  least (bracketed (a_call e f g h i)) = omega arith
  least (bracketed (a_prefix e f h)) = omega arith
  least (bracketed (a_suffix e f h)) = omega arith
  least (bracketed (a_lambda e f g h i)) = omega arith
  least (bracketed (a_shell e f h)) = omega arith

-- An expression opens one at least, one in brackets two.
pub positive : (t : Tree) → Fit expressions t → 1 ≤ deep t
positive t o = least (deep t) (shape (deep t) t o (omega arith))

pub two : (n : ℕ) {t : Tree} → Bracket n t → 2 ≤ n
two n (an_infix e f g h i) = omega arith
two n (an_index e f g h i) = omega arith
two n (a_call e f g h i) = omega arith
two n (a_prefix e f h) = omega arith
two n (a_suffix {t} e f h) = omega (arith, positive t f)
two n (a_lambda e f g h i) = omega arith
two n (a_shell e f h) = omega arith
