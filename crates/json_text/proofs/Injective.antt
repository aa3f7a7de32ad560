-- Two trees have the same text exactly where they are alike.
use mathlib.Core.Path.{◌≡◌, refl, sym, ap, ◌∙◌}
use mathlib.Core.Bool.{Bool, true, false, not, ◌&&◌, ◌||◌, and-eq-true_iff}
use mathlib.Core.Logic.{◌⊎◌, inl, inr}
use mathlib.Core.List.{List, [], append-nil}
use Prim.Native.Nat.{ℕ, ◌<◌}
use native.Mathlib.Omega.{arith}
use lib.Dec.{eqb, ltb, leb}
use native.Mathlib.Decide.{dec_lt}
use lib.ListN.{length, get_or-eq_default}
use borrow.Author.Tests.{ltb-true, leb-true, eqb-true, eq-eqb, not-true}
use Rattle.grammar.specs.Tree.{Tree, infixed, node, Trees, nil, ◌▸◌}
use Rattle.slots.specs.Slots.{Takes, expressions, statements, blocks, pairs, names, plain-identifier, any-root, takes, is_expression, is_statement, marked, slot, counts, how_many, fits, all_fit}
use Rattle.slots.proofs.Either.{no_both}
use Rattle.payloads.specs.Fields.{Field, NoClass, payload_at, class_at}
use Rattle.payloads.specs.Needs.{needs, placed}
use Rattle.payloads.specs.Claims.{Proper}
use Rattle.json_text.specs.Json.{head, text, texts}
use Rattle.json_text.specs.Claims.{all_placed, each_placed, Ready, Alike, rows, infixes, EachAlike, none, more, Injective, Delimited}
use Rattle.json_text.proofs.Names.{Known}
use Rattle.json_text.proofs.Payloads.{class_of, class_below}
use Rattle.json_text.proofs.Rows.{Row, Same, paid_same}
use Rattle.json_text.proofs.Trees.{Counted, Good, Goods, text_law}

either : (a b : Bool) → a || b ≡ true → (a ≡ true) ⊎ (b ≡ true)
either true b e = inl refl
either false b e = inr e

-- a kind that a slot takes is known
an_expression : (k : ℕ) → is_expression k ≡ true → Known k
unfolding is_expression
an_expression k e = let (a, b) = (and-eq-true_iff (leb 1 k) (ltb k 18)).0 e in inl (leb-true 1 k a, omega (arith, ltb-true k 18 b))

a_statement : (k : ℕ) → is_statement k ≡ true → Known k
unfolding is_statement
a_statement k e = let (a, b) = (and-eq-true_iff (leb 32 k) (ltb k 46)).0 e in inr (leb-true 32 k a, omega (arith, ltb-true k 46 b))

taken : (s : Takes) (k m : ℕ) → takes s k m ≡ true → Known k
unfolding takes
taken expressions k m e = an_expression k e
taken statements k m e = a_statement k e
taken blocks k m e = let h = eqb-true k 46 e in inr (omega arith, omega arith)
taken pairs k m e = let h = eqb-true k 19 e in inl (omega arith, omega arith)
taken names k m e = let h = eqb-true k 18 e in inl (omega arith, omega arith)
taken plain-identifier k m e = let h = eqb-true k 2 ((and-eq-true_iff (eqb k 2) (eqb m 0)).0 e).0 in inl (omega arith, omega arith)
taken any-root k m e = go (either (is_expression k || is_statement k) (eqb k 46) e)
  where
    part : (is_expression k ≡ true) ⊎ (is_statement k ≡ true) → Known k
    part (inl f) = an_expression k f
    part (inr f) = a_statement k f

    go : (is_expression k || is_statement k ≡ true) ⊎ (eqb k 46 ≡ true) → Known k
    go (inl f) = part (either (is_expression k) (is_statement k) f)
    go (inr f) = let h = eqb-true k 46 f in inr (omega arith, omega arith)

-- the parts of a row's test
record Fit (s : Takes) (k m : ℕ) (a b c d : Trees) : Type 0 where
  kind : takes s k m ≡ true
  other : not (eqb k 12) ≡ true
  count : Counted k a b c d
  fit_0 : all_fit (slot k 0).kinds a ≡ true
  fit_1 : all_fit (slot k 1).kinds b ≡ true
  fit_2 : all_fit (slot k 2).kinds c ≡ true
  fit_3 : all_fit (slot k 3).kinds d ≡ true

fit : (s : Takes) (k m p z : ℕ) (a b c d : Trees) → fits s (node k m p a b c d z) ≡ true → Fit s k m a b c d
unfolding fits
fit s k m p z a b c d e =
    let (e1, d1) = (and-eq-true_iff _ (all_fit (slot k 3).kinds d)).0 e in
    let (e2, d2) = (and-eq-true_iff _ (counts (slot k 3).many (how_many d))).0 e1 in
    let (e3, c1) = (and-eq-true_iff _ (all_fit (slot k 2).kinds c)).0 e2 in
    let (e4, c2) = (and-eq-true_iff _ (counts (slot k 2).many (how_many c))).0 e3 in
    let (e5, b1) = (and-eq-true_iff _ (all_fit (slot k 1).kinds b)).0 e4 in
    let (e6, b2) = (and-eq-true_iff _ (counts (slot k 1).many (how_many b))).0 e5 in
    let (e7, a1) = (and-eq-true_iff _ (all_fit (slot k 0).kinds a)).0 e6 in
    let (e8, a2) = (and-eq-true_iff _ (counts (slot k 0).many (how_many a))).0 e7 in
    let (e9, m1) = (and-eq-true_iff (takes s k m && not (eqb k 12)) (marked k m)).0 e8 in
    let (t, o) = (and-eq-true_iff (takes s k m) (not (eqb k 12))).0 e9 in
    record { kind = t; other = o; count = record { in_0 = a2; in_1 = b2; in_2 = c2; in_3 = d2 }; fit_0 = a1; fit_1 = b1; fit_2 = c1; fit_3 = d1 }

infix_fit : (s : Takes) (m p z : ℕ) (l r : Tree) → fits s (infixed m p l r z) ≡ true → (fits expressions l ≡ true) × (fits expressions r ≡ true)
unfolding fits
infix_fit s m p z l r e =
    let (e1, r1) = (and-eq-true_iff _ (fits expressions r)).0 e in
    let (e2, l1) = (and-eq-true_iff (takes s 12 m && marked 12 m) (fits expressions l)).0 e1 in
    (l1, r1)

more_fit : (s : Takes) (t : Tree) (ts : Trees) → all_fit s (t ▸ ts) ≡ true → (fits s t ≡ true) × (all_fit s ts ≡ true)
unfolding all_fit
more_fit s t ts e = (and-eq-true_iff (fits s t) (all_fit s ts)).0 e

-- a place with a class is that of a field
inside : (fs : List Field) (p : ℕ) → class_at fs p < NoClass → p < length fs
unfolding class_at
inside fs p h = go (dec_lt p (length fs))
  where
    go : Dec (p < length fs) → p < length fs
    go (yes l) = l
    go (no l) = let e = get_or-eq_default fs (NoClass, []) {n = p} (omega arith) in absurd (omega (arith, ap (λ f. f.0) e))

-- the parts of a tree that is placed
module _ (fs : List Field) where
  pub record Placed (k p : ℕ) (a b c d : Trees) : Type 0 where
    pub row : placed fs k p ≡ true
    pub in_0 : each_placed fs a ≡ true
    pub in_1 : each_placed fs b ≡ true
    pub in_2 : each_placed fs c ≡ true
    pub in_3 : each_placed fs d ≡ true

  pub place : (k m p z : ℕ) (a b c d : Trees) → all_placed fs (node k m p a b c d z) ≡ true → Placed k p a b c d
  unfolding all_placed
  place k m p z a b c d e =
      let (e1, d1) = (and-eq-true_iff _ (each_placed fs d)).0 e in
      let (e2, c1) = (and-eq-true_iff _ (each_placed fs c)).0 e1 in
      let (e3, b1) = (and-eq-true_iff _ (each_placed fs b)).0 e2 in
      let (r, a1) = (and-eq-true_iff (placed fs k p) (each_placed fs a)).0 e3 in
      record { row = r; in_0 = a1; in_1 = b1; in_2 = c1; in_3 = d1 }

  pub infix_placed : (m p z : ℕ) (l r : Tree) → all_placed fs (infixed m p l r z) ≡ true → (all_placed fs l ≡ true) × (all_placed fs r ≡ true)
  unfolding all_placed
  infix_placed m p z l r e = (and-eq-true_iff (all_placed fs l) (all_placed fs r)).0 e

  pub more_placed : (t : Tree) (ts : Trees) → each_placed fs (t ▸ ts) ≡ true → (all_placed fs t ≡ true) × (each_placed fs ts ≡ true)
  unfolding all_placed
  more_placed t ts e = (and-eq-true_iff (all_placed fs t) (each_placed fs ts)).0 e

module _ (fs : List Field) (proper : (p : ℕ) → p < length fs → Proper (class_at fs p) (payload_at fs p)) where
  -- the payload of a row that is placed goes with the class that the kind needs
  pub placed_proper : (k p : ℕ) → placed fs k p ≡ true → (needs k ≡ 0 → ⊥) → Proper (needs k) (payload_at fs p)
  unfolding placed
  placed_proper k p e some = go (either (eqb (needs k) 0) (eqb (class_at fs p) (needs k)) e)
    where
      go : (eqb (needs k) 0 ≡ true) ⊎ (eqb (class_at fs p) (needs k) ≡ true) → Proper (needs k) (payload_at fs p)
      go (inl f) = absurd (some (eqb-true (needs k) 0 f))
      go (inr f) = let same = eqb-true (class_at fs p) (needs k) f in rw same at (proper p (inside fs p (rw same (class_below (class_of k)))))

  a_row : (k p : ℕ) → Known k → placed fs k p ≡ true → Row fs k p
  a_row k p h e = record { known = h; proper = placed_proper k p e }

  not_infix : (k : ℕ) → not (eqb k 12) ≡ true → k ≡ 12 → ⊥
  not_infix k e h = no_both (sym (eq-eqb k 12 h) ∙ not-true (eqb k 12) e)

  mutual
    good : (t : Tree) (s : Takes) → fits s t ≡ true → all_placed fs t ≡ true → Good fs t
    good (infixed m p l r z) s e f =
        let (a, b) = infix_fit s m p z l r e in
        let (c, d) = infix_placed fs m p z l r f in
        (good l expressions a c, good r expressions b d)
    good (node k m p a b c d z) s e f =
        let h = fit s k m p z a b c d e in
        let g = place fs k m p z a b c d f in (
          a_row k p (taken s k m h.kind) g.row,
          not_infix k h.other,
          h.count,
          goods a (slot k 0).kinds h.fit_0 g.in_0,
          goods b (slot k 1).kinds h.fit_1 g.in_1,
          goods c (slot k 2).kinds h.fit_2 g.in_2,
          goods d (slot k 3).kinds h.fit_3 g.in_3,
        )

    goods : (ts : Trees) (s : Takes) → all_fit s ts ≡ true → each_placed fs ts ≡ true → Goods fs ts
    goods nil s e f = tt
    goods (t ▸ ts) s e f =
        let (a, b) = more_fit s t ts e in
        let (c, d) = more_placed fs t ts f in
        (good t s a c, goods ts s b d)

pub ready : (fs : List Field) (t : Tree) → Ready fs t → Good fs t
ready fs t r = good fs r.fields t any-root r.tree r.places

pub delimited : Delimited
delimited fs gs t u x y r s e = text_law fs gs t u x y (ready fs t r) (ready gs u s) e

-- alike trees have the same text
head_same : (fs gs : List Field) (k m p : ℕ) → Same fs gs k p → head fs k m p ≡ head gs k m p
unfolding head
head_same fs gs k m p s = rw (paid_same fs gs k p s)

infix_same : (fs gs : List Field) (p : ℕ) → Same fs gs 12 p
unfolding needs
infix_same fs gs p h = absurd (h refl)

mutual
  unfolding text

  pub same_text : {fs gs : List Field} {t u : Tree} → Alike fs gs t u → text fs t ≡ text gs u
  same_text {fs} {gs} (rows {k} {m} {p} s a b c d) = rw (head_same fs gs k m p s, same_texts a, same_texts b, same_texts c, same_texts d)
  same_text {fs} {gs} (infixes {m} {p} l r) = rw (head_same fs gs 12 m p (infix_same fs gs p), same_text l, same_text r)

  pub same_texts : {fs gs : List Field} {ts us : Trees} → EachAlike fs gs ts us → texts fs ts ≡ texts gs us
  same_texts none = refl
  same_texts (more t ts) = rw (same_text t, same_texts ts)

pub injective : Injective
injective fs gs t u r s =
    (λ e. (delimited fs gs t u [] [] r s (rw (append-nil (text fs t), append-nil (text gs u)) e)).0, λ a. same_text a)
