-- A statement or a block that fits, by its kind: what stands in its slots, and how deep that is.
use Prim.Native.Nat.{ℕ, suc, ◌+◌, ◌-◌, ◌%◌, ◌≤◌, ◌<◌, max}
use native.Mathlib.Omega.{arith}
use mathlib.Core.Path.{◌≡◌, refl}
use mathlib.Core.Bool.{and-eq-true_iff}
use lib.Dec.{ltb, leb}
use borrow.Author.Tests.{ltb-true, leb-true, eqb-true, ne_eqb}
use Rattle.grammar.specs.Tree.{Tree, infixed, node, Trees, nil, ◌▸◌}
use Rattle.slots.specs.Slots.{Takes, expressions, statements, blocks, no, one, at_most_one, of_statements, kind_of, slot, is_statement, takes, fits}
use Rattle.written.specs.Claims.{above, beside, deep, deeps}
use Rattle.written.proofs.Shapes.{Holds, empty, single, absent, present, never, Each, start, ◌▹◌, pick, Fit, AllFit, fit_head, Row, row, zero_mark}

-- A block, whose statements open `n` at most.
pub data Block (n : ℕ) : Tree → Type 0 where
  a_block : {m p end : ℕ} {us : Trees} → m % 256 ≡ 0 → AllFit statements us → deeps us ≤ n → Block n (node 46 m p us nil nil nil end)

-- An expression, and a block, in which `n` are open at most.
pub record Expression (n : ℕ) (t : Tree) : Type 0 where
  pub ok : Fit expressions t
  pub low : deep t ≤ n

pub record Body (n : ℕ) (t : Tree) : Type 0 where
  pub ok : Fit blocks t
  pub low : deep t ≤ n

-- A block or none.
pub data Maybe (n : ℕ) : Trees → Type 0 where
  without : Maybe n nil
  with_one : {t : Tree} → Body n t → Maybe n (t ▸ nil)

-- The statements, in whose slots `n` are open at most.
pub data Kept (n : ℕ) : Tree → Type 0 where
  a_break : {m p end : ℕ} → m % 256 ≡ 0 → Kept n (node 32 m p nil nil nil nil end)
  a_continue : {m p end : ℕ} → m % 256 ≡ 0 → Kept n (node 33 m p nil nil nil nil end)
  a_bare_var : {m p end : ℕ} → m % 256 ≡ 0 → Kept n (node 34 m p nil nil nil nil end)
  a_var : {m p end : ℕ} {t : Tree} → m % 256 ≡ 0 → Expression n t → Kept n (node 34 m p (t ▸ nil) nil nil nil end)
  a_const : {m p end : ℕ} {t : Tree} → m % 256 ≡ 0 → Expression n t → Kept n (node 35 m p (t ▸ nil) nil nil nil end)
  a_bare_return : {m p end : ℕ} → m % 256 ≡ 0 → Kept n (node 36 m p nil nil nil nil end)
  a_return : {m p end : ℕ} {t : Tree} → m % 256 ≡ 0 → Expression n t → Kept n (node 36 m p (t ▸ nil) nil nil nil end)
  a_throw : {m p end : ℕ} {t : Tree} → m % 256 ≡ 0 → Expression n t → Kept n (node 37 m p (t ▸ nil) nil nil nil end)
  an_expression : {m p end : ℕ} {t : Tree} → m % 256 ≡ 0 → Expression n t → Kept n (node 38 m p (t ▸ nil) nil nil nil end)
  a_try : {m p end : ℕ} {x y z : Tree} {w : Trees} → m % 256 ≡ 0 → Body n x → Expression n y → Body n z → Maybe n w
      → Kept n (node 39 m p (x ▸ nil) (y ▸ nil) (z ▸ nil) w end)
  a_function : {m p end : ℕ} {us : Trees} {t : Tree} → m % 256 ≡ 0 → AllFit expressions us → deeps us ≤ n → Body n t → Kept n (node 40 m p us (t ▸ nil) nil nil end)
  a_for : {m p end : ℕ} {x y z : Tree} → m % 256 ≡ 0 → Expression n x → Expression n y → Body n z → Kept n (node 41 m p (x ▸ nil) (y ▸ nil) (z ▸ nil) nil end)
  a_while : {m p end : ℕ} {x y : Tree} → m % 256 ≡ 0 → Expression n x → Body n y → Kept n (node 42 m p (x ▸ nil) (y ▸ nil) nil nil end)
  an_assert : {m p end : ℕ} {x y : Tree} → m % 256 ≡ 0 → Expression n x → Expression n y → Kept n (node 43 m p (x ▸ nil) (y ▸ nil) nil nil end)
  an_if : {m p end : ℕ} {x y : Tree} {z : Trees} → m % 256 ≡ 0 → Expression n x → Body n y → Maybe n z → Kept n (node 44 m p (x ▸ nil) (y ▸ nil) z nil end)
  a_foreach : {m p end : ℕ} {x y z w : Tree} → m % 256 ≡ 0 → Expression n x → Expression n y → Expression n z → Body n w
      → Kept n (node 45 m p (x ▸ nil) (y ▸ nil) (z ▸ nil) (w ▸ nil) end)

pub blocked : (n : ℕ) (t : Tree) → Fit blocks t → deep t ≤ n → Block n t
unfolding fits takes slot kind_of of_statements deep deeps above beside
blocked n (infixed m p l r end) h q = never h.fit
blocked n (node k m p x y z w end) h q =
    let r = row blocks k m p x y z w h in
    let e : k ≡ 46 = eqb-true k 46 r.taken in
    let r2 : Row blocks 46 m x y z w = rw e at r in
    rw e (go x y z w (zero_mark 46 m refl r2.mark) r2.h1 r2.h2 r2.h3 r2.f0 (rw e at q))
  where
    go : (x y z w : Trees) → m % 256 ≡ 0 → Holds no y → Holds no z → Holds no w → AllFit statements x → deep (node 46 m p x y z w end) ≤ n → Block n (node 46 m p x y z w end)
    go x y z w e empty empty empty f q = a_block e f (omega arith)

module _ (n end : ℕ) where
  record Low (x y z w : Trees) : Type 0 where
    x_low : deeps x ≤ n
    y_low : deeps y ≤ n
    z_low : deeps z ≤ n
    w_low : deeps w ≤ n

  exp : {t : Tree} {us : Trees} → AllFit expressions (t ▸ us) → deeps (t ▸ us) ≤ n → Expression n t
  unfolding deeps
  exp f h = record { ok = fit_head f; low = omega arith }

  body : {t : Tree} {us : Trees} → AllFit blocks (t ▸ us) → deeps (t ▸ us) ≤ n → Body n t
  unfolding deeps
  body f h = record { ok = fit_head f; low = omega arith }

  maybe : {us : Trees} → Holds at_most_one us → AllFit blocks us → deeps us ≤ n → Maybe n us
  maybe absent f h = without
  maybe present f h = with_one (body f h)

  abbrev Make : ℕ → Type 0
  Make k = (m p : ℕ) (x y z w : Trees) → Row statements k m x y z w → Low x y z w → Kept n (node k m p x y z w end)

  -- The slots by what they hold, and then the kind.
  none_in : (P : Trees → Trees → Trees → Trees → Type 0) (x y z w : Trees) → Holds no x → Holds no y → Holds no z → Holds no w → P nil nil nil nil → P x y z w
  none_in P x y z w empty empty empty empty h = h

  one_in : (s : Takes) (P : Trees → Trees → Trees → Trees → Type 0) (x y z w : Trees) → Holds one x → Holds no y → Holds no z → Holds no w → AllFit s x → deeps x ≤ n
      → ((t : Tree) → AllFit s (t ▸ nil) → deeps (t ▸ nil) ≤ n → P (t ▸ nil) nil nil nil) → P x y z w
  one_in s P x y z w (single {t}) empty empty empty f l h = h t f l

  perhaps_in : (P : Trees → Trees → Trees → Trees → Type 0) (x y z w : Trees) → Holds at_most_one x → Holds no y → Holds no z → Holds no w → AllFit expressions x → deeps x ≤ n
      → P nil nil nil nil → ((t : Tree) → AllFit expressions (t ▸ nil) → deeps (t ▸ nil) ≤ n → P (t ▸ nil) nil nil nil) → P x y z w
  perhaps_in P x y z w absent empty empty empty f l g h = g
  perhaps_in P x y z w (present {t}) empty empty empty f l g h = h t f l

  of_try : Make 39
  unfolding slot kind_of of_statements
  of_try m p x y z w r l = go x y z w r.h0 r.h1 r.h2 r.h3 r.f0 r.f1 r.f2 r.f3 l
    where
      go : (x y z w : Trees) → Holds one x → Holds one y → Holds one z → Holds at_most_one w → AllFit blocks x → AllFit expressions y → AllFit blocks z → AllFit blocks w
          → Low x y z w → Kept n (node 39 m p x y z w end)
      go x y z w single single single h f g i j l =
          a_try (zero_mark 39 m refl r.mark) (body f l.x_low) (exp g l.y_low) (body i l.z_low) (maybe h j l.w_low)

  of_function : Make 40
  unfolding slot kind_of of_statements
  of_function m p x y z w r l = go x y z w r.h1 r.h2 r.h3 r.f0 r.f1 l
    where
      go : (x y z w : Trees) → Holds one y → Holds no z → Holds no w → AllFit expressions x → AllFit blocks y → Low x y z w → Kept n (node 40 m p x y z w end)
      go x y z w single empty empty f g l = a_function (zero_mark 40 m refl r.mark) f l.x_low (body g l.y_low)

  of_for : Make 41
  unfolding slot kind_of of_statements
  of_for m p x y z w r l = go x y z w r.h0 r.h1 r.h2 r.h3 r.f0 r.f1 r.f2 l
    where
      go : (x y z w : Trees) → Holds one x → Holds one y → Holds one z → Holds no w → AllFit expressions x → AllFit expressions y → AllFit blocks z
          → Low x y z w → Kept n (node 41 m p x y z w end)
      go x y z w single single single empty f g i l = a_for (zero_mark 41 m refl r.mark) (exp f l.x_low) (exp g l.y_low) (body i l.z_low)

  of_while : Make 42
  unfolding slot kind_of of_statements
  of_while m p x y z w r l = go x y z w r.h0 r.h1 r.h2 r.h3 r.f0 r.f1 l
    where
      go : (x y z w : Trees) → Holds one x → Holds one y → Holds no z → Holds no w → AllFit expressions x → AllFit blocks y → Low x y z w → Kept n (node 42 m p x y z w end)
      go x y z w single single empty empty f g l = a_while (zero_mark 42 m refl r.mark) (exp f l.x_low) (body g l.y_low)

  of_assert : Make 43
  unfolding slot kind_of of_statements
  of_assert m p x y z w r l = go x y z w r.h0 r.h1 r.h2 r.h3 r.f0 r.f1 l
    where
      go : (x y z w : Trees) → Holds one x → Holds one y → Holds no z → Holds no w → AllFit expressions x → AllFit expressions y → Low x y z w → Kept n (node 43 m p x y z w end)
      go x y z w single single empty empty f g l = an_assert (zero_mark 43 m refl r.mark) (exp f l.x_low) (exp g l.y_low)

  of_if : Make 44
  unfolding slot kind_of of_statements
  of_if m p x y z w r l = go x y z w r.h0 r.h1 r.h2 r.h3 r.f0 r.f1 r.f2 l
    where
      go : (x y z w : Trees) → Holds one x → Holds one y → Holds at_most_one z → Holds no w → AllFit expressions x → AllFit blocks y → AllFit blocks z
          → Low x y z w → Kept n (node 44 m p x y z w end)
      go x y z w single single h empty f g i l = an_if (zero_mark 44 m refl r.mark) (exp f l.x_low) (body g l.y_low) (maybe h i l.z_low)

  of_foreach : Make 45
  unfolding slot kind_of of_statements
  of_foreach m p x y z w r l = go x y z w r.h0 r.h1 r.h2 r.h3 r.f0 r.f1 r.f2 r.f3 l
    where
      go : (x y z w : Trees) → Holds one x → Holds one y → Holds one z → Holds one w → AllFit expressions x → AllFit expressions y → AllFit expressions z → AllFit blocks w
          → Low x y z w → Kept n (node 45 m p x y z w end)
      go x y z w single single single single f g i j l =
          a_foreach (zero_mark 45 m refl r.mark) (exp f l.x_low) (exp g l.y_low) (exp i l.z_low) (body j l.w_low)

  all_made : Each (λ i. Make (32 + i)) 14
  unfolding slot kind_of of_statements
  all_made =
      start
      ▹ (λ m p x y z w r l. none_in (λ x y z w. Kept n (node 32 m p x y z w end)) x y z w r.h0 r.h1 r.h2 r.h3 (a_break (zero_mark 32 m refl r.mark)))
      ▹ (λ m p x y z w r l. none_in (λ x y z w. Kept n (node 33 m p x y z w end)) x y z w r.h0 r.h1 r.h2 r.h3 (a_continue (zero_mark 33 m refl r.mark)))
      ▹ (λ m p x y z w r l. perhaps_in (λ x y z w. Kept n (node 34 m p x y z w end)) x y z w r.h0 r.h1 r.h2 r.h3 r.f0 l.x_low (a_bare_var (zero_mark 34 m refl r.mark)) (λ t f g. a_var (zero_mark 34 m refl r.mark) (exp f g)))
      ▹ (λ m p x y z w r l. one_in expressions (λ x y z w. Kept n (node 35 m p x y z w end)) x y z w r.h0 r.h1 r.h2 r.h3 r.f0 l.x_low (λ t f g. a_const (zero_mark 35 m refl r.mark) (exp f g)))
      ▹ (λ m p x y z w r l. perhaps_in (λ x y z w. Kept n (node 36 m p x y z w end)) x y z w r.h0 r.h1 r.h2 r.h3 r.f0 l.x_low (a_bare_return (zero_mark 36 m refl r.mark)) (λ t f g. a_return (zero_mark 36 m refl r.mark) (exp f g)))
      ▹ (λ m p x y z w r l. one_in expressions (λ x y z w. Kept n (node 37 m p x y z w end)) x y z w r.h0 r.h1 r.h2 r.h3 r.f0 l.x_low (λ t f g. a_throw (zero_mark 37 m refl r.mark) (exp f g)))
      ▹ (λ m p x y z w r l. one_in expressions (λ x y z w. Kept n (node 38 m p x y z w end)) x y z w r.h0 r.h1 r.h2 r.h3 r.f0 l.x_low (λ t f g. an_expression (zero_mark 38 m refl r.mark) (exp f g)))
      ▹ of_try
      ▹ of_function
      ▹ of_for
      ▹ of_while
      ▹ of_assert
      ▹ of_if
      ▹ of_foreach

-- A statement has one level of its own.
above_one : (k m : ℕ) → 32 ≤ k → k < 46 → (above k m ≡ 1) × (beside k ≡ 0)
unfolding above beside
above_one k m h l =
    let n10 = ne_eqb k 10 (λ e. omega arith) in
    let n11 = ne_eqb k 11 (λ e. omega arith) in (
      rw (ne_eqb k 17 (λ e. omega arith), ne_eqb k 19 (λ e. omega arith), ne_eqb k 46 (λ e. omega arith), ne_eqb k 13 (λ e. omega arith), ne_eqb k 15 (λ e. omega arith), ne_eqb k 16 (λ e. omega arith), n11),
      rw (n10, n11),
    )

low_of : (x y z w n : ℕ) → 1 + max x (max (0 + y) (max z w)) ≤ suc n → (x ≤ n) × (y ≤ n) × (z ≤ n) × (w ≤ n)
low_of x y z w n h = (omega arith, omega arith, omega arith, omega arith)

-- Every statement that fits is of one of the kinds.
pub kept_of : (n : ℕ) (t : Tree) → Fit statements t → deep t ≤ suc n → Kept n t
unfolding fits takes is_statement deep
kept_of n (infixed m p l r end) o h = never o.fit
kept_of n (node k m p x y z w end) o h =
    let r = row statements k m p x y z w o in
    let (i, j) = (and-eq-true_iff (leb 32 k) (ltb k 46)).0 r.taken in
    let lo : 32 ≤ k = leb-true 32 k i in
    let hi : k < 46 = ltb-true k 46 j in
    let (a1, a2) = above_one k m lo hi in
    let (lx, ly, lz, lw) = low_of (deeps x) (deeps y) (deeps z) (deeps w) n (rw (a1, a2) at h) in
    let e : 32 + (k - 32) ≡ k = omega arith in
    let made : (m p : ℕ) (x y z w : Trees) → Row statements k m x y z w → Low n end x y z w → Kept n (node k m p x y z w end) =
    rw e at (pick (λ i. Make n end (32 + i)) 14 (k - 32) (omega arith) (all_made n end)) in
    made m p x y z w r (record { x_low = lx; y_low = ly; z_low = lz; w_low = lw })

pub one_open : (t : Tree) → Fit statements t → 1 ≤ deep t
unfolding fits takes is_statement deep
one_open (infixed m p l r end) o = never o.fit
one_open (node k m p x y z w end) o =
    let r = row statements k m p x y z w o in
    let (i, j) = (and-eq-true_iff (leb 32 k) (ltb k 46)).0 r.taken in
    let a = (above_one k m (leb-true 32 k i) (ltb-true k 46 j)).0 in
    omega arith
