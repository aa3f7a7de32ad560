-- A tree that no bad row is in: its rows are different, and each has its children before it and its next behind it. Each row has one link, so no two
-- ways lead down to it.
use Prim.Native.Nat.{ℕ, ◌≤◌, ◌<◌}
use native.Mathlib.Omega.{arith}
use mathlib.Core.Path.{◌≡◌, refl, sym, subst, ◌∙◌}
use mathlib.Core.Bool.{true}
use mathlib.Core.Logic.{◌⊎◌, inl, inr, ⊎_elim}
use mathlib.Core.List.{List, [], ◌∷◌, ◌++◌, map}
use lib.Dec.{eqb, ltb, leb}
use borrow.Author.Tests.{eqb-true, ltb-true, ne_eqb}
use Rattle.grammar.specs.Tree.{Tree, Trees}
use Rattle.grammar.specs.Script.{word_of}
use Rattle.slots.specs.Slots.{Slot, Many, ◌of◌, one, any-root, slot, takes, marked}
use Rattle.slots.specs.Fine.{child_fine, next_fine, taken}
use Rattle.slots.proofs.Either.{same_or}
use Rattle.trees.specs.Pool.{count, In, row_fine, Reached, start, on, Link, as_root, fault, misfit, Holds, infix_row, row, HoldsAll, none, more}
use Rattle.trees.specs.Verdict.{NoneBad}
use Rattle.trees.specs.Complete.{Entry, entry, Has, Distinct, entries, below, Orderly, refs}
use Rattle.trees.proofs.Firsts.{both_hold}
use Rattle.trees.proofs.Sound.{holds_if, child_used, six, Down, Path, here, step, one_link, link_of, before, acyclic}

abbrev pub rows_in : List Entry → List ℕ
rows_in xs = map (λ e. e.row) xs

pub has_split : (n : ℕ) (xs ys : List Entry) → Has n (rows_in (xs ++ ys)) → Has n (rows_in xs) ⊎ Has n (rows_in ys)
has_split n [] ys h = inr h
has_split n (x ∷ xs) ys h = ⊎_elim (λ e. inl (inl e)) (λ r. ⊎_elim (λ a. inl (inr a)) (λ b. inr b) (has_split n xs ys r)) h

pub join : (xs ys : List Entry) → Distinct (rows_in xs) → Distinct (rows_in ys) → ((n : ℕ) → Has n (rows_in xs) → Has n (rows_in ys) → ⊥) → Distinct (rows_in (xs ++ ys))
join [] ys d e f = e
join (x ∷ xs) ys d e f = (λ h. ⊎_elim (λ a. d.0 a) (λ b. f x.row (inl refl) b) (has_split x.row xs ys h), join xs ys d.1 e (λ n a b. f n (inr a) b))

-- a good row's child is an earlier row or 0, and its next a later one or 0
child_before : (m : Many) (r c : ℕ) → 1 ≤ r → child_fine m r c ≡ true → c < r
child_before m r c l f = ⊎_elim (λ e. omega arith) (λ e. (child_used m r c e f).1) (same_or c 0)

next_behind : (n r c : ℕ) → next_fine n r c ≡ true → (c ≡ 0) ⊎ (r < c)
unfolding next_fine
next_behind n r c f = ⊎_elim (λ e. inl e) (λ e. inr (ltb-true r c (both_hold (ltb r c) (leb c n) (rw (ne_eqb c 0 e) at f)).0)) (same_or c 0)

module _ (pool : List ℕ) (root : ℕ) (good : NoneBad pool root) (i : In pool root) where
  abbrev Goes : ℕ → ℕ → Type 0
  Goes p t = Down pool root good i p t

  abbrev Way : ℕ → ℕ → Type 0
  Way x y = Path pool root good i x y

  arrived : {p t : ℕ} → Goes p t → Reached pool root t
  arrived d = on d.from d.low d.high d.is d.to

  along : {x y : ℕ} → Reached pool root x → Way x y → Reached pool root y
  along h (here e) = subst (λ (n : ℕ). Reached pool root n) e h
  along h (step p d) = arrived d

  -- the row above a row is one
  above : {m c a x : ℕ} → Goes m x → Goes c a → a ≡ x → m ≡ c
  above {m} {c} d da e =
      (one_link pool root good i (arrived d) (link_of pool root good i d)
      (subst (λ (y : ℕ). Link pool root y c da.word) e (link_of pool root good i da))).0

  -- no way leads back
  no_way_back : {c a : ℕ} → Goes c a → Way a c → ⊥
  no_way_back {c} d p = acyclic pool root good i (arrived d) c p d

  -- no row is below two words of a row
  apart : {c a b x : ℕ} (da : Goes c a) (db : Goes c b) → (da.word ≡ db.word → ⊥) → Way a x → Way b x → ⊥
  apart {c} {a} {b} da db n (here e) (here f) =
      n
      (one_link pool root good i (arrived da) (link_of pool root good i da)
      (subst (λ (y : ℕ). Link pool root y c db.word) (f ∙ sym e) (link_of pool root good i db))).1
  apart {c} {a} {b} da db n (here e) (step q d) = no_way_back db (subst (λ (y : ℕ). Way b y) (above d da e) q)
  apart {c} {a} {b} da db n (step p d) (here f) = no_way_back da (subst (λ (y : ℕ). Way a y) (above d db f) p)
  apart {c} {a} {b} da db n (step p d) (step q d') = apart da db n p (subst (λ (y : ℕ). Way b y) (above d' d refl) q)

  abbrev go_down : {r : ℕ} (k : ℕ) → Reached pool root r → 3 ≤ k → k ≤ 7 → In pool (word_of pool r k) → Goes r (word_of pool r k)
  go_down {r} k h lo hi o = record { word = k; low = lo; high = hi; is = refl; from = h; to = o }

  reached_by : {r : ℕ} (k : ℕ) → Reached pool root r → 3 ≤ k → k ≤ 7 → In pool (word_of pool r k) → Reached pool root (word_of pool r k)
  reached_by k h lo hi o = arrived (go_down k h lo hi o)

  -- x is row c of the pool, or below it
  abbrev At : (c x : ℕ) → Type 0
  At c x = In pool c × Way c x

  -- x is below row r, by one of the words from `first` to `last`
  record Below (first last r x : ℕ) : Type 0 where
    pub word : ℕ
    pub low : first ≤ word
    pub high : word ≤ last
    pub at : At (word_of pool r word) x

  -- different rows, all of them so
  record Apart (P : ℕ → Type 0) (xs : List Entry) : Type 0 where
    pub all : (n : ℕ) → Has n (rows_in xs) → P n
    pub distinct : Distinct (rows_in xs)

  module _ {r : ℕ} (h : Reached pool root r) where
    abbrev first_step : {first last x : ℕ} → 3 ≤ first → last ≤ 7 → (b : Below first last r x) → Goes r (word_of pool r b.word)
    first_step lo hi b = go_down b.word h (omega (arith, b.low)) (omega (arith, b.high)) b.at.0

    -- a slot's rows, and those of two parts of the words
    under : {xs : List Entry} (k : ℕ) → Apart (At (word_of pool r k)) xs → Apart (Below k k r) xs
    under k a = record { all = λ n m. record { word = k; low = omega arith; high = omega arith; at = a.all n m }; distinct = a.distinct }

    both : {xs ys : List Entry} (f l f' l' : ℕ) → (3 ≤ f) × (f ≤ f') × (l < f') × (l ≤ l') × (l' ≤ 7) → Apart (Below f l r) xs → Apart (Below f' l' r) ys
        → Apart (Below f l' r) (xs ++ ys)
    both {xs} {ys} f l f' l' o a b =
        record {
          all =
              λ n m.
              ⊎_elim (λ x. let w = a.all n x in record { word = w.word; low = w.low; high = omega (arith, w.high, o); at = w.at })
              (λ y. let w = b.all n y in record { word = w.word; low = omega (arith, w.low, o); high = w.high; at = w.at }) (has_split n xs ys m);
          distinct =
              join xs ys a.distinct b.distinct
              (λ n x y.
              let v = a.all n x in
              let w = b.all n y in
              apart (first_step o.0 (omega (arith, o)) v) (first_step (omega (arith, o)) o.4 w) (λ e. omega (arith, e, v.high, w.low, o)) v.at.1 w.at.1);
        }

    four : {xs ys zs ws : List Entry} → Apart (At (word_of pool r 3)) xs → Apart (At (word_of pool r 4)) ys → Apart (At (word_of pool r 5)) zs → Apart (At (word_of pool r 6)) ws
        → Apart (Below 3 6 r) (xs ++ (ys ++ (zs ++ ws)))
    four a b c d = both 3 3 4 6 (omega arith) (under 3 a) (both 4 4 5 6 (omega arith) (under 4 b) (both 5 5 6 6 (omega arith) (under 5 c) (under 6 d)))

    -- the row itself, and those below it
    top : {last : ℕ} {xs : List Entry} (e : Entry) → e.row ≡ r → In pool r → last ≤ 7 → Apart (Below 3 last r) xs → Apart (At r) (e ∷ xs)
    top {xs = xs} e q o l a =
        record {
          all =
              λ n m. (
                o,
                ⊎_elim (λ x. here (sym q ∙ sym x)) (λ x. let b = a.all n x in before pool root good i (first_step (omega arith) l b) b.at.1) m,
              );
          distinct = (λ m. let b = a.all r (subst (λ (n : ℕ). Has n (rows_in xs)) q m) in no_way_back (first_step (omega arith) l b) b.at.1, a.distinct);
        }

  mutual
    unfolding entries below

    entries_apart : {c : ℕ} {us : Trees} (p k : ℕ) (s : Slot) (h : HoldsAll pool c us) → (In pool c → Reached pool root c) → Apart (At c) (entries pool p k s h)
    entries_apart p k s (none z q) f = record { all = λ n m. absurd m; distinct = tt }
    entries_apart {c} p k s (more t ts o h hs q) f =
        let g = f o in
        top g (entry c p k s) refl o (omega arith) (both g 3 6 7 7 (omega arith) (below_apart h g) (under g 7 (entries_apart c 7 s hs (reached_by 7 g (omega arith) (omega arith)))))

    below_apart : {r : ℕ} {t : Tree} (h : Holds pool r t) → Reached pool root r → Apart (Below 3 6 r) (below pool h)
    below_apart {r} (infix_row a b e ha hb hc hd q) g =
        four g (entries_apart r 3 _ ha (reached_by 3 g (omega arith) (omega arith))) (entries_apart r 4 _ hb (reached_by 4 g (omega arith) (omega arith)))
        (entries_apart r 5 _ hc (reached_by 5 g (omega arith) (omega arith))) (entries_apart r 6 _ hd (reached_by 6 g (omega arith) (omega arith)))
    below_apart {r} (row a b c d e ha hb hc hd q) g =
        four g (entries_apart r 3 _ ha (reached_by 3 g (omega arith) (omega arith))) (entries_apart r 4 _ hb (reached_by 4 g (omega arith) (omega arith)))
        (entries_apart r 5 _ hc (reached_by 5 g (omega arith) (omega arith))) (entries_apart r 6 _ hd (reached_by 6 g (omega arith) (omega arith)))

  -- the rows of the root's tree
  module _ {t : Tree} (h : Holds pool root t) where
    all_apart : Apart (At root) (entry root 0 0 (one of any-root) ∷ below pool h)
    all_apart = top start (entry root 0 0 (one of any-root)) refl i (omega arith) (below_apart h start)

    pub different : Distinct (refs pool h)
    different = all_apart.distinct

    pub ref_reached : (r : ℕ) → Has r (refs pool h) → Reached pool root r
    ref_reached r m = along start (all_apart.all r m).1

  -- a row that is reached
  pub orderly : {r : ℕ} → Reached pool root r → 1 ≤ r → Orderly pool r
  unfolding row_fine
  orderly {r} h l =
      let k = word_of pool r 0 in
      let p =
      six (marked k (word_of pool r 1)) (child_fine (slot k 0).many r (word_of pool r 3)) (child_fine (slot k 1).many r (word_of pool r 4))
      (child_fine (slot k 2).many r (word_of pool r 5)) (child_fine (slot k 3).many r (word_of pool r 6)) (next_fine (count pool) r (word_of pool r 7))
      (holds_if (row_fine pool r) (λ f. good r h (fault f))) in
      record {
        c0 = child_before (slot k 0).many r (word_of pool r 3) l p.1;
        c1 = child_before (slot k 1).many r (word_of pool r 4) l p.2;
        c2 = child_before (slot k 2).many r (word_of pool r 5) l p.3;
        c3 = child_before (slot k 3).many r (word_of pool r 6) l p.4;
        next = next_behind (count pool) r (word_of pool r 7) p.5;
      }

  -- the root is in no list
  pub root_alone : word_of pool root 7 ≡ 0
  unfolding taken
  root_alone =
      let f = holds_if (taken (one of any-root) (word_of pool root 0) (word_of pool root 1) (word_of pool root 7)) (λ x. good root start (misfit (one of any-root) as_root x)) in
      eqb-true (word_of pool root 7) 0 (both_hold (takes any-root (word_of pool root 0) (word_of pool root 1)) (eqb (word_of pool root 7) 0) f).1
