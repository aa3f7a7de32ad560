-- A tree of different rows has no bad row: each link leads to the entry that it makes.
use Prim.Native.Nat.{ℕ, zero, suc, ◌+◌, ◌-◌, ◌≤◌, ◌<◌}
use native.Mathlib.Omega.{arith}
use mathlib.Core.Path.{◌≡◌, refl, ap, sym, subst, ◌∙◌}
use mathlib.Core.Bool.{Bool, true, false, ◌&&◌}
use mathlib.Core.Logic.{◌⊎◌, inl, inr, ⊎_elim}
use mathlib.Core.List.{List, [], ◌∷◌, ◌++◌, map}
use lib.ListN.{length}
use borrow.Author.Tests.{eqb-true, ltb-true, lt-ltb, le-leb, ne_eqb}
use Rattle.grammar.specs.Tree.{Tree, infixed, node, Trees, nil, ◌▸◌}
use Rattle.grammar.specs.Script.{word_of}
use Rattle.slots.specs.Slots.{Slot, Many, no, one, at_most_one, any, some, ◌of◌, Takes, expressions, any-root, slot, takes, marked, counts, how_many, fits, all_fit}
use Rattle.slots.specs.Fine.{is_no, is_list, child_fine, next_fine, taken}
use Rattle.trees.specs.Pool.{count, In, row_fine, Reached, start, on, Link, root_link, word_link, Stands, as_root, as_child, as_next, Bad, fault, twice, misfit}
use Rattle.trees.specs.Pool.{Holds, infix_row, row, HoldsAll, none, more}
use Rattle.trees.specs.Complete.{Entry, entry, Has, Distinct, entries, below, Orderly, refs, Complete}
use Rattle.slots.proofs.Either.{less_or, no_both}
use Rattle.trees.proofs.Firsts.{both_hold}
use Rattle.trees.proofs.Sound.{infix_slots}

data Mem (e : Entry) : List Entry → Type 0 where
  here : {f : Entry} {fs : List Entry} → e ≡ f → Mem e (f ∷ fs)
  there : {f : Entry} {fs : List Entry} → Mem e fs → Mem e (f ∷ fs)

not_empty : {e : Entry} {xs : List Entry} → Mem e xs → 1 ≤ length xs
not_empty (here x) = omega arith
not_empty (there x) = omega arith

no_mem : {e : Entry} {A : Type 0} → Mem e [] → A
no_mem m = let l = not_empty m in absurd (omega (arith, l))

mem_cons : {e f : Entry} {fs : List Entry} → Mem e (f ∷ fs) → (e ≡ f) ⊎ Mem e fs
mem_cons (here x) = inl x
mem_cons (there x) = inr x

mem_left : {e : Entry} {xs : List Entry} (ys : List Entry) → Mem e xs → Mem e (xs ++ ys)
mem_left ys (here x) = here x
mem_left ys (there x) = there (mem_left ys x)

mem_right : {e : Entry} (xs : List Entry) {ys : List Entry} → Mem e ys → Mem e (xs ++ ys)
mem_right [] m = m
mem_right (a ∷ xs) m = there (mem_right xs m)

mem_split : {e : Entry} (xs ys : List Entry) → Mem e (xs ++ ys) → Mem e xs ⊎ Mem e ys
mem_split [] ys m = inr m
mem_split (a ∷ xs) ys m = ⊎_elim (λ x. inl (here x)) (λ x. ⊎_elim (λ y. inl (there y)) (λ y. inr y) (mem_split xs ys x)) (mem_cons m)

mem_row : {e : Entry} {xs : List Entry} → Mem e xs → Has e.row (map (λ f. f.row) xs)
mem_row (here x) = inl (ap (λ f. f.row) x)
mem_row (there x) = inr (mem_row x)

-- entries of one row are one
one_entry : (xs : List Entry) {e f : Entry} → Distinct (map (λ g. g.row) xs) → Mem e xs → Mem f xs → e.row ≡ f.row → e ≡ f
one_entry [] d m n q = no_mem m
one_entry (a ∷ xs) {e} {f} d m n q =
    ⊎_elim
    (λ x. ⊎_elim (λ y. x ∙ sym y) (λ y. absurd (d.0 (subst (λ (z : ℕ). Has z (map (λ g. g.row) xs)) (sym q ∙ ap (λ g. g.row) x) (mem_row y)))) (mem_cons n))
    (λ x.
    ⊎_elim (λ y. absurd (d.0 (subst (λ (z : ℕ). Has z (map (λ g. g.row) xs)) (q ∙ ap (λ g. g.row) y) (mem_row x)))) (λ y. one_entry xs d.1 x y q)
    (mem_cons n))
    (mem_cons m)

pub eleven : (a0 a1 a2 a3 a4 a5 a6 a7 a8 a9 a10 : Bool) → a0 && a1 && a2 && a3 && a4 && a5 && a6 && a7 && a8 && a9 && a10 ≡ true → (a0 ≡ true) × (a1 ≡ true) × (a2 ≡ true) × (a3 ≡ true) × (a4 ≡ true) × (a5 ≡ true) × (a6 ≡ true) × (a7 ≡ true) × (a8 ≡ true) × (a9 ≡ true) × (a10 ≡ true)
eleven true true true true true true true true true true a10 h = (refl, refl, refl, refl, refl, refl, refl, refl, refl, refl, h)
eleven true true true true true true true true true false a10 h = no_both (sym h)
eleven true true true true true true true true false a9 a10 h = no_both (sym h)
eleven true true true true true true true false a8 a9 a10 h = no_both (sym h)
eleven true true true true true true false a7 a8 a9 a10 h = no_both (sym h)
eleven true true true true true false a6 a7 a8 a9 a10 h = no_both (sym h)
eleven true true true true false a5 a6 a7 a8 a9 a10 h = no_both (sym h)
eleven true true true false a4 a5 a6 a7 a8 a9 a10 h = no_both (sym h)
eleven true true false a3 a4 a5 a6 a7 a8 a9 a10 h = no_both (sym h)
eleven true false a2 a3 a4 a5 a6 a7 a8 a9 a10 h = no_both (sym h)
eleven false a1 a2 a3 a4 a5 a6 a7 a8 a9 a10 h = no_both (sym h)

-- a child word by its number
by_four : (P : ℕ → Type 0) → P 3 → P 4 → P 5 → P 6 → (j : ℕ) → 3 ≤ j → j < 7 → P j
by_four P a b c d zero lo hi = absurd (omega (arith, lo))
by_four P a b c d (suc zero) lo hi = absurd (omega (arith, lo))
by_four P a b c d (suc (suc zero)) lo hi = absurd (omega (arith, lo))
by_four P a b c d (suc (suc (suc zero))) lo hi = a
by_four P a b c d (suc (suc (suc (suc zero)))) lo hi = b
by_four P a b c d (suc (suc (suc (suc (suc zero))))) lo hi = c
by_four P a b c d (suc (suc (suc (suc (suc (suc zero)))))) lo hi = d
by_four P a b c d (suc (suc (suc (suc (suc (suc (suc j))))))) lo hi = absurd (omega (arith, hi))

-- what the number of a slot's trees says
few : (m : Many) (n : ℕ) → counts m n ≡ true → is_list m ≡ false → n ≤ 1
unfolding counts
few no n c l = omega (arith, eqb-true n 0 c)
few one n c l = omega (arith, eqb-true n 1 c)
few at_most_one n c l = omega (arith, ltb-true n 2 c)
few any n c l = no_both l
few some n c l = no_both l

used : (m : Many) (n : ℕ) → counts m n ≡ true → (n ≡ 0 → ⊥) → is_no m ≡ false
unfolding counts
used no n c l = absurd (l (eqb-true n 0 c))
used one n c l = refl
used at_most_one n c l = refl
used any n c l = refl
used some n c l = refl

child_ok : (m : Many) (n r w : ℕ) → counts m n ≡ true → w < r → (n ≡ 0 → w ≡ 0) → ((n ≡ 0 → ⊥) → 1 ≤ w) → child_fine m r w ≡ true
unfolding counts
child_ok no n r w c l z p = rw (z (eqb-true n 0 c))
child_ok one n r w c l z p = let u = p (λ y. omega (arith, eqb-true n 1 c)) in rw (lt-ltb 0 w u, lt-ltb w r l)
child_ok at_most_one n r w c l z p = lt-ltb w r l
child_ok any n r w c l z p = lt-ltb w r l
child_ok some n r w c l z p = let u = p (λ y. omega (arith, ltb-true 0 n c)) in rw (lt-ltb 0 w u, lt-ltb w r l)

module _ (pool : List ℕ) where
  no_trees : {c : ℕ} {us : Trees} → HoldsAll pool c us → how_many us ≡ 0 → c ≡ 0
  no_trees (none z q) y = z
  no_trees {c} {us} (more t ts i h hs q) y = let e : how_many us ≡ 1 + how_many ts = ap how_many q in absurd (omega arith)

  some_trees : {c : ℕ} {us : Trees} → HoldsAll pool c us → (how_many us ≡ 0 → ⊥) → 1 ≤ c
  some_trees (none z q) y = absurd (y (ap how_many q))
  some_trees (more t ts i h hs q) y = i.0

  -- where a word leads
  record Target (e : Entry) (j t : ℕ) (xs : List Entry) : Type 0 where
    pub to : Entry
    pub mem : Mem to xs
    pub row : to.row ≡ t
    pub owner : to.owner ≡ e.row
    pub word : to.word ≡ j
    pub child : j < 7 → to.slot ≡ slot (word_of pool e.row 0) (j - 3)
    pub next : j ≡ 7 → to.slot ≡ e.slot

  wider : {e : Entry} {j t : ℕ} {xs ys : List Entry} → ((f : Entry) → Mem f xs → Mem f ys) → Target e j t xs → Target e j t ys
  wider w g = record { to = g.to; mem = w g.to g.mem; row = g.row; owner = g.owner; word = g.word; child = g.child; next = g.next }

  head_entry : {c : ℕ} {us : Trees} (p k : ℕ) (s : Slot) (h : HoldsAll pool c us) → 1 ≤ c → Mem (entry c p k s) (entries pool p k s h)
  unfolding entries
  head_entry p k s (none z q) i = absurd (omega (arith, i, z))
  head_entry p k s (more t ts i' h hs q) i = here refl

  four : {f : Entry} (xs ys cs ds : List Entry) → Mem f xs ⊎ (Mem f ys ⊎ (Mem f cs ⊎ Mem f ds)) → Mem f (xs ++ (ys ++ (cs ++ ds)))
  four xs ys cs ds m =
      ⊎_elim (λ x. mem_left (ys ++ (cs ++ ds)) x)
      (λ y. mem_right xs (⊎_elim (λ x. mem_left (cs ++ ds) x) (λ z. mem_right ys (⊎_elim (λ x. mem_left ds x) (λ x. mem_right cs x) z)) y)) m

  split_four : {f : Entry} (xs ys cs ds : List Entry) → Mem f (xs ++ (ys ++ (cs ++ ds))) → Mem f xs ⊎ (Mem f ys ⊎ (Mem f cs ⊎ Mem f ds))
  split_four xs ys cs ds m =
      ⊎_elim (λ x. inl x) (λ y. inr (⊎_elim (λ x. inl x) (λ z. inr (mem_split cs ds z)) (mem_split ys (cs ++ ds) y))) (mem_split xs (ys ++ (cs ++ ds)) m)

  abbrev sl : ℕ → ℕ → Slot
  sl r j = slot (word_of pool r 0) j

  first_four : {r : ℕ} {a b c d : Trees} (ha : HoldsAll pool (word_of pool r 3) a) (hb : HoldsAll pool (word_of pool r 4) b) (hc : HoldsAll pool (word_of pool r 5) c)
      (hd : HoldsAll pool (word_of pool r 6) d) (j : ℕ) → 3 ≤ j → j < 7 → 1 ≤ word_of pool r j
      → Mem (entry (word_of pool r j) r j (sl r (j - 3))) (entries pool r 3 (sl r 0) ha ++ (entries pool r 4 (sl r 1) hb ++ (entries pool r 5 (sl r 2) hc ++ entries pool r 6 (sl r 3) hd)))
  first_four {r} ha hb hc hd j lo hi =
      by_four (λ n. 1 ≤ word_of pool r n → Mem (entry (word_of pool r n) r n (sl r (n - 3)))
      (entries pool r 3 (sl r 0) ha ++ (entries pool r 4 (sl r 1) hb ++ (entries pool r 5 (sl r 2) hc ++ entries pool r 6 (sl r 3) hd))))
      (λ i. four (entries pool r 3 (sl r 0) ha) (entries pool r 4 (sl r 1) hb) (entries pool r 5 (sl r 2) hc) (entries pool r 6 (sl r 3) hd) (inl (head_entry r 3 (sl r 0) ha i)))
      (λ i. four (entries pool r 3 (sl r 0) ha) (entries pool r 4 (sl r 1) hb) (entries pool r 5 (sl r 2) hc) (entries pool r 6 (sl r 3) hd) (inr (inl (head_entry r 4 (sl r 1) hb i))))
      (λ i. four (entries pool r 3 (sl r 0) ha) (entries pool r 4 (sl r 1) hb) (entries pool r 5 (sl r 2) hc) (entries pool r 6 (sl r 3) hd) (inr (inr (inl (head_entry r 5 (sl r 2) hc i)))))
      (λ i. four (entries pool r 3 (sl r 0) ha) (entries pool r 4 (sl r 1) hb) (entries pool r 5 (sl r 2) hc) (entries pool r 6 (sl r 3) hd) (inr (inr (inr (head_entry r 6 (sl r 3) hd i))))) j lo hi

  first_below : {r : ℕ} {t : Tree} (h : Holds pool r t) (j : ℕ) → 3 ≤ j → j < 7 → 1 ≤ word_of pool r j → Mem (entry (word_of pool r j) r j (sl r (j - 3))) (below pool h)
  unfolding below
  first_below (infix_row a b e ha hb hc hd q) j lo hi i = first_four ha hb hc hd j lo hi i
  first_below (row a b c d n ha hb hc hd q) j lo hi i = first_four ha hb hc hd j lo hi i

  -- from a row
  top : {c : ℕ} {t : Tree} {ts : Trees} (p k : ℕ) (s : Slot) (h : Holds pool c t) (hs : HoldsAll pool (word_of pool c 7) ts) (j : ℕ) → 3 ≤ j → j ≤ 7 → 1 ≤ word_of pool c j
      → Target (entry c p k s) j (word_of pool c j) (below pool h ++ entries pool c 7 s hs)
  top {c} p k s h hs j lo hi i =
      ⊎_elim
      (λ l.
      record {
        to = entry (word_of pool c j) c j (sl c (j - 3));
        mem = mem_left (entries pool c 7 s hs) (first_below h j lo l i);
        row = refl;
        owner = refl;
        word = refl;
        child = λ x. refl;
        next = λ x. absurd (omega arith);
      })
      (λ l.
      let e : 7 ≡ j = omega arith in
      subst (λ (n : ℕ). Target (entry c p k s) n (word_of pool c n) (below pool h ++ entries pool c 7 s hs)) e
      (record {
        to = entry (word_of pool c 7) c 7 s;
        mem = mem_right (below pool h) (head_entry c 7 s hs (subst (λ (n : ℕ). 1 ≤ word_of pool c n) (sym e) i));
        row = refl;
        owner = refl;
        word = refl;
        child = λ x. absurd (omega (arith, x));
        next = λ x. refl;
      }))
      (less_or j 7)

  from_top : {c : ℕ} {t : Tree} {ts : Trees} (p k : ℕ) (s : Slot) (h : Holds pool c t) (hs : HoldsAll pool (word_of pool c 7) ts) {e : Entry} → e ≡ entry c p k s
      → {j t' : ℕ} → 3 ≤ j → j ≤ 7 → word_of pool e.row j ≡ t' → In pool t' → Target e j t' (below pool h ++ entries pool c 7 s hs)
  from_top {c} p k s h hs {e} x {j} {t'} lo hi w o =
      let v : word_of pool c j ≡ t' = ap (λ (y : Entry). word_of pool y.row j) (sym x) ∙ w in
      let g = top p k s h hs j lo hi (subst (λ (n : ℕ). 1 ≤ n) (sym v) o.0) in
      subst (λ (y : Entry). Target y j t' (below pool h ++ entries pool c 7 s hs)) (sym x)
      (subst (λ (n : ℕ). Target (entry c p k s) j n (below pool h ++ entries pool c 7 s hs)) v g)

  -- from any row
  mutual
    unfolding entries below

    leads : {c : ℕ} {us : Trees} (p k : ℕ) (s : Slot) (h : HoldsAll pool c us) (e : Entry) → Mem e (entries pool p k s h) → (j' t' : ℕ) → 3 ≤ j' → j' ≤ 7
        → word_of pool e.row j' ≡ t' → In pool t' → Target e j' t' (entries pool p k s h)
    leads p k s (none z q) e m j' t' lo hi w o = no_mem m
    leads {c} p k s (more t ts i h hs q) e m j' t' lo hi w o =
        ⊎_elim (λ x. wider (λ f n. there n) (from_top p k s h hs x lo hi w o))
        (λ x.
        ⊎_elim (λ y. wider (λ f n. there (mem_left (entries pool c 7 s hs) n)) (leads_below h e y j' t' lo hi w o))
        (λ y. wider (λ f n. there (mem_right (below pool h) n)) (leads c 7 s hs e y j' t' lo hi w o))
        (mem_split (below pool h) (entries pool c 7 s hs) x))
        (mem_cons m)

    leads_below : {r : ℕ} {t : Tree} (h : Holds pool r t) (e : Entry) → Mem e (below pool h) → (j' t' : ℕ) → 3 ≤ j' → j' ≤ 7
        → word_of pool e.row j' ≡ t' → In pool t' → Target e j' t' (below pool h)
    leads_below {r} (infix_row a b x ha hb hc hd q) e m j' t' lo hi w o =
        ⊎_elim (λ y. wider (λ f m. four (entries pool r 3 (sl r 0) ha) (entries pool r 4 (sl r 1) hb) (entries pool r 5 (sl r 2) hc) (entries pool r 6 (sl r 3) hd) (inl m)) (leads r 3 (sl r 0) ha e y j' t' lo hi w o))
        (λ z.
        ⊎_elim (λ y. wider (λ f m. four (entries pool r 3 (sl r 0) ha) (entries pool r 4 (sl r 1) hb) (entries pool r 5 (sl r 2) hc) (entries pool r 6 (sl r 3) hd) (inr (inl m))) (leads r 4 (sl r 1) hb e y j' t' lo hi w o))
        (λ z'.
        ⊎_elim (λ y. wider (λ f m. four (entries pool r 3 (sl r 0) ha) (entries pool r 4 (sl r 1) hb) (entries pool r 5 (sl r 2) hc) (entries pool r 6 (sl r 3) hd) (inr (inr (inl m)))) (leads r 5 (sl r 2) hc e y j' t' lo hi w o))
        (λ y. wider (λ f m. four (entries pool r 3 (sl r 0) ha) (entries pool r 4 (sl r 1) hb) (entries pool r 5 (sl r 2) hc) (entries pool r 6 (sl r 3) hd) (inr (inr (inr m)))) (leads r 6 (sl r 3) hd e y j' t' lo hi w o)) z') z)
        (split_four (entries pool r 3 (sl r 0) ha) (entries pool r 4 (sl r 1) hb) (entries pool r 5 (sl r 2) hc) (entries pool r 6 (sl r 3) hd) m)
    leads_below {r} (row a b c d n ha hb hc hd q) e m j' t' lo hi w o =
        ⊎_elim (λ y. wider (λ f m. four (entries pool r 3 (sl r 0) ha) (entries pool r 4 (sl r 1) hb) (entries pool r 5 (sl r 2) hc) (entries pool r 6 (sl r 3) hd) (inl m)) (leads r 3 (sl r 0) ha e y j' t' lo hi w o))
        (λ z.
        ⊎_elim (λ y. wider (λ f m. four (entries pool r 3 (sl r 0) ha) (entries pool r 4 (sl r 1) hb) (entries pool r 5 (sl r 2) hc) (entries pool r 6 (sl r 3) hd) (inr (inl m))) (leads r 4 (sl r 1) hb e y j' t' lo hi w o))
        (λ z'.
        ⊎_elim (λ y. wider (λ f m. four (entries pool r 3 (sl r 0) ha) (entries pool r 4 (sl r 1) hb) (entries pool r 5 (sl r 2) hc) (entries pool r 6 (sl r 3) hd) (inr (inr (inl m)))) (leads r 5 (sl r 2) hc e y j' t' lo hi w o))
        (λ y. wider (λ f m. four (entries pool r 3 (sl r 0) ha) (entries pool r 4 (sl r 1) hb) (entries pool r 5 (sl r 2) hc) (entries pool r 6 (sl r 3) hd) (inr (inr (inr m)))) (leads r 6 (sl r 3) hd e y j' t' lo hi w o)) z') z)
        (split_four (entries pool r 3 (sl r 0) ha) (entries pool r 4 (sl r 1) hb) (entries pool r 5 (sl r 2) hc) (entries pool r 6 (sl r 3) hd) m)

  -- what is known of a row that fits
  record Opened (k : Takes) (r : ℕ) (a b c d : Trees) : Type 0 where
    pub takes' : takes k (word_of pool r 0) (word_of pool r 1) ≡ true
    pub marked' : marked (word_of pool r 0) (word_of pool r 1) ≡ true
    pub n0 : counts (sl r 0).many (how_many a) ≡ true
    pub f0 : all_fit (sl r 0).kinds a ≡ true
    pub n1 : counts (sl r 1).many (how_many b) ≡ true
    pub f1 : all_fit (sl r 1).kinds b ≡ true
    pub n2 : counts (sl r 2).many (how_many c) ≡ true
    pub f2 : all_fit (sl r 2).kinds c ≡ true
    pub n3 : counts (sl r 3).many (how_many d) ≡ true
    pub f3 : all_fit (sl r 3).kinds d ≡ true

  open_node : (k : Takes) (r : ℕ) (a b c d : Trees) {t : Tree} → t ≡ node (word_of pool r 0) (word_of pool r 1) (word_of pool r 2) a b c d (word_of pool r 8) → fits k t ≡ true
      → Opened k r a b c d
  unfolding fits
  open_node k r a b c d q f =
      let e = eleven _ _ _ _ _ _ _ _ _ _ _ (sym (ap (fits k) q) ∙ f) in
      record { takes' = e.0; marked' = e.2; n0 = e.3; f0 = e.4; n1 = e.5; f1 = e.6; n2 = e.7; f2 = e.8; n3 = e.9; f3 = e.10 }

  four_hold : (a b c d : Bool) → a && b && c && d ≡ true → (a ≡ true) × (b ≡ true) × (c ≡ true) × (d ≡ true)
  four_hold true true true d h = (refl, refl, refl, h)
  four_hold true true false d h = no_both (sym h)
  four_hold true false c d h = no_both (sym h)
  four_hold false b c d h = no_both (sym h)

  open_infix : (k : Takes) (r : ℕ) (a b : Tree) {t : Tree} → word_of pool r 0 ≡ 12 → t ≡ infixed (word_of pool r 1) (word_of pool r 2) a b (word_of pool r 8) → fits k t ≡ true
      → Opened k r (a ▸ nil) (b ▸ nil) nil nil
  unfolding fits counts all_fit
  open_infix k r a b x q f =
      let e = four_hold (takes k 12 (word_of pool r 1)) (marked 12 (word_of pool r 1)) (fits expressions a) (fits expressions b) (sym (ap (fits k) q) ∙ f) in
      let g = infix_slots (word_of pool r 0) x in
      record {
        takes' = rw x e.0;
        marked' = rw x e.1;
        n0 = ap (λ (y : Slot). counts y.many 1) g.0;
        f0 = ap (λ (y : Slot). all_fit y.kinds (a ▸ nil)) g.0 ∙ rw e.2;
        n1 = ap (λ (y : Slot). counts y.many 1) g.1;
        f1 = ap (λ (y : Slot). all_fit y.kinds (b ▸ nil)) g.1 ∙ rw e.3;
        n2 = ap (λ (y : Slot). counts y.many 0) g.2;
        f2 = refl;
        n3 = ap (λ (y : Slot). counts y.many 0) g.3;
        f3 = refl;
      }

  -- a good entry
  record Good (e : Entry) : Type 0 where
    pub fine : row_fine pool e.row ≡ true
    pub fit : taken e.slot (word_of pool e.row 0) (word_of pool e.row 1) (word_of pool e.row 7) ≡ true

  next_ok : {c w : ℕ} {ts : Trees} → HoldsAll pool w ts → (w ≡ 0) ⊎ (c < w) → next_fine (count pool) c w ≡ true
  unfolding next_fine
  next_ok {c} {w} (none z q) o = rw z
  next_ok {c} {w} (more t ts i h hs q) o =
      ⊎_elim (λ z. absurd (omega (arith, i, z))) (λ l. rw (ne_eqb w 0 (λ z. omega (arith, i, z)), lt-ltb c w l, le-leb w (count pool) i.1)) o

  taken_ok : (s : Slot) (k m w : ℕ) → is_no s.many ≡ false → takes s.kinds k m ≡ true → (is_list s.many ≡ false → w ≡ 0) → taken s k m w ≡ true
  unfolding taken
  taken_ok s k m w u t a = go (is_list s.many) refl
    where
      go : (b : Bool) → is_list s.many ≡ b → taken s k m w ≡ true
      go true e = rw (u, t, e)
      go false e = rw (u, t, e, a e)

  head_good : {c : ℕ} {a b d e ts : Trees} (p k : ℕ) (s : Slot) → Orderly pool c → Opened s.kinds c a b d e → HoldsAll pool (word_of pool c 3) a → HoldsAll pool (word_of pool c 4) b
      → HoldsAll pool (word_of pool c 5) d → HoldsAll pool (word_of pool c 6) e → HoldsAll pool (word_of pool c 7) ts → is_no s.many ≡ false
      → (is_list s.many ≡ false → how_many ts ≡ 0) → Good (entry c p k s)
  unfolding row_fine
  head_good {c} {a} {b} {d} {e} {ts} p k s o op ha hb hc hd hs u l =
      record {
        fine =
            rw (
              op.marked',
              child_ok (sl c 0).many (how_many a) c (word_of pool c 3) op.n0 o.c0 (λ y. no_trees ha y) (λ y. some_trees ha y),
              child_ok (sl c 1).many (how_many b) c (word_of pool c 4) op.n1 o.c1 (λ y. no_trees hb y) (λ y. some_trees hb y),
              child_ok (sl c 2).many (how_many d) c (word_of pool c 5) op.n2 o.c2 (λ y. no_trees hc y) (λ y. some_trees hc y),
              child_ok (sl c 3).many (how_many e) c (word_of pool c 6) op.n3 o.c3 (λ y. no_trees hd y) (λ y. some_trees hd y),
              next_ok hs o.next,
            );
        fit = taken_ok s (word_of pool c 0) (word_of pool c 1) (word_of pool c 7) u op.takes' (λ y. no_trees hs (l y));
      }

  head_of : {c : ℕ} {t : Tree} {ts : Trees} (p k : ℕ) (s : Slot) → Orderly pool c → (h : Holds pool c t) → fits s.kinds t ≡ true → HoldsAll pool (word_of pool c 7) ts
      → is_no s.many ≡ false → (is_list s.many ≡ false → how_many ts ≡ 0) → Good (entry c p k s)
  head_of {c} p k s o (infix_row a b x ha hb hc hd q) f hs u l = head_good p k s o (open_infix s.kinds c a b x q f) ha hb hc hd hs u l
  head_of {c} p k s o (row a b d e n ha hb hc hd q) f hs u l = head_good p k s o (open_node s.kinds c a b d e q f) ha hb hc hd hs u l

  fit_cons : (k : Takes) (us : Trees) {t : Tree} {ts : Trees} → us ≡ t ▸ ts → all_fit k us ≡ true → (fits k t ≡ true) × (all_fit k ts ≡ true)
  unfolding all_fit
  fit_cons k us {t} {ts} q f = both_hold (fits k t) (all_fit k ts) (sym (ap (all_fit k) q) ∙ f)

  cons_many : (us : Trees) {t : Tree} {ts : Trees} → us ≡ t ▸ ts → how_many us ≡ 1 + how_many ts
  cons_many us q = ap how_many q

  mutual
    unfolding entries below

    goods : {c : ℕ} {us : Trees} (p k : ℕ) (s : Slot) (h : HoldsAll pool c us) → all_fit s.kinds us ≡ true → (is_list s.many ≡ false → how_many us ≤ 1)
        → ((how_many us ≡ 0 → ⊥) → is_no s.many ≡ false) → ((e : Entry) → Mem e (entries pool p k s h) → Orderly pool e.row)
        → (e : Entry) → Mem e (entries pool p k s h) → Good e
    goods p k s (none z q) f l u o e m = no_mem m
    goods {c} {us} p k s (more t ts i h hs q) f l u o e m =
        let n = cons_many us q in
        let g = fit_cons s.kinds us q f in
        let v : is_no s.many ≡ false = u (λ y. omega arith) in
        ⊎_elim
        (λ x. subst (λ (y : Entry). Good y) (sym x) (head_of p k s (o (entry c p k s) (here refl)) h g.0 hs v (λ y. let z = l y in omega arith)))
        (λ x.
        ⊎_elim (λ y. goods_below s.kinds h g.0 (λ e' n'. o e' (there (mem_left (entries pool c 7 s hs) n'))) e y)
        (λ y. goods c 7 s hs g.1 (λ w. let z = l w in omega arith) (λ w. v) (λ e' n'. o e' (there (mem_right (below pool h) n'))) e y)
        (mem_split (below pool h) (entries pool c 7 s hs) x))
        (mem_cons m)

    goods_below : {r : ℕ} {t : Tree} (k : Takes) (h : Holds pool r t) → fits k t ≡ true → ((e : Entry) → Mem e (below pool h) → Orderly pool e.row)
        → (e : Entry) → Mem e (below pool h) → Good e
    goods_below {r} k (infix_row a b x ha hb hc hd q) f o e m =
        let op = open_infix k r a b x q f in
        ⊎_elim (λ y. goods r 3 (sl r 0) ha op.f0 (few (sl r 0).many (how_many (a ▸ nil)) op.n0) (used (sl r 0).many (how_many (a ▸ nil)) op.n0) (λ e' n'. o e' (four (entries pool r 3 (sl r 0) ha) (entries pool r 4 (sl r 1) hb) (entries pool r 5 (sl r 2) hc) (entries pool r 6 (sl r 3) hd) (inl n'))) e y)
        (λ z.
        ⊎_elim (λ y. goods r 4 (sl r 1) hb op.f1 (few (sl r 1).many (how_many (b ▸ nil)) op.n1) (used (sl r 1).many (how_many (b ▸ nil)) op.n1) (λ e' n'. o e' (four (entries pool r 3 (sl r 0) ha) (entries pool r 4 (sl r 1) hb) (entries pool r 5 (sl r 2) hc) (entries pool r 6 (sl r 3) hd) (inr (inl n')))) e y)
        (λ z'.
        ⊎_elim (λ y. goods r 5 (sl r 2) hc op.f2 (few (sl r 2).many (how_many nil) op.n2) (used (sl r 2).many (how_many nil) op.n2) (λ e' n'. o e' (four (entries pool r 3 (sl r 0) ha) (entries pool r 4 (sl r 1) hb) (entries pool r 5 (sl r 2) hc) (entries pool r 6 (sl r 3) hd) (inr (inr (inl n'))))) e y)
        (λ y. goods r 6 (sl r 3) hd op.f3 (few (sl r 3).many (how_many nil) op.n3) (used (sl r 3).many (how_many nil) op.n3) (λ e' n'. o e' (four (entries pool r 3 (sl r 0) ha) (entries pool r 4 (sl r 1) hb) (entries pool r 5 (sl r 2) hc) (entries pool r 6 (sl r 3) hd) (inr (inr (inr n'))))) e y) z') z)
        (split_four (entries pool r 3 (sl r 0) ha) (entries pool r 4 (sl r 1) hb) (entries pool r 5 (sl r 2) hc) (entries pool r 6 (sl r 3) hd) m)
    goods_below {r} k (row a b c d n ha hb hc hd q) f o e m =
        let op = open_node k r a b c d q f in
        ⊎_elim (λ y. goods r 3 (sl r 0) ha op.f0 (few (sl r 0).many (how_many a) op.n0) (used (sl r 0).many (how_many a) op.n0) (λ e' n'. o e' (four (entries pool r 3 (sl r 0) ha) (entries pool r 4 (sl r 1) hb) (entries pool r 5 (sl r 2) hc) (entries pool r 6 (sl r 3) hd) (inl n'))) e y)
        (λ z.
        ⊎_elim (λ y. goods r 4 (sl r 1) hb op.f1 (few (sl r 1).many (how_many b) op.n1) (used (sl r 1).many (how_many b) op.n1) (λ e' n'. o e' (four (entries pool r 3 (sl r 0) ha) (entries pool r 4 (sl r 1) hb) (entries pool r 5 (sl r 2) hc) (entries pool r 6 (sl r 3) hd) (inr (inl n')))) e y)
        (λ z'.
        ⊎_elim (λ y. goods r 5 (sl r 2) hc op.f2 (few (sl r 2).many (how_many c) op.n2) (used (sl r 2).many (how_many c) op.n2) (λ e' n'. o e' (four (entries pool r 3 (sl r 0) ha) (entries pool r 4 (sl r 1) hb) (entries pool r 5 (sl r 2) hc) (entries pool r 6 (sl r 3) hd) (inr (inr (inl n'))))) e y)
        (λ y. goods r 6 (sl r 3) hd op.f3 (few (sl r 3).many (how_many d) op.n3) (used (sl r 3).many (how_many d) op.n3) (λ e' n'. o e' (four (entries pool r 3 (sl r 0) ha) (entries pool r 4 (sl r 1) hb) (entries pool r 5 (sl r 2) hc) (entries pool r 6 (sl r 3) hd) (inr (inr (inr n'))))) e y) z') z)
        (split_four (entries pool r 3 (sl r 0) ha) (entries pool r 4 (sl r 1) hb) (entries pool r 5 (sl r 2) hc) (entries pool r 6 (sl r 3) hd) m)

  -- the rows of a whole tree
  module _ (root : ℕ) (t : Tree) (h : Holds pool root t) (i : In pool root) (f : fits any-root t ≡ true) (w : word_of pool root 7 ≡ 0)
      (d : Distinct (refs pool h)) (o : (r : ℕ) → Has r (refs pool h) → Orderly pool r) where
    abbrev S : Slot
    S = one of any-root

    abbrev H : HoldsAll pool root (t ▸ nil)
    H = more t nil i h (none w refl) refl

    abbrev L : List Entry
    L = entries pool 0 0 S H

    cut : {e : Entry} → Mem e L → Mem e (entry root 0 0 S ∷ below pool h)
    unfolding entries
    cut m = ⊎_elim (λ x. here x) (λ x. there (⊎_elim (λ y. y) (λ y. no_mem y) (mem_split (below pool h) [] x))) (mem_cons m)

    root_mem : Mem (entry root 0 0 S) L
    unfolding entries
    root_mem = here refl

    same_entry : {e e' : Entry} → Mem e L → Mem e' L → e.row ≡ e'.row → e ≡ e'
    same_entry m n q = one_entry (entry root 0 0 S ∷ below pool h) d (cut m) (cut n) q

    good_entry : (e : Entry) → Mem e L → Good e
    unfolding all_fit
    good_entry e m = goods 0 0 S H (rw f) (λ y. omega arith) (λ y. refl) (λ e' n. o e'.row (mem_row (cut n))) e m

    -- an entry for each row that is reached, each link and each slot
    record Row (x : ℕ) : Type 0 where
      pub e : Entry
      pub mem : Mem e L
      pub row : e.row ≡ x

    word_from : {r x : ℕ} (k : ℕ) (a : Row r) → word_of pool r k ≡ x → word_of pool a.e.row k ≡ x
    word_from k a q = ap (λ (n : ℕ). word_of pool n k) a.row ∙ q

    reached_row : {x : ℕ} → Reached pool root x → Row x
    reached_row start = record { e = entry root 0 0 S; mem = root_mem; row = refl }
    reached_row (on {r} {k} {t = x} hr lo hi q n) =
        let a = reached_row hr in
        let g = leads 0 0 S H a.e a.mem k x lo hi (word_from k a q) n in
        record { e = g.to; mem = g.mem; row = g.row }

    record Linked (x p k : ℕ) : Type 0 where
      pub e : Entry
      pub mem : Mem e L
      pub row : e.row ≡ x
      pub owner : e.owner ≡ p
      pub word : e.word ≡ k

    link_row : {x p k : ℕ} → In pool x → Link pool root x p k → Linked x p k
    link_row n (root_link q) = record { e = entry root 0 0 S; mem = root_mem; row = q; owner = refl; word = refl }
    link_row {x} n (word_link {r} {k} hr one' lo hi q) =
        let a = reached_row hr in
        let g = leads 0 0 S H a.e a.mem k x lo hi (word_from k a q) n in
        record { e = g.to; mem = g.mem; row = g.row; owner = g.owner ∙ a.row; word = g.word }

    record Stood (s : Slot) (x : ℕ) : Type 0 where
      pub e : Entry
      pub mem : Mem e L
      pub row : e.row ≡ x
      pub slot : e.slot ≡ s

    stood_row : {s : Slot} {x : ℕ} → Stands pool root s x → Stood s x
    stood_row as_root = record { e = entry root 0 0 S; mem = root_mem; row = refl; slot = refl }
    stood_row (as_child {r} {i = j} {t = x} hr l q n v) =
        let a = reached_row hr in
        let g = leads 0 0 S H a.e a.mem (3 + j) x (omega arith) (omega arith) (word_from (3 + j) a q) n in
        let z : 3 + j - 3 ≡ j = omega arith in
        record {
          e = g.to;
          mem = g.mem;
          row = g.row;
          slot = g.child (omega arith) ∙ ap (λ (y : ℕ). sl y (3 + j - 3)) a.row ∙ ap (λ (y : ℕ). sl r y) z ∙ v;
        }
    stood_row (as_next {r} {t = x} st hr li q n l) =
        let a = stood_row st in
        let g = leads 0 0 S H a.e a.mem 7 x (omega arith) (omega arith) (ap (λ (y : ℕ). word_of pool y 7) a.row ∙ q) n in
        record { e = g.to; mem = g.mem; row = g.row; slot = g.next refl ∙ a.slot }

    reached_in : {x : ℕ} → Reached pool root x → In pool x
    reached_in start = i
    reached_in (on hr lo hi q n) = n

    none_bad_in : (x : ℕ) → Reached pool root x → Bad pool root x → ⊥
    none_bad_in x r (fault g) =
        let a = reached_row r in
        no_both (sym (good_entry a.e a.mem).fine ∙ ap (λ (y : ℕ). row_fine pool y) a.row ∙ g)
    none_bad_in x r (twice g) =
        let a = link_row (reached_in r) g.link₁ in
        let b = link_row (reached_in r) g.link₂ in
        let e = same_entry a.mem b.mem (a.row ∙ sym b.row) in
        g.different (sym a.owner ∙ ap (λ (y : Entry). y.owner) e ∙ b.owner) (sym a.word ∙ ap (λ (y : Entry). y.word) e ∙ b.word)
    none_bad_in x r (misfit s st g) =
        let a = stood_row st in
        no_both
        (sym (good_entry a.e a.mem).fit
        ∙ ap (λ (y : ℕ). taken a.e.slot (word_of pool y 0) (word_of pool y 1) (word_of pool y 7)) a.row
        ∙ ap (λ (y : Slot). taken y (word_of pool x 0) (word_of pool x 1) (word_of pool x 7)) a.slot
        ∙ g)

  pub complete : Complete pool
  complete root t h i f w d o = none_bad_in root t h i f w d o
