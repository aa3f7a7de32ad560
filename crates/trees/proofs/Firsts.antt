-- The pass over the rows: the slot that each stands in, and whether it is bad.
use Prim.Native.Nat.{ℕ, ◌+◌, ◌-◌, ◌%◌, ◌≤◌, ◌<◌}
use native.Mathlib.Omega.{arith}
use mathlib.Core.Path.{◌≡◌, refl, ap, sym, subst, ◌∙◌}
use mathlib.Core.Bool.{Bool, true, false, not, ◌&&◌}
use mathlib.Core.Logic.{◌⊎◌, inl, inr, ⊎_elim}
use mathlib.Core.List.{List}
use lib.ListN.{length, get_or, set, length-set}
use lib.Seq.{get_or-set_same, get_or-set_other}
use borrow.Author.Tests.{not-true, not-false}
use Rattle.std.specs.Prelude.{None, Some}
use Rattle.grammar.specs.Script.{word_of}
use Rattle.slots.specs.Slots.{Slot, Many, no, one, at_most_one, any, some, ◌of◌, any-root, slot}
use Rattle.slots.specs.Codes.{slot_of, many_of, kinds_of}
use Rattle.slots.specs.Fine.{is_no, is_list, taken}
use Rattle.trees.specs.Pool.{count, In, row_fine, Reached, start, on, Stands, as_root, as_child, as_next, Twice, Bad, fault, twice, misfit}
use Rattle.trees.specs.Survey.{Told, unreached, the_root, by_two, by_one, Linked, SlotBy, of_root, of_child, of_list, nowhere}
use Rattle.trees.specs.Verdict.{Lowest, NoneBad, First, none_bad, lowest}
use Rattle.slots.proofs.Either.{same_or, no_both}
use Rattle.trees.proofs.Linked.{reached_in, link_reaches, root_once, word_once}

list_used : (m : Many) → is_list m ≡ true → is_no m ≡ false
list_used no h = sym h
list_used one h = refl
list_used at_most_one h = refl
list_used any h = refl
list_used some h = refl

-- a slot that doesn't take a row is used
not_taken : (s : Slot) (k m n : ℕ) → taken s k m n ≡ false → is_no s.many ≡ false
unfolding taken
not_taken s k m n h = go (is_no s.many) refl
  where
    go : (b : Bool) → is_no s.many ≡ b → is_no s.many ≡ false
    go true e = no_both (rw e at h)
    go false e = e

-- one of two tests fails
which : (a b : Bool) → a && b ≡ false → (a ≡ false) ⊎ (b ≡ false)
which true b h = inr h
which false b h = inl refl

pub both_hold : (a b : Bool) → a && b ≡ true → (a ≡ true) × (b ≡ true)
both_hold true b h = (refl, h)
both_hold false b h = no_both (sym h)

module _ (pool : List ℕ) (root : ℕ) where
  -- how a row stands where it stands
  data View (s : Slot) (t : ℕ) : Type 0 where
    v_root : root ≡ t → s ≡ one of any-root → View s t
    v_child : (p i : ℕ) → Reached pool root p → i ≤ 3 → word_of pool p (3 + i) ≡ t → slot (word_of pool p 0) i ≡ s → View s t
    v_next : (p : ℕ) → Stands pool root s p → Reached pool root p → is_list s.many ≡ true → word_of pool p 7 ≡ t → p < t → View s t

  view : {s : Slot} {t : ℕ} → Stands pool root s t → View s t
  view as_root = v_root refl refl
  view (as_child {s} {r} {i} {t} a b c d e) = v_child r i a b c e
  view (as_next {s} {r} {t} a b c d e f) = v_next r a b c d f

  -- the number of the slot that a row stands in
  pub record StandsAs (t x : ℕ) : Type 0 where
    pub only : (s : Slot) → Stands pool root s t → s ≡ slot_of x
    pub there : is_no (slot_of x).many ≡ false → Stands pool root (slot_of x) t

  moved : {q r s : ℕ} → q ≡ r → StandsAs r s → StandsAs q s
  moved {q} {r} {s} e h = subst (λ (y : ℕ). StandsAs y s) (sym e) h

  -- what is known of a row with one link
  pub record Single (t s : ℕ) : Type 0 where
    pub reached : Reached pool root t
    pub stands : StandsAs t s
    pub once : Twice pool root t → ⊥

  -- what is known of the rows below r, whose slots' numbers are bytes
  pub record Sofar (stands : List ℕ) (r : ℕ) : Type 0 where
    pub some : 1 ≤ r
    pub wide : count pool < length stands
    pub good : (q : ℕ) → q < r → Reached pool root q → Bad pool root q → ⊥
    pub stood : (q : ℕ) → q < r → Reached pool root q → StandsAs q (get_or stands q 0 % 256)

  module _ {stands : List ℕ} {r : ℕ} (so : Sofar stands r) (i : In pool r) {owner word s : ℕ} (n₀ : word ≡ 0 → ⊥) (n₂ : word ≡ 2 → ⊥)
      (by : SlotBy pool r owner word (get_or stands owner 0 % 256) s) where
    -- the root, by no other link
    module _ (one' : word ≡ 1) (e : root ≡ r) (u : (p k : ℕ) → Reached pool root p → 3 ≤ k → k ≤ 7 → word_of pool p k ≡ r → ⊥) where
      root_slot : SlotBy pool r owner word (get_or stands owner 0 % 256) s → slot_of s ≡ one of any-root
      root_slot (of_root a b) = b
      root_slot (of_child a b c) = absurd (omega arith)
      root_slot (of_list a b c d) = absurd (omega arith)
      root_slot (nowhere a b c) = absurd (omega arith)

      root_only : (s' : Slot) → View s' r → s' ≡ slot_of s
      root_only s' (v_root a b) = b ∙ sym (root_slot by)
      root_only s' (v_child p j a b c d) = absurd (u p (3 + j) a (omega arith) (omega arith) c)
      root_only s' (v_next p a b c d f) = absurd (u p 7 b (omega arith) (omega arith) d)

      single_root : Single r s
      single_root =
          record {
            reached = rw (sym e) start;
            stands = record { only = λ s' h. root_only s' (view h); there = λ h. rw (root_slot by) (rw (sym e) as_root) };
            once = root_once u;
          }

    -- one word of a row
    module _ (rp : Reached pool root owner) (lo : 3 ≤ word) (hi : word ≤ 7) (e : word_of pool owner word ≡ r) (nr : root ≡ r → ⊥)
        (u : (p k : ℕ) → Reached pool root p → 3 ≤ k → k ≤ 7 → word_of pool p k ≡ r → (p ≡ owner) × (k ≡ word)) where
      child_only : word < 7 → slot_of s ≡ slot (word_of pool owner 0) (word - 3) → (s' : Slot) → View s' r → s' ≡ slot_of s
      child_only l f s' (v_root a b) = absurd (nr a)
      child_only l f s' (v_child p j a b c d) =
          let q = u p (3 + j) a (omega arith) (omega arith) c in
          let z : j ≡ word - 3 = omega (arith, q) in
          sym d ∙ ap (λ y. slot (word_of pool y 0) j) q.0 ∙ ap (λ y. slot (word_of pool owner 0) y) z ∙ sym f
      child_only l f s' (v_next p a b c d g) = let q = u p 7 b (omega arith) (omega arith) d in absurd (omega (arith, q))

      -- what stands in a list's slot by a next word
      next_only : 7 ≤ word → (s' : Slot) → View s' r → (owner < r) × (Stands pool root s' owner) × (is_list s'.many ≡ true)
      next_only l s' (v_root a b) = absurd (nr a)
      next_only l s' (v_child p j a b c d) = let q = u p (3 + j) a (omega arith) (omega arith) c in absurd (omega (arith, q))
      next_only l s' (v_next p a b c d g) = let q = u p 7 b (omega arith) (omega arith) d in (rw (sym q.0) g, rw (sym q.0) a, c)

      slotted : SlotBy pool r owner word (get_or stands owner 0 % 256) s → StandsAs r s
      unfolding many_of kinds_of
      slotted (of_root a b) = absurd (omega arith)
      slotted (of_child a b c) =
          let w : 3 + (word - 3) ≡ word = omega arith in
          record {
            only = λ s' h. child_only b c s' (view h);
            there = λ h. as_child {i = word - 3} rp (omega arith) (ap (λ y. word_of pool owner y) w ∙ e) i (sym c);
          }
      slotted (of_list a b c d) =
          let st = so.stood owner b rp in
          let k₇ : 7 ≡ word = omega arith in
          record {
            only = λ s' h. st.only s' (next_only a s' (view h)).1 ∙ ap (λ y. slot_of y) (sym d);
            there = λ h. rw d (as_next (st.there (list_used (slot_of (get_or stands owner 0 % 256)).many c)) rp c (ap (λ y. word_of pool owner y) k₇ ∙ e) i b);
          }
      slotted (nowhere a b c) =
          record {
            only =
                λ s' h.
                let o = next_only a s' (view h) in
                let same = (so.stood owner o.0 rp).only s' o.1 in
                no_both (sym o.2 ∙ ap (λ y. is_list y.many) same ∙ b o.0);
            there = λ h. no_both (rw c at h);
          }

      single_row : Single r s
      single_row =
          record {
            reached = on rp lo hi e i;
            stands = slotted by;
            once = word_once nr u;
          }

    pub single : Told pool root r owner word → Single r s
    single (unreached y z n) = absurd (n₀ z)
    single (the_root y z e u) = single_root z e u
    single (by_two y z t) = absurd (n₂ z)
    single (by_one rp ip lo hi e nr u) = single_row rp lo hi e nr u

  -- a row with one link, in the slot with the number s
  module _ {stands : List ℕ} {r : ℕ} (so : Sofar stands r) (i : In pool r) (s : ℕ) (o : Single r s) {b : Bool}
      (e : b ≡ row_fine pool r && taken (slot_of s) (word_of pool r 0) (word_of pool r 1) (word_of pool r 7)) where
    -- that fails its tests
    pub bad : not b ≡ true → Lowest pool root r
    bad f =
        record {
          inside = i;
          reached = o.reached;
          bad = ⊎_elim (λ g. fault g) (λ g. misfit (slot_of s) (o.stands.there (not_taken (slot_of s) _ _ _ g)) g) (which (row_fine pool r) _ (sym e ∙ not-true b f));
          first = so.good;
        }

    -- or passes them
    module _ (f : not b ≡ false) where
      both : (row_fine pool r ≡ true) × (taken (slot_of s) (word_of pool r 0) (word_of pool r 1) (word_of pool r 7) ≡ true)
      both = both_hold _ _ (sym e ∙ not-false b f)

      fine : Bad pool root r → ⊥
      fine (fault g) = no_both (sym both.0 ∙ g)
      fine (twice t) = o.once t
      fine (misfit s' st g) =
          no_both (sym both.1 ∙ ap (λ y. taken y (word_of pool r 0) (word_of pool r 1) (word_of pool r 7)) (sym (o.stands.only s' st)) ∙ g)

      pub passed : s < 256 → Sofar (set stands r s) (r + 1)
      passed small =
          let long : r < length stands = omega (arith, i, so.wide) in
          record {
            some = omega arith;
            wide = simp length-set so.wide;
            good = λ q l x b. ⊎_elim (λ e. fine (rw e at b)) (λ e. so.good q (omega arith) x b) (same_or q r);
            stood =
                λ q l x. ⊎_elim
                (λ e.
                let g : get_or (set stands r s) q 0 ≡ s = rw e (get_or-set_same stands r s 0 long) in
                let m : get_or (set stands r s) q 0 % 256 ≡ s = omega arith in
                rw m (moved e o.stands))
                (λ e. rw (get_or-set_other stands r q s 0 e) (so.stood q (omega arith) x))
                (same_or q r);
          }

  -- a row that isn't reached
  unreached_zero : {t owner word : ℕ} → Told pool root t owner word → word ≡ 0 → Reached pool root t → ⊥
  unreached_zero (unreached y z n) w = n
  unreached_zero (the_root y z e u) w = absurd (omega arith)
  unreached_zero (by_two y z t) w = absurd (omega arith)
  unreached_zero (by_one rp ip lo hi e nr u) w = absurd (omega arith)

  pub skipped : {stands : List ℕ} {r owner word : ℕ} → Sofar stands r → Told pool root r owner word → word ≡ 0 → Sofar stands (r + 1)
  skipped {stands} {r} so t z =
      record {
        some = omega arith;
        wide = so.wide;
        good = λ q l x b. ⊎_elim (λ e. unreached_zero t z (rw e at x)) (λ e. so.good q (omega arith) x b) (same_or q r);
        stood = λ q l x. ⊎_elim (λ e. absurd (unreached_zero t z (rw e at x))) (λ e. so.stood q (omega arith) x) (same_or q r);
      }

  -- a row that is reached twice
  two_links : {t owner word : ℕ} → Told pool root t owner word → word ≡ 2 → Twice pool root t
  two_links (unreached y z n) w = absurd (omega arith)
  two_links (the_root y z e u) w = absurd (omega arith)
  two_links (by_two y z t) w = t
  two_links (by_one rp ip lo hi e nr u) w = absurd (omega arith)

  pub doubled : {stands : List ℕ} {r owner word : ℕ} → Sofar stands r → In pool r → Told pool root r owner word → word ≡ 2 → Lowest pool root r
  doubled so i t z =
      let w = two_links t z in
      record { inside = i; reached = link_reaches i w.link₁; bad = twice w; first = so.good }

  -- a link of one word, or of none
  pub linked : {t owner word : ℕ} → Told pool root t owner word → (word ≡ 0 → ⊥) → (word ≡ 2 → ⊥) → Linked pool owner word
  linked (unreached y z n) n₀ n₂ n₁ = absurd (n₀ z)
  linked (the_root y z e u) n₀ n₂ n₁ = absurd (n₁ z)
  linked (by_two y z t) n₀ n₂ n₁ = absurd (n₂ z)
  linked (by_one rp ip lo hi e nr u) n₀ n₂ n₁ = (ip, lo, hi)

  -- the first row, and behind the last
  pub first_row : {stands : List ℕ} → count pool < length stands → In pool root → Sofar stands 1
  first_row w i =
      record { some = omega arith; wide = w; good = λ q l x b. absurd (omega (arith, reached_in i x)); stood = λ q l x. absurd (omega (arith, reached_in i x)) }

  pub last_row : {stands : List ℕ} {r : ℕ} → Sofar stands r → In pool root → count pool < r → First pool root None
  last_row so i l = none_bad (λ q x b. so.good q (omega (arith, reached_in i x)) x b)

-- what the first bad row says, or that there is none
module _ (pool : List ℕ) (root : ℕ) where
  pub no_bad : First pool root None → NoneBad pool root
  no_bad (none_bad n) = n

  pub some_bad : {p : ℕ} → First pool root (Some p) → Lowest pool root p
  some_bad (lowest l) = l
