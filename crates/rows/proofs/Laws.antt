-- Laws of a pool's rows: what was built, and what becomes of a row that is there.
use Prim.Native.Nat.{ℕ, ◌+◌, ◌*◌, ◌/◌, ◌≤◌, ◌<◌}
use native.Mathlib.Nat.{zero-add, suc-add}
use native.Mathlib.Omega.{arith}
use mathlib.Core.Path.{◌≡◌, refl, sym, ap, ◌∙◌}
use mathlib.Core.Logic.{◌⊎◌, inl, inr, ⊎_elim}
use mathlib.Core.Bool.{Bool, true, false, and-eq-true_iff}
use mathlib.Core.List.{List, [], ◌∷◌, ◌++◌}
use lib.Dec.{ltb, leb}
use lib.ListN.{length, set, get_or, length-append, get_or-append}
use lib.Seq.{set-append_left, get_or-append-add}
use borrow.Author.Tests.{lt-ltb, le-ltb, le-leb, ltb-true, ltb-false, leb-true}
use Rattle.grammar.specs.Tree.{width, row, flag}
use Rattle.grammar.specs.Parsed.{NoRow}
use Rattle.grammar.specs.Script.{seat}
use Rattle.rows.specs.Rows.{kind_word, mark_word, next_word, placed, built, Builds, is_row, linked, marked, read, bit}
use Rattle.std.specs.Prelude.{Result, Ok, Err}
use Rattle.refusals.specs.Refusal.{Numbered, refusal}
use Rattle.refusals.proofs.Laws.{same_number, same_place}
use Rattle.rows.specs.declared.Flag.{Flag}

-- ---- building

-- a row behind the first `rows` is free where the pool has more, and none is where it has not
pub free : (rows n : ℕ) → rows < n / width → width * rows + width ≤ n
free rows n h = omega arith

pub none_free : (rows n : ℕ) → n / width ≤ rows → n < width * rows + width
none_free rows n h = omega arith

-- where a row is free it is built
pub built_fits : (xs : List ℕ) (rows : ℕ) (ws : List ℕ) (place : ℕ)
    → width * rows + width ≤ length xs → built xs rows ws place ≡ (Ok (rows + 1), placed xs rows ws)
unfolding built
built_fits xs rows ws place h = rw (lt-ltb rows (length xs / width) (omega arith))

-- where none is free, nothing changes
pub built_full : (xs : List ℕ) (rows : ℕ) (ws : List ℕ) (place : ℕ)
    → length xs < width * rows + width → built xs rows ws place ≡ (Err (refusal NoRow place), xs)
unfolding built
built_full xs rows ws place h = rw (le-ltb rows (length xs / width) (omega arith))

-- what is known where a row was built
pub record Placed (xs : List ℕ) (rows : ℕ) (ws : List ℕ) (k : ℕ) (ys : List ℕ) : Type 0 where
  pub count : k ≡ rows + 1
  pub fit : width * rows + width ≤ length xs
  pub pool : ys ≡ placed xs rows ws

-- what is known where none was free
pub record Denied (xs : List ℕ) (rows place n p : ℕ) (ys : List ℕ) : Type 0 where
  pub number : n ≡ NoRow
  pub at : p ≡ place
  pub full : length xs < width * rows + width
  pub pool : ys ≡ xs

-- that a row was built, or none was free
abbrev pub Outcome : (xs : List ℕ) (rows : ℕ) (ws : List ℕ) (place : ℕ) (r : Result ℕ Numbered) (ys : List ℕ) → Type 0
Outcome xs rows ws place r ys =
    ((r ≡ Ok (rows + 1)) × Placed xs rows ws (rows + 1) ys) ⊎ ((r ≡ Err (refusal NoRow place)) × Denied xs rows place NoRow place ys)

module _ {xs : List ℕ} {rows : ℕ} {ws : List ℕ} {place : ℕ} {r : Result ℕ Numbered} {ys : List ℕ} (h : Builds xs rows ws place r ys) where
  -- one of the two holds
  pub outcome : Outcome xs rows ws place r ys
  outcome = go (ltb rows (length xs / width)) refl
    where
      go : (b : Bool) → ltb rows (length xs / width) ≡ b → Outcome xs rows ws place r ys
      go true t =
          let fit : width * rows + width ≤ length xs = omega (arith, ltb-true rows (length xs / width) t) in
          let e = h.met ∙ built_fits xs rows ws place fit in
          inl (ap (λ (o : Result ℕ Numbered × List ℕ). o.0) e, record { count = refl; fit = fit; pool = ap (λ (o : Result ℕ Numbered × List ℕ). o.1) e })
      go false t =
          let full : length xs < width * rows + width = omega (arith, ltb-false rows (length xs / width) t) in
          let e = h.met ∙ built_full xs rows ws place full in
          inr (ap (λ (o : Result ℕ Numbered × List ℕ). o.0) e, record { number = refl; at = refl; full = full; pool = ap (λ (o : Result ℕ Numbered × List ℕ). o.1) e })

  -- which of the two, by the answer
  pub when_built : {k : ℕ} → r ≡ Ok k → Placed xs rows ws k ys
  when_built q = ⊎_elim (λ o. record { count = cc; fit = o.1.fit; pool = o.1.pool }) (λ o. let z : ◌≡◌ {A = ℕ} 0 1 = cc in absurd (omega arith)) outcome

  pub when_refused : {n p : ℕ} → r ≡ Err (refusal n p) → Denied xs rows place n p ys
  when_refused q = ⊎_elim (λ o. let z : ◌≡◌ {A = ℕ} 0 1 = cc in absurd (omega arith)) (λ o. record { number = same_number (sym q ∙ o.0); at = same_place (sym q ∙ o.0); full = o.1.full; pool = o.1.pool }) outcome

-- ---- a row that is there

-- a reference is a row's where it is not 0 and the row lies within the words
pub is_inside : (n reference : ℕ) → 0 < reference → width * reference ≤ n → is_row n reference ≡ true
unfolding is_row
is_inside n reference h l = rw (lt-ltb 0 reference h, le-leb reference (n / width) (omega arith))

pub inside : (n reference : ℕ) → is_row n reference ≡ true → (0 < reference) × (width * reference ≤ n)
unfolding is_row
inside n reference h =
    let both = (and-eq-true_iff (ltb 0 reference) (leb reference (n / width))).0 h in
    let le = leb-true reference (n / width) both.1 in
    (ltb-true 0 reference both.0, omega arith)

-- a store behind a list
set_behind : (p l : List ℕ) (k v : ℕ) → set (p ++ l) (length p + k) v ≡ p ++ set l k v
set_behind [] l k v = simp zero-add
set_behind (x ∷ p) l k v = rw suc-add (ap (λ (r : List ℕ). x ∷ r) (set_behind p l k v))

-- a row's words behind the first j rows: the pool has this row, and a word of it is read and stored where it stands
module _ (p ws q : List ℕ) (j : ℕ) (behind : length p ≡ width * j) where
  pub is_there : length ws ≡ width → is_row (length (p ++ (ws ++ q))) (j + 1) ≡ true
  is_there w = is_inside _ (j + 1) (omega arith) (simp length-append (omega arith))

  its_place : (k : ℕ) → seat (j + 1) k ≡ length p + k
  its_place k = omega arith

  pub read_there : (k : ℕ) → k < length ws → get_or (p ++ (ws ++ q)) (seat (j + 1) k) 0 ≡ get_or ws k 0
  read_there k h = rw (its_place k, get_or-append-add p (ws ++ q) k 0) (get_or-append ws q 0 k h)

  pub stored_there : (k v : ℕ) → k < length ws → set (p ++ (ws ++ q)) (seat (j + 1) k) v ≡ p ++ (set ws k v ++ q)
  stored_there k v h = rw (its_place k, set_behind p (ws ++ q) k v, set-append_left ws q k v h)

-- what becomes of a row that stands behind the first j rows
module _ (p q : List ℕ) (j : ℕ) (behind : length p ≡ width * j) (kind mark place c0 c1 c2 c3 next end : ℕ) where
  -- its words
  abbrev ws : List ℕ
  ws = row kind mark place c0 c1 c2 c3 next end

  pub kind_there : read (p ++ (ws ++ q)) (j + 1) kind_word ≡ kind
  unfolding read
  kind_there = rw (is_there p ws q j behind refl) (read_there p ws q j behind kind_word (omega arith))

  pub linked_there : (v : ℕ) → linked (p ++ (ws ++ q)) (j + 1) v ≡ p ++ (row kind mark place c0 c1 c2 c3 v end ++ q)
  unfolding linked
  linked_there v = rw (is_there p ws q j behind refl) (stored_there p ws q j behind next_word v (omega arith))

  pub marked_there : (f : Flag) → marked (p ++ (ws ++ q)) (j + 1) f ≡ p ++ (row kind (flag (bit f) mark) place c0 c1 c2 c3 next end ++ q)
  unfolding marked
  marked_there f =
      rw (is_there p ws q j behind refl, read_there p ws q j behind mark_word (omega arith)) (stored_there p ws q j behind mark_word (flag (bit f) mark) (omega arith))
