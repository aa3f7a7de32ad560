-- The parts of a tree that is ready to be written: the trees of its slots, and those of a list one by one.
use Prim.Native.Nat.{ℕ, suc, ◌-◌, ◌≤◌, ◌<◌}
use native.Mathlib.Omega.{arith}
use mathlib.Core.Path.{◌≡◌, refl, sym, ◌∙◌}
use mathlib.Core.Bool.{Bool, true, false, cond}
use mathlib.Core.List.{List}
use lib.Dec.{ltb}
use native.Mathlib.Decide.{dec_lt}
use borrow.Author.Tests.{lt-ltb, le-ltb}
use Rattle.grammar.specs.Tree.{Tree, infixed, node, Trees, nil, ◌▸◌}
use Rattle.grammar.specs.Script.{word_of}
use Rattle.payloads.specs.Fields.{Field, fields_of}
use Rattle.payloads.specs.Needs.{needs, placed}
use Rattle.trees.specs.Pool.{Holds, infix_row, row, HoldsAll, none, more}
use Rattle.json_text.specs.Claims.{all_placed, each_placed}
use Rattle.json_text.proofs.Injective.{place, infix_placed, more_placed}
use Rattle.json_writer.specs.Ready.{higher, tall, tallest, Ready, AllReady}
use Rattle.json_writer.proofs.DeepClears.{begins_0, begins_1, begins_2, begins_3, begins_next}

-- the higher of two numbers is no lower than either
pub higher_left : (m n : ℕ) → m ≤ higher m n
unfolding higher
higher_left m n = go (dec_lt m n)
  where
    go : Dec (m < n) → m ≤ cond (ltb m n) n m
    go (yes h) = rw (lt-ltb m n h) (omega arith)
    go (no h) = rw (le-ltb m n (omega arith)) (omega arith)

pub higher_right : (m n : ℕ) → n ≤ higher m n
unfolding higher
higher_right m n = go (dec_lt m n)
  where
    go : Dec (m < n) → n ≤ cond (ltb m n) n m
    go (yes h) = rw (lt-ltb m n h) (omega arith)
    go (no h) = rw (le-ltb m n (omega arith)) (omega arith)

pub higher_least : (m n k : ℕ) → m ≤ k → n ≤ k → higher m n ≤ k
unfolding higher
higher_least m n k a b = go (ltb m n)
  where
    go : (t : Bool) → cond t n m ≤ k
    go true = b
    go false = a

-- a tree has a row
pub some_row : (t : Tree) → 1 ≤ tall t
unfolding tall
some_row (infixed m p l r z) = omega arith
some_row (node k m p a b c d z) = omega arith

-- what is known of the trees of a row's slots
record Slots (pool : List ℕ) (fs : List Field) (r left : ℕ) (a b c d : Trees) : Type 0 where
  in_0 : HoldsAll pool (word_of pool r 3) a × (each_placed fs a ≡ true) × (suc (tallest a) ≤ left)
  in_1 : HoldsAll pool (word_of pool r 4) b × (each_placed fs b ≡ true) × (suc (tallest b) ≤ left)
  in_2 : HoldsAll pool (word_of pool r 5) c × (each_placed fs c ≡ true) × (suc (tallest c) ≤ left)
  in_3 : HoldsAll pool (word_of pool r 6) d × (each_placed fs d ≡ true) × (suc (tallest d) ≤ left)
  its_row : placed fs (word_of pool r 0) (word_of pool r 2) ≡ true

one_placed : (fs : List Field) (t : Tree) → all_placed fs t ≡ true → each_placed fs (t ▸ nil) ≡ true
unfolding all_placed
one_placed fs t e = rw e

none_placed : (fs : List Field) → each_placed fs nil ≡ true
unfolding all_placed
none_placed fs = refl

one_tall : (t : Tree) → tallest (t ▸ nil) ≤ tall t
unfolding tall
one_tall t = higher_least (tall t) 0 (tall t) (omega arith) (omega arith)

none_tall : tallest nil ≡ 0
unfolding tall
none_tall = refl

infix_row_placed : (fs : List Field) (k p : ℕ) → k ≡ 12 → placed fs k p ≡ true
unfolding placed needs
infix_row_placed fs k p e = rw e

infix_tall : (m p : ℕ) (l r : Tree) (z : ℕ) → (suc (tall l) ≤ tall (infixed m p l r z)) × (suc (tall r) ≤ tall (infixed m p l r z))
unfolding tall
infix_tall m p l r z = (omega (arith, higher_left (tall l) (tall r)), omega (arith, higher_right (tall l) (tall r)))

node_tall : (k m p : ℕ) (a b c d : Trees) (z : ℕ) → (suc (tallest a) ≤ tall (node k m p a b c d z)) × (suc (tallest b) ≤ tall (node k m p a b c d z))
    × (suc (tallest c) ≤ tall (node k m p a b c d z)) × (suc (tallest d) ≤ tall (node k m p a b c d z))
unfolding tall
node_tall k m p a b c d z =
    let x = higher_left (higher (tallest a) (tallest b)) (higher (tallest c) (tallest d)) in
    let y = higher_right (higher (tallest a) (tallest b)) (higher (tallest c) (tallest d)) in (
      omega (arith, x, higher_left (tallest a) (tallest b)),
      omega (arith, x, higher_right (tallest a) (tallest b)),
      omega (arith, y, higher_left (tallest c) (tallest d)),
      omega (arith, y, higher_right (tallest c) (tallest d)),
    )

record HasSlots (pool : List ℕ) (fs : List Field) (r left : ℕ) : Type 0 where
  a : Trees
  b : Trees
  c : Trees
  d : Trees
  slots : Slots pool fs r left a b c d

slots_of : {pool : List ℕ} {fs : List Field} {r left : ℕ} {t : Tree} → Holds pool r t → all_placed fs t ≡ true → tall t ≤ left → HasSlots pool fs r left
slots_of {pool} {fs} {r} {left} {t} (infix_row l k e hl hk h2 h3 q) p h =
    let (pl, pk) = infix_placed fs _ _ _ l k (rw q at p) in
    let (tl, tk) = infix_tall (word_of pool r 1) (word_of pool r 2) l k (word_of pool r 8) in
    let g : tall (infixed (word_of pool r 1) (word_of pool r 2) l k (word_of pool r 8)) ≤ left = rw q at h in
    record {
      a = l ▸ nil;
      b = k ▸ nil;
      c = nil;
      d = nil;
      slots = record {
        in_0 = (hl, one_placed fs l pl, omega (arith, one_tall l));
        in_1 = (hk, one_placed fs k pk, omega (arith, one_tall k));
        in_2 = (h2, none_placed fs, omega (arith, none_tall));
        in_3 = (h3, none_placed fs, omega (arith, none_tall));
        its_row = infix_row_placed fs (word_of pool r 0) (word_of pool r 2) e;
      };
    }
slots_of {pool} {fs} {r} {left} {t} (row a b c d n ha hb hc hd q) p h =
    let g₀ = place fs _ _ _ _ a b c d (rw q at p) in
    let (ta, tb, tc, td) = node_tall (word_of pool r 0) (word_of pool r 1) (word_of pool r 2) a b c d (word_of pool r 8) in
    let g : tall (node (word_of pool r 0) (word_of pool r 1) (word_of pool r 2) a b c d (word_of pool r 8)) ≤ left = rw q at h in
    record {
      a = a;
      b = b;
      c = c;
      d = d;
      slots = record {
        in_0 = (ha, g₀.in_0, omega arith);
        in_1 = (hb, g₀.in_1, omega arith);
        in_2 = (hc, g₀.in_2, omega arith);
        in_3 = (hd, g₀.in_3, omega arith);
        its_row = g₀.row;
      };
    }

module _ {pool file : List ℕ} {r left : ℕ} (y : Ready pool file r left) where
  its_slots : HasSlots pool (fields_of file) r left
  its_slots = slots_of y.holds y.placed y.low

  pub some_left : 1 ≤ left
  some_left = omega (arith, some_row y.tree, y.low)

  pub row_placed : placed (fields_of file) (word_of pool r 0) (word_of pool r 2) ≡ true
  row_placed = its_slots.slots.its_row

  -- the trees of each slot are ready
  pub ready_0 : AllReady pool file (word_of pool r 3) (left - 1)
  ready_0 = let s = its_slots.slots.in_0 in record { begins = begins_0 pool y.inside y.fine; trees = _; holds = s.0; placed = s.1; low = omega (arith, s.2) }

  pub ready_1 : AllReady pool file (word_of pool r 4) (left - 1)
  ready_1 = let s = its_slots.slots.in_1 in record { begins = begins_1 pool y.inside y.fine; trees = _; holds = s.0; placed = s.1; low = omega (arith, s.2) }

  pub ready_2 : AllReady pool file (word_of pool r 5) (left - 1)
  ready_2 = let s = its_slots.slots.in_2 in record { begins = begins_2 pool y.inside y.fine; trees = _; holds = s.0; placed = s.1; low = omega (arith, s.2) }

  pub ready_3 : AllReady pool file (word_of pool r 6) (left - 1)
  ready_3 = let s = its_slots.slots.in_3 in record { begins = begins_3 pool y.inside y.fine; trees = _; holds = s.0; placed = s.1; low = omega (arith, s.2) }

-- the first tree of a list, and those behind it
record Two (pool file : List ℕ) (c left : ℕ) : Type 0 where
  first : Ready pool file c left
  rest : AllReady pool file (word_of pool c 7) left

more_tall : (t : Tree) (ts : Trees) → (tall t ≤ tallest (t ▸ ts)) × (tallest ts ≤ tallest (t ▸ ts))
unfolding tall
more_tall t ts = (higher_left (tall t) (tallest ts), higher_right (tall t) (tallest ts))

module _ {pool file : List ℕ} {c left : ℕ} (y : AllReady pool file c left) (n : c ≡ 0 → ⊥) where
  two : Two pool file c left
  two = go y.holds refl
    where
      go : {us : Trees} → HoldsAll pool c us → us ≡ y.trees → Two pool file c left
      go (none z q) e = absurd (n z)
      go (more t ts i h hs q) e =
          let same : y.trees ≡ t ▸ ts = sym e ∙ q in
          let (p, ps) = more_placed (fields_of file) t ts (rw same at y.placed) in
          let (l, m) = more_tall t ts in
          let low : tallest (t ▸ ts) ≤ left = rw same at y.low in
          record {
            first = record { inside = i; fine = (y.begins n).1; tree = t; holds = h; placed = p; low = omega arith };
            rest = record { begins = begins_next pool i (y.begins n).1; trees = ts; holds = hs; placed = ps; low = omega arith };
          }

  pub first_ready : Ready pool file c left
  first_ready = two.first

  pub rest_ready : AllReady pool file (word_of pool c 7) left
  rest_ready = two.rest
