-- A tree that the check over its file passed is ready to be written, where it isn't too deep.
use Prim.Native.Nat.{ℕ, suc, ◌+◌, ◌-◌, ◌≤◌, ◌<◌}
use native.Mathlib.Omega.{arith}
use mathlib.Core.Path.{◌≡◌, refl, sym, ap, ◌∙◌}
use mathlib.Core.Bool.{Bool, true, false, ◌&&◌}
use mathlib.Core.List.{List, [], ◌∷◌}
use lib.ListN.{length, get_or}
use native.Mathlib.Decide.{dec_lt}
use Rattle.grammar.specs.Tree.{Tree, infixed, node, Trees, nil, ◌▸◌}
use Rattle.grammar.specs.Script.{rows, word_of}
use Rattle.files.specs.File.{read}
use Rattle.slots.specs.Slots.{any-root, fits}
use Rattle.payloads.specs.Fields.{Field, fields_of}
use Rattle.payloads.specs.Needs.{placed}
use Rattle.payloads.specs.Index.{held, laid}
use Rattle.trees.specs.Pool.{In, row_fine, Reached, start, on, fault, Holds, infix_row, row, HoldsAll, none, more}
use Rattle.trees.specs.Verdict.{NoneBad}
use Rattle.trees.proofs.Sound.{holds_if}
use Rattle.std.specs.Prelude.{Result, Ok, Some, None}
use Rattle.refusals.specs.Refusal.{Numbered}
use Rattle.payloads.specs.Claims.{Bytes}
use Rattle.placed.specs.Left.{Left}
use Rattle.placed.specs.Over.{LowestOf, NoneOf, Wrong, bad, misplaced, Over, bad_file, no_root, wrong_row, a_tree}
use Rattle.json_text.specs.Claims.{all_placed, each_placed}
use Rattle.json_writer.specs.Deep.{most_deep, At, top, child, next, TooDeep, FirstDeep, none_deep, lowest_deep}
use Rattle.json_writer.specs.Ready.{higher, tall, tallest, Indexes, Ready, Passed}
use Rattle.json_writer.proofs.DeepPaths.{at_reached}
use Rattle.json_writer.proofs.Parts.{higher_left, higher_least}

-- the tree that a check over a file passed
pub record IsTree (pool : List ℕ) (root : ℕ) (file : List ℕ) (count : ℕ) : Type 0 where
  pub words : List ℕ
  pub given : held file ≡ read words
  pub counted : count ≡ length words
  pub inside : In pool root
  pub right : NoneOf pool root (Wrong pool root (fields_of file))
  pub tree : Tree
  pub holds : Holds pool root tree
  pub fitting : fits any-root tree ≡ true

pub the_tree : {pool file : List ℕ} {root count : ℕ} → Over pool root file (Ok count) → IsTree pool root file count
the_tree {pool} {file} {root} {count} v = go v refl
  where
    go : {c : Result ℕ Numbered} → Over pool root file c → c ≡ Ok count → IsTree pool root file count
    go (bad_file e) q = absurd (let z : ◌≡◌ {A = ℕ} 0 1 = cc in omega arith)
    go (no_root e n) q = absurd (let z : ◌≡◌ {A = ℕ} 0 1 = cc in omega arith)
    go (wrong_row e i l) q = absurd (let z : ◌≡◌ {A = ℕ} 0 1 = cc in omega arith)
    go (a_tree {words} t e i n h f) q =
        let c : length words ≡ count = cc in
        record { words = words; given = e; counted = sym c; inside = i; right = n; tree = t; holds = h; fitting = f }

module _ {pool : List ℕ} {root : ℕ} {fs : List Field} (right : NoneOf pool root (Wrong pool root fs)) where
  -- no row is bad, and none is misplaced
  pub none_bad : NoneBad pool root
  none_bad q x b = right q x (bad b)

  pub all_fine : (q : ℕ) → Reached pool root q → row_fine pool q ≡ true
  all_fine q x = holds_if (row_fine pool q) (λ e. none_bad q x (fault e))

  row_placed : {r : ℕ} → Reached pool root r → placed fs (word_of pool r 0) (word_of pool r 2) ≡ true
  row_placed {r} x = holds_if (placed fs (word_of pool r 0) (word_of pool r 2)) (λ e. right r x (misplaced e))

  infix_placed : (m p : ℕ) (l r : Tree) (z : ℕ) → each_placed fs (l ▸ nil) ≡ true → each_placed fs (r ▸ nil) ≡ true → all_placed fs (infixed m p l r z) ≡ true
  unfolding all_placed
  infix_placed m p l r z e f = go (all_placed fs l) (all_placed fs r) e f
    where
      go : (a b : Bool) → a && true ≡ true → b && true ≡ true → a && b ≡ true
      go true true x y = refl
      go true false x y = y
      go false b x y = x

  node_placed : (k m p : ℕ) (a b c d : Trees) (z : ℕ) → placed fs k p ≡ true → each_placed fs a ≡ true → each_placed fs b ≡ true → each_placed fs c ≡ true → each_placed fs d ≡ true
      → all_placed fs (node k m p a b c d z) ≡ true
  unfolding all_placed
  node_placed k m p a b c d z e₀ e₁ e₂ e₃ e₄ = rw (e₀, e₁, e₂, e₃, e₄)

  none_placed : each_placed fs nil ≡ true
  unfolding all_placed
  none_placed = refl

  more_placed : (t : Tree) (ts : Trees) → all_placed fs t ≡ true → each_placed fs ts ≡ true → each_placed fs (t ▸ ts) ≡ true
  unfolding all_placed
  more_placed t ts e f = rw (e, f)

  mutual
    pub tree_placed : {r : ℕ} {t : Tree} → Reached pool root r → Holds pool r t → all_placed fs t ≡ true
    tree_placed {r} x (infix_row a b e ha hb hc hd q) =
        rw q (infix_placed (word_of pool r 1) (word_of pool r 2) a b (word_of pool r 8) (trees_placed (λ i. on {k = 3} x (omega arith) (omega arith) refl i) ha)
        (trees_placed (λ i. on {k = 4} x (omega arith) (omega arith) refl i) hb))
    tree_placed {r} x (row a b c d n ha hb hc hd q) =
        rw q (node_placed (word_of pool r 0) (word_of pool r 1) (word_of pool r 2) a b c d (word_of pool r 8) (row_placed x)
        (trees_placed (λ i. on {k = 3} x (omega arith) (omega arith) refl i) ha) (trees_placed (λ i. on {k = 4} x (omega arith) (omega arith) refl i) hb)
        (trees_placed (λ i. on {k = 5} x (omega arith) (omega arith) refl i) hc) (trees_placed (λ i. on {k = 6} x (omega arith) (omega arith) refl i) hd))

    trees_placed : {c : ℕ} {ts : Trees} → (In pool c → Reached pool root c) → HoldsAll pool c ts → each_placed fs ts ≡ true
    trees_placed x (none z q) = rw q none_placed
    trees_placed x (more t ts i h hs q) =
        rw q (more_placed t ts (tree_placed (x i) h) (trees_placed (λ j. on {k = 7} (x i) (omega arith) (omega arith) refl j) hs))

-- a tree without a row that is too deep is no taller than the most
module _ {pool : List ℕ} {root : ℕ} (low : NoneOf pool root (TooDeep pool root)) where
  not_deep : {r n : ℕ} → At pool root r n → n ≤ most_deep
  not_deep {r} {n} a = go (dec_lt most_deep n)
    where
      go : Dec (most_deep < n) → n ≤ most_deep
      go (yes h) = absurd (low r (at_reached a) (record { depth = n; path = a; more = h }))
      go (no h) = omega arith

  infix_low : (m p : ℕ) (l r : Tree) (z n : ℕ) → tallest (l ▸ nil) + suc n ≤ suc most_deep → tallest (r ▸ nil) + suc n ≤ suc most_deep → tall (infixed m p l r z) + n ≤ suc most_deep
  unfolding tall
  infix_low m p l r z n a b =
      let x = higher_left (tall l) 0 in
      let y = higher_left (tall r) 0 in
      omega (arith, higher_least (tall l) (tall r) (most_deep - n) (omega arith) (omega arith))

  node_low : (k m p : ℕ) (a b c d : Trees) (z n : ℕ) → tallest a + suc n ≤ suc most_deep → tallest b + suc n ≤ suc most_deep → tallest c + suc n ≤ suc most_deep
      → tallest d + suc n ≤ suc most_deep → tall (node k m p a b c d z) + n ≤ suc most_deep
  unfolding tall
  node_low k m p a b c d z n e₀ e₁ e₂ e₃ =
      let x = higher_least (tallest a) (tallest b) (most_deep - n) (omega arith) (omega arith) in
      let y = higher_least (tallest c) (tallest d) (most_deep - n) (omega arith) (omega arith) in
      omega (arith, higher_least (higher (tallest a) (tallest b)) (higher (tallest c) (tallest d)) (most_deep - n) x y)

  none_low : {n : ℕ} → n ≤ suc most_deep → tallest nil + n ≤ suc most_deep
  unfolding tall
  none_low h = omega arith

  more_low : (t : Tree) (ts : Trees) (n : ℕ) → tall t + n ≤ suc most_deep → tallest ts + n ≤ suc most_deep → tallest (t ▸ ts) + n ≤ suc most_deep
  unfolding tall
  more_low t ts n e f = omega (arith, higher_least (tall t) (tallest ts) (suc most_deep - n) (omega arith) (omega arith))

  mutual
    tree_low : {r n : ℕ} {t : Tree} → At pool root r n → Holds pool r t → tall t + n ≤ suc most_deep
    tree_low {r} {n} x (infix_row a b e ha hb hc hd q) =
        let m : suc n ≤ suc most_deep = omega (arith, not_deep x) in
        rw q (infix_low (word_of pool r 1) (word_of pool r 2) a b (word_of pool r 8) n (trees_low m (λ i. child {k = 3} x (omega arith) (omega arith) refl i) ha)
        (trees_low m (λ i. child {k = 4} x (omega arith) (omega arith) refl i) hb))
    tree_low {r} {n} x (row a b c d o ha hb hc hd q) =
        let m : suc n ≤ suc most_deep = omega (arith, not_deep x) in
        rw q (node_low (word_of pool r 0) (word_of pool r 1) (word_of pool r 2) a b c d (word_of pool r 8) n
        (trees_low m (λ i. child {k = 3} x (omega arith) (omega arith) refl i) ha) (trees_low m (λ i. child {k = 4} x (omega arith) (omega arith) refl i) hb)
        (trees_low m (λ i. child {k = 5} x (omega arith) (omega arith) refl i) hc) (trees_low m (λ i. child {k = 6} x (omega arith) (omega arith) refl i) hd))

    trees_low : {c n : ℕ} {ts : Trees} → n ≤ suc most_deep → (In pool c → At pool root c n) → HoldsAll pool c ts → tallest ts + n ≤ suc most_deep
    trees_low m x (none z q) = rw q (none_low m)
    trees_low {c} {n} m x (more t ts i h hs q) = rw q (more_low t ts n (tree_low (x i) h) (trees_low m (λ j. next (x i) refl j) hs))

  pub root_low : {t : Tree} → Holds pool root t → tall t ≤ most_deep
  root_low h = omega (arith, tree_low top h)

-- the first row that is too deep, or none
pub some_deep : {pool : List ℕ} {root p : ℕ} → FirstDeep pool root (Some p) → LowestOf pool root (TooDeep pool root) p
some_deep (lowest_deep l) = l

pub none_deeper : {pool : List ℕ} {root : ℕ} → FirstDeep pool root None → NoneOf pool root (TooDeep pool root)
none_deeper (none_deep n) = n

-- what the functions that write the rows need
module _ {pool file starts links : List ℕ} {root count : ℕ} (p : Passed pool root file starts count links) where
  pub tree_of : IsTree pool root file count
  tree_of = the_tree p.over

  pub indexes : Indexes file starts count
  indexes = record { are_bytes = p.are_bytes; words = tree_of.words; given = tree_of.given; index = p.index ∙ ap (laid file) tree_of.given; counted = tree_of.counted }

  pub ready : NoneOf pool root (TooDeep pool root) → Ready pool file root most_deep
  ready low = record {
    inside = tree_of.inside;
    fine = all_fine tree_of.right;
    tree = tree_of.tree;
    holds = tree_of.holds;
    placed = tree_placed tree_of.right start tree_of.holds;
    low = root_low low tree_of.holds;
  }

-- what the check over a file leaves of a tree is what the writer needs
pub passed : {pool file starts owners links queue : List ℕ} {root n count : ℕ} → Left pool root file n (Ok count) starts owners links queue
    → ((i : ℕ) → get_or file i 0 < 256) → rows (length pool) < n → Passed pool root file starts count links
passed {pool} {file} {owners = owners} l b h = record {
  over = l.verdict;
  are_bytes = all_bytes file b;
  index = l.index;
  tied = record { owners = owners; told = l.links (the_tree l.verdict).inside };
  wide = rw l.words_long h;
}
  where
    all_bytes : (bs : List ℕ) → ((i : ℕ) → get_or bs i 0 < 256) → Bytes bs
    all_bytes [] f = tt
    all_bytes (x ∷ bs) f = (f 0, all_bytes bs (λ i. f (suc i)))
