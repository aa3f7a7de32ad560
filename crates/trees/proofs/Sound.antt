-- No bad row gives a tree: each row that the root reaches has one link, so no row is below itself.
use Prim.Native.Nat.{ℕ, zero, suc, ◌+◌, ◌≤◌, ◌<◌}
use native.Mathlib.Omega.{arith}
use mathlib.Core.Path.{◌≡◌, refl, sym, subst, ◌∙◌}
use mathlib.Core.Bool.{Bool, true, false, ◌&&◌, ◌||◌}
use mathlib.Core.Logic.{⊎_elim}
use mathlib.Core.List.{List}
use lib.Dec.{eqb, ltb, leb}
use lib.ListN.{length, get_or, set, length-set, replicate, length-replicate}
use lib.Seq.{get_or-set_other}
use borrow.Author.Tests.{eqb-true, ltb-true, leb-true, ne_eqb, lt-ltb}
use Rattle.grammar.specs.Tree.{Tree, infixed, node, Trees, nil, ◌▸◌}
use Rattle.grammar.specs.Script.{word_of}
use Rattle.slots.specs.Slots.{Slot, Many, no, one, at_most_one, any, some, ◌of◌, Takes, names, expressions, any-root, slot, kind_of, of_expressions, of_statements, takes, marked, counts, how_many, fits, all_fit}
use Rattle.slots.specs.Fine.{is_no, is_list, child_fine, next_fine, taken}
use Rattle.trees.specs.Pool.{count, In, row_fine, Reached, start, on, Link, root_link, word_link, Stands, as_root, as_child, as_next, fault, twice, misfit}
use Rattle.trees.specs.Pool.{Holds, infix_row, row, HoldsAll, none, more}
use Rattle.trees.specs.Verdict.{NoneBad}
use Rattle.slots.proofs.Either.{same_or, no_both}
use Rattle.trees.proofs.Linked.{reached_in}
use Rattle.trees.proofs.Firsts.{both_hold}
use Rattle.trees.proofs.Zeros.{zeros, zeros_set, zero_there}

-- a test that doesn't fail holds
pub holds_if : (b : Bool) → (b ≡ false → ⊥) → b ≡ true
holds_if true h = refl
holds_if false h = absurd (h refl)

-- a child word that is 0, and one that isn't
empty_counts : (m : Many) (r : ℕ) → child_fine m r 0 ≡ true → counts m 0 ≡ true
unfolding counts
empty_counts no r h = refl
empty_counts one r h = no_both (sym h)
empty_counts at_most_one r h = refl
empty_counts any r h = refl
empty_counts some r h = no_both (sym h)

pub child_used : (m : Many) (r c : ℕ) → (c ≡ 0 → ⊥) → child_fine m r c ≡ true → (is_no m ≡ false) × (c < r)
child_used no r c n h = absurd (n (eqb-true c 0 h))
child_used one r c n h = (refl, ltb-true c r (both_hold (ltb 0 c) (ltb c r) h).1)
child_used at_most_one r c n h = (refl, ltb-true c r h)
child_used any r c n h = (refl, ltb-true c r h)
child_used some r c n h = (refl, ltb-true c r (both_hold (ltb 0 c) (ltb c r) h).1)

some_counts : (m : Many) (t : Tree) (ts : Trees) → is_no m ≡ false → (is_list m ≡ false → ts ≡ nil) → counts m (how_many (t ▸ ts)) ≡ true
unfolding counts
some_counts no t ts u a = no_both u
some_counts one t ts u a = rw (a refl)
some_counts at_most_one t ts u a = rw (a refl)
some_counts any t ts u a = refl
some_counts some t ts u a = lt-ltb 0 (1 + how_many ts) (omega arith)

pub six : (a b c d e f : Bool) → a && b && c && d && e && f ≡ true → (a ≡ true) × (b ≡ true) × (c ≡ true) × (d ≡ true) × (e ≡ true) × (f ≡ true)
six true true true true true f h = (refl, refl, refl, refl, refl, h)
six true true true true false f h = no_both (sym h)
six true true true false e f h = no_both (sym h)
six true true false d e f h = no_both (sym h)
six true false c d e f h = no_both (sym h)
six false b c d e f h = no_both (sym h)

or_left : (a b : Bool) → (a || b) ≡ true → b ≡ false → a ≡ true
or_left true b h n = refl
or_left false b h n = no_both (sym h ∙ n)

infix_fits : (k : Takes) (m p : ℕ) (a b : Tree) (z : ℕ) → takes k 12 m ≡ true → marked 12 m ≡ true → fits expressions a ≡ true → fits expressions b ≡ true
    → fits k (infixed m p a b z) ≡ true
unfolding fits
infix_fits k m p a b z t n f g = rw (t, n, f, g)

node_fits : (k : Takes) (kind m p : ℕ) (a b c d : Trees) (z : ℕ) → takes k kind m ≡ true → (kind ≡ 12 → ⊥) → marked kind m ≡ true
    → counts (slot kind 0).many (how_many a) ≡ true → all_fit (slot kind 0).kinds a ≡ true
    → counts (slot kind 1).many (how_many b) ≡ true → all_fit (slot kind 1).kinds b ≡ true
    → counts (slot kind 2).many (how_many c) ≡ true → all_fit (slot kind 2).kinds c ≡ true
    → counts (slot kind 3).many (how_many d) ≡ true → all_fit (slot kind 3).kinds d ≡ true → fits k (node kind m p a b c d z) ≡ true
unfolding fits
node_fits k kind m p a b c d z t n o a₀ a₁ b₀ b₁ c₀ c₁ d₀ d₁ = rw (t, ne_eqb kind 12 n, o, a₀, a₁, b₀, b₁, c₀, c₁, d₀, d₁)

pub infix_slots : (k : ℕ) → k ≡ 12 → (slot k 0 ≡ one of expressions) × (slot k 1 ≡ one of expressions) × (slot k 2 ≡ no of names) × (slot k 3 ≡ no of names)
unfolding slot kind_of of_expressions of_statements
infix_slots k e = (rw e, rw e, rw e, rw e)

module _ (pool : List ℕ) where
  -- the trees of a slot
  pub record Slotted (sl : Slot) (c : ℕ) : Type 0 where
    pub trees : Trees
    pub holds : HoldsAll pool c trees
    pub fit : all_fit sl.kinds trees ≡ true
    pub number : counts sl.many (how_many trees) ≡ true

  -- a row's tree, and those behind it in its list
  pub record Built (s : Slot) (r : ℕ) : Type 0 where
    pub tree : Tree
    pub rest : Trees
    pub holds : Holds pool r tree
    pub behind : HoldsAll pool (word_of pool r 7) rest
    pub fit : fits s.kinds tree ≡ true
    pub rest_fit : all_fit s.kinds rest ≡ true
    pub alone : is_list s.many ≡ false → rest ≡ nil

  -- its list
  listed : {s : Slot} {r : ℕ} → In pool r → (b : Built s r) → HoldsAll pool r (b.tree ▸ b.rest)
  listed o b = more b.tree b.rest o b.holds b.behind refl

  listed_fit : {s : Slot} {r : ℕ} (b : Built s r) → all_fit s.kinds (b.tree ▸ b.rest) ≡ true
  unfolding all_fit
  listed_fit b = rw b.fit b.rest_fit

  record One (c : ℕ) : Type 0 where
    pub tree : Tree
    pub holds : HoldsAll pool c (tree ▸ nil)
    pub fit : fits expressions tree ≡ true

  one_of : {c : ℕ} → Slotted (one of expressions) c → One c
  unfolding counts all_fit
  one_of {c} s = go s.trees s.holds s.fit s.number
    where
      go : (ts : Trees) → HoldsAll pool c ts → all_fit expressions ts ≡ true → counts one (how_many ts) ≡ true → One c
      go nil h f n = no_both (sym n)
      go (t ▸ nil) h f n = record { tree = t; holds = h; fit = (both_hold (fits expressions t) true f).0 }
      go (t ▸ (u ▸ ts)) h f n = absurd (omega (arith, eqb-true (how_many (t ▸ (u ▸ ts))) 1 n))

  none_of : {c : ℕ} → Slotted (no of names) c → HoldsAll pool c nil
  unfolding counts
  none_of {c} s = go s.trees s.holds s.number
    where
      go : (ts : Trees) → HoldsAll pool c ts → counts no (how_many ts) ≡ true → HoldsAll pool c nil
      go nil h n = h
      go (t ▸ ts) h n = absurd (omega (arith, eqb-true (how_many (t ▸ ts)) 0 n))

  module _ (root : ℕ) (good : NoneBad pool root) (i : In pool root) where
    pub inside : {t : ℕ} → Reached pool root t → In pool t
    inside h = reached_in i h

    -- one link for each row
    pub one_link : {t a b a' b' : ℕ} → Reached pool root t → Link pool root t a b → Link pool root t a' b' → (a ≡ a') × (b ≡ b')
    one_link {t} {a} {b} {a'} {b'} h l m =
        ⊎_elim
        (λ e. ⊎_elim (λ f. (e, f)) (λ f. absurd (good t h (twice (record { row₁ = a; word₁ = b; row₂ = a'; word₂ = b'; link₁ = l; link₂ = m; different = λ x y. f y })))) (same_or b b'))
        (λ e. absurd (good t h (twice (record { row₁ = a; word₁ = b; row₂ = a'; word₂ = b'; link₁ = l; link₂ = m; different = λ x y. e x }))))
        (same_or a a')

    -- a word of a row
    pub record Down (p t : ℕ) : Type 0 where
      pub word : ℕ
      pub low : 3 ≤ word
      pub high : word ≤ 7
      pub is : word_of pool p word ≡ t
      pub from : Reached pool root p
      pub to : In pool t

    pub data Path (x : ℕ) : ℕ → Type 0 where
      here : {y : ℕ} → x ≡ y → Path x y
      step : {m y : ℕ} → Path x m → Down m y → Path x y

    pub link_of : {p t : ℕ} (d : Down p t) → Link pool root t p d.word
    link_of d = word_link d.from (inside d.from).0 d.low d.high d.is

    pub before : {z x y : ℕ} → Down z x → Path x y → Path z y
    before {z} {x} d (here e) = step (here refl) (subst (λ (n : ℕ). Down z n) e d)
    before d (step p d') = step (before d p) d'

    -- no row is below itself
    pub acyclic : {x : ℕ} → Reached pool root x → (y : ℕ) → Path x y → Down y x → ⊥
    acyclic start y p d = let e = one_link start (root_link refl) (link_of d) in omega (arith, inside d.from, e.0)
    acyclic (on {r = z} {k} {t = x} hz lo hi e n) y p d = up (λ m q d'. acyclic hz m q d') p
      where
        dz : Down z x
        dz = record { word = k; low = lo; high = hi; is = e; from = hz; to = n }

        same : y ≡ z
        same = (one_link (on hz lo hi e n) (link_of d) (link_of dz)).0

        up : ((m : ℕ) → Path z m → Down m z → ⊥) → Path x y → ⊥
        up again (here f) = again z (here refl) (subst (λ (m : ℕ). Down z m) (f ∙ same) dz)
        up again (step {m} q d') = again m (before dz q) (subst (λ (b : ℕ). Down m b) same d')

    down : (p k t : ℕ) → 3 ≤ k → k ≤ 7 → word_of pool p k ≡ t → In pool t → Reached pool root p → Down p t
    down p k t lo hi e o h = record { word = k; low = lo; high = hi; is = e; from = h; to = o }

    less : (v : List ℕ) (r fuel : ℕ) → Reached pool root r → count pool < length v → get_or v r 0 ≡ 0 → zeros v ≡ suc fuel → zeros (set v r 1) ≡ fuel
    less v r fuel h w f z =
        let e = zeros_set v r 1 (omega (arith, inside h, w)) f (omega arith) in omega arith

    marked_above : (v : List ℕ) (r : ℕ) → ((u : ℕ) → (get_or v u 0 ≡ 0 → ⊥) → Path u r) → (t : ℕ) → Down r t → (u : ℕ) → (get_or (set v r 1) u 0 ≡ 0 → ⊥) → Path u t
    marked_above v r above t d u n =
        ⊎_elim (λ e. step (here e) d) (λ e. step (above u (λ y. n (get_or-set_other v r u 1 0 e ∙ y))) d) (same_or u r)

    unmarked : (v : List ℕ) (r : ℕ) → ((u : ℕ) → (get_or v u 0 ≡ 0 → ⊥) → Path u r) → Reached pool root r → count pool < length v → (t : ℕ) → Down r t → get_or (set v r 1) t 0 ≡ 0
    unmarked v r above h w t d =
        let ht = on h d.low d.high d.is d.to in
        ⊎_elim (λ e. absurd (acyclic h r (here refl) (subst (λ (m : ℕ). Down r m) e d)))
        (λ e. get_or-set_other v r t 1 0 e ∙ ⊎_elim (λ y. y) (λ y. absurd (acyclic ht r (above t y) d)) (same_or (get_or v t 0) 0))
        (same_or t r)

    -- a row, where the trees below it are built
    module _ {r : ℕ} (h : Reached pool root r)
        (rec : (t k : ℕ) (s : Slot) → 3 ≤ k → k ≤ 7 → word_of pool r k ≡ t → In pool t → Stands pool root s t → is_no s.many ≡ false → Built s t) where
      row_good : row_fine pool r ≡ true
      row_good = holds_if (row_fine pool r) (λ f. good r h (fault f))

      -- the parts of the test
      abbrev k₀ : ℕ
      k₀ = word_of pool r 0

      parts : (marked k₀ (word_of pool r 1) ≡ true) × (child_fine (slot k₀ 0).many r (word_of pool r 3) ≡ true) × (child_fine (slot k₀ 1).many r (word_of pool r 4) ≡ true)
          × (child_fine (slot k₀ 2).many r (word_of pool r 5) ≡ true) × (child_fine (slot k₀ 3).many r (word_of pool r 6) ≡ true) × (next_fine (count pool) r (word_of pool r 7) ≡ true)
      unfolding row_fine
      parts = six _ _ _ _ _ _ row_good

      slot_trees : (j : ℕ) → j ≤ 3 → child_fine (slot k₀ j).many r (word_of pool r (3 + j)) ≡ true → Slotted (slot k₀ j) (word_of pool r (3 + j))
      unfolding all_fit
      slot_trees j l f =
          ⊎_elim
          (λ e. rw e (record { trees = nil; holds = none refl refl; fit = refl; number = empty_counts (slot k₀ j).many r (rw e at f) }))
          (λ e.
          let c = word_of pool r (3 + j) in
          let u = child_used (slot k₀ j).many r c e f in
          let o : In pool c = omega (arith, u, inside h) in
          let b = rec c (3 + j) (slot k₀ j) (omega arith) (omega arith) refl o (as_child h l refl o refl) u.0 in
          record {
            trees = b.tree ▸ b.rest;
            holds = listed o b;
            fit = listed_fit b;
            number = some_counts (slot k₀ j).many b.tree b.rest u.0 b.alone;
          })
          (same_or (word_of pool r (3 + j)) 0)

      -- the row itself
      record Own (s : Slot) : Type 0 where
        pub tree : Tree
        pub holds : Holds pool r tree
        pub fit : fits s.kinds tree ≡ true

      own : (s : Slot) → takes s.kinds k₀ (word_of pool r 1) ≡ true → Own s
      own s t = ⊎_elim infix_own other_own (same_or k₀ 12)
        where
          c₀ : Slotted (slot k₀ 0) (word_of pool r 3)
          c₀ = slot_trees 0 (omega arith) parts.1

          c₁ : Slotted (slot k₀ 1) (word_of pool r 4)
          c₁ = slot_trees 1 (omega arith) parts.2

          c₂ : Slotted (slot k₀ 2) (word_of pool r 5)
          c₂ = slot_trees 2 (omega arith) parts.3

          c₃ : Slotted (slot k₀ 3) (word_of pool r 6)
          c₃ = slot_trees 3 (omega arith) parts.4

          infix_own : k₀ ≡ 12 → Own s
          infix_own e =
              let sl = infix_slots k₀ e in
              let a = one_of (subst (λ (y : Slot). Slotted y (word_of pool r 3)) sl.0 c₀) in
              let b = one_of (subst (λ (y : Slot). Slotted y (word_of pool r 4)) sl.1 c₁) in
              let c = none_of (subst (λ (y : Slot). Slotted y (word_of pool r 5)) sl.2 c₂) in
              let d = none_of (subst (λ (y : Slot). Slotted y (word_of pool r 6)) sl.3 c₃) in
              record {
                tree = infixed (word_of pool r 1) (word_of pool r 2) a.tree b.tree (word_of pool r 8);
                holds = infix_row a.tree b.tree e a.holds b.holds c d refl;
                fit = infix_fits s.kinds (word_of pool r 1) (word_of pool r 2) a.tree b.tree (word_of pool r 8) (rw e at t) (rw e at parts.0) a.fit b.fit;
              }

          other_own : (k₀ ≡ 12 → ⊥) → Own s
          other_own n =
              record {
                tree = node k₀ (word_of pool r 1) (word_of pool r 2) c₀.trees c₁.trees c₂.trees c₃.trees (word_of pool r 8);
                holds = row c₀.trees c₁.trees c₂.trees c₃.trees n c₀.holds c₁.holds c₂.holds c₃.holds refl;
                fit = node_fits s.kinds k₀ (word_of pool r 1) (word_of pool r 2) c₀.trees c₁.trees c₂.trees c₃.trees (word_of pool r 8) t n parts.0 c₀.number c₀.fit c₁.number c₁.fit c₂.number c₂.fit c₃.number c₃.fit;
              }

      -- those behind it
      record Rest (s : Slot) : Type 0 where
        pub trees : Trees
        pub behind : HoldsAll pool (word_of pool r 7) trees
        pub fit : all_fit s.kinds trees ≡ true
        pub alone : is_list s.many ≡ false → trees ≡ nil

      -- the parts of what its slot asks
      asked : (s : Slot) → Stands pool root s r → is_no s.many ≡ false
          → (takes s.kinds k₀ (word_of pool r 1) ≡ true) × ((is_list s.many || eqb (word_of pool r 7) 0) ≡ true)
      unfolding taken
      asked s st u =
          let y = holds_if (taken s k₀ (word_of pool r 1) (word_of pool r 7)) (λ f. good r h (misfit s st f)) in
          both_hold _ _ (rw u at y)

      rest : (s : Slot) → Stands pool root s r → is_no s.many ≡ false → (is_list s.many || eqb (word_of pool r 7) 0) ≡ true → Rest s
      unfolding all_fit next_fine
      rest s st u a =
          ⊎_elim
          (λ e. record { trees = nil; behind = none e refl; fit = refl; alone = λ x. refl })
          (λ e.
          let nx = word_of pool r 7 in
          let f : (ltb r nx && leb nx (count pool)) ≡ true = rw (ne_eqb nx 0 e) at parts.5 in
          let g = both_hold (ltb r nx) (leb nx (count pool)) f in
          let l : r < nx = ltb-true r nx g.0 in
          let m : nx ≤ count pool = leb-true nx (count pool) g.1 in
          let o : In pool nx = omega arith in
          let li : is_list s.many ≡ true = or_left (is_list s.many) (eqb nx 0) a (ne_eqb nx 0 e) in
          let b = rec nx 7 s (omega arith) (omega arith) refl o (as_next st h li refl o l) u in
          record {
            trees = b.tree ▸ b.rest;
            behind = listed o b;
            fit = listed_fit b;
            alone = λ x. no_both {A = b.tree ▸ b.rest ≡ nil} (sym li ∙ x);
          })
          (same_or (word_of pool r 7) 0)

      body : (s : Slot) → Stands pool root s r → is_no s.many ≡ false → Built s r
      body s st u =
          let a = asked s st u in
          let o = own s a.0 in
          let t = rest s st u a.1 in
          record { tree = o.tree; rest = t.trees; holds = o.holds; behind = t.behind; fit = o.fit; rest_fit = t.fit; alone = t.alone }

    -- down from a row, with the rows above it marked: no row is met twice
    build : (fuel : ℕ) (v : List ℕ) (r : ℕ) (s : Slot) → zeros v ≡ fuel → count pool < length v → get_or v r 0 ≡ 0
        → ((u : ℕ) → (get_or v u 0 ≡ 0 → ⊥) → Path u r) → Reached pool root r → Stands pool root s r → is_no s.many ≡ false → Built s r
    build zero v r s z w f above h st u =
        let e = zeros_set v r 1 (omega (arith, inside h, w)) f (omega arith) in absurd (omega arith)
    build (suc fuel) v r s z w f above h st u =
        body h
        (λ t k s' lo hi e o st' u'.
        let d = down r k t lo hi e o h in
        build fuel (set v r 1) t s' (less v r fuel h w f z) (simp length-set w) (unmarked v r above h w t d) (marked_above v r above t d) (on h lo hi e o) st' u')
        s st u

    pub sound : Built (one of any-root) root
    sound =
        let v = replicate {A = ℕ} (suc (count pool)) 0 in
        let l : length v ≡ suc (count pool) = simp length-replicate in
        build (zeros v) v root (one of any-root) refl (omega arith) (zero_there (suc (count pool)) root)
        (λ u n. absurd (n (zero_there (suc (count pool)) u))) start as_root refl
