-- A tree as it is laid out: its rows stand one behind another, each once, with its children before it and its next behind it.
use Prim.Native.Nat.{ℕ, ◌+◌, ◌-◌, ◌*◌, ◌≤◌, ◌<◌}
use native.Mathlib.Omega.{arith}
use mathlib.Core.Path.{◌≡◌, refl, ap, sym, subst, subst₂, ◌∙◌}
use mathlib.Core.Bool.{true, false, not, ◌&&◌}
use mathlib.Core.Logic.{◌⊎◌, inl, inr, ⊎_elim}
use mathlib.Core.List.{List, [], ◌∷◌, ◌++◌, append_assoc}
use lib.ListN.{length, length-append, replicate}
use lib.Dec.{eqb}
use borrow.Author.Tests.{eqb-false, not-true}
use Rattle.grammar.specs.Tree.{Tree, infixed, node, Trees, nil, ◌▸◌, size, sizes, head_ref, lay, lays, width}
use Rattle.grammar.specs.Parsed.{read}
use Rattle.grammar.specs.Script.{word_of, rows, pool}
use Rattle.grammar.proofs.Laws.{rows as spends}
use Rattle.grammar.proofs.Rows.{Held, Holds as Words, length_lay, two, four, more as behind}
use Rattle.slots.specs.Slots.{Slot, ◌of◌, one, any-root, expressions, Takes, slot, takes, marked, counts, how_many, fits, all_fit}
use Rattle.std.specs.Prelude.{Result, Ok}
use Rattle.refusals.specs.Refusal.{Numbered}
use Rattle.trees.specs.Pool.{count, Holds, infix_row, row, HoldsAll, none, more}
use Rattle.trees.specs.Verdict.{Verdict}
use Rattle.trees.specs.Complete.{Entry, entry, Has, Distinct, entries, below, Orderly}
use Rattle.trees.specs.Exact.{IsTree, Laid, Filled, Passes}
use Rattle.trees.proofs.Firsts.{both_hold}
use Rattle.trees.proofs.Complete.{eleven}
use Rattle.trees.proofs.Exact.{exact}
use Rattle.trees.proofs.Different.{rows_in, has_split, join}

some_rows : (t : Tree) → 1 ≤ size t
some_rows (infixed m p l r z) = omega arith
some_rows (node k m p a b c d z) = omega arith

head_behind : (ts : Trees) (i : ℕ) → (head_ref ts i ≡ 0) ⊎ (i < head_ref ts i)
head_behind nil i = inl refl
head_behind (t ▸ ts) i = inr (omega (arith, some_rows t))

-- what is in a tree that fits
infix_fit : (k : Takes) (m p : ℕ) (a b : Tree) (z : ℕ) → fits k (infixed m p a b z) ≡ true → (fits expressions a ≡ true) × (fits expressions b ≡ true)
unfolding fits
infix_fit k m p a b z f =
    let e = both_hold (takes k 12 m && marked 12 m && fits expressions a) (fits expressions b) f in
    ((both_hold (takes k 12 m && marked 12 m) (fits expressions a) e.0).1, e.1)

node_fit : (k : Takes) (kd m p : ℕ) (a b c d : Trees) (z : ℕ) → fits k (node kd m p a b c d z) ≡ true
    → (eqb kd 12 ≡ false) × (all_fit (slot kd 0).kinds a ≡ true) × (all_fit (slot kd 1).kinds b ≡ true) × (all_fit (slot kd 2).kinds c ≡ true) × (all_fit (slot kd 3).kinds d ≡ true)
unfolding fits
node_fit k kd m p a b c d z f =
    let e =
    eleven (takes k kd m) (not (eqb kd 12)) (marked kd m) (counts (slot kd 0).many (how_many a)) (all_fit (slot kd 0).kinds a) (counts (slot kd 1).many (how_many b))
    (all_fit (slot kd 1).kinds b) (counts (slot kd 2).many (how_many c)) (all_fit (slot kd 2).kinds c) (counts (slot kd 3).many (how_many d)) (all_fit (slot kd 3).kinds d) f in
    (not-true (eqb kd 12) e.1, e.4, e.6, e.8, e.10)

module _ (ws : List ℕ) where
  -- different rows behind row i, up to row j, each with its children before it and its next behind it
  record Spread (i j : ℕ) (xs : List Entry) : Type 0 where
    pub all : (r : ℕ) → Has r (rows_in xs) → (i < r) × (r ≤ j)
    pub distinct : Distinct (rows_in xs)
    pub ordered : (r : ℕ) → Has r (rows_in xs) → Orderly ws r

  both : {xs ys : List Entry} (i j i' j' : ℕ) → (i ≤ i') × (j ≤ i') × (j ≤ j') → Spread i j xs → Spread i' j' ys → Spread i j' (xs ++ ys)
  both {xs} {ys} i j i' j' o a b =
      record {
        all =
            λ r m.
            ⊎_elim (λ x. let l = a.all r x in omega (arith, l, o)) (λ y. let l = b.all r y in omega (arith, l, o)) (has_split r xs ys m);
        distinct = join xs ys a.distinct b.distinct (λ r x y. omega (arith, a.all r x, b.all r y, o));
        ordered = λ r m. ⊎_elim (λ x. a.ordered r x) (λ y. b.ordered r y) (has_split r xs ys m);
      }

  -- a tree that lies behind row `first`, with r its own row; and trees, with c the row of the first of them
  record Lies (t : Tree) (first next r : ℕ) : Type 0 where
    pub holds : Holds ws r t
    pub spread : (p k : ℕ) (s : Slot) → Spread first r (entry r p k s ∷ below ws holds)
    pub next_is : word_of ws r 7 ≡ next

  record Lie (us : Trees) (first c : ℕ) : Type 0 where
    pub holds : HoldsAll ws c us
    pub spread : (p k : ℕ) (s : Slot) → Spread first (first + sizes us) (entries ws p k s holds)
    pub last : c ≤ first + sizes us

  no_trees : {first c : ℕ} → c ≡ 0 → Lie nil first c
  unfolding entries
  no_trees z =
      record {
        holds = none z refl;
        spread = λ p k s. record { all = λ r m. absurd m; distinct = tt; ordered = λ r m. absurd m };
        last = omega arith;
      }

  some_trees : {t : Tree} {ts : Trees} {first next c : ℕ} → c ≡ first + size t → c ≤ count ws → Lies t first next c → Lie ts (first + size t) (word_of ws c 7) → Lie (t ▸ ts) first c
  unfolding entries
  some_trees {t} {ts} {first} {next} {c} e l a b =
      record {
        holds = more {r = c} t ts (omega (arith, some_rows t)) a.holds b.holds refl;
        spread =
            λ p k s.
            subst (λ (n : ℕ). Spread first n (entry c p k s ∷ (below ws a.holds ++ entries ws c 7 s b.holds))) (omega arith)
            (both first c (first + size t) (first + size t + sizes ts) (omega arith) (a.spread p k s) (b.spread c 7 s));
        last = omega arith;
      }

  -- a row and what is in its slots
  module _ {a b c d : Trees} {f0 f1 f2 f3 r : ℕ} (la : Lie a f0 (word_of ws r 3)) (lb : Lie b f1 (word_of ws r 4)) (lc : Lie c f2 (word_of ws r 5)) (ld : Lie d f3 (word_of ws r 6))
      (o : (f0 + sizes a ≡ f1) × (f1 + sizes b ≡ f2) × (f2 + sizes c ≡ f3) × (f3 + sizes d + 1 ≡ r)) (n : (word_of ws r 7 ≡ 0) ⊎ (r < word_of ws r 7)) where
    abbrev sl : ℕ → Slot
    sl j = slot (word_of ws r 0) j

    slots_spread : Spread f0 (f3 + sizes d)
        (entries ws r 3 (sl 0) la.holds ++ (entries ws r 4 (sl 1) lb.holds ++ (entries ws r 5 (sl 2) lc.holds ++ entries ws r 6 (sl 3) ld.holds)))
    slots_spread =
        both f0 (f0 + sizes a) f1 (f3 + sizes d) (omega (arith, o)) (la.spread r 3 (sl 0))
        (both f1 (f1 + sizes b) f2 (f3 + sizes d) (omega (arith, o)) (lb.spread r 4 (sl 1))
        (both f2 (f2 + sizes c) f3 (f3 + sizes d) (omega (arith, o)) (lc.spread r 5 (sl 2)) (ld.spread r 6 (sl 3))))

    row_ordered : Orderly ws r
    row_ordered = record { c0 = omega (arith, la.last, o); c1 = omega (arith, lb.last, o); c2 = omega (arith, lc.last, o); c3 = omega (arith, ld.last, o); next = n }

    row_spread : (p k : ℕ) (s : Slot) → Spread f0 r
        (entry r p k s ∷ (entries ws r 3 (sl 0) la.holds ++ (entries ws r 4 (sl 1) lb.holds ++ (entries ws r 5 (sl 2) lc.holds ++ entries ws r 6 (sl 3) ld.holds))))
    row_spread p k s =
        record {
          all = λ x m. ⊎_elim (λ e. omega (arith, e, o)) (λ y. let l = slots_spread.all x y in omega (arith, l, o)) m;
          distinct = (λ m. let l = slots_spread.all r m in omega (arith, l, o), slots_spread.distinct);
          ordered = λ x m. ⊎_elim (λ e. subst (λ (y : ℕ). Orderly ws y) (sym e) row_ordered) (λ y. slots_spread.ordered x y) m;
        }

  mutual
    unfolding fits all_fit below

    lay_lies : (t : Tree) (k : Takes) (first next r : ℕ) → r ≡ first + size t → Held ws first (lay t first next) → fits k t ≡ true → r ≤ count ws → (next ≡ 0) ⊎ (r < next)
        → Lies t first next r
    lay_lies (infixed m p a b z) k first next r e h f l n =
        let w = two ws m p a b z first next h in
        let o : Words ws r 12 m p (first + size a) (first + size a + size b) 0 0 next z = rw e w.own in
        let q : infixed m p a b z ≡ infixed (word_of ws r 1) (word_of ws r 2) a b (word_of ws r 8) = rw (o.mark_word, o.place_word, o.end_word) in
        let g = infix_fit k m p a b z f in
        let c₀ = word_of ws r 3 in
        let c₁ = word_of ws r 4 in
        let ta = lay_lies a expressions first 0 c₀ o.c0_word w.left g.0 (omega (arith, o.c0_word)) (inl refl) in
        let tb = lay_lies b expressions (first + size a) 0 c₁ o.c1_word w.right g.1 (omega (arith, o.c1_word)) (inl refl) in
        let la = some_trees {ts = nil} o.c0_word (omega (arith, o.c0_word)) ta (no_trees ta.next_is) in
        let lb = some_trees {ts = nil} o.c1_word (omega (arith, o.c1_word)) tb (no_trees tb.next_is) in
        let lc = no_trees {first = first + size a + size b} o.c2_word in
        let ld = no_trees {first = first + size a + size b} o.c3_word in
        record {
          holds = infix_row a b o.kind_word la.holds lb.holds lc.holds ld.holds q;
          spread = row_spread la lb lc ld (omega (arith, e)) (subst (λ (x : ℕ). (x ≡ 0) ⊎ (r < x)) (sym o.next_word) n);
          next_is = o.next_word;
        }
    lay_lies (node kd m p a b c d z) k first next r e h f l n =
        let w = four ws kd m p a b c d z first next h in
        let i = first + sizes a in
        let j = first + sizes a + sizes b in
        let v = first + sizes a + sizes b + sizes c in
        let o : Words ws r kd m p (head_ref a first) (head_ref b i) (head_ref c j) (head_ref d v) next z = rw e w.own in
        let q : node kd m p a b c d z ≡ node (word_of ws r 0) (word_of ws r 1) (word_of ws r 2) a b c d (word_of ws r 8) =
        rw (o.kind_word, o.mark_word, o.place_word, o.end_word) in
        let g = node_fit k kd m p a b c d z f in
        let la = lays_lie a (slot kd 0).kinds first (word_of ws r 3) o.c0_word w.c0 g.1 (omega arith) in
        let lb = lays_lie b (slot kd 1).kinds i (word_of ws r 4) o.c1_word w.c1 g.2 (omega arith) in
        let lc = lays_lie c (slot kd 2).kinds j (word_of ws r 5) o.c2_word w.c2 g.3 (omega arith) in
        let ld = lays_lie d (slot kd 3).kinds v (word_of ws r 6) o.c3_word w.c3 g.4 (omega arith) in
        record {
          holds = row a b c d (λ x. eqb-false kd 12 g.0 (sym o.kind_word ∙ x)) la.holds lb.holds lc.holds ld.holds q;
          spread = row_spread la lb lc ld (omega (arith, e)) (subst (λ (x : ℕ). (x ≡ 0) ⊎ (r < x)) (sym o.next_word) n);
          next_is = o.next_word;
        }

    lays_lie : (us : Trees) (k : Takes) (first c : ℕ) → c ≡ head_ref us first → Held ws first (lays us first) → all_fit k us ≡ true → first + sizes us ≤ count ws → Lie us first c
    lays_lie nil k first c e h f l = no_trees e
    lays_lie (t ▸ ts) k first c e h f l =
        let w = behind ws t ts first h in
        let g = both_hold (fits k t) (all_fit k ts) f in
        let n = subst (λ (x : ℕ). (head_ref ts (first + size t) ≡ 0) ⊎ (x < head_ref ts (first + size t))) (sym e) (head_behind ts (first + size t)) in
        let a = lay_lies t k first (head_ref ts (first + size t)) c e w.0 g.0 (omega arith) n in
        some_trees e (omega arith) a (lays_lie ts k (first + size t) (word_of ws c 7) a.next_is w.1 g.1 (omega arith))

pub laid : Laid
unfolding rows
laid t rest f l =
    let ws = lay t 0 0 ++ rest in
    let n : length ws ≡ width * size t + length rest = length-append (lay t 0 0) rest ∙ ap (λ (x : ℕ). x + length rest) (length_lay t 0 0) in
    let o : size t ≤ count ws = omega (arith, n, l) in
    let a = lay_lies ws t any-root 0 0 (size t) (omega arith) (record { before = []; after = rest; whole = refl; seat = refl }) f o (inl refl) in
    let s = a.spread 0 0 (one of any-root) in
    record { inside = (some_rows t, o); in_no_list = a.next_is; holds = a.holds; fitting = f; different = s.distinct; in_order = s.ordered }

pub filled : Filled
unfolding rows pool lays
filled words at room t f l =
    let rest : List ℕ = replicate (words - width * sizes (t ▸ nil)) 0 in
    subst₂ (λ (ws : List ℕ) (r : ℕ). IsTree ws r t) (sym (append_assoc (lay t 0 0) [] rest)) (omega arith) (laid t rest f (omega arith))

-- one tree that fits and has room
filled_passes : (words at left : ℕ) (us : Trees) (c : Result Unit Numbered) → how_many us ≡ 1 → all_fit any-root us ≡ true → sizes us ≤ rows words
    → Verdict (pool words (read us at left)) (sizes us) c → c ≡ Ok tt
unfolding all_fit
filled_passes words at left nil c n f l v = absurd (omega (arith, n))
filled_passes words at left (t ▸ nil) c n f l v =
    (exact (pool words (read (t ▸ nil) at left)) (sizes (t ▸ nil))).1 t c (filled words at left t (both_hold (fits any-root t) true f).0 (omega arith)) v
filled_passes words at left (t ▸ (u ▸ us)) c n f l v = absurd (omega (arith, n))

pub passes : Passes
passes words c rules ts start room us at left =
    let s = spends rules ts start room us at left in (
      λ e q n f v. filled_passes words at left us c n f (omega (arith, s.0 e, q)) v,
      λ e q n f v. filled_passes words at left us c n f (omega (arith, s.1 e, q)) v,
      λ e q n f v. filled_passes words at left us c n f (omega (arith, s.2 e, q)) v,
    )
