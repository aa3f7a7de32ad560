-- The rule said of the words of a pool: where the rows of a tree stand there, and what they hold.
use Prim.Native.Nat.{ℕ, zero, suc, ◌+◌, ◌-◌, ◌*◌, ◌≤◌, ◌<◌}
use native.Mathlib.Omega.{arith}
use native.Mathlib.Decide.{dec_lt}
use mathlib.Core.Path.{◌≡◌, refl, sym, ap, ◌∙◌}
use mathlib.Core.Bool.{false}
use mathlib.Core.List.{List, [], ◌++◌, append_assoc}
use mathlib.Core.Logic.{⊎_map}
use lib.Dec.{eqb}
use lib.ListN.{length, get_or, length-append, get_or-append, replicate}
use lib.Seq.{get_or-append-add}
use borrow.Author.Tests.{eqb-false}
use Rattle.grammar.specs.Tree.{Tree, infixed, node, Trees, nil, ◌▸◌, size, sizes, head_ref, row, lay, lays, width}
use Rattle.grammar.specs.Claims.{Binds, Every, EveryOf, KeepsBut, RowBinds, RowRuled, RowsRuled, PoolKeepsRule}
use Rattle.grammar.specs.Script.{one_expression, one_statement, whole_script, pool, word_of}
use Rattle.grammar.specs.Parsed.{Parsed, refused, read}
use Rattle.grammar.proofs.Post.{Post, post_map}
use Rattle.grammar.proofs.Runs.{Run}
use Rattle.grammar.proofs.Laws.{expression_entry, statement_entry, script_entry}

mutual
  unfolding lay

  pub length_lay : (t : Tree) (first next : ℕ) → length (lay t first next) ≡ width * size t
  length_lay (infixed m p l r z) first next = simp length-append (omega (arith, length_lay l first 0, length_lay r (first + size l) 0))
  length_lay (node k m p a b c d z) first next =
      let i = first + sizes a in
      let j = i + sizes b in
      simp length-append (omega (arith, length_lays a first, length_lays b i, length_lays c j, length_lays d (j + sizes c)))

  pub length_lays : (ts : Trees) (first : ℕ) → length (lays ts first) ≡ width * sizes ts
  length_lays nil first = refl
  length_lays (t ▸ ts) first = simp length-append (omega (arith, length_lay t first (head_ref ts (first + size t)), length_lays ts (first + size t)))

-- The words vs stand in ws from row i on.
pub record Held (ws : List ℕ) (i : ℕ) (vs : List ℕ) : Type 0 where
  pub before : List ℕ
  pub after : List ℕ
  pub whole : ws ≡ before ++ (vs ++ after)
  pub seat : length before ≡ width * i

module _ {ws : List ℕ} {i : ℕ} where
  held_split : (xs ys : List ℕ) (n : ℕ) → length xs ≡ width * n → Held ws i (xs ++ ys) → Held ws i xs × Held ws (i + n) ys
  held_split xs ys n e h = (
    record { before = h.before; after = ys ++ h.after; whole = h.whole ∙ simp append_assoc; seat = h.seat },
    record { before = h.before ++ xs; after = h.after; whole = h.whole ∙ simp append_assoc; seat = simp length-append (omega (arith, h.seat)) },
  )

  held_word : {vs : List ℕ} (k : ℕ) → k < length vs → Held ws i vs → get_or ws (width * i + k) 0 ≡ get_or vs k 0
  held_word {vs} k lt h =
      ap (λ (x : List ℕ). get_or x (width * i + k) 0) h.whole
      ∙ rw (← h.seat) (get_or-append-add h.before (vs ++ h.after) k 0)
      ∙ get_or-append vs h.after 0 k lt

-- The words of a row.
pub record Holds (ws : List ℕ) (reference kind mark place c0 c1 c2 c3 next end : ℕ) : Type 0 where
  pub kind_word : word_of ws reference 0 ≡ kind
  pub mark_word : word_of ws reference 1 ≡ mark
  pub place_word : word_of ws reference 2 ≡ place
  pub c0_word : word_of ws reference 3 ≡ c0
  pub c1_word : word_of ws reference 4 ≡ c1
  pub c2_word : word_of ws reference 5 ≡ c2
  pub c3_word : word_of ws reference 6 ≡ c3
  pub next_word : word_of ws reference 7 ≡ next
  pub end_word : word_of ws reference 8 ≡ end

row_holds : {ws : List ℕ} (i reference k m p a b c d n z : ℕ) → i + 1 ≡ reference → Held ws i (row k m p a b c d n z) → Holds ws reference k m p a b c d n z
row_holds {ws} i r k m p a b c d n z e h =
    let q : r - 1 ≡ i = omega arith in
    record {
      kind_word = rw q (held_word 0 (omega arith) h);
      mark_word = rw q (held_word 1 (omega arith) h);
      place_word = rw q (held_word 2 (omega arith) h);
      c0_word = rw q (held_word 3 (omega arith) h);
      c1_word = rw q (held_word 4 (omega arith) h);
      c2_word = rw q (held_word 5 (omega arith) h);
      c3_word = rw q (held_word 6 (omega arith) h);
      next_word = rw q (held_word 7 (omega arith) h);
      end_word = rw q (held_word 8 (omega arith) h);
    }

module _ (ws : List ℕ) where
  -- Where the sides of an infix row stand, and what the row itself holds.
  pub record Two (m p : ℕ) (l r : Tree) (z first next : ℕ) : Type 0 where
    pub left : Held ws first (lay l first 0)
    pub right : Held ws (first + size l) (lay r (first + size l) 0)
    pub own : Holds ws (first + size (infixed m p l r z)) 12 m p (first + size l) (first + size l + size r) 0 0 next z

  pub two : (m p : ℕ) (l r : Tree) (z first next : ℕ) → Held ws first (lay (infixed m p l r z) first next) → Two m p l r z first next
  unfolding lay
  two m p l r z first next h =
      let R : List ℕ = row 12 m p (first + size l) (first + size l + size r) 0 0 next z in
      let x = held_split (lay l first 0) (lay r (first + size l) 0 ++ R) (size l) (length_lay l first 0) (rw append_assoc at h) in
      let y = held_split (lay r (first + size l) 0) R (size r) (length_lay r (first + size l) 0) x.1 in
      record { left = x.0; right = y.0; own = row_holds (first + size l + size r) (first + size (infixed m p l r z)) 12 m p _ _ 0 0 next z (omega arith) y.1 }

  -- Where the slots of another row stand, and what the row itself holds.
  pub record Four (k m p : ℕ) (a b c d : Trees) (end first next : ℕ) : Type 0 where
    pub c0 : Held ws first (lays a first)
    pub c1 : Held ws (first + sizes a) (lays b (first + sizes a))
    pub c2 : Held ws (first + sizes a + sizes b) (lays c (first + sizes a + sizes b))
    pub c3 : Held ws (first + sizes a + sizes b + sizes c) (lays d (first + sizes a + sizes b + sizes c))
    pub own : Holds ws (first + (sizes a + sizes b + sizes c + sizes d + 1)) k m p (head_ref a first) (head_ref b (first + sizes a))
        (head_ref c (first + sizes a + sizes b)) (head_ref d (first + sizes a + sizes b + sizes c)) next end

  pub four : (k m p : ℕ) (a b c d : Trees) (end first next : ℕ) → Held ws first (lay (node k m p a b c d end) first next) → Four k m p a b c d end first next
  unfolding lay
  four k m p a b c d end first next h =
      let i = first + sizes a in
      let j = first + sizes a + sizes b in
      let n = first + sizes a + sizes b + sizes c in
      let R : List ℕ = row k m p (head_ref a first) (head_ref b i) (head_ref c j) (head_ref d n) next end in
      let h' : Held ws first (lays a first ++ (lays b i ++ (lays c j ++ (lays d n ++ R)))) = simp append_assoc at h in
      let x = held_split (lays a first) (lays b i ++ (lays c j ++ (lays d n ++ R))) (sizes a) (length_lays a first) h' in
      let y = held_split (lays b i) (lays c j ++ (lays d n ++ R)) (sizes b) (length_lays b i) x.1 in
      let z = held_split (lays c j) (lays d n ++ R) (sizes c) (length_lays c j) y.1 in
      let w = held_split (lays d n) R (sizes d) (length_lays d n) z.1 in
      let o = row_holds (n + sizes d) (first + (sizes a + sizes b + sizes c + sizes d + 1)) k m p _ _ _ _ next end (omega arith) w.1 in
      record { c0 = x.0; c1 = y.0; c2 = z.0; c3 = w.0; own = o }

  pub more : (t : Tree) (ts : Trees) (first : ℕ) → Held ws first (lays (t ▸ ts) first)
      → Held ws first (lay t first (head_ref ts (first + size t))) × Held ws (first + size t) (lays ts (first + size t))
  unfolding lays
  more t ts first h =
      held_split (lay t first (head_ref ts (first + size t))) (lays ts (first + size t)) (size t)
      (length_lay t first (head_ref ts (first + size t))) h

module _ (ts ws : List ℕ) where
  no_infix_row : (k reference : ℕ) → word_of ws reference 0 ≡ k → eqb k 12 ≡ false → word_of ws reference 0 ≡ 12 → ⊥
  no_infix_row k r e z h = eqb-false k 12 z (sym e ∙ h)

  binds_row : (n : ℕ) (t : Tree) (first next : ℕ) → Held ws first (lay t first next) → Every (KeepsBut ts) t → Binds ts n t → RowBinds ts ws n (first + size t)
  binds_row n (infixed m p l r z) first next h k b = λ e lt. let o = (two ws m p l r z first next h).own in rw o.place_word (b (omega (arith, o.mark_word)))
  binds_row n (node kd m p c0 c1 c2 c3 z) first next h k b = λ e lt. absurd (no_infix_row kd _ (four ws kd m p c0 c1 c2 c3 z first next h).own.kind_word k.0 e)

  own_row : (m p : ℕ) (l r : Tree) (z first next : ℕ) → Two ws m p l r z first next → Every (KeepsBut ts) (infixed m p l r z) → RowRuled ts ws (first + size (infixed m p l r z))
  own_row m p l r z first next w k =
      let o = w.own in
      record {
        sign = rw (o.place_word, o.mark_word) k.0.sign;
        looser = rw (o.place_word, o.c0_word) (⊎_map (binds_row _ l first 0 w.left k.1) (λ s. s) k.0.looser);
        tighter = rw (o.place_word, o.c1_word) (binds_row _ r (first + size l) 0 w.right k.2 k.0.tighter);
      }

  -- Every infix row of n rows behind the first i keeps the rule.
  abbrev Among : (i n : ℕ) → Type 0
  Among i n = (r : ℕ) → i < r → r ≤ i + n → word_of ws r 0 ≡ 12 → RowRuled ts ws r

  among_both : (i n j n' : ℕ) → i + n ≡ j → Among i n → Among j n' → Among i (n + n')
  among_both i n j n' q f g r lo hi e = go (dec_lt j r)
    where
      go : Dec (j < r) → RowRuled ts ws r
      go (yes lt) = g r lt (omega arith) e
      go (no ge) = f r lo (omega arith) e

  among_one : (i : ℕ) → (word_of ws (i + 1) 0 ≡ 12 → RowRuled ts ws (i + 1)) → Among i 1
  among_one i f r lo hi e = let q : r ≡ i + 1 = omega arith in rw q (f (rw q at e))

  mutual
    tree_rows : (t : Tree) (first next : ℕ) → Held ws first (lay t first next) → Every (KeepsBut ts) t → Among first (size t)
    tree_rows (infixed m p l r z) first next h k =
        let w = two ws m p l r z first next h in
        let i = first + size l in
        let q : i + size r + 1 ≡ first + size (infixed m p l r z) = omega arith in
        let sides = among_both first (size l) i (size r) refl (tree_rows l first 0 w.left k.1) (tree_rows r i 0 w.right k.2) in
        among_both first (size l + size r) (i + size r) 1 (omega arith) sides (among_one (i + size r) (λ e. rw q (own_row m p l r z first next w k)))
    tree_rows (node kd m p a b c d z) first next h k =
        let w = four ws kd m p a b c d z first next h in
        let i = first + sizes a in
        let j = i + sizes b in
        let n = j + sizes c in
        let q : n + sizes d + 1 ≡ first + (sizes a + sizes b + sizes c + sizes d + 1) = omega arith in
        let ab = among_both first (sizes a) i (sizes b) refl (trees_rows a first w.c0 k.1) (trees_rows b i w.c1 k.2) in
        let abc = among_both first (sizes a + sizes b) j (sizes c) (omega arith) ab (trees_rows c j w.c2 k.3) in
        let abcd = among_both first (sizes a + sizes b + sizes c) n (sizes d) (omega arith) abc (trees_rows d n w.c3 k.4) in
        among_both first (sizes a + sizes b + sizes c + sizes d) (n + sizes d) 1 (omega arith) abcd
        (among_one (n + sizes d) (λ e. absurd (no_infix_row kd (n + sizes d + 1) (rw q w.own.kind_word) k.0 e)))

    trees_rows : (us : Trees) (first : ℕ) → Held ws first (lays us first) → EveryOf (KeepsBut ts) us → Among first (sizes us)
    trees_rows nil first h k = λ r lo hi e. absurd (omega arith)
    trees_rows (t ▸ us) first h k = let w = more ws t us first h in
        among_both first (size t) (first + size t) (sizes us) refl (tree_rows t first _ w.0 k.0) (trees_rows us (first + size t) w.1 k.1)

-- Behind the rows of what was read, and after a refusal, a pool holds zeros.
zeros : (n i : ℕ) → ◌≡◌ {A = ℕ} (get_or (replicate n 0) i 0) 0
zeros zero i = refl
zeros (suc n) zero = refl
zeros (suc n) (suc i) = zeros n i

pool_rows : (ts : List ℕ) (words : ℕ) (x : Parsed Trees) → Post (λ us c m. EveryOf (KeepsBut ts) us) x → RowsRuled ts (pool words x)
unfolding pool
pool_rows ts words (refused n p) h r lo e = let z : ◌≡◌ {A = ℕ} 0 12 = sym (zeros words (width * (r - 1) + 0)) ∙ e in absurd (omega arith)
pool_rows ts words (read us at room) h r lo e = go (dec_lt (sizes us) r)
  where
    ws : List ℕ
    ws = lays us 0 ++ replicate (words - width * sizes us) 0

    go : Dec (sizes us < r) → RowRuled ts ws r
    go (yes lt) =
        let n = words - width * sizes us in
        let i = width * (r - 1 - sizes us) in
        let q : width * (r - 1) + 0 ≡ length (lays us 0) + i = omega (arith, length_lays us 0) in
        let z : get_or ws (width * (r - 1) + 0) 0 ≡ 0 = rw q (get_or-append-add (lays us 0) (replicate n 0) i 0 ∙ zeros n i) in
        absurd (omega (arith, sym z ∙ e))
    go (no ge) =
        let all : Held ws 0 (lays us 0) = record { before = []; after = replicate (words - width * sizes us) 0; whole = refl; seat = refl } in
        trees_rows ts ws us 0 all h r (omega arith) (omega arith) e

pub pool_rule : PoolKeepsRule
pool_rule rules ts start room words = (
  pool_rows ts words _ (post_map _ (Run ts start start room) _ (one_expression rules ts start room) (expression_entry rules ts start room) (λ us c m h. h.kept)),
  pool_rows ts words _ (post_map _ (Run ts start start room) _ (one_statement rules ts start room) (statement_entry rules ts start room) (λ us c m h. h.kept)),
  pool_rows ts words _ (post_map _ (Run ts 0 0 room) _ (whole_script rules ts room) (script_entry rules ts room) (λ us c m h. h.kept)),
)
