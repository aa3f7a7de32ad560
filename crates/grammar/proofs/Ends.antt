-- Where the rows of a pool end, said of its words: the laws of places and ends, and what a row's end tells of a call with fewer rows.
use Prim.Native.Nat.{ℕ, zero, suc, ◌+◌, ◌-◌, ◌*◌, ◌≤◌, ◌<◌}
use native.Mathlib.Omega.{arith}
use mathlib.Core.Path.{◌≡◌, refl, sym, ap, ◌∙◌}
use mathlib.Core.List.{List, [], ◌∷◌, ◌++◌}
use lib.ListN.{length, get_or, replicate}
use Rattle.grammar.specs.Tree.{Tree, infixed, node, Trees, nil, ◌▸◌, size, sizes, head_ref, lay, lays, width}
use Rattle.grammar.specs.Parsed.{Parsed, refused, read, NoRow}
use Rattle.grammar.specs.Script.{one_expression, one_statement, whole_script, pool, word_of}
use Rattle.grammar.specs.Claims.{RowsEnd, PoolEnds, EndsWhereLacking, EndsTold}
use Rattle.grammar.proofs.Spans.{Span, spans, spans_of, spans_long, spans_of_long, Rising, done, on}
use Rattle.grammar.proofs.Runs.{Run, listed}
use Rattle.grammar.proofs.Laws.{of_entries}
use Rattle.grammar.proofs.Rows.{Held, two, four, more}
use Rattle.grammar.proofs.Fewer.{Fewer, neither, enough, lacking, end_of}
use Rattle.grammar.proofs.Lacks.{entries_lack_rows}

-- Places and ends stand in a pool's rows from one on.
data Stand (ws : List ℕ) : (first : ℕ) → List Span → Type 0 where
  no_more : {first : ℕ} → Stand ws first []
  one_more : {first : ℕ} (p z : ℕ) {xs : List Span} → word_of ws (first + 1) 2 ≡ p → word_of ws (first + 1) 8 ≡ z → Stand ws (first + 1) xs → Stand ws first ((p, z) ∷ xs)

module _ {ws : List ℕ} where
  stand_both : {first second : ℕ} {xs ys : List Span} → first + length xs ≡ second → Stand ws first xs → Stand ws second ys → Stand ws first (xs ++ ys)
  stand_both {first} {second} e no_more y = let q : first ≡ second = omega arith in rw q y
  stand_both e (one_more p z a b x) y = one_more p z a b (stand_both (omega arith) x y)

  stand_at : {first : ℕ} {xs : List Span} (i : ℕ) → i < length xs → Stand ws first xs
      → (word_of ws (first + i + 1) 2 ≡ (get_or xs i (0, 0)).0) × (word_of ws (first + i + 1) 8 ≡ end_of xs i)
  stand_at i h no_more = absurd (omega arith)
  stand_at {first} zero h (one_more p z a b x) = let q : first + 0 + 1 ≡ first + 1 = omega arith in rw q (a, b)
  stand_at {first} (suc i) h (one_more p z a b x) = let q : first + suc i + 1 ≡ first + 1 + i + 1 = omega arith in rw q (stand_at i (omega arith) x)

  stand_one : (first r p z : ℕ) → first + 1 ≡ r → word_of ws r 2 ≡ p → word_of ws r 8 ≡ z → Stand ws first ((p, z) ∷ [])
  stand_one first r p z e a b = one_more {first = first} p z (rw e a) (rw e b) no_more

-- So do those of a tree that is laid there.
module _ (ws : List ℕ) where
  mutual
    unfolding spans

    tree_stands : (t : Tree) (first next : ℕ) → Held ws first (lay t first next) → Stand ws first (spans t)
    tree_stands (infixed m p l r z) first next h =
        let w = two ws m p l r z first next h in
        let j = first + size l in
        stand_both (omega (arith, spans_long l)) (tree_stands l first 0 w.left) (stand_both (omega (arith, spans_long r)) (tree_stands r j 0 w.right)
        (stand_one (j + size r) _ p z (omega arith) w.own.place_word w.own.end_word))
    tree_stands (node k m p a b c d z) first next h =
        let w = four ws k m p a b c d z first next h in
        let i = first + sizes a in
        let j = i + sizes b in
        let n = j + sizes c in
        stand_both (omega (arith, spans_of_long a)) (trees_stand a first w.c0) (stand_both (omega (arith, spans_of_long b)) (trees_stand b i w.c1)
        (stand_both (omega (arith, spans_of_long c)) (trees_stand c j w.c2) (stand_both (omega (arith, spans_of_long d)) (trees_stand d n w.c3)
        (stand_one (n + sizes d) _ p z (omega arith) w.own.place_word w.own.end_word))))

    trees_stand : (ts : Trees) (first : ℕ) → Held ws first (lays ts first) → Stand ws first (spans_of ts)
    trees_stand nil first h = no_more
    trees_stand (t ▸ ts) first h =
        let w = more ws t ts first h in
        stand_both (omega (arith, spans_long t)) (tree_stands t first (head_ref ts (first + size t)) w.0) (trees_stand ts (first + size t) w.1)

pool_stands : (words at left : ℕ) (us : Trees) → Stand (pool words (read us at left)) 0 (spans_of us)
unfolding pool
pool_stands words at left us = trees_stand _ us 0 (record { before = []; after = replicate (words - width * sizes us) 0; whole = refl; seat = refl })

-- A row of the pool by its reference.
module _ (words at left : ℕ) (us : Trees) (r : ℕ) (lo : 1 ≤ r) (hi : r ≤ sizes us) where
  row_there : (word_of (pool words (read us at left)) r 2 ≡ (get_or (spans_of us) (r - 1) (0, 0)).0) × (word_of (pool words (read us at left)) r 8 ≡ end_of (spans_of us) (r - 1))
  row_there =
      let q : 0 + (r - 1) + 1 ≡ r = omega arith in
      rw q at (stand_at (r - 1) (omega (arith, spans_of_long us)) (pool_stands words at left us))

-- What rising places and ends say of each row, and of two.
low_high : {s lo hi : ℕ} {xs : List Span} → Rising s lo hi xs → lo ≤ hi
low_high (done h) = h
low_high (on a b c r) = omega (arith, low_high r)

rising_at : {s lo hi : ℕ} {xs : List Span} (i : ℕ) → i < length xs → Rising s lo hi xs
    → (s ≤ (get_or xs i (0, 0)).0) × ((get_or xs i (0, 0)).0 ≤ end_of xs i) × (lo ≤ end_of xs i) × (end_of xs i ≤ hi)
rising_at i h (done r) = absurd (omega arith)
rising_at zero h (on a b c r) = (a, b, c, low_high r)
rising_at (suc i) h (on a b c r) = let (x, y, z, w) = rising_at i (omega arith) r in (x, y, omega arith, w)

rising_two : {s lo hi : ℕ} {xs : List Span} (i j : ℕ) → i ≤ j → j < length xs → Rising s lo hi xs → end_of xs i ≤ end_of xs j
rising_two i j le h (done r) = absurd (omega arith)
rising_two zero zero le h (on a b c r) = omega arith
rising_two zero (suc j) le h (on a b c r) = (rising_at j (omega arith) r).2
rising_two (suc i) zero le h (on a b c r) = absurd (omega arith)
rising_two (suc i) (suc j) le h (on a b c r) = rising_two i j (omega arith) (omega arith) r

module _ (words start room at left : ℕ) (ts : List ℕ) (us : Trees) (x : Run ts start start room us at left) where
  abbrev laid : List ℕ
  laid = pool words (read us at left)

  each_row : (r : ℕ) → 1 ≤ r → r ≤ sizes us → (start ≤ word_of laid r 2) × (word_of laid r 2 ≤ word_of laid r 8) × (word_of laid r 8 ≤ at)
  each_row r lo hi =
      let (p, z) = row_there words at left us r lo hi in
      let (a, b, c, d) = rising_at (r - 1) (omega (arith, spans_of_long us)) x.rising in
      rw (p, z) (a, b, d)

  two_rows : (q r : ℕ) → 1 ≤ q → q ≤ r → r ≤ sizes us → word_of laid q 8 ≤ word_of laid r 8
  two_rows q r lo le hi =
      rw ((row_there words at left us q lo (omega arith)).1, (row_there words at left us r (omega arith) hi).1)
      (rising_two (q - 1) (r - 1) (omega arith) (omega (arith, spans_of_long us)) x.rising)

  rows_end : RowsEnd laid start (sizes us) at
  rows_end = record {
    begins = λ r lo hi. (each_row r lo hi).0;
    ordered = λ r lo hi. (each_row r lo hi).1;
    inside = λ r lo hi. (each_row r lo hi).2;
    rising = two_rows;
  }

pub pool_ends : PoolEnds
pool_ends rules ts start room us at left =
    let (x, s, w) = of_entries rules ts start room us at left in
    (λ e words. rows_end words start room at left ts us (x e), λ e words. rows_end words start room at left ts us (s e), λ e words. rows_end words 0 room at left ts us (w e))

-- A row that is lacking.
lacks : (k at left : ℕ) (us : Trees) (x y : Parsed Trees) → Fewer listed nil k x y → x ≡ read us at left → k < sizes us → y ≡ refused NoRow (end_of (spans_of us) k)
unfolding spans
lacks k at left us x y neither e h = let z : ◌≡◌ {A = ℕ} 0 1 = cc in absurd (omega arith)
lacks k at left us x y (enough {a} new f g) e h =
    let q : a ≡ us = cc in
    absurd (omega (arith, spans_of_long us, ap length (rw q at f)))
lacks k at left us x y (lacking {a} new f g p) e h =
    let q : a ≡ us = cc in
    rw (p, ← rw q at f)

module _ (entry : (room : ℕ) → Parsed Trees) (fewer : (room k : ℕ) → Fewer listed nil k (entry room) (entry k)) where
  told : EndsWhereLacking entry
  told room words r place us at left e lo hi =
      let x : entry (r - 1) ≡ refused NoRow (end_of (spans_of us) (r - 1)) = lacks (r - 1) at left us (entry room) (entry (r - 1)) (fewer room (r - 1)) e (omega arith) in
      let y = (row_there words at left us r lo hi).1 in
      (λ h. x ∙ ap (refused NoRow) (sym y ∙ rw e at h), λ h. let z : end_of (spans_of us) (r - 1) ≡ place = cc in rw e (y ∙ z))

pub ends_told : EndsTold
ends_told rules ts start = (
  told (λ room. one_expression rules ts start room) (λ room k. (entries_lack_rows rules ts start room k).0),
  told (λ room. one_statement rules ts start room) (λ room k. (entries_lack_rows rules ts start room k).1),
  told (λ room. whole_script rules ts room) (λ room k. (entries_lack_rows rules ts 0 room k).2),
)
