-- The last row of what is laid: its kind, its mark, and the link to what follows.
use mathlib.Core.Path.{◌≡◌, refl, sym, ap, ◌∙◌}
use mathlib.Core.List.{List, [], ◌∷◌, ◌++◌, append_assoc, append-nil}
use Prim.Native.Nat.{ℕ, ◌+◌, ◌*◌, ◌-◌}
use native.Mathlib.Omega.{arith}
use native.Mathlib.Nat.{add-zero}
use lib.Dec.{eqb}
use lib.ListN.{length, drop, length-append}
use Rattle.grammar.specs.Tree.{Tree, infixed, node, Trees, nil, ◌▸◌, size, sizes, head_ref, row, lay, lays, join, flag, flagged, is_call, width}
use Rattle.grammar.proofs.Rows.{length_lay, length_lays}
use Rattle.rows.specs.Rows.{marked, linked, read, bit, is_row, kind_word}
use Rattle.rows.specs.declared.Flag.{Flag}
use Rattle.rows.proofs.Laws.{marked_there, linked_there, kind_there}
use Rattle.reader.specs.Meets.{Stands, lay_slots}
use Rattle.reader.proofs.Slots.{some_rows}

-- The words of a row but for its mark and its next.
record Words : Type 0 where
  kind : ℕ
  place : ℕ
  c0 : ℕ
  c1 : ℕ
  c2 : ℕ
  c3 : ℕ
  end : ℕ

abbrev words : Words → ℕ → ℕ → List ℕ
words w m n = row w.kind m w.place w.c0 w.c1 w.c2 w.c3 n w.end

-- The rows of a tree before its last.
body_of : Tree → ℕ → List ℕ
body_of (infixed m p l r z) f = lay l f 0 ++ lay r (f + size l) 0
body_of (node k m p a b c d z) f = lays a f ++ (lays b (f + sizes a) ++ (lays c (f + sizes a + sizes b) ++ lays d (f + sizes a + sizes b + sizes c)))

-- The last row of a tree, and its mark.
last_of : Tree → ℕ → Words
last_of (infixed m p l r z) f = record { kind = 12; place = p; c0 = f + size l; c1 = f + size l + size r; c2 = 0; c3 = 0; end = z }
last_of (node k m p a b c d z) f =
    record {
      kind = k;
      place = p;
      c0 = head_ref a f;
      c1 = head_ref b (f + sizes a);
      c2 = head_ref c (f + sizes a + sizes b);
      c3 = head_ref d (f + sizes a + sizes b + sizes c);
      end = z;
    }

mark_of : Tree → ℕ
mark_of (infixed m p l r z) = m
mark_of (node k m p a b c d z) = m

parted : (t : Tree) (f n : ℕ) → lay t f n ≡ body_of t f ++ words (last_of t f) (mark_of t) n
unfolding lay body_of last_of mark_of
parted (infixed m p l r z) f n = simp append_assoc
parted (node k m p a b c d z) f n = simp append_assoc

-- A flag changes the mark of the last row, and nothing else.
parted_flagged : (g : ℕ) (t : Tree) (f n : ℕ) → lay (flagged g t) f n ≡ body_of t f ++ words (last_of t f) (flag g (mark_of t)) n
unfolding flagged body_of last_of mark_of
parted_flagged g (infixed m p l r z) f n = parted (infixed (flag g m) p l r z) f n
parted_flagged g (node k m p a b c d z) f n = parted (node k (flag g m) p a b c d z) f n

pub flagged_size : (g : ℕ) (t : Tree) → size (flagged g t) ≡ size t
unfolding flagged
flagged_size g (infixed m p l r z) = refl
flagged_size g (node k m p a b c d z) = refl

-- A tree is a call by its kind.
called : (t : Tree) (f : ℕ) → is_call t ≡ eqb (last_of t f).kind 11
unfolding is_call last_of
called (infixed m p l r z) f = refl
called (node k m p a b c d z) f = refl

body_length : (t : Tree) (f : ℕ) → length (body_of t f) + width ≡ width * size t
body_length t f = sym (length-append (body_of t f) (words (last_of t f) (mark_of t) 0)) ∙ ap length (sym (parted t f 0)) ∙ length_lay t f 0

-- ---- one tree in the first rows of a part

module _ {ts : List ℕ} {from : ℕ} {first k left : ℕ} {xs ys : List ℕ} {at : ℕ} (t : Tree) (s : Stands ts from ((t ▸ nil) ∷ []) first k left xs ys at) where
  rest : List ℕ
  rest = drop (width * k) xs

  rows : size t ≡ k
  rows = omega (arith, s.ends)

  as_laid : ys ≡ body_of t first ++ (words (last_of t first) (mark_of t) 0 ++ rest)
  unfolding lay rest
  as_laid =
      s.front.laid
      ∙ ap (λ (w : List ℕ). w ++ drop (width * k) xs) (append-nil (lay t first 0 ++ []) ∙ append-nil (lay t first 0) ∙ parted t first 0)
      ∙ append_assoc (body_of t first) (words (last_of t first) (mark_of t) 0) (drop (width * k) xs)

  before : length (body_of t first) ≡ width * (k - 1)
  before = omega (arith, body_length t first, rows, some_rows t)

  ref : k ≡ k - 1 + 1
  ref = omega (arith, rows, some_rows t)

  -- the kind of the last row tells a call
  pub is_called : is_call t ≡ eqb (read ys k kind_word) 11
  is_called =
      let w = last_of t first in
      called t first
      ∙ ap (λ (n : ℕ). eqb n 11) (sym (ap (λ (l : List ℕ). read l k kind_word) as_laid ∙ ap (λ (i : ℕ). read (body_of t first ++ (words w (mark_of t) 0 ++ rest)) i kind_word) ref
      ∙ kind_there (body_of t first) rest (k - 1) before w.kind (mark_of t) w.place w.c0 w.c1 w.c2 w.c3 0 w.end))

  -- a flag set in the last row is set in the tree
  pub stands_marked : (f : Flag) → Stands ts from ((flagged (bit f) t ▸ nil) ∷ []) first k left xs (marked ys k f) at
  unfolding lay rest
  stands_marked f =
      let w = last_of t first in
      let e : marked ys k f ≡ (lay (flagged (bit f) t) first 0 ++ []) ++ [] ++ drop (width * k) xs =
      ap (λ (l : List ℕ). marked l k f) as_laid ∙ ap (λ (i : ℕ). marked (body_of t first ++ (words w (mark_of t) 0 ++ rest)) i f) ref
      ∙ marked_there (body_of t first) rest (k - 1) before w.kind (mark_of t) w.place w.c0 w.c1 w.c2 w.c3 0 w.end f
      ∙ sym (append_assoc (body_of t first) (words w (flag (bit f) (mark_of t)) 0) rest)
      ∙ ap (λ (l : List ℕ). l ++ rest) (sym (parted_flagged (bit f) t first 0) ∙ sym (append-nil _) ∙ sym (append-nil _)) in
      let z = flagged_size (bit f) t in
      record {
        front = record {
          laid = e;
          long = rw (append-nil, append-nil) (length_lay (flagged (bit f) t) first 0 ∙ ap (λ (i : ℕ). width * i) (z ∙ rows));
          fit = s.front.fit;
        };
        ends = omega (arith, s.ends, z);
        spent = s.spent;
        on = s.on;
        within = s.within;
      }

-- ---- a list in the first rows of a part, and another behind it

-- The rows of a list that is not empty, with `next` in its last row.
lays_to : Tree → Trees → (first next : ℕ) → List ℕ
lays_to t nil f n = lay t f n
lays_to t (u ▸ us) f n = lay t f (head_ref (u ▸ us) (f + size t)) ++ lays_to u us (f + size t) n

-- In a list that nothing follows it is 0.
alone : (t : Tree) (us : Trees) (f : ℕ) → lays (t ▸ us) f ≡ lays_to t us f 0
unfolding lay lays_to
alone t nil f = append-nil (lay t f 0)
alone t (u ▸ us) f = ap (λ (w : List ℕ). lay t f (f + size t + size u) ++ w) (alone u us (f + size t))

-- The rows of a list and of one behind it, linked, are those of the two joined.
joined : (t : Tree) (us vs : Trees) (f : ℕ)
    → lays_to t us f (head_ref vs (f + sizes (t ▸ us))) ++ lays vs (f + sizes (t ▸ us)) ≡ lays (join (t ▸ us) vs) f
unfolding lay join lays_to
joined t nil vs f = rw (add-zero (size t))
joined t (u ▸ us) vs f =
    let e : f + (size t + sizes (u ▸ us)) ≡ f + size t + sizes (u ▸ us) = omega arith in
    rw (e, append_assoc) (ap (λ (w : List ℕ). lay t f (f + size t + size u) ++ w) (joined u us vs (f + size t)))

pub join_sizes : (us vs : Trees) → sizes (join us vs) ≡ sizes us + sizes vs
unfolding join
join_sizes nil vs = omega arith
join_sizes (t ▸ us) vs = omega (arith, join_sizes us vs)

-- The last row of a list, and the rows before it.
record Last (t : Tree) (us : Trees) (f : ℕ) : Type 0 where
  body : List ℕ
  last : Words
  mark : ℕ
  is : (next : ℕ) → lays_to t us f next ≡ body ++ words last mark next
  long : length body + width ≡ width * sizes (t ▸ us)

last_row : (t : Tree) (us : Trees) (f : ℕ) → Last t us f
unfolding lays_to
last_row t nil f = record { body = body_of t f; last = last_of t f; mark = mark_of t; is = parted t f; long = omega (arith, body_length t f) }
last_row t (u ▸ us) f =
    let r = last_row u us (f + size t) in
    let first : List ℕ = lay t f (f + size t + size u) in
    record {
      body = first ++ r.body;
      last = r.last;
      mark = r.mark;
      is = λ n. ap (λ (w : List ℕ). first ++ w) (r.is n) ∙ sym (append_assoc first r.body (words r.last r.mark n));
      long = simp length-append (omega (arith, r.long, length_lay t f (f + size t + size u)));
    }

-- A link stored in the last row of a list joins what is behind it.
link_joins : (t : Tree) (us vs : Trees) (f k : ℕ) (q : List ℕ) → k ≡ sizes (t ▸ us)
    → linked (lays (t ▸ us) f ++ (lays vs (f + sizes (t ▸ us)) ++ q)) k (head_ref vs (f + sizes (t ▸ us))) ≡ lays (join (t ▸ us) vs) f ++ q
link_joins t us vs f k q e =
    let r = last_row t us f in
    let v : ℕ = head_ref vs (f + sizes (t ▸ us)) in
    let b : List ℕ = lays vs (f + sizes (t ▸ us)) in
    let w = r.last in
    let l : length r.body ≡ width * (k - 1) = omega (arith, r.long, some_rows t) in
    let i : k ≡ k - 1 + 1 = omega (arith, some_rows t) in
    ap (λ (x : List ℕ). linked (x ++ (b ++ q)) k v) (alone t us f ∙ r.is 0)
    ∙ ap (λ (x : List ℕ). linked x k v) (append_assoc r.body (words w r.mark 0) (b ++ q))
    ∙ ap (λ (n : ℕ). linked (r.body ++ (words w r.mark 0 ++ (b ++ q))) n v) i
    ∙ linked_there r.body (b ++ q) (k - 1) l w.kind r.mark w.place w.c0 w.c1 w.c2 w.c3 0 w.end v
    ∙ sym (append_assoc r.body (words w r.mark v) (b ++ q))
    ∙ ap (λ (x : List ℕ). x ++ (b ++ q)) (sym (r.is v))
    ∙ sym (append_assoc (lays_to t us f v) b q)
    ∙ ap (λ (x : List ℕ). x ++ q) (joined t us vs f)

-- The same where the list may be empty: then there is no row to link.
link_slots : (us vs : Trees) (f k : ℕ) (q : List ℕ) → k ≡ sizes us
    → linked (lay_slots (us ∷ vs ∷ []) f ++ q) k (head_ref vs (f + sizes us)) ≡ lay_slots (join us vs ∷ []) f ++ q
unfolding lay join linked is_row
link_slots nil vs f k q e = rw (e, add-zero f)
link_slots (t ▸ us) vs f k q e =
    let a : lay_slots ((t ▸ us) ∷ vs ∷ []) f ++ q ≡ lays (t ▸ us) f ++ (lays vs (f + sizes (t ▸ us)) ++ q) = simp (append-nil, append_assoc) in
    ap (λ (x : List ℕ). linked x k (head_ref vs (f + sizes (t ▸ us)))) a ∙ link_joins t us vs f k q e ∙ ap (λ (x : List ℕ). x ++ q) (sym (append-nil (lays (join (t ▸ us) vs) f)))

pub stands_linked : {ts : List ℕ} {from : ℕ} {first m left : ℕ} {xs ys : List ℕ} {at : ℕ} (us vs : Trees) (k h : ℕ) → Stands ts from (us ∷ vs ∷ []) first m left xs ys at
    → first + k ≡ first + sizes us → h ≡ head_ref vs (first + sizes us) → Stands ts from (join us vs ∷ []) first m left xs (linked ys k h) at
stands_linked {ts} {from} {first} {m} {left} {xs} {ys} {at} us vs k h s e eh =
    let j = join_sizes us vs in
    let ends = s.ends in
    record {
      front = record {
        laid = ap (λ (x : List ℕ). linked x k h) s.front.laid ∙ ap (linked (lay_slots (us ∷ vs ∷ []) first ++ drop (width * m) xs) k) eh ∙ link_slots us vs first k (drop (width * m) xs) (omega arith);
        long = ap length (append-nil (lays (join us vs) first)) ∙ length_lays (join us vs) first ∙ omega arith;
        fit = s.front.fit;
      };
      ends = omega arith;
      spent = s.spent;
      on = s.on;
      within = s.within;
    }
