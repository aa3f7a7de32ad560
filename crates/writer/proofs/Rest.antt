-- What is still to be written from a row and one of its pieces on, and how a step of the writer goes on from there.
use Prim.Native.Nat.{ℕ, zero, suc, ◌+◌, ◌*◌, ◌-◌, ◌≤◌, ◌<◌}
use native.Mathlib.Omega.{arith}
use mathlib.Core.Path.{◌≡◌, refl, ap, sym, ◌∙◌}
use mathlib.Core.Bool.{Bool, true, false, cond, not, ◌&&◌, ◌||◌, and-eq-true_iff}
use mathlib.Core.List.{List, [], ◌∷◌, ◌++◌, append_assoc, append-nil}
use mathlib.Core.Logic.{◌⊎◌, inl, inr, ⊎_elim}
use lib.Dec.{eqb, ltb, leb}
use lib.ListN.{length, get_or, drop, length-drop}
use native.Mathlib.Numerals.{add-one}
use borrow.Author.Tests.{eqb-true, eqb-false, ne_eqb, eq-eqb, ltb-true, lt-ltb, leb-true, le-ltb}
use Rattle.grammar.specs.Words.{EOF}
use Rattle.grammar.specs.Tree.{Tree, infixed, node, Trees, nil, ◌▸◌, size, sizes, width}
use Rattle.grammar.specs.Script.{word_of}
use Rattle.slots.specs.Slots.{Takes, expressions, statements, blocks, pairs, names, plain-identifier, any-root, Many, no, one, at_most_one, any, some, Slot, slot, kind_of, of_expressions, takes, is_expression, is_statement, marked, counts, how_many, fits, all_fit}
use Rattle.trees.specs.Pool.{In, Reached, start, on, root_link, word_link, twice, Holds, infix_row, row, HoldsAll, none, more}
use Rattle.trees.specs.Survey.{Told, unreached, the_root, by_two, by_one}
use Rattle.trees.specs.Verdict.{NoneBad}
use Rattle.trees.proofs.Words.{read_in}
use Rattle.written.specs.Written.{Token, Piece, sign, payload, by_mark, flagged, where_some, child, children, form, forms, look, piece, pieces, joined, separated, empty_slot, write, writes, written}
use Rattle.written.proofs.Shapes.{or_true}
use Rattle.slots.proofs.Either.{no_both}
use Rattle.writer.specs.Codes.{shape, word_for, behind}
use Rattle.writer.specs.Walk.{upward, shown, some_of, filled, text, Moved, into, between, along, up, onward, move}
use Rattle.writer.proofs.Shapes.{real, single, are_statements, sign_between, fair, at_piece, few_pieces, behind_few, weigh, shape_weighs}

-- The most steps that a row takes: its pieces, its end, and the way up from it.
abbrev pub steps : ℕ
steps = 10

-- What the rows behind one in its list are written as, each with the sign before it.
unfoldable pub tail : List Token → Trees → List Token
tail w nil = []
tail w (t ▸ ts) = w ++ (write t ++ tail w ts)

tail_more : (w : List Token) (t : Tree) (ts : Trees) (rest : List Token) → tail w (t ▸ ts) ++ rest ≡ w ++ (write t ++ (tail w ts ++ rest))
unfolding tail
tail_more w t ts rest = simp append_assoc

tail_none : (w rest : List Token) → tail w nil ++ rest ≡ rest
unfolding tail
tail_none w rest = refl

all_split : (s : Takes) (u : Tree) (us : Trees) → all_fit s (u ▸ us) ≡ true → (fits s u ≡ true) × (all_fit s us ≡ true)
unfolding all_fit
all_split s u us h = (and-eq-true_iff (fits s u) (all_fit s us)).0 h

pieces_more : (q : Piece) (qs : List Piece) (m p : ℕ) (ss : List (List (List Token))) (rest : List Token) → pieces (q ∷ qs) m p ss ++ rest ≡ piece q m p ss ++ (pieces qs m p ss ++ rest)
unfolding pieces
pieces_more q qs m p ss rest = simp append_assoc

pieces_none : (m p : ℕ) (ss : List (List (List Token))) (rest : List Token) → pieces [] m p ss ++ rest ≡ rest
unfolding pieces
pieces_none m p ss rest = refl

joined_tail : (t : Tree) (ts : Trees) → joined (writes (t ▸ ts)) ≡ write t ++ tail [] ts
unfolding joined writes tail
joined_tail t nil = refl
joined_tail t (u ▸ us) = rw (joined_tail u us)

separated_tail : (w : ℕ) (t : Tree) (ts : Trees) → separated w (writes (t ▸ ts)) ≡ write t ++ tail ((w, 0) ∷ []) ts
unfolding separated writes tail
separated_tail w t nil = rw append-nil
separated_tail w t (u ▸ us) = rw (separated_tail w u us)

-- a choice among four numbers from 3 on, and from 0 on
by_four : (P : ℕ → Type 0) → P 3 → P 4 → P 5 → P 6 → (k : ℕ) → 3 ≤ k → k ≤ 6 → P k
by_four P a b c d zero lo hi = absurd (omega arith)
by_four P a b c d (suc zero) lo hi = absurd (omega arith)
by_four P a b c d (suc (suc zero)) lo hi = absurd (omega arith)
by_four P a b c d (suc (suc (suc zero))) lo hi = a
by_four P a b c d (suc (suc (suc (suc zero)))) lo hi = b
by_four P a b c d (suc (suc (suc (suc (suc zero))))) lo hi = c
by_four P a b c d (suc (suc (suc (suc (suc (suc zero)))))) lo hi = d
by_four P a b c d (suc (suc (suc (suc (suc (suc (suc k))))))) lo hi = absurd (omega arith)

by_slot : (P : ℕ → Type 0) → P 0 → P 1 → P 2 → P 3 → (i : ℕ) → i ≤ 3 → P i
by_slot P a b c d zero h = a
by_slot P a b c d (suc zero) h = b
by_slot P a b c d (suc (suc zero)) h = c
by_slot P a b c d (suc (suc (suc zero))) h = d
by_slot P a b c d (suc (suc (suc (suc i)))) h = absurd (omega arith)

-- the trees of four slots by the words of the row
abbrev four : Trees → Trees → Trees → Trees → ℕ → Trees
four a b c d k = get_or (nil ∷ nil ∷ nil ∷ a ∷ b ∷ c ∷ d ∷ []) k nil

between_two : (a k b : ℕ) → leb a k && ltb k b ≡ true → (a ≤ k) × (k < b)
between_two a k b h = let (x, y) = (and-eq-true_iff (leb a k) (ltb k b)).0 h in (leb-true a k x, ltb-true k b y)

-- the kinds that a slot takes are kinds
pub real_kind : (s : Takes) (k m : ℕ) → takes s k m ≡ true → (0 < k) × (k < 47)
unfolding takes is_expression is_statement
real_kind expressions k m h = omega (arith, between_two 1 k 18 h)
real_kind statements k m h = omega (arith, between_two 32 k 46 h)
real_kind blocks k m h = omega (arith, eqb-true k 46 h)
real_kind pairs k m h = omega (arith, eqb-true k 19 h)
real_kind names k m h = omega (arith, eqb-true k 18 h)
real_kind plain-identifier k m h = omega (arith, eqb-true k 2 ((and-eq-true_iff (eqb k 2) (eqb m 0)).0 h).0)
real_kind any-root k m h =
    ⊎_elim
    (λ x. ⊎_elim (λ y. omega (arith, between_two 1 k 18 y)) (λ y. omega (arith, between_two 32 k 46 y)) (or_true (leb 1 k && ltb k 18) (leb 32 k && ltb k 46) x))
    (λ x. omega (arith, eqb-true k 46 x))
    (or_true (leb 1 k && ltb k 18 || (leb 32 k && ltb k 46)) (eqb k 46) h)

-- what fitting says of a row
record Fit (s : Takes) (k m : ℕ) (f : ℕ → Trees) : Type 0 where
  pub taken : takes s k m ≡ true
  pub counted : (i : ℕ) → i ≤ 3 → counts (slot k i).many (how_many (f (3 + i))) ≡ true
  pub fitting : (i : ℕ) → i ≤ 3 → all_fit (slot k i).kinds (f (3 + i)) ≡ true

node_fit : (s : Takes) (k m p : ℕ) (a b c d : Trees) (z : ℕ) → fits s (node k m p a b c d z) ≡ true → Fit s k m (four a b c d)
unfolding fits
node_fit s k m p a b c d z h =
    let (h₁, d₁) = (and-eq-true_iff _ (all_fit (slot k 3).kinds d)).0 h in
    let (h₂, d₀) = (and-eq-true_iff _ (counts (slot k 3).many (how_many d))).0 h₁ in
    let (h₃, c₁) = (and-eq-true_iff _ (all_fit (slot k 2).kinds c)).0 h₂ in
    let (h₄, c₀) = (and-eq-true_iff _ (counts (slot k 2).many (how_many c))).0 h₃ in
    let (h₅, b₁) = (and-eq-true_iff _ (all_fit (slot k 1).kinds b)).0 h₄ in
    let (h₆, b₀) = (and-eq-true_iff _ (counts (slot k 1).many (how_many b))).0 h₅ in
    let (h₇, a₁) = (and-eq-true_iff _ (all_fit (slot k 0).kinds a)).0 h₆ in
    let (h₈, a₀) = (and-eq-true_iff _ (counts (slot k 0).many (how_many a))).0 h₇ in
    let (h₉, n) = (and-eq-true_iff _ (marked k m)).0 h₈ in
    let (t, o) = (and-eq-true_iff (takes s k m) (not (eqb k 12))).0 h₉ in
    record {
      taken = t;
      counted = by_slot (λ i. counts (slot k i).many (how_many (four a b c d (3 + i))) ≡ true) a₀ b₀ c₀ d₀;
      fitting = by_slot (λ i. all_fit (slot k i).kinds (four a b c d (3 + i)) ≡ true) a₁ b₁ c₁ d₁;
    }

infix_fit : (s : Takes) (m p : ℕ) (a b : Tree) (z : ℕ) → fits s (infixed m p a b z) ≡ true → Fit s 12 m (four (a ▸ nil) (b ▸ nil) nil nil)
unfolding fits all_fit counts slot kind_of of_expressions
infix_fit s m p a b z h =
    let (h₁, b₁) = (and-eq-true_iff _ (fits expressions b)).0 h in
    let (h₂, a₁) = (and-eq-true_iff _ (fits expressions a)).0 h₁ in
    let (t, n) = (and-eq-true_iff (takes s 12 m) (marked 12 m)).0 h₂ in
    record {
      taken = t;
      counted = by_slot (λ i. counts (slot 12 i).many (how_many (four (a ▸ nil) (b ▸ nil) nil nil (3 + i))) ≡ true) refl refl refl refl;
      fitting = by_slot (λ i. all_fit (slot 12 i).kinds (four (a ▸ nil) (b ▸ nil) nil nil (3 + i)) ≡ true) (rw a₁) (rw b₁) refl refl;
    }

infix_written : (m p : ℕ) (a b : Tree) (z : ℕ)
    → write (infixed m p a b z) ≡ pieces (form 12) m p (writes (a ▸ nil) ∷ writes (b ▸ nil) ∷ writes nil ∷ writes nil ∷ [])
unfolding write writes form forms look pieces piece
infix_written m p a b z = refl

node_written : (k m p : ℕ) (a b c d : Trees) (z : ℕ) → write (node k m p a b c d z) ≡ pieces (form k) m p (writes a ∷ writes b ∷ writes c ∷ writes d ∷ [])
unfolding write
node_written k m p a b c d z = refl

infix_whole : (m p : ℕ) (a b : Tree) (z : ℕ) → written (infixed m p a b z) ≡ write (infixed m p a b z) ++ ((EOF, 0) ∷ [])
unfolding written
infix_whole m p a b z = refl

node_whole : (k m p : ℕ) (a b c d : Trees) (z : ℕ)
    → written (node k m p a b c d z) ≡ cond (eqb k 46) (joined (writes a)) (write (node k m p a b c d z)) ++ ((EOF, 0) ∷ [])
unfolding written
node_whole k m p a b c d z = refl

module _ (pool : List ℕ) (root : ℕ) where
  -- A row of a tree, by its words: what its slots hold, and what it is written as.
  pub record Sight (s : Takes) (r : ℕ) (t : Tree) : Type 0 where
    pub inside : In pool r
    pub reached : Reached pool root r
    pub taken : takes s (word_of pool r 0) (word_of pool r 1) ≡ true
    pub trees : ℕ → Trees
    pub nowhere : trees 0 ≡ nil
    pub held : (k : ℕ) → 3 ≤ k → k ≤ 6 → HoldsAll pool (word_of pool r k) (trees k)
    pub counted : (i : ℕ) → i ≤ 3 → counts (slot (word_of pool r 0) i).many (how_many (trees (3 + i))) ≡ true
    pub fitting : (i : ℕ) → i ≤ 3 → all_fit (slot (word_of pool r 0) i).kinds (trees (3 + i)) ≡ true
    pub texted : write t ≡ pieces (form (word_of pool r 0)) (word_of pool r 1) (word_of pool r 2) (writes (trees 3) ∷ writes (trees 4) ∷ writes (trees 5) ∷ writes (trees 6) ∷ [])
    pub wholly : written t ≡ cond (eqb (word_of pool r 0) 46) (joined (writes (trees 3))) (write t) ++ ((EOF, 0) ∷ [])
    pub sized : size t ≡ sizes (trees 3) + sizes (trees 4) + sizes (trees 5) + sizes (trees 6) + 1

  abbrev pub slots_of : {s : Takes} {r : ℕ} {t : Tree} → Sight s r t → List (List (List Token))
  slots_of v = writes (v.trees 3) ∷ writes (v.trees 4) ∷ writes (v.trees 5) ∷ writes (v.trees 6) ∷ []

  abbrev pub weight : {s : Takes} {r : ℕ} {t : Tree} → Sight s r t → ℕ → ℕ
  weight v k = sizes (v.trees k)

  mutual
    -- What is still to be written, and in at most how many steps, when a row and all behind it in its list is.
    pub data Above : ℕ → List Token → ℕ → Type 0 where
      finished : {r n : ℕ} {ts : List Token} → r ≡ root → ts ≡ (EOF, 0) ∷ [] → 1 ≤ n → Above r ts n
      in_list : {r n : ℕ} {ts : List Token} (p m : ℕ) → In pool p → Reached pool root p → word_of pool p 7 ≡ r → Above p ts m → suc m ≤ n → Above r ts n
      in_slot : {r n : ℕ} {ts : List Token} (p k m : ℕ) → 3 ≤ k → k ≤ 6 → word_of pool p k ≡ r → Ahead p (behind (shape (shown pool root p)) k) ts m → suc m ≤ n → Above r ts n

    -- What is still to be written from a piece of a row on.
    pub data Ahead : (r j : ℕ) → List Token → ℕ → Type 0 where
      ahead : {r j n : ℕ} {ts : List Token} (s : Takes) (t : Tree) (v : Sight s r t) (w : List Token) (us : Trees) (rest : List Token) (m : ℕ)
          → HoldsAll pool (word_of pool r 7) us → all_fit s us ≡ true → ((us ≡ nil) ⊎ ((k x : ℕ) → takes s k x ≡ true → between k ≡ w))
          → Above r rest m
          → ts ≡ pieces (drop j (shape (shown pool root r))) (word_of pool r 1) (word_of pool r 2) (slots_of v) ++ (tail w us ++ rest)
          → length (drop j (shape (shown pool root r))) + steps * weigh (weight v) (drop j (shape (shown pool root r))) + 1 + steps * sizes us + m ≤ n
          → Ahead r j ts n

  -- Where the writer is: all is written, at a piece, or on the way up.
  pub data Stage (r j : ℕ) (ts : List Token) (n : ℕ) : Type 0 where
    over : r ≡ 0 → ts ≡ [] → Stage r j ts n
    at_row : Ahead r j ts n → In pool r → j ≤ 8 → Stage r j ts n
    upwards : j ≡ upward → Above r ts n → In pool r → Stage r j ts n

  -- A step is right: what it writes is the front of what was to be written, and the rest takes fewer steps.
  pub record Right (m : Moved) (ts : List Token) (n : ℕ) : Type 0 where
    pub later : List Token
    pub fewer : ℕ
    pub split : ts ≡ m.0 ++ later
    pub less : suc fewer ≤ n
    pub stage : Stage m.1 m.2 later fewer

  module _ (good : NoneBad pool root) (inn : In pool root) where
    -- a row that a word leads to isn't the root
    not_root : (p k : ℕ) → In pool p → Reached pool root p → 3 ≤ k → k ≤ 7 → word_of pool p k ≡ root → ⊥
    not_root p k i h lo hi e =
        good root start
        (twice (record {
          row₁ = 0;
          word₁ = 0;
          row₂ = p;
          word₂ = k;
          link₁ = root_link refl;
          link₂ = word_link h i.0 lo hi e;
          different = λ x y. omega (arith, i);
        }))

    -- a row of a tree, by its words
    sight : {s : Takes} {r : ℕ} {t : Tree} → In pool r → Reached pool root r → Holds pool r t → fits s t ≡ true → Sight s r t
    sight {s} {r} {t} i h (infix_row a b e ha hb hc hd q) f =
        let m = word_of pool r 1 in
        let p = word_of pool r 2 in
        let z = word_of pool r 8 in
        let g = infix_fit s m p a b z (rw q at f) in
        record {
          inside = i;
          reached = h;
          taken = rw e g.taken;
          trees = four (a ▸ nil) (b ▸ nil) nil nil;
          nowhere = refl;
          held = by_four (λ k. HoldsAll pool (word_of pool r k) (four (a ▸ nil) (b ▸ nil) nil nil k)) ha hb hc hd;
          counted = rw e g.counted;
          fitting = rw e g.fitting;
          texted = rw (q, e) (infix_written m p a b z);
          wholly = rw (q, e) (infix_whole m p a b z);
          sized = ap size q ∙ omega arith;
        }
    sight {s} {r} {t} i h (row a b c d n ha hb hc hd q) f =
        let k = word_of pool r 0 in
        let m = word_of pool r 1 in
        let p = word_of pool r 2 in
        let z = word_of pool r 8 in
        let g = node_fit s k m p a b c d z (rw q at f) in
        record {
          inside = i;
          reached = h;
          taken = g.taken;
          trees = four a b c d;
          nowhere = refl;
          held = by_four (λ k. HoldsAll pool (word_of pool r k) (four a b c d k)) ha hb hc hd;
          counted = g.counted;
          fitting = g.fitting;
          texted = rw q (node_written k m p a b c d z);
          wholly = rw q (node_whole k m p a b c d z);
          sized = ap size q;
        }

    -- which slots hold something
    empty_same : (c : ℕ) (us : Trees) → HoldsAll pool c us → empty_slot (some_of c) ≡ empty_slot (writes us)
    unfolding some_of empty_slot writes
    empty_same c us (none z q) = rw (z, q)
    empty_same c us (more t ts i h hs q) = rw (ne_eqb c 0 (λ z. omega (arith, i)), q)

    -- a piece that is no slot's is what the words of the row say
    text_same : {s : Takes} {r : ℕ} {t : Tree} (v : Sight s r t) (q : Piece) → word_for q ≡ 0
        → text pool r q ≡ piece q (word_of pool r 1) (word_of pool r 2) (slots_of v)
    unfolding text piece filled word_for
    text_same v (sign w) z = refl
    text_same {s} {r} v (payload w) z = rw (read_in pool r 2 v.inside (omega arith))
    text_same {s} {r} v (by_mark table) z = rw (read_in pool r 1 v.inside (omega arith))
    text_same {s} {r} v (flagged f w) z = rw (read_in pool r 1 v.inside (omega arith))
    text_same {s} {r} v (where_some zero w) z = rw (read_in pool r 3 v.inside (omega arith), empty_same _ _ (v.held 3 (omega arith) (omega arith)))
    text_same {s} {r} v (where_some (suc zero) w) z = rw (read_in pool r 4 v.inside (omega arith), empty_same _ _ (v.held 4 (omega arith) (omega arith)))
    text_same {s} {r} v (where_some (suc (suc zero)) w) z = rw (read_in pool r 5 v.inside (omega arith), empty_same _ _ (v.held 5 (omega arith) (omega arith)))
    text_same {s} {r} v (where_some (suc (suc (suc zero))) w) z = rw (read_in pool r 6 v.inside (omega arith), empty_same _ _ (v.held 6 (omega arith) (omega arith)))
    text_same {s} {r} v (where_some (suc (suc (suc (suc i)))) w) z = refl
    text_same v (child i) z = absurd (omega arith)
    text_same v (children i w) z = absurd (omega arith)

    shown_other : (r : ℕ) → In pool r → (r ≡ root → ⊥) → shown pool root r ≡ word_of pool r 0
    unfolding shown
    shown_other r i n = rw (ne_eqb r root n, read_in pool r 0 i (omega arith))

    shape_form : (k : ℕ) → 0 < k → k < 47 → shape k ≡ form k
    unfolding shape
    shape_form k lo hi = rw (ne_eqb k 0 (λ z. omega arith), lt-ltb k 47 hi)

    -- the kind that is shown, and the real one
    shown_real : {s : Takes} {r : ℕ} {t : Tree} → Sight s r t → (shown pool root r < 47) × (real (shown pool root r) ≡ word_of pool r 0)
    unfolding shown
    shown_real {s} {r} v =
        let (lo, hi) = real_kind s (word_of pool r 0) (word_of pool r 1) v.taken in
        rw (read_in pool r 0 v.inside (omega arith))
        (go (eqb r root && eqb (word_of pool r 0) 46) refl lo hi)
      where
        go : (b : Bool) → eqb r root && eqb (word_of pool r 0) 46 ≡ b → 0 < word_of pool r 0 → word_of pool r 0 < 47
            → (cond b 0 (word_of pool r 0) < 47) × (real (cond b 0 (word_of pool r 0)) ≡ word_of pool r 0)
        go true e lo hi = (omega arith, sym (eqb-true _ 46 ((and-eq-true_iff (eqb r root) (eqb (word_of pool r 0) 46)).0 e).1))
        go false e lo hi = (hi, rw (ne_eqb (word_of pool r 0) 0 (λ z. omega arith)))

    -- a row is entered: its text and what is behind it
    enter : {s : Takes} {c : ℕ} {u : Tree} (v : Sight s c u) (w : List Token) (us : Trees) (rest : List Token) (m n : ℕ) → (c ≡ root → ⊥)
        → HoldsAll pool (word_of pool c 7) us → all_fit s us ≡ true → ((us ≡ nil) ⊎ ((k x : ℕ) → takes s k x ≡ true → between k ≡ w))
        → Above c rest (suc m) → steps * size u + steps * sizes us + m ≤ n → Ahead c 0 (write u ++ (tail w us ++ rest)) n
    enter {s} {c} {u} v w us rest m n away hu fu even ab le =
        let (lo, hi) = real_kind s (word_of pool c 0) (word_of pool c 1) v.taken in
        let e : shape (shown pool root c) ≡ form (word_of pool c 0) = ap shape (shown_other c v.inside away) ∙ shape_form (word_of pool c 0) lo hi in
        let few = few_pieces (shown pool root c) (shown_real v).0 in
        let light = shape_weighs (weight v) (shown pool root c) (shown_real v).0 (ap sizes v.nowhere) in
        ahead {j = 0} {n = n} {ts = write u ++ (tail w us ++ rest)} s u v w us rest (suc m) hu fu even ab (rw (e, v.texted)) (omega (arith, v.sized))

    -- a root block's statements
    bare : (ss : List (List (List Token))) (m p : ℕ) (rest : List Token) → pieces (shape 0) m p ss ++ (tail [] nil ++ rest) ≡ joined (get_or ss 0 []) ++ rest
    unfolding shape pieces piece tail
    bare ss m p rest = rw append-nil

    -- the whole text, by the shape of the root
    whole : {t : Tree} (v : Sight any-root root t)
        → written t ≡ pieces (shape (shown pool root root)) (word_of pool root 1) (word_of pool root 2) (slots_of v) ++ (tail [] nil ++ ((EOF, 0) ∷ []))
    unfolding shown
    whole {t} v = rw (v.wholly, eq-eqb root root refl, read_in pool root 0 inn (omega arith)) (go (eqb (word_of pool root 0) 46))
      where
        go : (b : Bool) → cond b (joined (writes (v.trees 3))) (write t) ++ ((EOF, 0) ∷ [])
            ≡ pieces (shape (cond b 0 (word_of pool root 0))) (word_of pool root 1) (word_of pool root 2) (slots_of v) ++ (tail [] nil ++ ((EOF, 0) ∷ []))
        go true = sym (bare (slots_of v) (word_of pool root 1) (word_of pool root 2) ((EOF, 0) ∷ []))
        go false =
            let (lo, hi) = real_kind any-root (word_of pool root 0) (word_of pool root 1) v.taken in
            rw (shape_form (word_of pool root 0) lo hi, v.texted, tail_none [] ((EOF, 0) ∷ []))

    -- where the walk starts
    pub first : {t : Tree} → Holds pool root t → fits any-root t ≡ true → word_of pool root 7 ≡ 0 → Stage root 0 (written t) (steps * size t)
    unfolding all_fit
    first {t} h f z =
        let v = sight inn start h f in
        let few = few_pieces (shown pool root root) (shown_real v).0 in
        let light = shape_weighs (weight v) (shown pool root root) (shown_real v).0 (ap sizes v.nowhere) in
        at_row
        (ahead {j = 0} {n = steps * size t} {ts = written t} any-root t v [] nil ((EOF, 0) ∷ []) 1 (none z refl) refl (inl refl) (finished {n = 1} refl refl (omega arith)) (whole v) (omega (arith, v.sized)))
        inn (omega arith)

    -- what a slot's piece gives: its first tree, and then the others with the sign between
    record Listed (s : Slot) (text : List Token) (u : Tree) (us : Trees) : Type 0 where
      pub sep : List Token
      pub says : text ≡ write u ++ tail sep us
      pub even : (us ≡ nil) ⊎ ((k x : ℕ) → takes s.kinds k x ≡ true → between k ≡ sep)

    alone : (m : Many) (u : Tree) (us : Trees) → single m ≡ true → counts m (how_many (u ▸ us)) ≡ true → us ≡ nil
    unfolding counts
    alone no u us s h = absurd (omega (arith, eqb-true (how_many (u ▸ us)) 0 h))
    alone one u nil s h = refl
    alone one u (x ▸ xs) s h = absurd (omega (arith, eqb-true (how_many (u ▸ (x ▸ xs))) 1 h))
    alone at_most_one u nil s h = refl
    alone at_most_one u (x ▸ xs) s h = absurd (omega (arith, ltb-true (how_many (u ▸ (x ▸ xs))) 2 h))
    alone any u us s h = no_both (sym s)
    alone some u us s h = no_both (sym s)

    no_sign : (k x : ℕ) → takes statements k x ≡ true → between k ≡ []
    unfolding takes is_statement between
    no_sign k x h = let (lo, hi) = between_two 32 k 46 h in rw (ne_eqb k 18 (λ z. omega arith), le-ltb k 20 (omega arith))

    statements_even : (s : Takes) → are_statements s ≡ true → (k x : ℕ) → takes s k x ≡ true → between k ≡ []
    statements_even statements e k x h = no_sign k x h
    statements_even expressions e k x h = no_both (sym e)
    statements_even blocks e k x h = no_both (sym e)
    statements_even pairs e k x h = no_both (sym e)
    statements_even names e k x h = no_both (sym e)
    statements_even plain-identifier e k x h = no_both (sym e)
    statements_even any-root e k x h = no_both (sym e)

    a_sign : (s : Takes) (w : ℕ) → 0 < w → sign_between s ≡ w → (k x : ℕ) → takes s k x ≡ true → between k ≡ (w, 0) ∷ []
    unfolding takes is_expression between
    a_sign expressions w p e k x h = let (lo, hi) = between_two 1 k 18 h in rw (ne_eqb k 18 (λ z. omega arith), lt-ltb k 20 (omega arith), e)
    a_sign pairs w p e k x h = rw (eqb-true k 19 h, e)
    a_sign names w p e k x h = rw (eqb-true k 18 h, e)
    a_sign statements w p e k x h = absurd (omega arith)
    a_sign blocks w p e k x h = absurd (omega arith)
    a_sign plain-identifier w p e k x h = absurd (omega arith)
    a_sign any-root w p e k x h = absurd (omega arith)

    slot_word : {s : Takes} {r : ℕ} {t : Tree} (v : Sight s r t) (q : Piece) → fair (word_of pool r 0) q ≡ true → (word_for q ≡ 0 → ⊥)
        → (3 ≤ word_for q) × (word_for q ≤ 6)
    unfolding word_for
    slot_word v (sign w) f n = absurd (n refl)
    slot_word v (payload w) f n = absurd (n refl)
    slot_word v (by_mark table) f n = absurd (n refl)
    slot_word v (flagged x w) f n = absurd (n refl)
    slot_word v (where_some i w) f n = absurd (n refl)
    slot_word {s} {r} v (child i) f n = omega (arith, ltb-true i 4 ((and-eq-true_iff (ltb i 4) _).0 f).0)
    slot_word {s} {r} v (children i w) f n = omega (arith, ltb-true i 4 ((and-eq-true_iff (ltb i 4) (ltb 0 w)).0 ((and-eq-true_iff (ltb i 4 && ltb 0 w) _).0 f).0).0)

    -- the written slots by their words
    slot_text : {s : Takes} {r : ℕ} {t : Tree} (v : Sight s r t) (i : ℕ) → i ≤ 3 → get_or (slots_of v) i [] ≡ writes (v.trees (3 + i))
    slot_text v = by_slot (λ i. get_or (slots_of v) i [] ≡ writes (v.trees (3 + i))) refl refl refl refl

    empty_piece : {s : Takes} {r : ℕ} {t : Tree} (v : Sight s r t) (q : Piece) (i : ℕ) → word_for q ≡ 3 + i → i ≤ 3 → v.trees (3 + i) ≡ nil
        → piece q (word_of pool r 1) (word_of pool r 2) (slots_of v) ≡ []
    unfolding word_for piece joined separated writes
    empty_piece v (sign w) i e l h = absurd (omega arith)
    empty_piece v (payload w) i e l h = absurd (omega arith)
    empty_piece v (by_mark table) i e l h = absurd (omega arith)
    empty_piece v (flagged x w) i e l h = absurd (omega arith)
    empty_piece v (where_some x w) i e l h = absurd (omega arith)
    empty_piece v (child x) i e l h = let y : x ≡ i = omega arith in rw (y, slot_text v i l, h)
    empty_piece v (children x w) i e l h = let y : x ≡ i = omega arith in rw (y, slot_text v i l, h)

    listing : {s : Takes} {r : ℕ} {t : Tree} (v : Sight s r t) (q : Piece) (i : ℕ) (u : Tree) (us : Trees) → fair (word_of pool r 0) q ≡ true → word_for q ≡ 3 + i → i ≤ 3
        → v.trees (3 + i) ≡ u ▸ us → Listed (slot (word_of pool r 0) i) (piece q (word_of pool r 1) (word_of pool r 2) (slots_of v)) u us
    unfolding word_for piece
    listing v (sign w) i u us f e l h = absurd (omega arith)
    listing v (payload w) i u us f e l h = absurd (omega arith)
    listing v (by_mark table) i u us f e l h = absurd (omega arith)
    listing v (flagged x w) i u us f e l h = absurd (omega arith)
    listing v (where_some x w) i u us f e l h = absurd (omega arith)
    listing {s} {r} v (child x) i u us f e l h =
        let y : x ≡ i = omega arith in
        let k = word_of pool r 0 in
        let says : joined (get_or (slots_of v) i []) ≡ write u ++ tail [] us = rw (slot_text v i l, h) (joined_tail u us) in
        let g = ((and-eq-true_iff (ltb x 4) (single (slot k x).many || are_statements (slot k x).kinds)).0 f).1 in
        ⊎_elim
        (λ o. record { sep = []; says = rw y says; even = inl (alone (slot k i).many u us (rw y at o) (rw h at (v.counted i l))) })
        (λ o. record { sep = []; says = rw y says; even = inr (statements_even (slot k i).kinds (rw y at o)) })
        (or_true (single (slot k x).many) (are_statements (slot k x).kinds) g)
    listing {s} {r} v (children x w) i u us f e l h =
        let y : x ≡ i = omega arith in
        let k = word_of pool r 0 in
        let says : separated w (get_or (slots_of v) i []) ≡ write u ++ tail ((w, 0) ∷ []) us = rw (slot_text v i l, h) (separated_tail w u us) in
        let (g, o) = (and-eq-true_iff (ltb x 4 && ltb 0 w) (eqb (sign_between (slot k x).kinds) w)).0 f in
        let p = ltb-true 0 w ((and-eq-true_iff (ltb x 4) (ltb 0 w)).0 g).1 in
        record { sep = (w, 0) ∷ []; says = rw y says; even = inr (a_sign (slot k i).kinds w p (rw y at (eqb-true _ w o))) }

    module _ (owner word : ℕ → ℕ) (told : (t : ℕ) → In pool t → Told pool root t (owner t) (word t)) where
      -- the links of the rows
      told_root : {o w : ℕ} → Told pool root root o w → w ≡ 1
      told_root (unreached x y n) = absurd (n start)
      told_root (the_root x y e n) = y
      told_root (by_two x y two) = absurd (good root start (twice two))
      told_root (by_one h i lo hi e n u) = absurd (n refl)

      told_by : {o w : ℕ} (p k t : ℕ) → Reached pool root p → 3 ≤ k → k ≤ 7 → word_of pool p k ≡ t → In pool t → Told pool root t o w → (o ≡ p) × (w ≡ k)
      told_by p k t h lo hi e it (unreached x y n) = absurd (n (on h lo hi e it))
      told_by p k t h lo hi e it (the_root x y er n) = absurd (n p k h lo hi e)
      told_by p k t h lo hi e it (by_two x y two) = absurd (good t (on h lo hi e it) (twice two))
      told_by p k t h lo hi e it (by_one h' i' lo' hi' e' n u) = let y = u p k h lo hi e in (sym y.0, sym y.1)

      into_at : (r j k : ℕ) → In pool r → k < width → into pool r j k ≡ cond (eqb (word_of pool r k) 0) ([], r, j + 1) ([], word_of pool r k, 0)
      unfolding into
      into_at r j k i h = rw (read_in pool r k i h)

      along_at : (r : ℕ) → In pool r → along pool r ≡ cond (eqb (word_of pool r 7) 0) ([], r, upward) (between (word_of pool r 0), word_of pool r 7, 0)
      unfolding along
      along_at r i = rw (read_in pool r 7 i (omega arith), read_in pool r 0 i (omega arith))

      onward_more : (r j : ℕ) (q : Piece) (qs : List Piece) → onward pool r j (q ∷ qs) ≡ cond (eqb (word_for q) 0) (text pool r q, r, j + 1) (into pool r j (word_for q))
      unfolding onward
      onward_more r j q qs = refl

      onward_none : (r j : ℕ) → onward pool r j [] ≡ along pool r
      unfolding onward
      onward_none r j = refl

      both_even : (s : Takes) (w : List Token) {us us' : Trees} {u : Tree} → us ≡ u ▸ us' → ((us ≡ nil) ⊎ ((k x : ℕ) → takes s k x ≡ true → between k ≡ w))
          → (k x : ℕ) → takes s k x ≡ true → between k ≡ w
      both_even s w q (inl e) = let z : ◌≡◌ {A = ℕ} 0 1 = cc in absurd (omega arith)
      both_even s w q (inr f) = f

      -- at a piece of a row
      module _ {s : Takes} {r : ℕ} {t : Tree} (v : Sight s r t) (j n : ℕ) (ts : List Token) (w : List Token) (us : Trees) (rest : List Token) (m : ℕ)
          (hu : HoldsAll pool (word_of pool r 7) us) (fu : all_fit s us ≡ true) (even : (us ≡ nil) ⊎ ((k x : ℕ) → takes s k x ≡ true → between k ≡ w))
          (ab : Above r rest m) where
        abbrev texts : List Piece → List Token
        texts qs = pieces qs (word_of pool r 1) (word_of pool r 2) (slots_of v) ++ (tail w us ++ rest)

        abbrev cost : List Piece → ℕ
        cost qs = length qs + steps * weigh (weight v) qs + 1 + steps * sizes us + m

        -- the end of the row
        ended : ts ≡ tail w us ++ rest → 1 + steps * sizes us + m ≤ n → Right (along pool r) ts n
        ended e c = rw (along_at r v.inside) (go us hu fu even e c)
          where
            go : (us : Trees) → HoldsAll pool (word_of pool r 7) us → all_fit s us ≡ true → ((us ≡ nil) ⊎ ((k x : ℕ) → takes s k x ≡ true → between k ≡ w))
                → ts ≡ tail w us ++ rest → 1 + steps * sizes us + m ≤ n
                → Right (cond (eqb (word_of pool r 7) 0) ([], r, upward) (between (word_of pool r 0), word_of pool r 7, 0)) ts n
            go us (none z q) fu even e c =
                rw (eq-eqb (word_of pool r 7) 0 z)
                (record { later = rest; fewer = m; split = e ∙ rw q (tail_none w rest); less = omega arith; stage = upwards refl ab v.inside })
            go us (more u us' i h hs q) fu even e c =
                let (fu₀, fu₁) = all_split s u us' (rw q at fu) in
                let x = sight i (on v.reached (omega arith) (omega arith) refl i) h fu₀ in
                let f = both_even s w q even in
                let heavy : sizes us ≡ size u + sizes us' = ap sizes q in
                rw (ne_eqb (word_of pool r 7) 0 (λ z. omega (arith, i)), f (word_of pool r 0) (word_of pool r 1) v.taken)
                (record {
                  later = write u ++ (tail w us' ++ rest);
                  fewer = steps * size u + steps * sizes us' + m;
                  split = e ∙ rw q (tail_more w u us' rest);
                  less = omega arith;
                  stage = at_row
                      (enter x w us' rest m (steps * size u + steps * sizes us' + m) (λ z. not_root r 7 v.inside v.reached (omega arith) (omega arith) z) hs fu₁ (inr f)
                      (in_list r m v.inside v.reached refl ab (omega arith)) (omega arith))
                      i (omega arith);
                })

        -- from the next piece on
        next_piece : (q : Piece) (qs : List Piece) → drop j (shape (shown pool root r)) ≡ q ∷ qs → Ahead r (j + 1) (texts qs) (cost qs) × (j + 1 ≤ 8)
        next_piece q qs e =
            let (lt, re) = shown_real v in
            let k = shown pool root r in
            let d : drop (j + 1) (shape k) ≡ qs = rw add-one (at_piece k lt j q qs e).1 in
            let few = few_pieces k lt in
            let long : length (shape k) - j ≡ suc (length qs) = sym (length-drop j (shape k)) ∙ ap length e in
            (ahead {j = j + 1} {n = cost qs} {ts = texts qs} s t v w us rest m hu fu even ab (rw d) (rw d (omega arith)), omega arith)

        -- a slot's piece
        at_slot : (q : Piece) (qs : List Piece) → drop j (shape (shown pool root r)) ≡ q ∷ qs → ts ≡ texts (q ∷ qs) → cost (q ∷ qs) ≤ n → (word_for q ≡ 0 → ⊥)
            → Right (into pool r j (word_for q)) ts n
        at_slot q qs d e c nz =
            let (lt, re) = shown_real v in
            let pa = (at_piece (shown pool root r) lt j q qs d).0 in
            let f : fair (word_of pool r 0) q ≡ true = rw re at pa.is_fair in
            let (lo, hi) = slot_word v q f nz in
            rw (into_at r j (word_for q) v.inside (omega arith))
            (go (v.trees (word_for q)) refl (v.held (word_for q) lo hi) f lo hi (pa.found nz))
          where
            go : (us : Trees) → v.trees (word_for q) ≡ us → HoldsAll pool (word_of pool r (word_for q)) us → fair (word_of pool r 0) q ≡ true → 3 ≤ word_for q → word_for q ≤ 6
                → behind (shape (shown pool root r)) (word_for q) ≡ suc j
                → Right (cond (eqb (word_of pool r (word_for q)) 0) ([], r, j + 1) ([], word_of pool r (word_for q), 0)) ts n
            go xs x (none z y) f lo hi b =
                let i = word_for q - 3 in
                let wi : word_for q ≡ 3 + i = omega arith in
                rw (eq-eqb (word_of pool r (word_for q)) 0 z)
                (record {
                  later = texts qs;
                  fewer = cost qs;
                  split = e ∙ pieces_more q qs _ _ _ _ ∙ ap (λ o. o ++ texts qs) (empty_piece v q i wi (omega arith) (ap v.trees (sym wi) ∙ x ∙ y));
                  less = omega arith;
                  stage = at_row (next_piece q qs d).0 v.inside (next_piece q qs d).1;
                })
            go xs x (more u xs' i h hs y) f lo hi b =
                let a = word_for q - 3 in
                let wi : word_for q ≡ 3 + a = omega arith in
                let la : a ≤ 3 = omega arith in
                let l = listing v q a u xs' f wi la (ap v.trees (sym wi) ∙ x ∙ y) in
                let heavy : sizes (v.trees (word_for q)) ≡ size u + sizes xs' = ap sizes (x ∙ y) in
                let (fu₀, fu₁) = all_split (slot (word_of pool r 0) a).kinds u xs' (rw (ap v.trees (sym wi) ∙ x ∙ y) at (v.fitting a la)) in
                let w₀ = sight i (on v.reached lo (omega arith) refl i) h fu₀ in
                let back : Ahead r (behind (shape (shown pool root r)) (word_for q)) (texts qs) (cost qs) = rw (b, ← add-one j) (next_piece q qs d).0 in
                rw (ne_eqb (word_of pool r (word_for q)) 0 (λ z. omega (arith, i)))
                (record {
                  later = write u ++ (tail l.sep xs' ++ texts qs);
                  fewer = steps * size u + steps * sizes xs' + cost qs;
                  split = e ∙ pieces_more q qs _ _ _ _ ∙ ap (λ o. o ++ texts qs) l.says ∙ append_assoc (write u) (tail l.sep xs') (texts qs);
                  less = omega arith;
                  stage = at_row
                      (enter w₀ l.sep xs' (texts qs) (cost qs) (steps * size u + steps * sizes xs' + cost qs)
                      (λ z. not_root r (word_for q) v.inside v.reached lo (omega arith) z) hs fu₁ l.even
                      (in_slot r (word_for q) (cost qs) lo hi refl back (omega arith)) (omega arith))
                      i (omega arith);
                })

        -- a piece
        at_one : (q : Piece) (qs : List Piece) → drop j (shape (shown pool root r)) ≡ q ∷ qs → ts ≡ texts (q ∷ qs) → cost (q ∷ qs) ≤ n
            → Right (onward pool r j (q ∷ qs)) ts n
        at_one q qs d e c = rw (onward_more r j q qs) (go (eqb (word_for q) 0) refl)
          where
            go : (b : Bool) → eqb (word_for q) 0 ≡ b → Right (cond b (text pool r q, r, j + 1) (into pool r j (word_for q))) ts n
            go true z =
                record {
                  later = texts qs;
                  fewer = cost qs;
                  split = e ∙ pieces_more q qs _ _ _ _ ∙ ap (λ x. x ++ texts qs) (sym (text_same v q (eqb-true (word_for q) 0 z)));
                  less = omega arith;
                  stage = at_row (next_piece q qs d).0 v.inside (next_piece q qs d).1;
                }
            go false z = at_slot q qs d e c (eqb-false (word_for q) 0 z)

      onward_right : {r j n : ℕ} {ts : List Token} → Ahead r j ts n → Right (onward pool r j (drop j (shape (shown pool root r)))) ts n
      onward_right {r} {j} {n} {ts} (ahead s t v w us rest m hu fu even ab e c) = go (drop j (shape (shown pool root r))) refl e c
        where
          go : (qs : List Piece) → drop j (shape (shown pool root r)) ≡ qs → ts ≡ pieces qs (word_of pool r 1) (word_of pool r 2) (slots_of v) ++ (tail w us ++ rest)
              → length qs + steps * weigh (weight v) qs + 1 + steps * sizes us + m ≤ n → Right (onward pool r j qs) ts n
          go [] d e c = rw onward_none (ended v j n ts w us rest m hu fu even ab (e ∙ pieces_none _ _ _ _) (omega arith))
          go (q ∷ qs) d e c = at_one v j n ts w us rest m hu fu even ab q qs d e c

      up_root : (o w : ℕ) → w ≡ 1 → up pool root o w ≡ ((EOF, 0) ∷ [], 0, 0)
      unfolding up
      up_root o w e = rw e

      up_list : (o w p : ℕ) → (o ≡ p) × (w ≡ 7) → up pool root o w ≡ ([], p, upward)
      unfolding up
      up_list o w p e = rw (e.0, e.1)

      up_slot : (o w p k : ℕ) → 3 ≤ k → k ≤ 6 → (o ≡ p) × (w ≡ k) → up pool root o w ≡ ([], p, behind (shape (shown pool root p)) k)
      unfolding up
      up_slot o w p k lo hi e = rw (e.0, e.1, ne_eqb k 1 (λ z. omega arith), ne_eqb k 7 (λ z. omega arith))

      seen : {p j n : ℕ} {ts : List Token} → Ahead p j ts n → In pool p × Reached pool root p × (shown pool root p < 47)
      seen (ahead s t v w us rest m hu fu even ab q c) = (v.inside, v.reached, (shown_real v).0)

      upward_right : {r n : ℕ} {ts : List Token} → Above r ts n → In pool r → Right (up pool root (owner r) (word r)) ts n
      upward_right (finished e q l) i =
          rw (e, up_root (owner root) (word root) (told_root (told root inn))) (record { later = []; fewer = 0; split = q; less = l; stage = over refl refl })
      upward_right {r} {n} {ts} (in_list p m ip hp e a l) i =
          rw (up_list (owner r) (word r) p (told_by p 7 r hp (omega arith) (omega arith) e i (told r i)))
          (record { later = ts; fewer = m; split = refl; less = l; stage = upwards refl a ip })
      upward_right {r} {n} {ts} (in_slot p k m lo hi e a l) i =
          let (ip, hp, lt) = seen a in
          rw (up_slot (owner r) (word r) p k lo hi (told_by p k r hp lo (omega arith) e i (told r i)))
          (record { later = ts; fewer = m; split = refl; less = l; stage = at_row a ip (behind_few (shown pool root p) k lt) })

      -- a step of the writer
      pub step : {r j n : ℕ} {ts : List Token} → Stage r j ts n → (r ≡ 0 → ⊥) → Right (move pool root r j (owner r) (word r)) ts n
      unfolding move
      step (over z e) nz = absurd (nz z)
      step {r} {j} (at_row a i l) nz = rw (ne_eqb j upward (λ z. omega arith)) (onward_right a)
      step {r} {j} (upwards z a i) nz = rw (eq-eqb j upward z) (upward_right a i)
