-- What is written is a good array: valid words, with EOF last and nowhere else; and each token stands where it was written.
use Prim.Native.Nat.{ℕ, zero, suc, ◌+◌, ◌-◌, ◌%◌, ◌/◌, ◌≤◌, ◌<◌}
use native.Mathlib.Omega.{arith}
use mathlib.Core.Path.{◌≡◌, refl, sym, ap, ◌∙◌}
use mathlib.Core.Bool.{Bool, true, false, cond, not, ◌&&◌, and-eq-true_iff}
use mathlib.Core.List.{List, [], ◌∷◌, ◌++◌, append_assoc}
use lib.Dec.{eqb, ltb, leb}
use lib.ListN.{length, get_or, length-append}
use lib.Seq.{get_or_at}
use borrow.Author.Tests.{lt-ltb, le-leb}
use Rattle.grammar.specs.Words.{EOF, tok, step, class, code, codes, valid}
use Rattle.grammar.specs.Tree.{Tree, infixed, node, Trees, nil, ◌▸◌}
use Rattle.grammar.specs.Parsed.{met, need, turns}
use Rattle.grammar.specs.Script.{longest, both, words_good, array_good}
use Rattle.written.specs.Written.{Token, Piece, sign, payload, by_mark, flagged, where_some, child, children, infix_signs, forms, look, form, joined, separated, empty_slot, piece, pieces, write, writes, written, words}
use Rattle.written.specs.Claims.{GoodArray, LastEOF}
use Rattle.written.proofs.Stood.{Stood}

-- A word that is valid and not EOF.
abbrev pub good : ℕ → Bool
good w = valid w && not (eqb w EOF)

abbrev pub Fine : List Token → Type 0
Fine [] = Unit {0}
Fine (x ∷ xs) = (good x.0 ≡ true) × Fine xs

abbrev pub FineAll : List (List Token) → Type 0
FineAll [] = Unit {0}
FineAll (x ∷ xs) = Fine x × FineAll xs

abbrev FineSlots : List (List (List Token)) → Type 0
FineSlots [] = Unit {0}
FineSlots (x ∷ xs) = FineAll x × FineSlots xs

fine_append : (xs ys : List Token) → Fine xs → Fine ys → Fine (xs ++ ys)
fine_append [] ys h g = g
fine_append (x ∷ xs) ys (a, h) g = (a, fine_append xs ys h g)

fine_joined : (xs : List (List Token)) → FineAll xs → Fine (joined xs)
unfolding joined
fine_joined [] h = tt
fine_joined (x ∷ xs) (a, h) = fine_append x (joined xs) a (fine_joined xs h)

fine_separated : (w : ℕ) (xs : List (List Token)) → good w ≡ true → FineAll xs → Fine (separated w xs)
unfolding separated
fine_separated w [] g h = tt
fine_separated w (x ∷ []) g (a, h) = a
fine_separated w (x ∷ y ∷ xs) g (a, h) = fine_append x ((w, 0) ∷ separated w (y ∷ xs)) a (g, fine_separated w (y ∷ xs) g h)

slot_at : (ss : List (List (List Token))) (i : ℕ) → FineSlots ss → FineAll (get_or ss i [])
slot_at [] i h = tt
slot_at (x ∷ xs) zero (a, h) = a
slot_at (x ∷ xs) (suc i) (a, h) = slot_at xs i h

-- The tables hold good words only.
words_all : List ℕ → Bool
words_all [] = true
words_all (w ∷ ws) = good w && words_all ws

word_at : (ws : List ℕ) (i : ℕ) → words_all ws ≡ true → good (get_or ws i 0) ≡ true
unfolding words_all valid class code codes
word_at [] i h = refl
word_at (w ∷ ws) zero h = ((and-eq-true_iff (good w) (words_all ws)).0 h).0
word_at (w ∷ ws) (suc i) h = word_at ws i ((and-eq-true_iff (good w) (words_all ws)).0 h).1

piece_good : Piece → Bool
piece_good (sign w) = good w
piece_good (payload w) = good w
piece_good (by_mark table) = words_all table
piece_good (flagged f w) = good w
piece_good (where_some i w) = good w
piece_good (child i) = true
piece_good (children i w) = good w

pieces_good : List Piece → Bool
pieces_good [] = true
pieces_good (q ∷ qs) = piece_good q && pieces_good qs

forms_good : List (ℕ × List Piece) → Bool
forms_good [] = true
forms_good (f ∷ fs) = pieces_good f.1 && forms_good fs

all_forms : forms_good forms ≡ true
unfolding forms_good pieces_good piece_good words_all forms infix_signs valid class code codes
all_forms = refl

look_good : (fs : List (ℕ × List Piece)) (k : ℕ) → forms_good fs ≡ true → pieces_good (look fs k) ≡ true
unfolding forms_good pieces_good look
look_good [] k h = refl
look_good ((j, a) ∷ fs) k h =
    let (x, y) = (and-eq-true_iff (pieces_good a) (forms_good fs)).0 h in
    go (eqb j k) x (look_good fs k y)
  where
    go : (c : Bool) → pieces_good a ≡ true → pieces_good (look fs k) ≡ true → pieces_good (cond c a (look fs k)) ≡ true
    go true x y = x
    go false x y = y

perhaps : (c : Bool) (w : ℕ) → good w ≡ true → Fine (cond c [] ((w, 0) ∷ []))
perhaps true w h = tt
perhaps false w h = (h, tt)

fine_piece : (q : Piece) (m p : ℕ) (ss : List (List (List Token))) → piece_good q ≡ true → FineSlots ss → Fine (piece q m p ss)
unfolding piece piece_good
fine_piece (sign w) m p ss h f = (h, tt)
fine_piece (payload w) m p ss h f = (h, tt)
fine_piece (by_mark table) m p ss h f = (word_at table (m % 256) h, tt)
fine_piece (flagged g w) m p ss h f = perhaps (eqb (m / g % 2) 0) w h
fine_piece (where_some i w) m p ss h f = perhaps (empty_slot (get_or ss i [])) w h
fine_piece (child i) m p ss h f = fine_joined (get_or ss i []) (slot_at ss i f)
fine_piece (children i w) m p ss h f = fine_separated w (get_or ss i []) h (slot_at ss i f)

fine_pieces : (qs : List Piece) (m p : ℕ) (ss : List (List (List Token))) → pieces_good qs ≡ true → FineSlots ss → Fine (pieces qs m p ss)
unfolding pieces pieces_good
fine_pieces [] m p ss h f = tt
fine_pieces (q ∷ qs) m p ss h f =
    let (x, y) = (and-eq-true_iff (piece_good q) (pieces_good qs)).0 h in
    fine_append (piece q m p ss) (pieces qs m p ss) (fine_piece q m p ss x f) (fine_pieces qs m p ss y f)

form_good : (k : ℕ) → pieces_good (form k) ≡ true
unfolding form
form_good k = look_good forms k all_forms

mutual
  unfolding write

  pub fine_write : (t : Tree) → Fine (write t)
  fine_write (infixed m p l r z) = fine_pieces (form 12) m p ((write l ∷ []) ∷ (write r ∷ []) ∷ []) (form_good 12) ((fine_write l, tt), ((fine_write r, tt), tt))
  fine_write (node k m p a b c d z) =
      fine_pieces (form k) m p (writes a ∷ writes b ∷ writes c ∷ writes d ∷ []) (form_good k) (fine_writes a, (fine_writes b, (fine_writes c, (fine_writes d, tt))))

  pub fine_writes : (us : Trees) → FineAll (writes us)
  fine_writes nil = tt
  fine_writes (t ▸ us) = (fine_write t, fine_writes us)

pub fine_statements : (us : Trees) → Fine (joined (writes us))
fine_statements us = fine_joined (writes us) (fine_writes us)

-- The tokens with EOF behind them.
abbrev pub ended : List Token → List Token
ended xs = xs ++ ((EOF, 0) ∷ [])

pub ended_length : (xs : List Token) → length (ended xs) ≡ length xs + 1
ended_length xs = length-append xs ((EOF, 0) ∷ [])

words_met : (at : ℕ) (xs : List Token) → Fine xs → words_good at (words (ended xs)) ≡ met
unfolding words_good need both
words_met at [] h = refl
words_met at (x ∷ []) (a, h) = rw a
words_met at (x ∷ y ∷ xs) (a, h) = rw (a, words_met (suc at) (y ∷ xs) h)

pub words_length : (xs : List Token) → length (words (ended xs)) ≡ length xs + 1
words_length [] = refl
words_length (x ∷ xs) = omega (arith, words_length xs)

pub array_met : (xs : List Token) → Fine xs → length (ended xs) ≤ longest → array_good (words (ended xs)) ≡ met
unfolding array_good need both
array_met xs h l =
    let n = words_length xs in
    let k = ended_length xs in
    let a : ltb 0 (length (words (ended xs))) ≡ true = lt-ltb 0 (length (words (ended xs))) (omega arith) in
    let c : leb (length (words (ended xs))) longest ≡ true = le-leb (length (words (ended xs))) longest (omega arith) in
    rw (a, c, words_met 0 xs h)

-- Each token stands where it was written.
pub stand : (xs : List Token) (pre ts : List ℕ) (n : ℕ) → length pre ≡ n → ts ≡ pre ++ words (ended xs) → Stood ts n xs (n + length xs) × (tok ts (n + length xs) ≡ EOF)
unfolding tok step
stand [] pre ts n e q = (omega arith, rw q (get_or_at pre EOF [] EOF (n + 0) (omega arith)))
stand (x ∷ xs) pre ts n e q =
    let long : n + 1 < length ts = omega (arith, ap length q, length-append pre (words (ended (x ∷ xs))), words_length xs) in
    let on = lt-ltb (n + 1) (length ts) long in
    let r : ts ≡ (pre ++ (x.0 ∷ [])) ++ words (ended xs) = q ∙ sym (append_assoc pre (x.0 ∷ []) (words (ended xs))) in
    let (h, k) = stand xs (pre ++ (x.0 ∷ [])) ts (n + 1) (omega (arith, length-append pre (x.0 ∷ []))) r in
    let z : n + length (x ∷ xs) ≡ n + 1 + length xs = omega arith in
    let t : get_or ts n EOF ≡ x.0 = rw q (get_or_at pre x.0 (words (ended xs)) EOF n e) in
    ((t, rw on (omega arith), rw (on, z) h), rw z k)

-- An array in which tokens stand from place 0 on, and then EOF.
pub record Array (ts : List ℕ) (xs : List Token) (end : ℕ) : Type 0 where
  pub checked : array_good ts ≡ met
  pub some : ltb 0 (length ts) ≡ true
  pub short : length ts ≤ turns
  pub inside : end < length ts
  pub stood : Stood ts 0 xs end
  pub eof : tok ts end ≡ EOF

-- What is written is one.
pub array : (xs : List Token) → Fine xs → length (ended xs) ≤ longest → Array (words (ended xs)) xs (length xs)
unfolding longest turns
array xs fine l =
    let n = words_length xs in
    let k = ended_length xs in
    let z : 0 + length xs ≡ length xs = omega arith in
    let (h, e) = stand xs [] (words (ended xs)) 0 refl refl in
    record {
      checked = array_met xs fine l;
      some = lt-ltb 0 (length (words (ended xs))) (omega arith);
      short = omega arith;
      inside = omega arith;
      stood = rw z at h;
      eof = rw z at e;
    }

-- What is written of a tree: good words, and EOF behind them.
pub record Ended (t : Tree) : Type 0 where
  pub before : List Token
  pub fine : Fine before
  pub same : written t ≡ ended before

pub ended_of : (t : Tree) → Ended t
unfolding written
ended_of (infixed m p l r z) = record { before = write (infixed m p l r z); fine = fine_write (infixed m p l r z); same = refl }
ended_of (node k m p x y z w n) = record { before = cond (eqb k 46) (joined (writes x)) (write (node k m p x y z w n)); fine = go (eqb k 46); same = refl }
  where
    go : (c : Bool) → Fine (cond c (joined (writes x)) (write (node k m p x y z w n)))
    go true = fine_statements x
    go false = fine_write (node k m p x y z w n)

last_of : (xs : List Token) → get_or (words (ended xs)) (length xs) 0 ≡ EOF
last_of [] = refl
last_of (x ∷ xs) = last_of xs

pub good_array : GoodArray
good_array t short = let record { before = xs; fine = f; same = e } = ended_of t in rw e (array_met xs f (rw e at short))

pub last_eof : LastEOF
last_eof t =
    let record { before = xs; fine = f; same = e } = ended_of t in
    let n = ended_length xs in
    let z : length (ended xs) - 1 ≡ length xs = omega arith in
    rw e (omega arith, rw z (last_of xs))
