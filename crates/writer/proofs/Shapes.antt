-- The forms of all kinds, by tests that are computed: each slot is one of the kind's and stands once, and its sign goes with its kinds.
use Prim.Native.Nat.{ℕ, zero, suc, ◌+◌, ◌-◌, ◌≤◌, ◌<◌}
use native.Mathlib.Nat.{eq-or-lt_of_le}
use native.Mathlib.Omega.{arith}
use mathlib.Core.Path.{◌≡◌, refl, ap, ◌∙◌}
use mathlib.Core.Bool.{Bool, true, false, cond, ◌&&◌, ◌||◌, and-eq-true_iff}
use mathlib.Core.List.{List, [], ◌∷◌}
use mathlib.Core.Logic.{⊎_elim}
use lib.Dec.{eqb, ltb, leb}
use lib.ListN.{length, drop}
use borrow.Author.Tests.{eqb-true, leb-true}
use Rattle.grammar.specs.Words.{SComma, SDot}
use Rattle.slots.specs.Slots.{Takes, expressions, statements, blocks, pairs, names, plain-identifier, any-root, Many, no, one, at_most_one, any, some, slot, kind_of, of_expressions, of_statements}
use Rattle.written.specs.Written.{Piece, sign, payload, by_mark, flagged, where_some, child, children, form, forms, look}
use Rattle.writer.specs.Codes.{shape, word_for, behind}
use Rattle.tokens.proofs.Tests.{below, under}

-- The kind that has a shape: the shape 0 is that of a root block.
abbrev pub real : ℕ → ℕ
real k = cond (eqb k 0) 46 k

abbrev pub single : Many → Bool
single no = true
single one = true
single at_most_one = true
single any = false
single some = false

abbrev pub are_statements : Takes → Bool
are_statements statements = true
are_statements expressions = false
are_statements blocks = false
are_statements pairs = false
are_statements names = false
are_statements plain-identifier = false
are_statements any-root = false

abbrev pub sign_between : Takes → ℕ
sign_between expressions = SComma
sign_between pairs = SComma
sign_between names = SDot
sign_between statements = 0
sign_between blocks = 0
sign_between plain-identifier = 0
sign_between any-root = 0

-- A slot's piece goes with the kind: a list of statements has no sign between, every other has that of its kinds.
abbrev pub fair : ℕ → Piece → Bool
fair k (sign w) = true
fair k (payload w) = true
fair k (by_mark table) = true
fair k (flagged f w) = true
fair k (where_some i w) = true
fair k (child i) = ltb i 4 && (single (slot k i).many || are_statements (slot k i).kinds)
fair k (children i w) = ltb i 4 && ltb 0 w && eqb (sign_between (slot k i).kinds) w

-- The pieces from place j on are fair, and each that is a slot's is the one that is found for its word.
abbrev stands : (kind : ℕ) (all : List Piece) (j : ℕ) → List Piece → Bool
stands k all j [] = true
stands k all j (q ∷ qs) = fair k q && (eqb (word_for q) 0 || eqb (behind all (word_for q)) (suc j)) && stands k all (suc j) qs

-- The words of the slots rise from l on.
abbrev pub rising : (l : ℕ) → List Piece → Bool
rising l [] = true
rising l (q ∷ qs) = cond (eqb (word_for q) 0) (rising l qs) (leb l (word_for q) && leb (word_for q) 6 && rising (suc (word_for q)) qs)

abbrev right : ℕ → Bool
right k = stands (real k) (shape k) 0 (shape k) && rising 3 (shape k) && leb (length (shape k)) 8

all_right : below right 47 ≡ true
unfolding shape word_for behind slot kind_of of_expressions of_statements form forms look
all_right = refl

-- What is known of a piece of a shape.
pub record Piece-at (k j : ℕ) (q : Piece) : Type 0 where
  pub is_fair : fair (real k) q ≡ true
  pub found : (word_for q ≡ 0 → ⊥) → behind (shape k) (word_for q) ≡ suc j

or_right : (a b : Bool) → (a || b) ≡ true → (a ≡ true → ⊥) → b ≡ true
or_right true b h n = absurd (n refl)
or_right false b h n = h

piece_of : (k : ℕ) (all : List Piece) (i : ℕ) (qs : List Piece) (j : ℕ) (q : Piece) (rest : List Piece) → stands k all i qs ≡ true → drop j qs ≡ q ∷ rest
    → (fair k q ≡ true) × ((word_for q ≡ 0 → ⊥) → behind all (word_for q) ≡ suc (i + j)) × (drop (suc j) qs ≡ rest)
piece_of k all i [] zero q rest h e = let z : ◌≡◌ {A = ℕ} 0 1 = cc in absurd (omega arith)
piece_of k all i [] (suc j) q rest h e = let z : ◌≡◌ {A = ℕ} 0 1 = cc in absurd (omega arith)
piece_of k all i (p ∷ ps) zero q rest h e =
    let pq : p ≡ q = cc in
    let pr : ps ≡ rest = cc in
    let (ab, c) = (and-eq-true_iff (fair k p && (eqb (word_for p) 0 || eqb (behind all (word_for p)) (suc i))) (stands k all (suc i) ps)).0 h in
    let (a, b) = (and-eq-true_iff (fair k p) (eqb (word_for p) 0 || eqb (behind all (word_for p)) (suc i))).0 ab in
    rw (← pq, ← pr) (a, (λ n. eqb-true _ _ (or_right (eqb (word_for p) 0) _ b (λ z. n (eqb-true _ 0 z))) ∙ omega arith), refl)
piece_of k all i (p ∷ ps) (suc j) q rest h e =
    let (ab, c) = (and-eq-true_iff (fair k p && (eqb (word_for p) 0 || eqb (behind all (word_for p)) (suc i))) (stands k all (suc i) ps)).0 h in
    let (x, y, z) = piece_of k all (suc i) ps j q rest c e in
    (x, (λ n. y n ∙ omega arith), z)

module _ (k : ℕ) (h : k < 47) where
  parts : (stands (real k) (shape k) 0 (shape k) ≡ true) × (rising 3 (shape k) ≡ true) × (leb (length (shape k)) 8 ≡ true)
  parts =
      let (ab, c) = (and-eq-true_iff (stands (real k) (shape k) 0 (shape k) && rising 3 (shape k)) (leb (length (shape k)) 8)).0 (under right 47 all_right k h) in
      let (a, b) = (and-eq-true_iff (stands (real k) (shape k) 0 (shape k)) (rising 3 (shape k))).0 ab in
      (a, b, c)

  pub at_piece : (j : ℕ) (q : Piece) (rest : List Piece) → drop j (shape k) ≡ q ∷ rest → Piece-at k j q × (drop (suc j) (shape k) ≡ rest)
  at_piece j q rest e =
      let (x, y, z) = piece_of (real k) (shape k) 0 (shape k) j q rest parts.0 e in
      (record { is_fair = x; found = λ n. y n ∙ omega arith }, z)

  pub rises : rising 3 (shape k) ≡ true
  rises = parts.1

  pub few_pieces : length (shape k) ≤ 8
  few_pieces = leb-true _ _ parts.2

behind_in : (qs : List Piece) (k : ℕ) → behind qs k ≤ length qs
unfolding behind
behind_in [] k = omega arith
behind_in (q ∷ qs) k = go (eqb (word_for q) k) (behind_in qs k)
  where
    go : (b : Bool) → behind qs k ≤ length qs → cond b 1 (suc (behind qs k)) ≤ suc (length qs)
    go true h = omega arith
    go false h = omega arith

-- The piece behind a slot is one of the form's, or its end.
pub behind_few : (k w : ℕ) → k < 47 → behind (shape k) w ≤ 8
behind_few k w h = let x = behind_in (shape k) w in let y = few_pieces k h in omega arith

-- What the slots of pieces weigh.
abbrev pub weigh : (ℕ → ℕ) → List Piece → ℕ
weigh f [] = 0
weigh f (q ∷ qs) = f (word_for q) + weigh f qs

-- The weights of so many words from l on.
abbrev pub span : (l count : ℕ) → (ℕ → ℕ) → ℕ
span l zero f = 0
span l (suc c) f = f l + span (suc l) c f

span_later : (l c k d : ℕ) (f : ℕ → ℕ) → l + c ≡ 7 → k + d ≡ 7 → l ≤ k → span k d f ≤ span l c f
span_later l zero k zero f e g h = omega arith
span_later l zero k (suc d) f e g h = absurd (omega arith)
span_later l (suc c) k d f e g h =
    ⊎_elim
    (λ x. let y : d ≡ suc c = omega arith in rw (← x, y) (omega arith))
    (λ x. let y = span_later (suc l) c k d f (omega arith) g x in omega arith)
    (eq-or-lt_of_le h)

weighed : (f : ℕ → ℕ) (qs : List Piece) (l c : ℕ) → f 0 ≡ 0 → l + c ≡ 7 → rising l qs ≡ true → weigh f qs ≤ span l c f
weighed f [] l c z e h = omega arith
weighed f (q ∷ qs) l c z e h = go (eqb (word_for q) 0) refl h (λ l c e h. weighed f qs l c z e h)
  where
    go : (b : Bool) → eqb (word_for q) 0 ≡ b → cond b (rising l qs) (leb l (word_for q) && leb (word_for q) 6 && rising (suc (word_for q)) qs) ≡ true
        → ((l c : ℕ) → l + c ≡ 7 → rising l qs ≡ true → weigh f qs ≤ span l c f) → f (word_for q) + weigh f qs ≤ span l c f
    go true b y rec =
        let x = rec l c e y in
        let none : f (word_for q) ≡ 0 = ap f (eqb-true (word_for q) 0 b) ∙ z in
        omega arith
    go false b y rec =
        let k = word_for q in
        let (ab, r) = (and-eq-true_iff (leb l k && leb k 6) (rising (suc k) qs)).0 y in
        let (low, high) = (and-eq-true_iff (leb l k) (leb k 6)).0 ab in
        let lo : l ≤ k = leb-true _ _ low in
        let hi : k ≤ 6 = leb-true _ _ high in
        let x = rec (suc k) (6 - k) (omega arith) r in
        let s = span_later l c k (suc (6 - k)) f e (omega arith) lo in
        omega arith

-- No shape's slots weigh more than all four words together.
pub shape_weighs : (f : ℕ → ℕ) (k : ℕ) → k < 47 → f 0 ≡ 0 → weigh f (shape k) ≤ f 3 + (f 4 + (f 5 + (f 6 + 0)))
shape_weighs f k h z = weighed f (shape k) 3 4 z refl (rises k h)
