-- The numbers of pieces: the table of the forms, by one test that is computed, and what each number stands for.
use Prim.Native.Nat.{ℕ, zero, suc, ◌+◌, ◌*◌, ◌-◌, ◌/◌, ◌%◌, ◌^◌, ◌≤◌, ◌<◌}
use native.Mathlib.Nat.{zero-div, eq-or-lt_of_le, le_of_suc-le-suc, not-suc-le-zero}
use native.Mathlib.Omega.{arith}
use mathlib.Core.Path.{◌≡◌, refl, ap, sym, ◌∙◌}
use mathlib.Core.Bool.{Bool, true, false, cond}
use mathlib.Core.List.{List, [], ◌∷◌, map}
use mathlib.Core.Logic.{⊎_elim}
use lib.Dec.{eqb, ltb}
use lib.ListN.{length, get_or, drop, drop_of_length-le, get_or-eq_default}
use borrow.Author.Tests.{eqb-true, eq-eqb, ne_eqb, ltb-true, ltb-false, lt-ltb, le-ltb}
use Rattle.slots.proofs.Either.{less_or}
use Rattle.tokens.specs.declared.Token.{Token}
use Rattle.tokens.specs.Tokens.{token, word}
use Rattle.tokens.proofs.Tests.{below, under}
use Rattle.grammar.specs.Words.{class, code, SComma, SDot}
use Rattle.rows.specs.Rows.{read}
use Rattle.written.specs.Written.{Piece, sign, payload, by_mark, flagged, where_some, child, children, form, forms, look, infix_signs, piece, empty_slot}
use Rattle.writer.specs.Codes.{low, coded, encoded, sign_word, decoded, spelled, shape, word_for, behind}
use Rattle.writer.specs.Walk.{Moved, Done, some_of, filled, text, into, along, onward, does, done}
use Rattle.writer.specs.declared.pieces.Act.TheVariants as act
use Rattle.writer.proofs.Shapes.{few_pieces}

-- the numbers below one, the highest first
abbrev pub range : ℕ → List ℕ
range zero = []
range (suc n) = n ∷ range n

-- two functions that give the same lists of values agree
pub map_at : {A : Type 0} (f g : ℕ → A) (n : ℕ) → map f (range n) ≡ map g (range n) → (k : ℕ) → k < n → f k ≡ g k
map_at f g zero e k h = absurd (not-suc-le-zero h)
map_at f g (suc n) e k h =
    let head : f n ≡ g n = cc in
    let rest : map f (range n) ≡ map g (range n) = cc in
    ⊎_elim (λ x. rw x head) (λ x. map_at f g n rest k x) (eq-or-lt_of_le (le_of_suc-le-suc h))

abbrev pub byte : ℕ → ℕ → ℕ
byte x j = x / (2 ^ (8 * j)) % 256

right : map (λ k. map (λ j. drop j (shape k)) (range 8)) (range 47)
    ≡ map (λ k. map (λ j. spelled (byte (encoded (shape k)) j) (drop (j + 1) (shape k))) (range 8)) (range 47)
unfolding encoded coded shape form forms look spelled decoded low sign_word token class code infix_signs
right = refl

spelled_at : (k j : ℕ) → k < 47 → j < 8 → drop j (shape k) ≡ spelled (byte (encoded (shape k)) j) (drop (j + 1) (shape k))
spelled_at k j hk hj =
    map_at (λ j. drop j (shape k)) (λ j. spelled (byte (encoded (shape k)) j) (drop (j + 1) (shape k))) 8
    (map_at (λ k. map (λ j. drop j (shape k)) (range 8)) (λ k. map (λ j. spelled (byte (encoded (shape k)) j) (drop (j + 1) (shape k))) (range 8)) 47 right k hk)
    j hj

pub no_shape : (k : ℕ) → 46 < k → shape k ≡ []
unfolding shape
no_shape k h = rw (ne_eqb k 0 (λ z. omega arith), le-ltb k 47 (omega arith))

gaps : map (λ i. shape (20 + i)) (range 12) ≡ map (λ i. []) (range 12)
unfolding shape form forms look
gaps = refl

pub gap_shape : (k : ℕ) → 20 ≤ k → k < 32 → shape k ≡ []
gap_shape k l h =
    let e : 20 + (k - 20) ≡ k = omega arith in
    let z : shape (20 + (k - 20)) ≡ [] = map_at (λ i. shape (20 + i)) (λ i. []) 12 gaps (k - 20) (omega arith) in
    rw e at z

-- no kind
pub no_form : (k : ℕ) → 20 ≤ k → (32 ≤ k → 47 ≤ k) → 0 ≡ encoded (shape k)
unfolding encoded
no_form k l m = rw (⊎_elim (λ h. gap_shape k l h) (λ h. no_shape k (m h)) (less_or k 32))

pub short : (k : ℕ) → length (shape k) ≤ 8
short k = go (ltb k 47) refl
  where
    go : (b : Bool) → ltb k 47 ≡ b → length (shape k) ≤ 8
    go true e = few_pieces k (ltb-true k 47 e)
    go false e = rw (no_shape k (omega (arith, ltb-false k 47 e))) (omega arith)

pub spelled_none : (qs : List Piece) → spelled 0 qs ≡ []
unfolding spelled
spelled_none qs = refl

pub spelled_some : (b : ℕ) (qs : List Piece) → (b ≡ 0 → ⊥) → spelled b qs ≡ decoded b ∷ qs
unfolding spelled
spelled_some b qs n = rw (ne_eqb b 0 n)

pub past_end : (k j : ℕ) → (shape k ≡ []) → drop j (shape k) ≡ []
past_end k j e = drop_of_length-le (shape k) {i = j} (rw e (omega arith))

pub past_eight : (k j : ℕ) → 8 ≤ j → drop j (shape k) ≡ []
past_eight k j h = drop_of_length-le (shape k) {i = j} (let x = short k in omega arith)

-- the pieces of a kind by the bytes of its form
pub form_spells : (k j : ℕ) → j < 8 → drop j (shape k) ≡ spelled (byte (encoded (shape k)) j) (drop (j + 1) (shape k))
unfolding encoded
form_spells k j h = ⊎_elim (λ l. spelled_at k j l h) (λ l. let e = no_shape k l in rw (past_end k j e, past_end k (j + 1) e, e, zero-div (2 ^ (8 * j)), spelled_none)) (less_or k 47)

-- the search for a slot's piece
behind_none : (k : ℕ) → behind [] k ≡ 0
unfolding behind
behind_none k = refl

behind_here : (q : Piece) (qs : List Piece) (k : ℕ) → word_for q ≡ k → behind (q ∷ qs) k ≡ 1
unfolding behind
behind_here q qs k e = rw (eq-eqb (word_for q) k e)

behind_later : (q : Piece) (qs : List Piece) (k : ℕ) → (word_for q ≡ k → ⊥) → behind (q ∷ qs) k ≡ suc (behind qs k)
unfolding behind
behind_later q qs k n = rw (ne_eqb (word_for q) k n)

module _ (s : List Piece) (k j b : ℕ) (d : drop j s ≡ spelled b (drop (j + 1) s)) (i : behind s k ≡ j + behind (drop j s) k) where
  pub search_ends : b ≡ 0 → j ≡ behind s k
  search_ends z =
      let e : behind (drop j s) k ≡ 0 = ap (λ x. behind x k) (d ∙ rw z (spelled_none _)) ∙ behind_none k in
      omega arith

  pub search_finds : (b ≡ 0 → ⊥) → word_for (decoded b) ≡ k → j + 1 ≡ behind s k
  search_finds n f =
      let e : behind (drop j s) k ≡ 1 = ap (λ x. behind x k) (d ∙ spelled_some b _ n) ∙ behind_here (decoded b) _ k f in
      omega arith

  pub search_on : (b ≡ 0 → ⊥) → (word_for (decoded b) ≡ k → ⊥) → behind s k ≡ j + 1 + behind (drop (j + 1) s) k
  search_on n f =
      let e : behind (drop j s) k ≡ suc (behind (drop (j + 1) s) k) = ap (λ x. behind x k) (d ∙ spelled_some b _ n) ∙ behind_later (decoded b) _ k f in
      omega arith

pub search_over : (kind k j : ℕ) → behind (shape kind) k ≡ j + behind (drop j (shape kind)) k → j ≤ 8 → 8 ≤ j → 8 ≡ behind (shape kind) k
search_over kind k j i l h =
    let e : behind (drop j (shape kind)) k ≡ 0 = ap (λ x. behind x k) (past_eight kind j h) ∙ behind_none k in
    omega arith

-- what a number stands for
low_words : below (λ b. eqb (word_for (get_or low b (sign 0))) 0) 16 ≡ true
unfolding low word_for
low_words = refl

pub low_decoded : (b : ℕ) → b < 16 → decoded b ≡ get_or low b (sign 0)
unfolding decoded
low_decoded b h = rw (lt-ltb b 16 h)

pub low_word : (b : ℕ) → b < 16 → word_for (decoded b) ≡ 0
low_word b h = ap word_for (low_decoded b h) ∙ eqb-true _ 0 (under (λ b. eqb (word_for (get_or low b (sign 0))) 0) 16 low_words b h)

pub slot_word : (b : ℕ) → 16 ≤ b → b < 64 → word_for (decoded b) ≡ 3 + b % 4
unfolding decoded word_for
slot_word b l h = rw (le-ltb b 16 l, lt-ltb b 64 h) (go (ltb b 20) (ltb b 24))
  where
    go : (x y : Bool) → word_for (cond x (child (b % 4)) (cond y (children (b % 4) SComma) (children (b % 4) SDot))) ≡ 3 + b % 4
    go true y = refl
    go false true = refl
    go false false = refl

pub sign_decoded : (b : ℕ) → 64 ≤ b → decoded b ≡ sign (word (token (sign_word b)))
unfolding decoded
sign_decoded b h = rw (le-ltb b 16 (omega arith), le-ltb b 20 (omega arith), le-ltb b 24 (omega arith), le-ltb b 64 (omega arith))

pub sign_no_word : (b : ℕ) → 64 ≤ b → word_for (decoded b) ≡ 0
unfolding word_for
sign_no_word b h = rw (sign_decoded b h)

-- what the pieces do
pub mark_done : (pool : List ℕ) (r b : ℕ) (table : List ℕ) (t : Token) (x : ℕ) → decoded b ≡ by_mark table → word t ≡ get_or table (x % 256) 0 → x ≡ read pool r 1
    → done (act.Put t 0) ≡ does pool r (decoded b)
unfolding does text piece word_for
mark_done pool r b table t x e w g = rw (e, w, g)

pub payload_done : (pool : List ℕ) (r b : ℕ) (t : Token) (x : ℕ) → decoded b ≡ payload (b * 256) → word t ≡ b * 256 → x ≡ read pool r 2
    → done (act.Put t x) ≡ does pool r (decoded b)
unfolding does text piece word_for
payload_done pool r b t x e w g = rw (e, w, g)

payloads : map (λ i. get_or low (3 + i) (sign 0)) (range 5) ≡ map (λ i. payload ((3 + i) * 256)) (range 5)
unfolding low
payloads = refl

payload_words : below (λ i. eqb (word (token ((3 + i) * 256))) ((3 + i) * 256)) 5 ≡ true
unfolding token class code
payload_words = refl

pub payload_number : (b : ℕ) → 3 ≤ b → b < 8 → (decoded b ≡ payload (b * 256)) × (word (token (b * 256)) ≡ b * 256)
payload_number b l h =
    let i = b - 3 in
    let e : 3 + i ≡ b = omega arith in
    let p : get_or low (3 + i) (sign 0) ≡ payload ((3 + i) * 256) = map_at (λ i. get_or low (3 + i) (sign 0)) (λ i. payload ((3 + i) * 256)) 5 payloads i (omega arith) in
    let w : word (token ((3 + i) * 256)) ≡ (3 + i) * 256 =
    eqb-true _ _ (under (λ i. eqb (word (token ((3 + i) * 256))) ((3 + i) * 256)) 5 payload_words i (omega arith)) in
    (low_decoded b (omega arith) ∙ (rw e at p), rw e at w)

pub flag_done : (pool : List ℕ) (r b f w x : ℕ) (d : List (ℕ × ℕ) × ℕ) → decoded b ≡ flagged f w → x ≡ read pool r 1 / f % 2 → d ≡ (cond (eqb x 0) [] ((w, 0) ∷ []), 0)
    → d ≡ does pool r (decoded b)
unfolding does text piece word_for
flag_done pool r b f w x d e g h = h ∙ rw (e, g)

some_empty : (c : ℕ) → empty_slot (some_of c) ≡ eqb c 0
unfolding some_of empty_slot
some_empty c = go (eqb c 0)
  where
    go : (b : Bool) → empty_slot (cond b [] ([] ∷ [])) ≡ b
    go true = refl
    go false = refl

pub some_done : (pool : List ℕ) (r b i w x : ℕ) (d : List (ℕ × ℕ) × ℕ) → decoded b ≡ where_some i w → get_or (filled pool r) i [] ≡ some_of x
    → d ≡ (cond (eqb x 0) [] ((w, 0) ∷ []), 0) → d ≡ does pool r (decoded b)
unfolding does text piece word_for
some_done pool r b i w x d e g h = h ∙ rw (e, g, some_empty x)

pub sign_done : (pool : List ℕ) (r b : ℕ) (t : Token) → 64 ≤ b → t ≡ token (sign_word b) → done (act.Put t 0) ≡ does pool r (decoded b)
unfolding does text piece word_for
sign_done pool r b t h e = rw (sign_decoded b h, e)

-- what comes after a piece, by what it does
module _ (pool : List ℕ) (r j b : ℕ) (qs rest : List Piece) (d : qs ≡ spelled b rest) (n : b ≡ 0 → ⊥) where
  on : onward pool r j qs ≡ cond (eqb (word_for (decoded b)) 0) (text pool r (decoded b), r, j + 1) (into pool r j (word_for (decoded b)))
  unfolding onward
  on = rw (d ∙ spelled_some b rest n)

  pub after_text : (ts : List (ℕ × ℕ)) → ◌≡◌ {A = Done} (ts, 0) (does pool r (decoded b)) → ◌≡◌ {A = Moved} (ts, r, j + 1) (onward pool r j qs)
  unfolding does
  after_text ts e = rw on (go (eqb (word_for (decoded b)) 0) e)
    where
      go : (z : Bool) → ◌≡◌ {A = Done} (ts, 0) (cond z (text pool r (decoded b), 0) ([], suc (word_for (decoded b))))
          → ◌≡◌ {A = Moved} (ts, r, j + 1) (cond z (text pool r (decoded b), r, j + 1) (into pool r j (word_for (decoded b))))
      go true e = ap {A = Done} (λ x. (x.0, r, j + 1)) e
      go false e = let z : ◌≡◌ {A = ℕ} 0 (suc (word_for (decoded b))) = ap {A = Done} (λ x. x.1) e in absurd (omega arith)

  pub after_slot : (k : ℕ) → ◌≡◌ {A = Done} ([], suc k) (does pool r (decoded b)) → into pool r j k ≡ onward pool r j qs
  unfolding does
  after_slot k e = rw on (go (eqb (word_for (decoded b)) 0) e)
    where
      go : (z : Bool) → ◌≡◌ {A = Done} ([], suc k) (cond z (text pool r (decoded b), 0) ([], suc (word_for (decoded b))))
          → into pool r j k ≡ cond z (text pool r (decoded b), r, j + 1) (into pool r j (word_for (decoded b)))
      go true e = let z : ◌≡◌ {A = ℕ} (suc k) 0 = ap {A = Done} (λ x. x.1) e in absurd (omega arith)
      go false e = let z : suc k ≡ suc (word_for (decoded b)) = ap {A = Done} (λ x. x.1) e in let y : k ≡ word_for (decoded b) = omega arith in rw y

pub after_last : (pool : List ℕ) (r j b : ℕ) (qs rest : List Piece) → qs ≡ spelled b rest → b ≡ 0 → along pool r ≡ onward pool r j qs
unfolding onward
after_last pool r j b qs rest d z =
    let e : qs ≡ [] = rw z at d ∙ spelled_none rest in
    rw e

pub slot_done : (pool : List ℕ) (r b k : ℕ) → 16 ≤ b → b < 64 → k ≡ word_for (decoded b) → done (act.Slot k) ≡ does pool r (decoded b)
unfolding does
slot_done pool r b k l h e = rw (e, ne_eqb (word_for (decoded b)) 0 (λ z. omega (arith, slot_word b l h)))

-- a list has nothing behind its end
pub past : (xs : List ℕ) (k : ℕ) → length xs ≤ k → 0 ≡ get_or xs k 0
past xs k h = sym (get_or-eq_default xs 0 h)

pub div_one : (x : ℕ) → x / 1 ≡ x
div_one x = omega arith
