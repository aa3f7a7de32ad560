-- The cursor, and what a word says of the loop of parse_expression: whether it goes on there, and above which orders.
use Prim.Native.Nat.{ℕ, zero, suc, ◌+◌, ◌-◌, ◌≤◌, ◌<◌}
use mathlib.Core.Path.{◌≡◌, refl, sym, ap, ◌∙◌}
use mathlib.Core.Bool.{Bool, true, false, cond, not, ◌&&◌, ◌||◌, and-eq-true_iff}
use mathlib.Core.List.{List, [], ◌∷◌}
use native.Mathlib.Omega.{arith}
use native.Mathlib.Decide.{dec_lt}
use lib.Dec.{eqb, ltb, leb}
use lib.ListN.{length, get_or}
use borrow.Author.Tests.{ltb-true, ltb-false, leb-true, eqb-true, ne_eqb, lt-ltb, le-ltb}
use Rattle.grammar.specs.Words.{Zero, Operator, EOF, SSemiColon, SIncr, SDecr, SLParen, SLBox, SDot, tok, step, class, code, by_code, orders}
use Rattle.grammar.specs.Words.{infixes, order, infix_of, operates, goes_on}
use Rattle.grammar.specs.Claims.{mark_orders, MarksOrder}

-- A step goes one on, or stays.
pub step_on : (ts : List ℕ) (at : ℕ) → at ≤ step ts at
unfolding step
step_on ts at = go (ltb (at + 1) (length ts))
  where
    go : (b : Bool) → at ≤ cond b (at + 1) at
    go true = omega arith
    go false = omega arith

-- A step goes no more than one on, and a later place has a later one behind it.
pub step_most : (ts : List ℕ) (at : ℕ) → step ts at ≤ at + 1
unfolding step
step_most ts at = go (ltb (at + 1) (length ts))
  where
    go : (b : Bool) → cond b (at + 1) at ≤ at + 1
    go true = omega arith
    go false = omega arith

pub step_up : (ts : List ℕ) (a b : ℕ) → a ≤ b → step ts a ≤ step ts b
step_up ts a b h = go (dec_lt a b)
  where
    go : Dec (a < b) → step ts a ≤ step ts b
    go (yes lt) = omega (arith, step_most ts a, step_on ts b)
    go (no ge) = let e : a ≡ b = omega arith in rw e (omega arith)

-- Where the word behind a place is another than the one there, it stands one on.
pub step_one : (ts : List ℕ) (at w : ℕ) → (tok ts at ≡ w → ⊥) → tok ts (step ts at) ≡ w → step ts at ≡ at + 1
unfolding step
step_one ts at w h = go (ltb (at + 1) (length ts))
  where
    go : (b : Bool) → tok ts (cond b (at + 1) at) ≡ w → cond b (at + 1) at ≡ at + 1
    go true e = refl
    go false e = absurd (h e)

-- The order of an infix operator, 0 for any other word.
abbrev pub infix_order : ℕ → ℕ
infix_order w = cond (ltb 0 (infix_of w)) (order w) 0

pub no_infix : (k w : ℕ) → infix_of k ≡ 0 → ltb 0 (infix_of w) ≡ true → eqb w k ≡ false
no_infix k w z h = ne_eqb w k (λ (e : w ≡ k). let q : infix_of w ≡ 0 = ap infix_of e ∙ z in omega (arith, ltb-true 0 (infix_of w) h))

-- The operators that the loop asks for by name are no infix operators, and neither is a dot or EOF.
pub record Others : Type 0 where
  pub semicolon : infix_of SSemiColon ≡ 0
  pub incr : infix_of SIncr ≡ 0
  pub decr : infix_of SDecr ≡ 0
  pub call : infix_of SLParen ≡ 0
  pub index : infix_of SLBox ≡ 0
  pub dot : infix_of SDot ≡ 0
  pub eof : infix_of EOF ≡ 0
  pub end : order EOF ≡ Zero

pub others : Others
unfolding infix_of order by_code infixes orders class code
others = record { semicolon = refl; incr = refl; decr = refl; call = refl; index = refl; dot = refl; eof = refl; end = refl }

-- Above which orders an infix operator goes on.
pub infix_goes_on : (pre w : ℕ) → ltb 0 (infix_of w) ≡ true → goes_on pre w ≡ ltb pre (order w)
unfolding goes_on operates
infix_goes_on pre w h = rw (no_infix SSemiColon w others.semicolon h, h) (whole (ltb pre (order w)))
  where
    whole : (b : Bool) → true && b && true ≡ b
    whole true = refl
    whole false = refl

pub halts : (pre w : ℕ) → goes_on pre w ≡ false → infix_order w ≤ pre
halts pre w e = go (ltb 0 (infix_of w)) refl
  where
    go : (b : Bool) → ltb 0 (infix_of w) ≡ b → cond b (order w) 0 ≤ pre
    go true h = ltb-false pre (order w) (sym (infix_goes_on pre w h) ∙ e)
    go false h = omega arith

-- A word of no higher order stops the loop.
low_stops : (pre w : ℕ) → order w ≤ pre → goes_on pre w ≡ false
unfolding goes_on
low_stops pre w h = rw (le-ltb pre (order w) h) (never (not (eqb w SSemiColon)) (operates w))
  where
    never : (a b : Bool) → a && false && b ≡ false
    never true b = refl
    never false b = refl

pub zero_stops : (pre w : ℕ) → order w ≡ Zero → goes_on pre w ≡ false
zero_stops pre w e = low_stops pre w (omega arith)

-- Where the loop stops, it stops above every higher order too.
pub goes_on_up : (pre pre' w : ℕ) → pre ≤ pre' → goes_on pre w ≡ false → goes_on pre' w ≡ false
unfolding goes_on
goes_on_up pre pre' w h e = go (ltb pre' (order w)) refl
  where
    go : (b : Bool) → ltb pre' (order w) ≡ b → not (eqb w SSemiColon) && b && operates w ≡ false
    go true q = rw (lt-ltb pre (order w) (omega (arith, ltb-true pre' (order w) q))) at e
    go false q = rw q at (low_stops pre' w (ltb-false pre' (order w) q))

-- Where the loop goes on and none of the other operators is there, an infix operator is.
pub goes : (pre w : ℕ) → goes_on pre w ≡ true → eqb w SIncr ≡ false → eqb w SDecr ≡ false → eqb w SLParen ≡ false → eqb w SLBox ≡ false
    → (0 < infix_of w) × (pre < order w)
unfolding goes_on operates
goes pre w h a b c d = go (ltb 0 (infix_of w)) refl
  where
    never : (x y : Bool) → x && y && (false || false || false || false || false) ≡ false
    never true true = refl
    never true false = refl
    never false true = refl
    never false false = refl

    go : (i : Bool) → ltb 0 (infix_of w) ≡ i → (0 < infix_of w) × (pre < order w)
    go true e = (ltb-true 0 (infix_of w) e, ltb-true pre (order w) (sym (infix_goes_on pre w e) ∙ h))
    go false e =
        let z : true ≡ false = sym h ∙ rw (e, a, b, c, d) (never (not (eqb w SSemiColon)) (ltb pre (order w))) in
        let n : ◌≡◌ {A = ℕ} 0 1 = cc in
        absurd (omega arith)

-- The tables agree: an infix operator has one of 23 marks, one of the orders 1 to 9, and the order of its mark.
fits : (i o : ℕ) → Bool
fits i o = leb i 23 && ltb 0 o && leb o 9 && eqb o (get_or mark_orders (i - 1) 0)

tables : List ℕ → List ℕ → Bool
tables [] os = true
tables (i ∷ is) [] = false
tables (i ∷ is) (o ∷ os) = (eqb i 0 || fits i o) && tables is os

pub record Infix (i o : ℕ) : Type 0 where
  pub mark : i ≤ 23
  pub least : 1 ≤ o
  pub most : o ≤ 9
  pub by_mark : o ≡ get_or mark_orders (i - 1) 0

entry : (i o : ℕ) → 0 < i → eqb i 0 || fits i o ≡ true → Infix i o
unfolding fits
entry i o h e =
    let z : eqb i 0 ≡ false = ne_eqb i 0 (λ q. omega arith) in
    let (abc, d) = (and-eq-true_iff (leb i 23 && ltb 0 o && leb o 9) (eqb o (get_or mark_orders (i - 1) 0))).0 (rw z at e) in
    let (ab, c) = (and-eq-true_iff (leb i 23 && ltb 0 o) (leb o 9)).0 abc in
    let (a, b) = (and-eq-true_iff (leb i 23) (ltb 0 o)).0 ab in
    record { mark = leb-true i 23 a; least = ltb-true 0 o b; most = leb-true o 9 c; by_mark = eqb-true o (get_or mark_orders (i - 1) 0) d }

entries : (is os : List ℕ) (k : ℕ) → tables is os ≡ true → 0 < get_or is k 0 → Infix (get_or is k 0) (get_or os k 0)
unfolding tables
entries [] os k e h = absurd (omega arith)
entries (i ∷ is) [] k e h = let n : ◌≡◌ {A = ℕ} 0 1 = cc in absurd (omega arith)
entries (i ∷ is) (o ∷ os) zero e h = entry i o h ((and-eq-true_iff (eqb i 0 || fits i o) (tables is os)).0 e).0
entries (i ∷ is) (o ∷ os) (suc k) e h = entries is os k ((and-eq-true_iff (eqb i 0 || fits i o) (tables is os)).0 e).1 h

pub infix_facts : (w : ℕ) → 0 < infix_of w → Infix (infix_of w) (order w)
unfolding infix_of order by_code infixes orders mark_orders fits tables
infix_facts w = go (eqb (class w) Operator)
  where
    go : (b : Bool) → 0 < cond b (get_or infixes (code w) 0) 0 → Infix (cond b (get_or infixes (code w) 0) 0) (cond b (get_or orders (code w) 0) 0)
    go true h = entries infixes orders (code w) refl h
    go false h = absurd (omega arith)

pub marks : MarksOrder
marks w mark i =
    let f = infix_facts w (omega arith) in
    let e : infix_of w - 1 ≡ mark = omega arith in
    (omega (arith, f.mark), rw e at f.by_mark)
