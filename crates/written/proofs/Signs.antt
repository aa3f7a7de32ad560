-- What the words of written forms are, and are not.
use Prim.Native.Nat.{ℕ, zero, suc, ◌-◌, ◌≤◌, ◌<◌}
use native.Mathlib.Omega.{arith}
use native.Mathlib.Decide.{dec_lt}
use mathlib.Core.Path.{◌≡◌, refl, sym, ◌∙◌}
use mathlib.Core.Bool.{Bool, true, false, not, ◌&&◌, ◌||◌, and-eq-true_iff}
use mathlib.Core.List.{List}
use lib.Dec.{eqb}
use lib.ListN.{length, get_or, get_or-eq_default}
use borrow.Author.Tests.{eqb-true, eqb-false, ne_eqb}
use Rattle.grammar.specs.Words.{EOF, Integer, Str, Float, Char, Identifier, SLParen, SRparen, SSemiColon, SComma, SLBrace, SRBrace}
use Rattle.grammar.specs.Words.{SIncr, SDecr, SLBox, SRBox, SImpl, SColon, SDot}
use Rattle.grammar.specs.Words.{KNone, KTrue, KFalse, KIn}
use Rattle.grammar.specs.Words.{tok, class, code, by_code, orders, infixes, Zero, order, infix_of, operates, goes_on}
use Rattle.grammar.specs.Tree.{Tree}
use Rattle.grammar.specs.Claims.{Value, an_identifier, an_integer, a_float, a_char, a_string, a_true, a_false, a_none}
use Rattle.grammar.proofs.Steps.{zero_stops, infix_facts}
use Rattle.written.specs.Written.{infix_signs}
use Rattle.written.specs.Claims.{SignsByMark}

-- The words behind an expression that end it.
pub data Closer : ℕ → Type 0 where
  by_rparen : Closer SRparen
  by_comma : Closer SComma
  by_rbox : Closer SRBox
  by_rbrace : Closer SRBrace
  by_colon : Closer SColon
  by_arrow : Closer SImpl
  by_in : Closer KIn
  by_brace : Closer SLBrace
  by_eof : Closer EOF

pub record Closes (w : ℕ) : Type 0 where
  pub dot : eqb w SDot ≡ false
  pub semi : eqb w SSemiColon ≡ false
  pub halts : (pre : ℕ) → goes_on pre w ≡ false

pub closes : {w : ℕ} → Closer w → Closes w
unfolding order by_code orders class code
closes by_rparen = record { dot = refl; semi = refl; halts = λ pre. zero_stops pre SRparen refl }
closes by_comma = record { dot = refl; semi = refl; halts = λ pre. zero_stops pre SComma refl }
closes by_rbox = record { dot = refl; semi = refl; halts = λ pre. zero_stops pre SRBox refl }
closes by_rbrace = record { dot = refl; semi = refl; halts = λ pre. zero_stops pre SRBrace refl }
closes by_colon = record { dot = refl; semi = refl; halts = λ pre. zero_stops pre SColon refl }
closes by_arrow = record { dot = refl; semi = refl; halts = λ pre. zero_stops pre SImpl refl }
closes by_in = record { dot = refl; semi = refl; halts = λ pre. zero_stops pre KIn refl }
closes by_brace = record { dot = refl; semi = refl; halts = λ pre. zero_stops pre SLBrace refl }
closes by_eof = record { dot = refl; semi = refl; halts = λ pre. zero_stops pre EOF refl }

-- The words that a written expression begins with.
abbrev pub starter : ℕ → Bool
starter w =
    eqb w Identifier || eqb w Integer || eqb w Float || eqb w Char || eqb w Str || eqb w KTrue || eqb w KFalse || eqb w KNone || eqb w SLBox || eqb w SLBrace || eqb w SLParen

pub value_starts : {w : ℕ} {made : ℕ → Tree} → Value w made → starter w ≡ true
value_starts an_identifier = refl
value_starts an_integer = refl
value_starts a_float = refl
value_starts a_char = refl
value_starts a_string = refl
value_starts a_true = refl
value_starts a_false = refl
value_starts a_none = refl

pub or_last : (c : Bool) → c || true ≡ true
or_last true = refl
or_last false = refl

pub differs : (P : ℕ → Bool) (w k : ℕ) → P w ≡ true → P k ≡ false → eqb w k ≡ false
differs P w k h e = ne_eqb w k (λ q. let a : P k ≡ true = rw q at h in let z : ◌≡◌ {A = ℕ} 0 1 = cc in omega arith)

-- The infix operators by their marks.
every : (ℕ → Bool) → ℕ → Bool
every f zero = true
every f (suc n) = every f n && f n

every_at : (f : ℕ → Bool) (n k : ℕ) → every f n ≡ true → k < n → f k ≡ true
unfolding every
every_at f zero k h l = absurd (omega arith)
every_at f (suc n) k h l = go (eqb k n) refl (every_at f n k ((and-eq-true_iff (every f n) (f n)).0 h).0)
  where
    go : (c : Bool) → eqb k n ≡ c → (k < n → f k ≡ true) → f k ≡ true
    go true q r = let z : k ≡ n = eqb-true k n q in rw z ((and-eq-true_iff (every f n) (f n)).0 h).1
    go false q r = let z : ¬ (k ≡ n) = eqb-false k n q in r (omega arith)

sign_good : ℕ → Bool
sign_good i = eqb (infix_of (get_or infix_signs i 0)) (suc i) && goes_on Zero (get_or infix_signs i 0)

pub record Operator (w i : ℕ) : Type 0 where
  pub mark : infix_of w ≡ suc i
  pub on : goes_on Zero w ≡ true
  pub dot : eqb w SDot ≡ false
  pub semi : eqb w SSemiColon ≡ false
  pub rparen : eqb w SRparen ≡ false
  pub incr : eqb w SIncr ≡ false
  pub decr : eqb w SDecr ≡ false
  pub call : eqb w SLParen ≡ false
  pub index : eqb w SLBox ≡ false

some_infix : ℕ → Bool
some_infix w = not (eqb (infix_of w) 0)

pub operator : (i : ℕ) → i < 23 → Operator (get_or infix_signs i 0) i
unfolding every sign_good some_infix infix_signs infix_of order by_code infixes orders class code goes_on operates
operator i h =
    let (a, b) = (and-eq-true_iff (eqb (infix_of (get_or infix_signs i 0)) (suc i)) (goes_on Zero (get_or infix_signs i 0))).0 (every_at sign_good 23 i refl h) in
    let w = get_or infix_signs i 0 in
    let e : infix_of w ≡ suc i = eqb-true (infix_of w) (suc i) a in
    let z : eqb (suc i) 0 ≡ false = ne_eqb (suc i) 0 (λ q. omega arith) in
    let s : some_infix w ≡ true = rw (e, z) in
    record {
      mark = e;
      on = b;
      dot = differs some_infix w SDot s refl;
      semi = differs some_infix w SSemiColon s refl;
      rparen = differs some_infix w SRparen s refl;
      incr = differs some_infix w SIncr s refl;
      decr = differs some_infix w SDecr s refl;
      call = differs some_infix w SLParen s refl;
      index = differs some_infix w SLBox s refl;
    }

-- The mark of an infix row.
pub infix_low : (w : ℕ) → infix_of w - 1 < 23
infix_low w = go (dec_lt 0 (infix_of w))
  where
    go : Dec (0 < infix_of w) → infix_of w - 1 < 23
    go (yes l) = omega (arith, (infix_facts w l).mark)
    go (no l) = omega arith

-- The other operators behind an operand.
pub record Goers : Type 0 where
  pub incr : goes_on Zero SIncr ≡ true
  pub decr : goes_on Zero SDecr ≡ true
  pub call : goes_on Zero SLParen ≡ true
  pub index : goes_on Zero SLBox ≡ true

pub goers : Goers
unfolding infix_of order by_code infixes orders class code goes_on operates
goers = record { incr = refl; decr = refl; call = refl; index = refl }

-- What is no EOF is inside the array.
pub inside : (ts : List ℕ) (w p : ℕ) → tok ts p ≡ w → eqb w EOF ≡ false → p < length ts
unfolding tok
inside ts w p e h = go (dec_lt p (length ts))
  where
    go : Dec (p < length ts) → p < length ts
    go (yes lt) = lt
    go (no ge) = let le : length ts ≤ p = omega arith in absurd (eqb-false w EOF h (sym e ∙ get_or-eq_default ts EOF le))

pub signs_by_mark : SignsByMark
signs_by_mark mark h = (operator mark h).mark
