-- Strings and numbers by the grammar of RFC 8259.
use mathlib.Core.Path.{◌≡◌, refl, sym, subst}
use mathlib.Core.Bool.{Bool, true, false, cond, and-eq-true_iff}
use mathlib.Core.List.{List, [], ◌∷◌, ◌++◌, append_assoc, append-nil}
use Prim.Native.Nat.{ℕ, ◌+◌, ◌-◌, ◌/◌, ◌%◌, ◌^◌, ◌≤◌, ◌<◌}
use native.Mathlib.Decide.{dec_lt, ℕ_discrete}
use native.Mathlib.Omega.{arith}
use lib.Dec.{ltb, leb}
use borrow.Author.Tests.{lt-ltb, le-ltb, leb-true, ne_eqb}
use Rattle.unicode_text.specs.Unicode.{scalar, encode, encoded}
use Rattle.unicode_text.specs.Claims.{Scalars}
use Rattle.unicode_text.specs.Claims as claims
use Rattle.unicode_text.proofs.Values.{encode_1, low_scalar}
use Rattle.lines.specs.Decimal.{decimal}
use Rattle.lines.proofs.Decimal.{decimal_low}
use Rattle.json_text.specs.Values.{signed, hex, escape, escaped, quoted}
use Rattle.json_text.specs.Rfc as rfc
use Rattle.json_text.proofs.Decimal.{Digits, First, first_of, plus, minus}

-- a hexadecimal digit
hexdig : (d : ℕ) → d < 16 → rfc.Hexdig (hex d)
unfolding hex
hexdig d h = go (dec_lt d 10)
  where
    go : Dec (d < 10) → rfc.Hexdig (hex d)
    go (yes l) = rw (lt-ltb d 10 l) (rfc.decimal {b = 48 + d} (omega arith) (omega arith))
    go (no l) = rw (le-ltb d 10 (omega arith)) (rfc.capital {b = 55 + d} (omega arith) (omega arith))

nought : rfc.Hexdig 48
nought = rfc.decimal {b = 48} (omega arith) (omega arith)

-- a character of ASCII, escaped where it must be
module _ (b : ℕ) (h : b < 0x80) where
  module _ (q : b ≡ 0x22 → ⊥) (s : b ≡ 0x5C → ⊥) where
    unescaped : 0x1F < b → rfc.Unescaped b
    unescaped l = go (dec_lt b 0x22) (dec_lt b 0x23) (dec_lt b 0x5C) (dec_lt b 0x5D)
      where
        go : Dec (b < 0x22) → Dec (b < 0x23) → Dec (b < 0x5C) → Dec (b < 0x5D) → rfc.Unescaped b
        go (yes k) d e f = rfc.first {c = b} (omega arith) (omega arith)
        go (no k) (yes d) e f = absurd (q (omega arith))
        go (no k) (no d) (yes e) f = rfc.second {c = b} (omega arith) (omega arith)
        go (no k) (no d) (no e) (yes f) = absurd (s (omega arith))
        go (no k) (no d) (no e) (no f) = rfc.third {c = b} (omega arith) (omega arith)

    plain : 0x1F < b → rfc.Char (escape b)
    unfolding escape
    plain l = rw (ne_eqb b 0x22 q, ne_eqb b 0x5C s, lt-ltb 0x1F b l) (subst rfc.Char (encode_1 b h) (rfc.plain {c = b} (unescaped l) (low_scalar b (omega arith))))

    control : b ≤ 0x1F → rfc.Char (escape b)
    unfolding escape
    control l = at_8 (ℕ_discrete b 8) (ℕ_discrete b 9) (ℕ_discrete b 10) (ℕ_discrete b 12) (ℕ_discrete b 13)
      where
        at_8 : Dec (b ≡ 8) → Dec (b ≡ 9) → Dec (b ≡ 10) → Dec (b ≡ 12) → Dec (b ≡ 13) → rfc.Char (escape b)
        at_8 (yes e) d9 d10 d12 d13 = rw e (rfc.short rfc.short_b)
        at_8 (no e8) (yes e) d10 d12 d13 = rw e (rfc.short rfc.short_t)
        at_8 (no e8) (no e9) (yes e) d12 d13 = rw e (rfc.short rfc.short_n)
        at_8 (no e8) (no e9) (no e10) (yes e) d13 = rw e (rfc.short rfc.short_f)
        at_8 (no e8) (no e9) (no e10) (no e12) (yes e) = rw e (rfc.short rfc.short_r)
        at_8 (no e8) (no e9) (no e10) (no e12) (no e13) =
            rw (ne_eqb b 0x22 q, ne_eqb b 0x5C s, le-ltb 0x1F b l, ne_eqb b 8 e8, ne_eqb b 9 e9, ne_eqb b 10 e10, ne_eqb b 12 e12, ne_eqb b 13 e13)
            (rfc.long nought nought (hexdig (b / 16) (omega arith)) (hexdig (b % 16) (omega arith)))

  char_escaped : rfc.Char (escape b)
  unfolding escape
  char_escaped = go (ℕ_discrete b 0x22) (ℕ_discrete b 0x5C) (dec_lt 0x1F b)
    where
      go : Dec (b ≡ 0x22) → Dec (b ≡ 0x5C) → Dec (0x1F < b) → rfc.Char (escape b)
      go (yes e) d f = rw e (rfc.short rfc.quote)
      go (no q) (yes e) f = rw e (rfc.short rfc.backslash)
      go (no q) (no s) (yes l) = plain q s l
      go (no q) (no s) (no l) = control q s (omega arith)

-- bytes of longer sequences are left as they are
abbrev pub High : List ℕ → Type 0
High [] = Unit {0}
High (b ∷ bs) = (0x80 ≤ b) × High bs

escaped_high : (bs : List ℕ) → High bs → escaped bs ≡ bs
unfolding escaped escape
escaped_high [] h = refl
escaped_high (b ∷ bs) (l, h) = rw (ne_eqb b 0x22 (λ e. omega arith), ne_eqb b 0x5C (λ e. omega arith), lt-ltb 0x1F b (omega arith), escaped_high bs h)

pub encode_high : (c : ℕ) → 0x80 ≤ c → High (encode c)
unfolding encode
encode_high c h = rw (le-ltb c 0x80 h) (go (ltb c 0x800) (ltb c 0x10000))
  where
    go : (t u : Bool) → High (cond t ((0xC0 + c / 64) ∷ (0x80 + c % 64) ∷ []) (cond u ((0xE0 + c / 4096) ∷ (0x80 + c / 64 % 64) ∷ (0x80 + c % 64) ∷ [])
        ((0xF0 + c / 262144) ∷ (0x80 + c / 4096 % 64) ∷ (0x80 + c / 64 % 64) ∷ (0x80 + c % 64) ∷ [])))
    go true u = (omega arith, (omega arith, tt))
    go false true = (omega arith, (omega arith, (omega arith, tt)))
    go false false = (omega arith, (omega arith, (omega arith, (omega arith, tt))))

pub escaped_append : (a b : List ℕ) → escaped (a ++ b) ≡ escaped a ++ escaped b
unfolding escaped
escaped_append [] b = refl
escaped_append (c ∷ a) b = rw (escaped_append a b) (sym (append_assoc (escape c) (escaped a) (escaped b)))

pub escaped_one : (c : ℕ) → escaped (c ∷ []) ≡ escape c
unfolding escaped
escaped_one c = append-nil (escape c)

char_of : (c : ℕ) → scalar c ≡ true → rfc.Char (escaped (encode c))
unfolding scalar
char_of c s = go (dec_lt c 0x80)
  where
    go : Dec (c < 0x80) → rfc.Char (escaped (encode c))
    go (yes h) = rw (encode_1 c h, escaped_one c) (char_escaped c h)
    go (no h) = rw (escaped_high (encode c) (encode_high c (omega arith)))
        (rfc.plain {c = c} (rfc.third {c = c} (omega arith) (leb-true c 0x10FFFF ((and-eq-true_iff (leb c 0x10FFFF) _).0 s).0)) s)

chars_of : (cs : List ℕ) → Scalars cs → rfc.Chars (escaped (encoded cs))
unfolding encoded escaped
chars_of [] s = rfc.no_chars
chars_of (c ∷ cs) (s, ss) = rw (escaped_append (encode c) (encoded cs)) (rfc.more_chars (char_of c s) (chars_of cs ss))

-- The quoted bytes of a text are a string.
pub string_of : (bytes : List ℕ) → claims.Text bytes → rfc.String (quoted bytes)
unfolding quoted
string_of bytes t = rfc.string (subst (λ bs. rfc.Chars (escaped bs)) t.bytes_of (chars_of t.values t.scalars))

-- Texts: the bytes of one character, ASCII
pub char_text : (c : ℕ) → scalar c ≡ true → claims.Text (encode c)
unfolding encoded
char_text c s = record { values = c ∷ []; scalars = (s, tt); bytes_of = append-nil (encode c) }

abbrev pub Ascii : List ℕ → Type 0
Ascii [] = Unit {0}
Ascii (b ∷ bs) = (b < 0x80) × Ascii bs

ascii_encoded : (bs : List ℕ) → Ascii bs → encoded bs ≡ bs
unfolding encoded
ascii_encoded [] h = refl
ascii_encoded (b ∷ bs) (l, h) = rw (encode_1 b l, ascii_encoded bs h)

ascii_scalars : (bs : List ℕ) → Ascii bs → Scalars bs
ascii_scalars [] h = tt
ascii_scalars (b ∷ bs) (l, h) = (low_scalar b (omega arith), ascii_scalars bs h)

pub ascii_text : (bs : List ℕ) → Ascii bs → claims.Text bs
ascii_text bs h = record { values = bs; scalars = ascii_scalars bs h; bytes_of = ascii_encoded bs h }

-- numbers
digits_are : (ds : List ℕ) → Digits ds → rfc.Digits ds
digits_are [] h = rfc.no_digits
digits_are (d ∷ ds) (a, b, h) = rfc.more_digits (rfc.digit {b = d} a b) (digits_are ds h)

int_of : (n : ℕ) → rfc.Int (decimal n)
int_of n = go (ℕ_discrete n 0) (first_of n)
  where
    go : Dec (n ≡ 0) → First n → rfc.Int (decimal n)
    go (yes e) f = rw (e, decimal_low 0 (omega arith)) rfc.zero
    go (no e) f = rw f.whole (rfc.from_1 {b = f.first} (f.leading (omega arith)) f.high (digits_are f.rest f.others))

pub number_of : (n : ℕ) → rfc.Number (decimal n)
number_of n = subst rfc.Number (append-nil (decimal n)) (rfc.number rfc.unsigned (int_of n) rfc.no_frac rfc.no_exp)

pub signed_of : (n : ℕ) → rfc.Number (signed n)
signed_of n = go (dec_lt n (2 ^ 63))
  where
    go : Dec (n < 2 ^ 63) → rfc.Number (signed n)
    go (yes h) = rw (plus n h) (number_of n)
    go (no h) =
        rw (minus n (omega arith))
        (subst (λ ds. rfc.Number (45 ∷ ds)) (append-nil (decimal (2 ^ 64 - n))) (rfc.number rfc.minus (int_of (2 ^ 64 - n)) rfc.no_frac rfc.no_exp))
