-- What holds of the pieces of JSON texts by the grammar of RFC 8259, and of lists behind one another, holds of JSON texts.
use mathlib.Core.Path.{◌≡◌}
use mathlib.Core.Bool.{true}
use mathlib.Core.List.{List, [], ◌∷◌, ◌++◌}
use Prim.Native.Nat.{ℕ, ◌≤◌, ◌<◌}
use native.Mathlib.Omega.{arith}
use Rattle.unicode_text.specs.Unicode.{scalar, encode}
use Rattle.json_text.specs.Rfc as rfc

-- A byte that stands for itself: ASCII without control characters, but for the spaces.
pub data Plain : ℕ → Type 0 where
  printed : {b : ℕ} → 0x20 ≤ b → b < 0x80 → Plain b
  tab : Plain 0x09
  line : Plain 0x0A
  return : Plain 0x0D

module _ (P : List ℕ → Type 0) (empty : P []) (join : (a b : List ℕ) → P a → P b → P (a ++ b)) (byte : (b : ℕ) → Plain b → P (b ∷ []))
    (plain : (c : ℕ) → rfc.Unescaped c → scalar c ≡ true → P (encode c)) where
  infixr 60 ◌then◌
  ◌then◌ : {a b : List ℕ} → P a → P b → P (a ++ b)
  ◌then◌ {a} {b} h k = join a b h k

  ws : {x : List ℕ} → rfc.Ws x → P x
  ws rfc.no_ws = empty
  ws (rfc.space w) = byte 0x20 (printed (omega arith) (omega arith)) then ws w
  ws (rfc.tab w) = byte 0x09 tab then ws w
  ws (rfc.line w) = byte 0x0A line then ws w
  ws (rfc.return w) = byte 0x0D return then ws w

  sign : {b : ℕ} {x : List ℕ} → Plain b → rfc.Sign b x → P x
  sign {b} h (rfc.sign v w) = ws v then byte b h then ws w

  digit : {b : ℕ} → rfc.Digit b → P (b ∷ [])
  digit {b} (rfc.digit l h) = byte b (printed (omega arith) (omega arith))

  digits : {x : List ℕ} → rfc.Digits x → P x
  digits rfc.no_digits = empty
  digits (rfc.more_digits d ds) = digit d then digits ds

  int : {x : List ℕ} → rfc.Int x → P x
  int rfc.zero = byte 0x30 (printed (omega arith) (omega arith))
  int (rfc.from_1 {b = b} l h ds) = byte b (printed (omega arith) (omega arith)) then digits ds

  minus : {x : List ℕ} → rfc.Minus x → P x
  minus rfc.unsigned = empty
  minus rfc.minus = byte 0x2D (printed (omega arith) (omega arith))

  frac : {x : List ℕ} → rfc.Frac x → P x
  frac rfc.no_frac = empty
  frac (rfc.point d ds) = byte 0x2E (printed (omega arith) (omega arith)) then digit d then digits ds

  plus : {x : List ℕ} → rfc.Plus x → P x
  plus rfc.no_sign = empty
  plus rfc.minus_sign = byte 0x2D (printed (omega arith) (omega arith))
  plus rfc.plus_sign = byte 0x2B (printed (omega arith) (omega arith))

  exp : {x : List ℕ} → rfc.Exp x → P x
  exp rfc.no_exp = empty
  exp (rfc.with_e s d ds) = byte 0x65 (printed (omega arith) (omega arith)) then plus s then digit d then digits ds
  exp (rfc.with_E s d ds) = byte 0x45 (printed (omega arith) (omega arith)) then plus s then digit d then digits ds

  number : {x : List ℕ} → rfc.Number x → P x
  number (rfc.number a b c d) = minus a then int b then frac c then exp d

  -- strings
  hexdig : {b : ℕ} → rfc.Hexdig b → P (b ∷ [])
  hexdig {b} (rfc.decimal l h) = byte b (printed (omega arith) (omega arith))
  hexdig {b} (rfc.capital l h) = byte b (printed (omega arith) (omega arith))
  hexdig {b} (rfc.small l h) = byte b (printed (omega arith) (omega arith))

  short : {b : ℕ} → rfc.Short b → P (b ∷ [])
  short rfc.quote = byte 0x22 (printed (omega arith) (omega arith))
  short rfc.backslash = byte 0x5C (printed (omega arith) (omega arith))
  short rfc.slash = byte 0x2F (printed (omega arith) (omega arith))
  short rfc.short_b = byte 0x62 (printed (omega arith) (omega arith))
  short rfc.short_f = byte 0x66 (printed (omega arith) (omega arith))
  short rfc.short_n = byte 0x6E (printed (omega arith) (omega arith))
  short rfc.short_r = byte 0x72 (printed (omega arith) (omega arith))
  short rfc.short_t = byte 0x74 (printed (omega arith) (omega arith))

  char : {x : List ℕ} → rfc.Char x → P x
  char (rfc.plain {c = c} u s) = plain c u s
  char (rfc.short b) = byte 0x5C (printed (omega arith) (omega arith)) then short b
  char (rfc.long a b c d) = byte 0x5C (printed (omega arith) (omega arith)) then byte 0x75 (printed (omega arith) (omega arith)) then hexdig a then hexdig b then hexdig c then hexdig d

  chars : {x : List ℕ} → rfc.Chars x → P x
  chars rfc.no_chars = empty
  chars (rfc.more_chars c cs) = char c then chars cs

  string : {x : List ℕ} → rfc.String x → P x
  string (rfc.string cs) = byte 0x22 (printed (omega arith) (omega arith)) then chars cs then byte 0x22 (printed (omega arith) (omega arith))

  -- values, with what is in them
  value : {x : List ℕ} → rfc.Value x → P x
  value v =
      elim v as (λ x w. P x) (λ x w. P x) (λ x w. P x) (λ x w. P x) [
        | rfc.is_false ↦ byte 0x66 (printed (omega arith) (omega arith)) then byte 0x61 (printed (omega arith) (omega arith)) then byte 0x6C (printed (omega arith) (omega arith)) then byte 0x73 (printed (omega arith) (omega arith)) then byte 0x65 (printed (omega arith) (omega arith))
        | rfc.is_null ↦ byte 0x6E (printed (omega arith) (omega arith)) then byte 0x75 (printed (omega arith) (omega arith)) then byte 0x6C (printed (omega arith) (omega arith)) then byte 0x6C (printed (omega arith) (omega arith))
        | rfc.is_true ↦ byte 0x74 (printed (omega arith) (omega arith)) then byte 0x72 (printed (omega arith) (omega arith)) then byte 0x75 (printed (omega arith) (omega arith)) then byte 0x65 (printed (omega arith) (omega arith))
        | rfc.empty_object a b ↦ sign (printed (omega arith) (omega arith)) a then sign (printed (omega arith) (omega arith)) b
        | rfc.object a (m → tm) (r → tr) b ↦ sign (printed (omega arith) (omega arith)) a then tm then tr then sign (printed (omega arith) (omega arith)) b
        | rfc.empty_array a b ↦ sign (printed (omega arith) (omega arith)) a then sign (printed (omega arith) (omega arith)) b
        | rfc.array a (v → tv) (r → tr) b ↦ sign (printed (omega arith) (omega arith)) a then tv then tr then sign (printed (omega arith) (omega arith)) b
        | rfc.a_number n ↦ number n
        | rfc.a_string s ↦ string s
        | rfc.member s c (v → tv) ↦ string s then sign (printed (omega arith) (omega arith)) c then tv
        | rfc.no_members ↦ empty
        | rfc.more_members s (m → tm) (r → tr) ↦ sign (printed (omega arith) (omega arith)) s then tm then tr
        | rfc.no_values ↦ empty
        | rfc.more_values s (v → tv) (r → tr) ↦ sign (printed (omega arith) (omega arith)) s then tv then tr
      ]

  pub text : {x : List ℕ} → rfc.Text x → P x
  text (rfc.text a v b) = ws a then value v then ws b
