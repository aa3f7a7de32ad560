-- RFC 8259: which bytes are a JSON text, rule by rule of its grammar (sections 2 to 7). A text is in UTF-8 (section 8.1).
use Rattle.std.specs.Prelude.{ℕ, ◌≤◌, ◌≡◌, true, List, [], ◌∷◌, ◌++◌}
use Rattle.unicode_text.specs.Unicode.{scalar, encode}
use Rattle.lines.specs.Lines.{letters}

-- ws = *( %x20 / %x09 / %x0A / %x0D )
pub data Ws : List ℕ → Type 0 where
  no_ws : Ws []
  space : {w : List ℕ} → Ws w → Ws (0x20 ∷ w)
  tab : {w : List ℕ} → Ws w → Ws (0x09 ∷ w)
  line : {w : List ℕ} → Ws w → Ws (0x0A ∷ w)
  return : {w : List ℕ} → Ws w → Ws (0x0D ∷ w)

-- A structural character: begin-array = ws %x5B ws, and so for the other five.
pub data Sign (b : ℕ) : List ℕ → Type 0 where
  sign : {v w : List ℕ} → Ws v → Ws w → Sign b (v ++ (b ∷ w))

-- DIGIT = %x30-39, digit1-9 = %x31-39, HEXDIG = DIGIT / "A" .. "F", in either case
pub data Digit : ℕ → Type 0 where
  digit : {b : ℕ} → 0x30 ≤ b → b ≤ 0x39 → Digit b

pub data Hexdig : ℕ → Type 0 where
  decimal : {b : ℕ} → 0x30 ≤ b → b ≤ 0x39 → Hexdig b
  capital : {b : ℕ} → 0x41 ≤ b → b ≤ 0x46 → Hexdig b
  small : {b : ℕ} → 0x61 ≤ b → b ≤ 0x66 → Hexdig b

-- *DIGIT
pub data Digits : List ℕ → Type 0 where
  no_digits : Digits []
  more_digits : {b : ℕ} {bs : List ℕ} → Digit b → Digits bs → Digits (b ∷ bs)

-- int = zero / ( digit1-9 *DIGIT )
pub data Int : List ℕ → Type 0 where
  zero : Int (0x30 ∷ [])
  from_1 : {b : ℕ} {bs : List ℕ} → 0x31 ≤ b → b ≤ 0x39 → Digits bs → Int (b ∷ bs)

-- [ minus ]
pub data Minus : List ℕ → Type 0 where
  unsigned : Minus []
  minus : Minus (0x2D ∷ [])

-- [ frac ], frac = %x2E 1*DIGIT
pub data Frac : List ℕ → Type 0 where
  no_frac : Frac []
  point : {b : ℕ} {bs : List ℕ} → Digit b → Digits bs → Frac (0x2E ∷ b ∷ bs)

-- [ minus / plus ]
pub data Plus : List ℕ → Type 0 where
  no_sign : Plus []
  minus_sign : Plus (0x2D ∷ [])
  plus_sign : Plus (0x2B ∷ [])

-- [ exp ], exp = ( %x65 / %x45 ) [ minus / plus ] 1*DIGIT
pub data Exp : List ℕ → Type 0 where
  no_exp : Exp []
  with_e : {b : ℕ} {s bs : List ℕ} → Plus s → Digit b → Digits bs → Exp (0x65 ∷ (s ++ (b ∷ bs)))
  with_E : {b : ℕ} {s bs : List ℕ} → Plus s → Digit b → Digits bs → Exp (0x45 ∷ (s ++ (b ∷ bs)))

-- number = [ minus ] int [ frac ] [ exp ]
pub data Number : List ℕ → Type 0 where
  number : {a b c d : List ℕ} → Minus a → Int b → Frac c → Exp d → Number (a ++ (b ++ (c ++ d)))

-- %x22 / %x5C / %x2F / %x62 / %x66 / %x6E / %x72 / %x74, behind a backslash
pub data Short : ℕ → Type 0 where
  quote : Short 0x22
  backslash : Short 0x5C
  slash : Short 0x2F
  short_b : Short 0x62
  short_f : Short 0x66
  short_n : Short 0x6E
  short_r : Short 0x72
  short_t : Short 0x74

-- unescaped = %x20-21 / %x23-5B / %x5D-10FFFF
pub data Unescaped : ℕ → Type 0 where
  first : {c : ℕ} → 0x20 ≤ c → c ≤ 0x21 → Unescaped c
  second : {c : ℕ} → 0x23 ≤ c → c ≤ 0x5B → Unescaped c
  third : {c : ℕ} → 0x5D ≤ c → c ≤ 0x10FFFF → Unescaped c

-- char = unescaped / escape ( .. / %x75 4HEXDIG ); a surrogate has no bytes in UTF-8
pub data Char : List ℕ → Type 0 where
  plain : {c : ℕ} → Unescaped c → scalar c ≡ true → Char (encode c)
  short : {b : ℕ} → Short b → Char (0x5C ∷ b ∷ [])
  long : {a b c d : ℕ} → Hexdig a → Hexdig b → Hexdig c → Hexdig d → Char (0x5C ∷ 0x75 ∷ a ∷ b ∷ c ∷ d ∷ [])

-- *char, string = quotation-mark *char quotation-mark
pub data Chars : List ℕ → Type 0 where
  no_chars : Chars []
  more_chars : {a b : List ℕ} → Char a → Chars b → Chars (a ++ b)

pub data String : List ℕ → Type 0 where
  string : {a : List ℕ} → Chars a → String (0x22 ∷ (a ++ (0x22 ∷ [])))

mutual
  -- value = false / null / true / object / array / number / string
  pub data Value : List ℕ → Type 0 where
    is_false : Value (letters "false")
    is_null : Value (letters "null")
    is_true : Value (letters "true")
    empty_object : {a b : List ℕ} → Sign 0x7B a → Sign 0x7D b → Value (a ++ b)
    object : {a m r b : List ℕ} → Sign 0x7B a → Member m → Members r → Sign 0x7D b → Value (a ++ (m ++ (r ++ b)))
    empty_array : {a b : List ℕ} → Sign 0x5B a → Sign 0x5D b → Value (a ++ b)
    array : {a v r b : List ℕ} → Sign 0x5B a → Value v → Values r → Sign 0x5D b → Value (a ++ (v ++ (r ++ b)))
    a_number : {a : List ℕ} → Number a → Value a
    a_string : {a : List ℕ} → String a → Value a

  -- member = string name-separator value
  pub data Member : List ℕ → Type 0 where
    member : {s c v : List ℕ} → String s → Sign 0x3A c → Value v → Member (s ++ (c ++ v))

  -- *( value-separator member )
  pub data Members : List ℕ → Type 0 where
    no_members : Members []
    more_members : {s m r : List ℕ} → Sign 0x2C s → Member m → Members r → Members (s ++ (m ++ r))

  -- *( value-separator value )
  pub data Values : List ℕ → Type 0 where
    no_values : Values []
    more_values : {s v r : List ℕ} → Sign 0x2C s → Value v → Values r → Values (s ++ (v ++ r))

-- JSON-text = ws value ws
pub data Text : List ℕ → Type 0 where
  text : {a v b : List ℕ} → Ws a → Value v → Ws b → Text (a ++ (v ++ b))
