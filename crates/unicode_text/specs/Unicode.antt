-- Unicode: which numbers are scalar values, and which bytes are well-formed UTF-8.
use Rattle.std.specs.Prelude.{ℕ, zero, suc, ◌+◌, ◌/◌, ◌%◌, Bool, true, false, cond, not, ◌&&◌, List, [], ◌∷◌, ◌++◌, leb, ltb, length, drop}

infix 70 ◌to◌
-- The numbers from one to another, both counted.
pub data Range : Type 0 where
  ◌to◌ : (low high : ℕ) → Range

-- Whether a number lies in a range.
abbrev pub within : ℕ → Range → Bool
within n (low to high) = leb low n && leb n high

-- Unicode scalar values: the code points but for the surrogates.
unfoldable pub scalar : ℕ → Bool
scalar n = leb n 0x10FFFF && not (within n (0xD800 to 0xDFFF))

-- The bytes behind the first of a sequence, where the table says no more of them.
abbrev pub tail : Range
tail = 0x80 to 0xBF

-- Table 3-7 of the Unicode Standard, row by row: the range of each byte of a well-formed sequence.
unfoldable pub table : List (List Range)
table =
    (0x00 to 0x7F ∷ [])
    ∷ (0xC2 to 0xDF ∷ tail ∷ [])
    ∷ (0xE0 to 0xE0 ∷ 0xA0 to 0xBF ∷ tail ∷ [])
    ∷ (0xE1 to 0xEC ∷ tail ∷ tail ∷ [])
    ∷ (0xED to 0xED ∷ 0x80 to 0x9F ∷ tail ∷ [])
    ∷ (0xEE to 0xEF ∷ tail ∷ tail ∷ [])
    ∷ (0xF0 to 0xF0 ∷ 0x90 to 0xBF ∷ tail ∷ tail ∷ [])
    ∷ (0xF1 to 0xF3 ∷ tail ∷ tail ∷ tail ∷ [])
    ∷ (0xF4 to 0xF4 ∷ 0x80 to 0x8F ∷ tail ∷ tail ∷ [])
    ∷ []

-- Whether bytes begin with a sequence of a row.
unfoldable pub begins : List Range → List ℕ → Bool
begins [] bytes = true
begins (r ∷ rs) [] = false
begins (r ∷ rs) (b ∷ bytes) = within b r && begins rs bytes

-- How many bytes the first sequence takes: the length of the first row that fits, 0 where none does.
unfoldable pub first : List (List Range) → List ℕ → ℕ
first [] bytes = 0
first (row ∷ rows) bytes = cond (begins row bytes) (length row) (first rows bytes)

-- Sequences of the table, one behind the other. There are no more sequences than bytes, which is the bound.
unfoldable pub sequences : (bound : ℕ) → List ℕ → Bool
sequences zero bytes = true
sequences (suc bound) [] = true
sequences (suc bound) (b ∷ bytes) = elim (first table (b ∷ bytes)) [ zero ↦ false | suc n ↦ sequences bound (drop n bytes) ]

-- Well-formed UTF-8.
unfoldable pub well_formed : List ℕ → Bool
well_formed bytes = sequences (length bytes) bytes

-- Table 3-6: the bytes of a scalar value.
unfoldable pub encode : ℕ → List ℕ
encode c =
    cond (ltb c 0x80) (c ∷ [])
    (cond (ltb c 0x800) ((0xC0 + c / 64) ∷ (0x80 + c % 64) ∷ [])
    (cond (ltb c 0x10000) ((0xE0 + c / 4096) ∷ (0x80 + c / 64 % 64) ∷ (0x80 + c % 64) ∷ [])
    ((0xF0 + c / 262144) ∷ (0x80 + c / 4096 % 64) ∷ (0x80 + c / 64 % 64) ∷ (0x80 + c % 64) ∷ [])))

-- The bytes of a text: its scalar values, one behind the other.
unfoldable pub encoded : List ℕ → List ℕ
encoded [] = []
encoded (c ∷ cs) = encode c ++ encoded cs
