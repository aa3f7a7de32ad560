-- JSON values of numbers and texts, as bytes.
use Rattle.std.specs.Prelude.{ℕ, ◌+◌, ◌-◌, ◌/◌, ◌%◌, ◌^◌, cond, List, [], ◌∷◌, ◌++◌, eqb, ltb}
use Rattle.lines.specs.Decimal.{decimal}
use Rattle.lines.specs.Lines.{letters}

-- 64 bits as a signed number: two's complement.
unfoldable pub signed : ℕ → List ℕ
signed n = cond (ltb n (2 ^ 63)) (decimal n) (45 ∷ decimal (2 ^ 64 - n))

-- A hexadecimal digit, A to F in capitals; the two of each byte.
unfoldable pub hex : ℕ → ℕ
hex d = cond (ltb d 10) (48 + d) (55 + d)

unfoldable pub hexes : List ℕ → List ℕ
hexes [] = []
hexes (b ∷ bs) = hex (b / 16) ∷ hex (b % 16) ∷ hexes bs

-- A byte in a JSON string, escaped only where RFC 8259, section 7, demands it: in the short form where there is one, else by its number.
unfoldable pub escape : ℕ → List ℕ
escape b =
    cond (eqb b 0x22) (letters "\\\"")
    (cond (eqb b 0x5C) (letters "\\\\")
    (cond (ltb 0x1F b) (b ∷ [])
    (cond (eqb b 0x08) (letters "\\b")
    (cond (eqb b 0x09) (letters "\\t")
    (cond (eqb b 0x0A) (letters "\\n")
    (cond (eqb b 0x0C) (letters "\\f")
    (cond (eqb b 0x0D) (letters "\\r")
    (letters "\\u00" ++ (hex (b / 16) ∷ hex (b % 16) ∷ [])))))))))

-- The bytes of a text, each so.
unfoldable pub escaped : List ℕ → List ℕ
escaped [] = []
escaped (b ∷ bs) = escape b ++ escaped bs

-- A JSON string.
unfoldable pub quoted : List ℕ → List ℕ
quoted bs = 0x22 ∷ (escaped bs ++ (0x22 ∷ []))
