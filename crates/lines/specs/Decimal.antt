-- Numbers in decimal, as bytes.
use Rattle.std.specs.Prelude.{ℕ, zero, suc, ◌+◌, ◌*◌, ◌-◌, ◌/◌, ◌%◌, ◌≡◌, true, false, List, [], ◌∷◌, ◌++◌, ltb}

-- The digits of a number below 10 ^ (bound + 1), the most significant first.
unfoldable pub digits : (bound : ℕ) → ℕ → List ℕ
digits zero n = (48 + n) ∷ []
digits (suc bound) n = elim (ltb n 10) [ true ↦ (48 + n) ∷ [] | false ↦ digits bound (n / 10) ++ ((48 + n % 10) ∷ []) ]

-- A number in decimal, without leading zeros.
unfoldable pub decimal : ℕ → List ℕ
decimal n = digits n n

-- What digits say, behind a number read so far.
unfoldable pub said : ℕ → List ℕ → ℕ
said sum [] = sum
said sum (d ∷ ds) = said (sum * 10 + (d - 48)) ds

-- The digits of a number say it.
abbrev pub Says : Type 0
Says = (n : ℕ) → said 0 (decimal n) ≡ n

-- The most digits of a number of 64 bits.
abbrev pub most_digits : ℕ
most_digits = 20
