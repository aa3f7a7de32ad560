-- Folding: each pair of backslashes, left to right without overlap, becomes one.
use Rattle.std.specs.Prelude.{ℕ, Bool, true, false, ◌&&◌, ◌||◌, List, [], ◌∷◌, ◌++◌, eqb, length, drop}

-- one thing where the test holds, the other where it does not
abbrev pub choose : {A : Type 0} → Bool → A → A → A
choose true a b = a
choose false a b = b

-- whether two bytes are a pair of backslashes
abbrev pub pair : ℕ → ℕ → Bool
pair x y = eqb x 92 && eqb y 92

-- whether a pair stands anywhere in the bytes
unfoldable pub has_pair : List ℕ → Bool
has_pair [] = false
has_pair (x ∷ []) = false
has_pair (x ∷ y ∷ rest) = pair x y || has_pair (y ∷ rest)

-- the folded bytes: each byte, and behind the first of a pair not its second
unfoldable pub folded : List ℕ → List ℕ
folded [] = []
folded (x ∷ []) = x ∷ []
folded (x ∷ y ∷ rest) = x ∷ choose (pair x y) (folded rest) (folded (y ∷ rest))

-- how many bytes make the first folded byte: 2 of a pair, 1 otherwise
unfoldable pub width_of : List ℕ → ℕ
width_of [] = 0
width_of (x ∷ []) = 1
width_of (x ∷ y ∷ rest) = choose (pair x y) 2 1

-- a work buffer with a text at its front, the bytes behind unchanged
abbrev pub written : List ℕ → List ℕ → List ℕ
written text work = text ++ drop (length text) work
