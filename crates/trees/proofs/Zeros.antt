-- How many zeros a list has: one fewer where one is overwritten.
use Prim.Native.Nat.{ℕ, zero, suc, ◌<◌}
use native.Mathlib.Nat.{le_of_suc-le-suc, not-suc-le-zero}
use native.Mathlib.Omega.{arith}
use mathlib.Core.Path.{◌≡◌, refl, ap}
use mathlib.Core.List.{List, [], ◌∷◌}
use lib.ListN.{length, get_or, set, replicate}

abbrev pub zeros : List ℕ → ℕ
zeros [] = 0
zeros (zero ∷ xs) = suc (zeros xs)
zeros (suc x ∷ xs) = zeros xs

pub zeros_front : (x : ℕ) (xs ys : List ℕ) → suc (zeros ys) ≡ zeros xs → suc (zeros (x ∷ ys)) ≡ zeros (x ∷ xs)
zeros_front zero xs ys h = ap suc h
zeros_front (suc x) xs ys h = h

pub zeros_set : (xs : List ℕ) (i v : ℕ) → i < length xs → get_or xs i 0 ≡ 0 → 0 < v → suc (zeros (set xs i v)) ≡ zeros xs
zeros_set [] i v h z p = absurd (not-suc-le-zero h)
zeros_set (zero ∷ xs) zero zero h z p = absurd (not-suc-le-zero p)
zeros_set (zero ∷ xs) zero (suc v) h z p = refl
zeros_set (suc x ∷ xs) zero v h z p = absurd (omega (arith, z))
zeros_set (x ∷ xs) (suc i) v h z p = zeros_front x xs (set xs i v) (zeros_set xs i v (le_of_suc-le-suc h) z p)

pub zeros_front_same : (x : ℕ) (xs ys : List ℕ) → zeros ys ≡ zeros xs → zeros (x ∷ ys) ≡ zeros (x ∷ xs)
zeros_front_same zero xs ys h = ap suc h
zeros_front_same (suc x) xs ys h = h

pub zeros_same : (xs : List ℕ) (i v : ℕ) → i < length xs → (get_or xs i 0 ≡ 0 → ⊥) → 0 < v → zeros (set xs i v) ≡ zeros xs
zeros_same [] i v h z p = absurd (not-suc-le-zero h)
zeros_same (zero ∷ xs) zero v h z p = absurd (z refl)
zeros_same (suc x ∷ xs) zero zero h z p = absurd (not-suc-le-zero p)
zeros_same (suc x ∷ xs) zero (suc v) h z p = refl
zeros_same (x ∷ xs) (suc i) v h z p = zeros_front_same x xs (set xs i v) (zeros_same xs i v (le_of_suc-le-suc h) z p)

pub zeros_replicate : (n : ℕ) → zeros (replicate n 0) ≡ n
zeros_replicate zero = refl
zeros_replicate (suc n) = ap suc (zeros_replicate n)

-- a list that starts with 0 has one
pub zeros_some : (xs : List ℕ) → 0 < length xs → get_or xs 0 0 ≡ 0 → 0 < zeros xs
zeros_some [] h z = absurd (not-suc-le-zero h)
zeros_some (zero ∷ xs) h z = omega arith
zeros_some (suc x ∷ xs) h z = absurd (omega (arith, z))

pub zero_there : (n i : ℕ) → ◌≡◌ {A = ℕ} (get_or (replicate n 0) i 0) 0
zero_there zero i = refl
zero_there (suc n) zero = refl
zero_there (suc n) (suc i) = zero_there n i

-- a list of zeros has as many
pub zeros_all : (xs : List ℕ) → ((i : ℕ) → get_or xs i 0 ≡ 0) → zeros xs ≡ length xs
zeros_all [] h = refl
zeros_all (zero ∷ xs) h = ap suc (zeros_all xs (λ i. h (suc i)))
zeros_all (suc x ∷ xs) h = absurd (omega (arith, h 0))
