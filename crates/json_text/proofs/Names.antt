-- The names of the kinds differ: one computed test.
use mathlib.Core.Path.{◌≡◌, refl, sym, ap, ◌∙◌}
use mathlib.Core.Bool.{Bool, true, false, cond, ◌&&◌, ◌||◌, and-eq-true_iff}
use mathlib.Core.Logic.{◌⊎◌, inl, inr}
use mathlib.Core.List.{List, [], ◌∷◌}
use Prim.Native.Nat.{ℕ, zero, suc, ◌≤◌, ◌<◌}
use native.Mathlib.Decide.{dec_lt}
use native.Mathlib.Omega.{arith}
use lib.Dec.{eqb, ltb}
use borrow.Author.Tests.{lt-ltb, le-ltb, eqb-true, ne_eqb}
use Rattle.json_text.specs.Json.{name, expression_names, statement_names}

same : List ℕ → List ℕ → Bool
same [] [] = true
same [] (b ∷ bs) = false
same (a ∷ cs) [] = false
same (a ∷ cs) (b ∷ bs) = eqb a b && same cs bs

-- the highest kind below a number that has a name, 0 for none
seek : ℕ → List ℕ → ℕ
seek zero n = 0
seek (suc k) n = cond (same (name k) n) k (seek k n)

unfoldable pub all_below : ℕ → (ℕ → Bool) → Bool
all_below zero f = true
all_below (suc n) f = f n && all_below n f

pub one_below : (n : ℕ) (f : ℕ → Bool) (k : ℕ) → all_below n f ≡ true → k < n → f k ≡ true
unfolding all_below
one_below zero f k e h = absurd (omega arith)
one_below (suc n) f k e h = go (dec_lt k n) (one_below n f k)
  where
    go : Dec (k < n) → (all_below n f ≡ true → k < n → f k ≡ true) → f k ≡ true
    go (yes l) rec = rec ((and-eq-true_iff (f n) (all_below n f)).0 e).1 l
    go (no l) rec = let same : k ≡ n = omega arith in rw same ((and-eq-true_iff (f n) (all_below n f)).0 e).0

-- The kinds: 1 to 19, 32 to 46.
abbrev pub Known : ℕ → Type 0
Known k = ((1 ≤ k) × (k < 20)) ⊎ ((32 ≤ k) × (k < 47))

found : ℕ → Bool
found k = cond (ltb k 20) (eqb k 0 || eqb (seek 47 (name k)) k) (ltb k 32 || eqb (seek 47 (name k)) k)

all_found : all_below 47 found ≡ true
unfolding all_below found seek same name expression_names statement_names
all_found = refl

low_found : (k : ℕ) → 1 ≤ k → k < 20 → found k ≡ eqb (seek 47 (name k)) k
unfolding found
low_found k a b = rw (lt-ltb k 20 b, ne_eqb k 0 (λ e. omega arith))

high_found : (k : ℕ) → 32 ≤ k → found k ≡ eqb (seek 47 (name k)) k
unfolding found
high_found k a = rw (le-ltb k 20 (omega arith), le-ltb k 32 a)

named : (k : ℕ) → Known k → seek 47 (name k) ≡ k
named k (inl (a, b)) = eqb-true (seek 47 (name k)) k (sym (low_found k a b) ∙ one_below 47 found k all_found (omega arith))
named k (inr (a, b)) = eqb-true (seek 47 (name k)) k (sym (high_found k a) ∙ one_below 47 found k all_found (omega arith))

pub names_law : (j k : ℕ) → Known j → Known k → name j ≡ name k → j ≡ k
names_law j k a b e = sym (named j a) ∙ ap (seek 47) e ∙ named k b
