-- Numbers in decimal: their digits end where no digit follows, and say the number.
use mathlib.Core.Path.{◌≡◌, refl, sym, ap, ◌∙◌}
use mathlib.Core.List.{List, [], ◌∷◌, ◌++◌}
use Prim.Native.Nat.{ℕ, ◌+◌, ◌-◌, ◌/◌, ◌%◌, ◌^◌, ◌≤◌, ◌<◌}
use native.Mathlib.Decide.{dec_lt}
use native.Mathlib.Omega.{arith}
use borrow.Author.Tests.{lt-ltb, le-ltb}
use Rattle.lines.specs.Decimal.{decimal, said}
use Rattle.lines.proofs.Decimal.{decimal_low, decimal_high, by_digits, says}
use Rattle.json_text.specs.Values.{signed}

-- Digits, and bytes that begin with none.
abbrev pub Digits : List ℕ → Type 0
Digits [] = Unit {0}
Digits (d ∷ ds) = (48 ≤ d) × (d ≤ 57) × Digits ds

abbrev pub Stops : List ℕ → Type 0
Stops [] = Unit {0}
Stops (b ∷ bs) = 48 ≤ b → b ≤ 57 → ⊥

digits_append : (ds es : List ℕ) → Digits ds → Digits es → Digits (ds ++ es)
digits_append [] es h k = k
digits_append (d ∷ ds) es (a, b, h) k = (a, b, digits_append ds es h k)

pub digits_of : (n : ℕ) → Digits (decimal n)
digits_of = by_digits (λ n. Digits (decimal n)) (λ n h. rw (decimal_low n h) (omega arith, omega arith, tt))
    (λ n h e. rw (decimal_high n h) (digits_append (decimal (n / 10)) ((48 + n % 10) ∷ []) e (omega arith, omega arith, tt)))

-- A number's first digit: it has one, and that isn't 0 where the number isn't.
pub record First (n : ℕ) : Type 0 where
  pub first : ℕ
  pub rest : List ℕ
  pub whole : decimal n ≡ first ∷ rest
  pub low : 48 ≤ first
  pub high : first ≤ 57
  pub others : Digits rest
  pub leading : 0 < n → 49 ≤ first

pub first_of : (n : ℕ) → First n
first_of = by_digits First
    (λ n h. record { first = 48 + n; rest = []; whole = decimal_low n h; low = omega arith; high = omega arith; others = tt; leading = λ k. omega arith })
    (λ n h f. record {
      first = f.first;
      rest = f.rest ++ ((48 + n % 10) ∷ []);
      whole = decimal_high n h ∙ ap (λ ds. ds ++ ((48 + n % 10) ∷ [])) f.whole;
      low = f.low;
      high = f.high;
      others = digits_append f.rest ((48 + n % 10) ∷ []) f.others (omega arith, omega arith, tt);
      leading = λ k. f.leading (omega arith);
    })

-- digits before what begins with none
digits_law : (ds es x y : List ℕ) → Digits ds → Digits es → Stops x → Stops y → ds ++ x ≡ es ++ y → (ds ≡ es) × (x ≡ y)
digits_law [] [] x y h k s t e = (refl, e)
digits_law [] (d ∷ es) [] y h k s t e = let z : ◌≡◌ {A = ℕ} 0 1 = cc in absurd (omega arith)
digits_law [] (d ∷ es) (b ∷ x) y h (p, q, k) s t e = let z : b ≡ d = cc in absurd (s (omega arith) (omega arith))
digits_law (d ∷ ds) [] x [] h k s t e = let z : ◌≡◌ {A = ℕ} 0 1 = cc in absurd (omega arith)
digits_law (d ∷ ds) [] x (b ∷ y) (p, q, h) k s t e = let z : b ≡ d = cc in absurd (t (omega arith) (omega arith))
digits_law (d ∷ ds) (c ∷ es) x y (p, q, h) (r, u, k) s t e =
    let a : d ≡ c = cc in
    let (b, f) = digits_law ds es x y h k s t (cc) in
    (rw (a, b), f)

pub decimal_law : (m n : ℕ) (x y : List ℕ) → Stops x → Stops y → decimal m ++ x ≡ decimal n ++ y → (m ≡ n) × (x ≡ y)
decimal_law m n x y s t e =
    let (a, b) = digits_law (decimal m) (decimal n) x y (digits_of m) (digits_of n) s t e in
    (sym (says m) ∙ ap (said 0) a ∙ says n, b)

-- signed numbers of 64 bits
minus_law : (m : ℕ) (x y : List ℕ) → decimal m ++ x ≡ 45 ∷ y → ⊥
minus_law m x y e =
    let f = first_of m in
    let g : (f.first ∷ f.rest) ++ x ≡ 45 ∷ y = rw f.whole at e in
    let z : f.first ≡ 45 = cc in
    omega (arith, f.low)

module _ (k : ℕ) where
  pub plus : k < 2 ^ 63 → signed k ≡ decimal k
  unfolding signed
  plus h = rw (lt-ltb k (2 ^ 63) h)

  pub minus : 2 ^ 63 ≤ k → signed k ≡ 45 ∷ decimal (2 ^ 64 - k)
  unfolding signed
  minus h = rw (le-ltb k (2 ^ 63) h)

pub signed_law : (m n : ℕ) (x y : List ℕ) → m < 2 ^ 64 → n < 2 ^ 64 → Stops x → Stops y → signed m ++ x ≡ signed n ++ y → (m ≡ n) × (x ≡ y)
signed_law m n x y p q s t e = go (dec_lt m (2 ^ 63)) (dec_lt n (2 ^ 63))
  where
    go : Dec (m < 2 ^ 63) → Dec (n < 2 ^ 63) → (m ≡ n) × (x ≡ y)
    go (yes h) (yes k) = decimal_law m n x y s t (rw (plus m h, plus n k) at e)
    go (yes h) (no k) = absurd (minus_law m x (decimal (2 ^ 64 - n) ++ y) (rw (plus m h, minus n (omega arith)) at e))
    go (no h) (yes k) = absurd (minus_law n y (decimal (2 ^ 64 - m) ++ x) (sym (rw (minus m (omega arith), plus n k) at e)))
    go (no h) (no k) =
        let f : 45 ∷ (decimal (2 ^ 64 - m) ++ x) ≡ 45 ∷ (decimal (2 ^ 64 - n) ++ y) = rw (minus m (omega arith), minus n (omega arith)) at e in
        let (a, b) = decimal_law (2 ^ 64 - m) (2 ^ 64 - n) x y s t (cc) in
        (omega arith, b)
