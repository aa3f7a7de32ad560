-- Numbers in decimal: what their digits say, the digits from behind, and how many there are.
use mathlib.Core.Path.{◌≡◌, refl, sym, ap, ◌∙◌}
use mathlib.Core.List.{List, [], ◌∷◌, ◌++◌}
use Prim.Native.Nat.{ℕ, zero, suc, ◌+◌, ◌*◌, ◌-◌, ◌/◌, ◌%◌, ◌^◌, ◌≤◌, ◌<◌}
use native.Mathlib.Decide.{dec_lt}
use native.Mathlib.Nat.{pow-suc}
use native.Mathlib.Omega.{arith}
use lib.ListN.{length, length-append}
use borrow.Author.Tests.{lt-ltb, le-ltb}
use Rattle.std.specs.Fmt as std
use Rattle.std.proofs.lemmas.Fmt.{decimal_by_steps}
use Rattle.lines.specs.Decimal.{digits, decimal, said, Says, most_digits}

digits_low : (f n : ℕ) → n < 10 → digits f n ≡ (48 + n) ∷ []
unfolding digits
digits_low zero n h = refl
digits_low (suc f) n h = rw (lt-ltb n 10 h, digits)

digits_high : (f n : ℕ) → 10 ≤ n → digits (suc f) n ≡ digits f (n / 10) ++ ((48 + n % 10) ∷ [])
unfolding digits
digits_high f n h = rw (le-ltb n 10 h, digits)

-- more room changes nothing
digits_same : (f g n : ℕ) → n ≤ f → n ≤ g → digits f n ≡ digits g n
digits_same zero g n h k = digits_low zero n (omega arith) ∙ sym (digits_low g n (omega arith))
digits_same (suc f) zero n h k = digits_low (suc f) n (omega arith) ∙ sym (digits_low zero n (omega arith))
digits_same (suc f) (suc g) n h k = go (dec_lt n 10) (digits_same f g (n / 10))
  where
    go : Dec (n < 10) → (n / 10 ≤ f → n / 10 ≤ g → digits f (n / 10) ≡ digits g (n / 10)) → digits (suc f) n ≡ digits (suc g) n
    go (yes l) rec = digits_low (suc f) n l ∙ sym (digits_low (suc g) n l)
    go (no l) rec =
        let e = rec (omega arith) (omega arith) in
        digits_high f n (omega arith) ∙ ap (λ ds. ds ++ ((48 + n % 10) ∷ [])) e ∙ sym (digits_high g n (omega arith))

-- The two equations of a number in decimal: its last digit behind the others.
pub decimal_low : (n : ℕ) → n < 10 → decimal n ≡ (48 + n) ∷ []
unfolding decimal
decimal_low n h = digits_low n n h

pub decimal_high : (n : ℕ) → 10 ≤ n → decimal n ≡ decimal (n / 10) ++ ((48 + n % 10) ∷ [])
unfolding decimal
decimal_high zero h = absurd (omega arith)
decimal_high (suc f) h = digits_high f (suc f) h ∙ ap (λ ds. ds ++ ((48 + suc f % 10) ∷ [])) (digits_same f (suc f / 10) (suc f / 10) (omega arith) (omega arith))

-- induction by the digits of a number
pub by_digits : (P : ℕ → Type 0) → ((n : ℕ) → n < 10 → P n) → ((n : ℕ) → 10 ≤ n → P (n / 10) → P n) → (n : ℕ) → P n
by_digits P low high n = go n n (omega arith)
  where
    go : (f m : ℕ) → m ≤ f → P m
    go zero m h = low m (omega arith)
    go (suc f) m h = turn (dec_lt m 10) (go f (m / 10))
      where
        turn : Dec (m < 10) → (m / 10 ≤ f → P (m / 10)) → P m
        turn (yes l) rec = low m l
        turn (no l) rec = high m (omega arith) (rec (omega arith))

-- The library's decimal is the same.
pub is_decimal : (n : ℕ) → n < 2 ^ 64 → std.decimal n ≡ decimal n
is_decimal n = decimal_by_steps (λ m ds. ds ≡ decimal m) (λ m h. sym (decimal_low m h)) (λ m ds h e. rw e (sym (decimal_high m h))) n

-- Round trip: the digits of a number say it.
said_append : (s : ℕ) (ds es : List ℕ) → said s (ds ++ es) ≡ said (said s ds) es
unfolding said
said_append s [] es = refl
said_append s (d ∷ ds) es = said_append (s * 10 + (d - 48)) ds es

pub says : Says
unfolding said
says = by_digits (λ n. said 0 (decimal n) ≡ n) low high
  where
    low : (n : ℕ) → n < 10 → said 0 (decimal n) ≡ n
    low n h = rw (decimal_low n h) (omega arith)

    high : (n : ℕ) → 10 ≤ n → said 0 (decimal (n / 10)) ≡ n / 10 → said 0 (decimal n) ≡ n
    high n h e = rw (decimal_high n h, said_append 0 (decimal (n / 10)) ((48 + n % 10) ∷ []), e) (omega arith)

-- How many: one, and one more for each division by ten.
length_low : (n : ℕ) → n < 10 → length (decimal n) ≡ 1
length_low n h = ap length (decimal_low n h)

length_high : (n : ℕ) → 10 ≤ n → length (decimal n) ≡ suc (length (decimal (n / 10)))
length_high n h = ap length (decimal_high n h) ∙ simp length-append (omega arith)

pub length_at_most : (i n : ℕ) → n < 10 ^ suc i → length (decimal n) ≤ suc i
length_at_most zero n h = omega (arith, length_low n (rw (pow-suc 10 0) at h))
length_at_most (suc i) n h = go (dec_lt n 10) (length_at_most i (n / 10))
  where
    less : n < 10 ^ suc i * 10
    less = rw (pow-suc 10 (suc i)) at h

    go : Dec (n < 10) → (n / 10 < 10 ^ suc i → length (decimal (n / 10)) ≤ suc i) → length (decimal n) ≤ suc (suc i)
    go (yes l) rec = omega (arith, length_low n l)
    go (no l) rec = omega (arith, length_high n (omega arith), rec (omega (arith, less)))

-- A number of 64 bits has at most twenty.
pub twenty : (n : ℕ) → n < 2 ^ 64 → length (decimal n) ≤ most_digits
twenty n h = length_at_most 19 n (omega arith)
