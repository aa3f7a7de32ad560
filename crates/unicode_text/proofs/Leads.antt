-- The table by its leads: a byte in the first range of a row has that row alone, and one in no first range has none.
use mathlib.Core.Path.{◌≡◌, refl, ◌∙◌}
use mathlib.Core.Bool.{Bool, true, false, cond, ◌&&◌, and-eq-true_iff}
use mathlib.Core.List.{List, [], ◌∷◌, ◌++◌}
use Rattle.std.specs.Prelude.{Some, None, slice_get}
use Prim.Native.Nat.{ℕ, suc, ◌≤◌, ◌<◌}
use native.Mathlib.Omega.{arith}
use borrow.Author.Tests.{le-leb, lt-leb, ltb-true}
use lib.Dec.{leb, ltb}
use lib.ListN.{length, take, drop}
use Rattle.unicode_text.specs.Unicode.{Range, ◌to◌, tail, table, begins, first}

-- whether the first range of every row ends below a number, and whether it begins above one
below : ℕ → List (List Range) → Bool
below n [] = true
below n ([] ∷ rows) = false
below n ((low to high ∷ rs) ∷ rows) = ltb high n && below n rows

above : ℕ → List (List Range) → Bool
above n [] = true
above n ([] ∷ rows) = false
above n ((low to high ∷ rs) ∷ rows) = ltb n low && above n rows

-- what a test that gave a count, and not 0, tells
pub counted : (t : Bool) (k n : ℕ) → cond t k 0 ≡ suc n → (t ≡ true) × (k ≡ suc n)
counted true k n e = (refl, e)
counted false k n e = absurd (omega arith)

-- no bytes, no sequence
pub no_bytes : first table [] ≡ 0
unfolding first table begins
no_bytes = refl

-- what a slice's first byte and those behind it say
pub led : (part : List ℕ) {b : ℕ} → Some b ≡ slice_get part 0 → first table part ≡ first table (b ∷ drop 1 part)
led [] e = let z : ◌≡◌ {A = ℕ} 0 1 = cc in absurd (omega arith)
led (x ∷ xs) e = cc

pub none_led : (part : List ℕ) → None ≡ slice_get part 0 → first table part ≡ 0
none_led [] e = no_bytes
none_led (x ∷ xs) e = let z : ◌≡◌ {A = ℕ} 0 1 = cc in absurd (omega arith)

module _ (b : ℕ) (bytes : List ℕ) where
  -- a byte in the first range of a row, behind it, and before it
  pub inside : (low high : ℕ) (rs : List Range) → low ≤ b → b ≤ high → begins (low to high ∷ rs) (b ∷ bytes) ≡ begins rs bytes
  unfolding begins
  inside low high rs l h = rw (le-leb low b l, le-leb b high h)

  behind : (low high : ℕ) (rs : List Range) → high < b → begins (low to high ∷ rs) (b ∷ bytes) ≡ false
  unfolding begins
  behind low high rs h = rw (lt-leb b high h) (go (leb low b))
    where
      go : (t : Bool) → (t && false) && begins rs bytes ≡ false
      go true = refl
      go false = refl

  before : (low high : ℕ) (rs : List Range) → b < low → begins (low to high ∷ rs) (b ∷ bytes) ≡ false
  unfolding begins
  before low high rs h = rw (lt-leb low b h)

  -- rows that a byte is behind are passed over, and of those that it is before none fits
  passed : (n : ℕ) (front rows : List (List Range)) → below n front ≡ true → n ≤ b → first (front ++ rows) (b ∷ bytes) ≡ first rows (b ∷ bytes)
  unfolding below first
  passed n [] rows e l = refl
  passed n ([] ∷ front) rows e l = let z : ◌≡◌ {A = ℕ} 0 1 = cc in absurd (omega arith)
  passed n ((low to high ∷ rs) ∷ front) rows e l =
      let both = (and-eq-true_iff (ltb high n) (below n front)).0 e in
      let less = ltb-true high n both.0 in
      rw (behind low high rs (omega arith)) (passed n front rows both.1 l)

  none : (n : ℕ) (rows : List (List Range)) → above n rows ≡ true → b ≤ n → first rows (b ∷ bytes) ≡ 0
  unfolding above first
  none n [] e h = refl
  none n ([] ∷ rows) e h = let z : ◌≡◌ {A = ℕ} 0 1 = cc in absurd (omega arith)
  none n ((low to high ∷ rs) ∷ rows) e h =
      let both = (and-eq-true_iff (ltb n low) (above n rows)).0 e in
      let more = ltb-true n low both.0 in
      rw (before low high rs (omega arith)) (none n rows both.1 h)

  -- so a byte leads its own row alone
  lead : (front : List (List Range)) (low high : ℕ) (rs : List Range) (rows : List (List Range)) → below low front ≡ true → above high rows ≡ true → low ≤ b → b ≤ high
      → first (front ++ ((low to high ∷ rs) ∷ rows)) (b ∷ bytes) ≡ cond (begins rs bytes) (length (low to high ∷ rs)) 0
  unfolding first
  lead front low high rs rows p q l h =
      passed low front _ p l ∙ rw (inside low high rs l h, none high rows q h)

  pub row_1 : b ≤ 0x7F → first table (b ∷ bytes) ≡ 1
  unfolding table below above begins
  row_1 h = lead [] 0x00 0x7F [] (drop 1 table) refl refl (omega arith) h

  pub row_2 : 0xC2 ≤ b → b ≤ 0xDF → first table (b ∷ bytes) ≡ cond (begins (tail ∷ []) bytes) 2 0
  unfolding table below above
  row_2 = lead (take 1 table) 0xC2 0xDF (tail ∷ []) (drop 2 table) refl refl

  pub row_3 : 0xE0 ≤ b → b ≤ 0xE0 → first table (b ∷ bytes) ≡ cond (begins (0xA0 to 0xBF ∷ tail ∷ []) bytes) 3 0
  unfolding table below above
  row_3 = lead (take 2 table) 0xE0 0xE0 (0xA0 to 0xBF ∷ tail ∷ []) (drop 3 table) refl refl

  pub row_4 : 0xE1 ≤ b → b ≤ 0xEC → first table (b ∷ bytes) ≡ cond (begins (tail ∷ tail ∷ []) bytes) 3 0
  unfolding table below above
  row_4 = lead (take 3 table) 0xE1 0xEC (tail ∷ tail ∷ []) (drop 4 table) refl refl

  pub row_5 : 0xED ≤ b → b ≤ 0xED → first table (b ∷ bytes) ≡ cond (begins (0x80 to 0x9F ∷ tail ∷ []) bytes) 3 0
  unfolding table below above
  row_5 = lead (take 4 table) 0xED 0xED (0x80 to 0x9F ∷ tail ∷ []) (drop 5 table) refl refl

  pub row_6 : 0xEE ≤ b → b ≤ 0xEF → first table (b ∷ bytes) ≡ cond (begins (tail ∷ tail ∷ []) bytes) 3 0
  unfolding table below above
  row_6 = lead (take 5 table) 0xEE 0xEF (tail ∷ tail ∷ []) (drop 6 table) refl refl

  pub row_7 : 0xF0 ≤ b → b ≤ 0xF0 → first table (b ∷ bytes) ≡ cond (begins (0x90 to 0xBF ∷ tail ∷ tail ∷ []) bytes) 4 0
  unfolding table below above
  row_7 = lead (take 6 table) 0xF0 0xF0 (0x90 to 0xBF ∷ tail ∷ tail ∷ []) (drop 7 table) refl refl

  pub row_8 : 0xF1 ≤ b → b ≤ 0xF3 → first table (b ∷ bytes) ≡ cond (begins (tail ∷ tail ∷ tail ∷ []) bytes) 4 0
  unfolding table below above
  row_8 = lead (take 7 table) 0xF1 0xF3 (tail ∷ tail ∷ tail ∷ []) (drop 8 table) refl refl

  pub row_9 : 0xF4 ≤ b → b ≤ 0xF4 → first table (b ∷ bytes) ≡ cond (begins (0x80 to 0x8F ∷ tail ∷ tail ∷ []) bytes) 4 0
  unfolding table below above
  row_9 = lead (take 8 table) 0xF4 0xF4 (0x80 to 0x8F ∷ tail ∷ tail ∷ []) [] refl refl

  -- between the first row and the second, and behind the last, there is none
  pub no_row : 0x80 ≤ b → b ≤ 0xC1 → first table (b ∷ bytes) ≡ 0
  unfolding table below above
  no_row l h = passed 0x80 (take 1 table) (drop 1 table) refl l ∙ none 0xC1 (drop 1 table) refl h

  pub no_row_behind : 0xF5 ≤ b → first table (b ∷ bytes) ≡ 0
  unfolding table below first
  no_row_behind l = passed 0xF5 table [] refl l

pub ruleset rows = (led, none_led, row_1, row_2, row_3, row_4, row_5, row_6, row_7, row_8, row_9, no_row, no_row_behind)
