-- JSON strings: a text is read back from its quotes.
use mathlib.Core.Path.{◌≡◌, refl, sym, ap, ◌∙◌}
use mathlib.Core.Bool.{false, cond}
use mathlib.Core.List.{List, [], ◌∷◌, ◌++◌, append_assoc, tail-eq_of_cons-eq}
use Prim.Native.Nat.{ℕ, suc, ◌+◌, ◌*◌, ◌-◌, ◌/◌, ◌%◌, ◌≤◌, ◌<◌}
use native.Mathlib.Decide.{dec_lt, ℕ_discrete}
use native.Mathlib.Omega.{arith}
use lib.Dec.{eqb, ltb}
use borrow.Author.Tests.{lt-ltb, le-ltb, ne_eqb}
use Rattle.json_text.specs.Values.{hex, hexes, escape, escaped, quoted}

-- the number of a hexadecimal digit
unhex : ℕ → ℕ
unhex c = cond (ltb c 65) (c - 48) (c - 55)

unhex_hex : (d : ℕ) → unhex (hex d) ≡ d
unfolding unhex hex
unhex_hex d = go (dec_lt d 10)
  where
    go : Dec (d < 10) → unhex (hex d) ≡ d
    go (yes h) = rw (lt-ltb d 10 h, lt-ltb (48 + d) 65 (omega arith)) (omega arith)
    go (no h) = rw (le-ltb d 10 (omega arith), le-ltb (55 + d) 65 (omega arith)) (omega arith)

-- what a letter behind a backslash says
short : ℕ → ℕ
short c = cond (eqb c 98) 8 (cond (eqb c 116) 9 (cond (eqb c 110) 10 (cond (eqb c 102) 12 (cond (eqb c 114) 13 c))))

-- the first of a string's characters, one more than its number, and what stands behind it; 0 at the closing quote
four : List ℕ → ℕ × List ℕ
four (a ∷ b ∷ c ∷ d ∷ bs) = (suc (unhex c * 16 + unhex d), bs)
four (a ∷ b ∷ c ∷ []) = (0, [])
four (a ∷ b ∷ []) = (0, [])
four (a ∷ []) = (0, [])
four [] = (0, [])

behind : List ℕ → ℕ × List ℕ
behind [] = (0, [])
behind (c ∷ bs) = cond (eqb c 117) (four bs) (suc (short c), bs)

first : List ℕ → ℕ × List ℕ
first [] = (0, [])
first (b ∷ bs) = cond (eqb b 0x22) (0, bs) (cond (eqb b 0x5C) (behind bs) (suc b, bs))

module _ (b : ℕ) (x : List ℕ) where
  module _ (q : eqb b 0x22 ≡ false) (s : eqb b 0x5C ≡ false) where
    plain : 0x1F < b → first (escape b ++ x) ≡ (suc b, x)
    unfolding first escape
    plain h = rw (q, s, lt-ltb 0x1F b h, q, s)

    long : b ≤ 0x1F → eqb b 8 ≡ false → eqb b 9 ≡ false → eqb b 10 ≡ false → eqb b 12 ≡ false → eqb b 13 ≡ false → first (escape b ++ x) ≡ (suc b, x)
    unfolding first escape behind four
    long h e8 e9 e10 e12 e13 =
        let v : b / 16 * 16 + b % 16 ≡ b = omega arith in
        rw (q, s, le-ltb 0x1F b h, e8, e9, e10, e12, e13, unhex_hex (b / 16), unhex_hex (b % 16), v)

    at_13 : b ≤ 0x1F → eqb b 8 ≡ false → eqb b 9 ≡ false → eqb b 10 ≡ false → eqb b 12 ≡ false → Dec (b ≡ 13) → first (escape b ++ x) ≡ (suc b, x)
    unfolding first escape behind short
    at_13 h e8 e9 e10 e12 (yes e) = rw e
    at_13 h e8 e9 e10 e12 (no e) = long h e8 e9 e10 e12 (ne_eqb b 13 e)

    at_12 : b ≤ 0x1F → eqb b 8 ≡ false → eqb b 9 ≡ false → eqb b 10 ≡ false → Dec (b ≡ 12) → first (escape b ++ x) ≡ (suc b, x)
    unfolding first escape behind short
    at_12 h e8 e9 e10 (yes e) = rw e
    at_12 h e8 e9 e10 (no e) = at_13 h e8 e9 e10 (ne_eqb b 12 e) (ℕ_discrete b 13)

    at_10 : b ≤ 0x1F → eqb b 8 ≡ false → eqb b 9 ≡ false → Dec (b ≡ 10) → first (escape b ++ x) ≡ (suc b, x)
    unfolding first escape behind short
    at_10 h e8 e9 (yes e) = rw e
    at_10 h e8 e9 (no e) = at_12 h e8 e9 (ne_eqb b 10 e) (ℕ_discrete b 12)

    at_9 : b ≤ 0x1F → eqb b 8 ≡ false → Dec (b ≡ 9) → first (escape b ++ x) ≡ (suc b, x)
    unfolding first escape behind short
    at_9 h e8 (yes e) = rw e
    at_9 h e8 (no e) = at_10 h e8 (ne_eqb b 9 e) (ℕ_discrete b 10)

    at_8 : b ≤ 0x1F → Dec (b ≡ 8) → first (escape b ++ x) ≡ (suc b, x)
    unfolding first escape behind short
    at_8 h (yes e) = rw e
    at_8 h (no e) = at_9 h (ne_eqb b 8 e) (ℕ_discrete b 9)

    at_control : Dec (0x1F < b) → first (escape b ++ x) ≡ (suc b, x)
    at_control (yes h) = plain h
    at_control (no h) = at_8 (omega arith) (ℕ_discrete b 8)

  at_backslash : eqb b 0x22 ≡ false → Dec (b ≡ 0x5C) → first (escape b ++ x) ≡ (suc b, x)
  unfolding first escape behind short
  at_backslash q (yes e) = rw e
  at_backslash q (no e) = at_control q (ne_eqb b 0x5C e) (dec_lt 0x1F b)

  at_quote : Dec (b ≡ 0x22) → first (escape b ++ x) ≡ (suc b, x)
  unfolding first escape behind short
  at_quote (yes e) = rw e
  at_quote (no e) = at_backslash (ne_eqb b 0x22 e) (ℕ_discrete b 0x5C)

  escape_first : first (escape b ++ x) ≡ (suc b, x)
  escape_first = at_quote (ℕ_discrete b 0x22)

-- the closing quote
quote_first : (x : List ℕ) → first (0x22 ∷ x) ≡ (0, x)
unfolding first
quote_first x = refl

escaped_law : (a b x y : List ℕ) → escaped a ++ (0x22 ∷ x) ≡ escaped b ++ (0x22 ∷ y) → (a ≡ b) × (x ≡ y)
unfolding escaped
escaped_law [] [] x y e = (refl, cc)
escaped_law [] (c ∷ b) x y e =
    let f : first (0x22 ∷ x) ≡ first (escape c ++ (escaped b ++ (0x22 ∷ y))) = ap first (e ∙ append_assoc (escape c) (escaped b) (0x22 ∷ y)) in
    let g : ◌≡◌ {A = ℕ × List ℕ} (0, x) (suc c, escaped b ++ (0x22 ∷ y)) = sym (quote_first x) ∙ f ∙ escape_first c (escaped b ++ (0x22 ∷ y)) in
    let z : 0 ≡ suc c = ap (λ p. p.0) g in
    absurd (omega arith)
escaped_law (c ∷ a) [] x y e =
    let f : first (escape c ++ (escaped a ++ (0x22 ∷ x))) ≡ first (0x22 ∷ y) = ap first (sym (append_assoc (escape c) (escaped a) (0x22 ∷ x)) ∙ e) in
    let g : ◌≡◌ {A = ℕ × List ℕ} (suc c, escaped a ++ (0x22 ∷ x)) (0, y) = sym (escape_first c (escaped a ++ (0x22 ∷ x))) ∙ f ∙ quote_first y in
    let z : suc c ≡ 0 = ap (λ p. p.0) g in
    absurd (omega arith)
escaped_law (c ∷ a) (d ∷ b) x y e =
    let f : escape c ++ (escaped a ++ (0x22 ∷ x)) ≡ escape d ++ (escaped b ++ (0x22 ∷ y)) =
    sym (append_assoc (escape c) (escaped a) (0x22 ∷ x)) ∙ e ∙ append_assoc (escape d) (escaped b) (0x22 ∷ y) in
    let g : ◌≡◌ {A = ℕ × List ℕ} (suc c, escaped a ++ (0x22 ∷ x)) (suc d, escaped b ++ (0x22 ∷ y)) =
    sym (escape_first c (escaped a ++ (0x22 ∷ x))) ∙ ap first f ∙ escape_first d (escaped b ++ (0x22 ∷ y)) in
    let h : suc c ≡ suc d = ap (λ p. p.0) g in
    let k : c ≡ d = omega arith in
    let (l, m) = escaped_law a b x y (ap (λ p. p.1) g) in
    (rw (k, l), m)

-- A string ends where it ends, and says its text.
pub quoted_law : (a b x y : List ℕ) → quoted a ++ x ≡ quoted b ++ y → (a ≡ b) × (x ≡ y)
unfolding quoted
quoted_law a b x y e =
    let f : escaped a ++ (0x22 ∷ x) ≡ escaped b ++ (0x22 ∷ y) = simp append_assoc at (tail-eq_of_cons-eq e) in
    escaped_law a b x y f

-- The digits of bytes say the bytes.
pub hexes_law : (a b : List ℕ) → hexes a ≡ hexes b → a ≡ b
unfolding hexes
hexes_law [] [] e = refl
hexes_law [] (d ∷ b) e = let z : ◌≡◌ {A = ℕ} 0 1 = cc in absurd (omega arith)
hexes_law (c ∷ a) [] e = let z : ◌≡◌ {A = ℕ} 0 1 = cc in absurd (omega arith)
hexes_law (c ∷ a) (d ∷ b) e =
    let h : hex (c / 16) ≡ hex (d / 16) = cc in
    let l : hex (c % 16) ≡ hex (d % 16) = cc in
    let h' : c / 16 ≡ d / 16 = sym (unhex_hex (c / 16)) ∙ ap unhex h ∙ unhex_hex (d / 16) in
    let l' : c % 16 ≡ d % 16 = sym (unhex_hex (c % 16)) ∙ ap unhex l ∙ unhex_hex (d % 16) in
    let k : c ≡ d = omega arith in
    rw (k, hexes_law a b (cc))
