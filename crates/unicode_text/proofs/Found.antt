-- A sequence of the table is the bytes of a scalar value.
use mathlib.Core.Path.{◌≡◌, refl, sym, ap, subst, ◌∙◌}
use mathlib.Core.Bool.{Bool, true, cond, ◌&&◌, and-eq-true_iff}
use mathlib.Core.List.{List, [], ◌∷◌, ◌++◌}
use Prim.Native.Nat.{ℕ, suc, ◌≤◌, ◌<◌}
use native.Mathlib.Decide.{dec_lt}
use native.Mathlib.Omega.{arith}
use borrow.Author.Tests.{leb-true}
use lib.Dec.{leb}
use lib.ListN.{length}
use Rattle.unicode_text.specs.Unicode.{Range, ◌to◌, scalar, tail, table, begins, first, encode}
use Rattle.unicode_text.proofs.Leads.{row_1, row_2, row_3, row_4, row_5, row_6, row_7, row_8, row_9, no_row, no_row_behind, no_bytes, counted}
use Rattle.unicode_text.proofs.Values.{low_scalar, high_scalar, value_2, value_3, value_4, encode_1, encode_2, encode_3, encode_4}

-- bytes that begin with a scalar value's, and what is behind
pub record Sequence (bytes : List ℕ) (n : ℕ) : Type 0 where
  pub value : ℕ
  pub good : scalar value ≡ true
  pub rest : List ℕ
  pub split : bytes ≡ encode value ++ rest
  pub long : length (encode value) ≡ n

-- a byte in a range, and what follows it
record Byte (low high : ℕ) (rs : List Range) (bytes : List ℕ) : Type 0 where
  it : ℕ
  behind : List ℕ
  whole : bytes ≡ it ∷ behind
  from : low ≤ it
  upto : it ≤ high
  more : begins rs behind ≡ true

byte : (low high : ℕ) (rs : List Range) (bytes : List ℕ) → begins (low to high ∷ rs) bytes ≡ true → Byte low high rs bytes
unfolding begins
byte low high rs [] e = let z : ◌≡◌ {A = ℕ} 0 1 = cc in absurd (omega arith)
byte low high rs (b ∷ bytes) e =
    let both = (and-eq-true_iff (leb low b && leb b high) (begins rs bytes)).0 e in
    let ends = (and-eq-true_iff (leb low b) (leb b high)).0 both.0 in
    record { it = b; behind = bytes; whole = refl; from = leb-true low b ends.0; upto = leb-true b high ends.1; more = both.1 }

-- equal parts make equal bytes
same : {a b : ℕ} {r s : List ℕ} → a ≡ b → r ≡ s → a ∷ r ≡ b ∷ s
same p q = rw (p, q)

-- the row that a byte leads, where the bytes behind it fit
module _ (b : ℕ) (bytes : List ℕ) where
  fits_2 : 0xC2 ≤ b → b ≤ 0xDF → begins (tail ∷ []) bytes ≡ true → Sequence (b ∷ bytes) 2
  fits_2 l h e =
      let p = byte 0x80 0xBF [] bytes e in
      let x = p.it in
      let lo = p.from in
      let hi = p.upto in
      let c : ℕ = value_2 b x in
      let bs : encode c ≡ b ∷ x ∷ [] = encode_2 c (omega arith) (omega arith) ∙ same (omega arith) (same (omega arith) refl) in
      record { value = c; good = low_scalar c (omega arith); rest = p.behind; split = same refl p.whole ∙ sym (ap (λ (l : List ℕ). l ++ p.behind) bs); long = rw bs }

  fits_3 : (low high : ℕ) → 0xE0 ≤ b → b ≤ 0xEF → 0x80 ≤ low → high ≤ 0xBF
      → ((x y : ℕ) → low ≤ x → x ≤ high → 0x80 ≤ y → y ≤ 0xBF → (0x800 ≤ value_3 b x y) × (scalar (value_3 b x y) ≡ true))
      → begins (low to high ∷ tail ∷ []) bytes ≡ true → Sequence (b ∷ bytes) 3
  fits_3 low high l h lo hi good e =
      let p = byte low high (tail ∷ []) bytes e in
      let q = byte 0x80 0xBF [] p.behind p.more in
      let x = p.it in
      let y = q.it in
      let x-lo = p.from in
      let x-hi = p.upto in
      let y-lo = q.from in
      let y-hi = q.upto in
      let c : ℕ = value_3 b x y in
      let g = good x y x-lo x-hi y-lo y-hi in
      let bs : encode c ≡ b ∷ x ∷ y ∷ [] =
      encode_3 c g.0 (omega arith) ∙ same (omega arith) (same (omega arith) (same (omega arith) refl)) in
      record { value = c; good = g.1; rest = q.behind; split = same refl (p.whole ∙ same refl q.whole) ∙ sym (ap (λ (l : List ℕ). l ++ q.behind) bs); long = rw bs }

  fits_4 : (low high : ℕ) → 0xF0 ≤ b → 0x80 ≤ low → high ≤ 0xBF
      → ((x : ℕ) → low ≤ x → x ≤ high → (0x10000 ≤ value_4 b x 0x80 0x80) × (value_4 b x 0x80 0x80 ≤ 0x10F000))
      → begins (low to high ∷ tail ∷ tail ∷ []) bytes ≡ true → Sequence (b ∷ bytes) 4
  fits_4 low high l lo hi good e =
      let p = byte low high (tail ∷ tail ∷ []) bytes e in
      let q = byte 0x80 0xBF (tail ∷ []) p.behind p.more in
      let r = byte 0x80 0xBF [] q.behind q.more in
      let x = p.it in
      let y = q.it in
      let z = r.it in
      let x-lo = p.from in
      let x-hi = p.upto in
      let y-lo = q.from in
      let y-hi = q.upto in
      let z-lo = r.from in
      let z-hi = r.upto in
      let c : ℕ = value_4 b x y z in
      let g = good x x-lo x-hi in
      let bs : encode c ≡ b ∷ x ∷ y ∷ z ∷ [] =
      encode_4 c (omega arith) ∙ same (omega arith) (same (omega arith) (same (omega arith) (same (omega arith) refl))) in
      record { value = c; good = high_scalar c (omega arith) (omega arith); rest = r.behind; split = same refl (p.whole ∙ same refl (q.whole ∙ same refl r.whole)) ∙ sym (ap (λ (l : List ℕ). l ++ r.behind) bs); long = rw bs }

pub found : (bytes : List ℕ) (n : ℕ) → first table bytes ≡ suc n → Sequence bytes (suc n)
found [] n e = absurd (omega (arith, no_bytes))
found (b ∷ bytes) n e = at_1 (dec_lt b 0x80)
  where
    got : (t : Bool) (k : ℕ) → first table (b ∷ bytes) ≡ cond t k 0 → (t ≡ true → Sequence (b ∷ bytes) k) → Sequence (b ∷ bytes) (suc n)
    got t k f make = let c = counted t k n (sym f ∙ e) in subst (λ m. Sequence (b ∷ bytes) m) c.1 (make c.0)

    never : first table (b ∷ bytes) ≡ 0 → Sequence (b ∷ bytes) (suc n)
    never f = absurd (omega arith)

    at_9 : 0xF4 ≤ b → Dec (b < 0xF5) → Sequence (b ∷ bytes) (suc n)
    at_9 l (yes h) = got _ 4 (row_9 b bytes l (omega arith)) (fits_4 b bytes 0x80 0x8F (omega arith) (omega arith) (omega arith) (λ x p q. omega arith))
    at_9 l (no h) = never (no_row_behind b bytes (omega arith))

    at_8 : 0xF1 ≤ b → Dec (b < 0xF4) → Sequence (b ∷ bytes) (suc n)
    at_8 l (yes h) = got _ 4 (row_8 b bytes l (omega arith)) (fits_4 b bytes 0x80 0xBF (omega arith) (omega arith) (omega arith) (λ x p q. omega arith))
    at_8 l (no h) = at_9 (omega arith) (dec_lt b 0xF5)

    at_7 : 0xF0 ≤ b → Dec (b < 0xF1) → Sequence (b ∷ bytes) (suc n)
    at_7 l (yes h) = got _ 4 (row_7 b bytes l (omega arith)) (fits_4 b bytes 0x90 0xBF (omega arith) (omega arith) (omega arith) (λ x p q. omega arith))
    at_7 l (no h) = at_8 (omega arith) (dec_lt b 0xF4)

    at_6 : 0xEE ≤ b → Dec (b < 0xF0) → Sequence (b ∷ bytes) (suc n)
    at_6 l (yes h) =
        got _ 3 (row_6 b bytes l (omega arith))
        (fits_3 b bytes 0x80 0xBF (omega arith) (omega arith) (omega arith) (omega arith) (λ x y p q r s. (omega arith, high_scalar _ (omega arith) (omega arith))))
    at_6 l (no h) = at_7 (omega arith) (dec_lt b 0xF1)

    at_5 : 0xED ≤ b → Dec (b < 0xEE) → Sequence (b ∷ bytes) (suc n)
    at_5 l (yes h) =
        got _ 3 (row_5 b bytes l (omega arith))
        (fits_3 b bytes 0x80 0x9F (omega arith) (omega arith) (omega arith) (omega arith) (λ x y p q r s. (omega arith, low_scalar _ (omega arith))))
    at_5 l (no h) = at_6 (omega arith) (dec_lt b 0xF0)

    at_4 : 0xE1 ≤ b → Dec (b < 0xED) → Sequence (b ∷ bytes) (suc n)
    at_4 l (yes h) =
        got _ 3 (row_4 b bytes l (omega arith))
        (fits_3 b bytes 0x80 0xBF (omega arith) (omega arith) (omega arith) (omega arith) (λ x y p q r s. (omega arith, low_scalar _ (omega arith))))
    at_4 l (no h) = at_5 (omega arith) (dec_lt b 0xEE)

    at_3 : 0xE0 ≤ b → Dec (b < 0xE1) → Sequence (b ∷ bytes) (suc n)
    at_3 l (yes h) =
        got _ 3 (row_3 b bytes l (omega arith))
        (fits_3 b bytes 0xA0 0xBF (omega arith) (omega arith) (omega arith) (omega arith) (λ x y p q r s. (omega arith, low_scalar _ (omega arith))))
    at_3 l (no h) = at_4 (omega arith) (dec_lt b 0xED)

    at_2 : 0xC2 ≤ b → Dec (b < 0xE0) → Sequence (b ∷ bytes) (suc n)
    at_2 l (yes h) = got _ 2 (row_2 b bytes l (omega arith)) (fits_2 b bytes l (omega arith))
    at_2 l (no h) = at_3 (omega arith) (dec_lt b 0xE1)

    gap : 0x80 ≤ b → Dec (b < 0xC2) → Sequence (b ∷ bytes) (suc n)
    gap l (yes h) = never (no_row b bytes l (omega arith))
    gap l (no h) = at_2 (omega arith) (dec_lt b 0xE0)

    at_1 : Dec (b < 0x80) → Sequence (b ∷ bytes) (suc n)
    at_1 (yes h) =
        got true 1 (row_1 b bytes (omega arith))
        (λ t. record { value = b; good = low_scalar b (omega arith); rest = bytes; split = rw (encode_1 b h); long = rw (encode_1 b h) })
    at_1 (no h) = gap (omega arith) (dec_lt b 0xC2)
