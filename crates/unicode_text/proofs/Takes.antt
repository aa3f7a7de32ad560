-- The bytes of a scalar value, whatever follows them, begin with a sequence of the table that takes just these.
use mathlib.Core.Path.{◌≡◌, ◌∙◌}
use mathlib.Core.Bool.{true, cond}
use mathlib.Core.Logic.{⊎_elim}
use mathlib.Core.List.{List, [], ◌∷◌, ◌++◌}
use Prim.Native.Nat.{ℕ, ◌+◌, ◌/◌, ◌≤◌, ◌<◌}
use native.Mathlib.Decide.{dec_lt}
use native.Mathlib.Omega.{arith}
use lib.ListN.{length}
use Rattle.unicode_text.specs.Unicode.{Range, ◌to◌, scalar, tail, table, begins, first, encode}
use Rattle.unicode_text.proofs.Leads.{inside, row_1, row_2, row_3, row_4, row_5, row_6, row_7, row_8, row_9}
use Rattle.unicode_text.proofs.Values.{Point, point, last, third, second, encode_1, encode_2, encode_3, encode_4}

module _ (c : ℕ) (rest : List ℕ) where
  abbrev Takes : Type 0
  Takes = first table (encode c ++ rest) ≡ length (encode c)

  -- what a row asks of the bytes behind the lead is there
  abbrev Leads : (lead low high : ℕ) → List Range → List ℕ → ℕ → Type 0
  Leads lead low high rs behind n = first table (lead ∷ behind) ≡ cond (begins (low to high ∷ rs) behind) n 0

  two : 0x80 ≤ c → c < 0x800 → Takes
  unfolding begins
  two l h =
      rw (encode_2 c l h) (row_2 _ (last c ∷ rest) (omega arith) (omega arith) ∙ rw (inside (last c) rest 0x80 0xBF [] (omega arith) (omega arith)))

  three : (low high : ℕ) → Leads (0xE0 + c / 4096) low high (tail ∷ []) (third c ∷ last c ∷ rest) 3
      → 0x800 ≤ c → c < 0x10000 → low ≤ third c → third c ≤ high → Takes
  unfolding begins
  three low high e l h p q =
      rw (encode_3 c l h)
      (e ∙ rw (inside (third c) (last c ∷ rest) low high (tail ∷ []) p q, inside (last c) rest 0x80 0xBF [] (omega arith) (omega arith)))

  four : (low high : ℕ) → Leads (0xF0 + c / 262144) low high (tail ∷ tail ∷ []) (second c ∷ third c ∷ last c ∷ rest) 4
      → 0x10000 ≤ c → low ≤ second c → second c ≤ high → Takes
  unfolding begins
  four low high e l p q =
      rw (encode_4 c l)
      (e
      ∙ rw (
        inside (second c) (third c ∷ last c ∷ rest) low high (tail ∷ tail ∷ []) p q,
        inside (third c) (last c ∷ rest) 0x80 0xBF (tail ∷ []) (omega arith) (omega arith),
        inside (last c) rest 0x80 0xBF [] (omega arith) (omega arith),
      ))

  pub takes : scalar c ≡ true → Takes
  takes s = at_1 (dec_lt c 0x80)
    where
      p : Point c
      p = point c s

      at_9 : 0x40000 ≤ c → Dec (c < 0x100000) → Takes
      at_9 l (yes h) = four 0x80 0xBF (row_8 _ _ (omega arith) (omega arith)) (omega arith) (omega arith) (omega arith)
      at_9 l (no h) = four 0x80 0x8F (row_9 _ _ (omega arith) (omega (arith, p.most))) (omega arith) (omega arith) (omega (arith, p.most))

      at_7 : 0x10000 ≤ c → Dec (c < 0x40000) → Takes
      at_7 l (yes h) = four 0x90 0xBF (row_7 _ _ (omega arith) (omega arith)) l (omega arith) (omega arith)
      at_7 l (no h) = at_9 (omega arith) (dec_lt c 0x100000)

      at_6 : 0xD000 ≤ c → Dec (c < 0x10000) → Takes
      at_6 l (yes h) =
          ⊎_elim
          (λ k. three 0x80 0x9F (row_5 _ _ (omega arith) (omega arith)) (omega arith) h (omega arith) (omega arith))
          (λ k. three 0x80 0xBF (row_6 _ _ (omega arith) (omega arith)) (omega arith) h (omega arith) (omega arith))
          p.apart
      at_6 l (no h) = at_7 (omega arith) (dec_lt c 0x40000)

      at_4 : 0x1000 ≤ c → Dec (c < 0xD000) → Takes
      at_4 l (yes h) = three 0x80 0xBF (row_4 _ _ (omega arith) (omega arith)) (omega arith) (omega arith) (omega arith) (omega arith)
      at_4 l (no h) = at_6 (omega arith) (dec_lt c 0x10000)

      at_3 : 0x800 ≤ c → Dec (c < 0x1000) → Takes
      at_3 l (yes h) = three 0xA0 0xBF (row_3 _ _ (omega arith) (omega arith)) l (omega arith) (omega arith) (omega arith)
      at_3 l (no h) = at_4 (omega arith) (dec_lt c 0xD000)

      at_2 : 0x80 ≤ c → Dec (c < 0x800) → Takes
      at_2 l (yes h) = two l h
      at_2 l (no h) = at_3 (omega arith) (dec_lt c 0x1000)

      at_1 : Dec (c < 0x80) → Takes
      at_1 (yes h) = rw (encode_1 c h) (row_1 c rest (omega arith))
      at_1 (no h) = at_2 (omega arith) (dec_lt c 0x800)
