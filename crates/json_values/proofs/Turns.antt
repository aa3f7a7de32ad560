-- Loops over the bytes of a payload: what one byte more adds to what is written.
use mathlib.Core.Path.{◌≡◌, refl, sym, ap, ◌∙◌}
use mathlib.Core.List.{List, [], ◌∷◌, ◌++◌}
use Prim.Native.Nat.{ℕ, suc, ◌+◌, ◌*◌, ◌/◌, ◌%◌, ◌<◌}
use native.Mathlib.Omega.{arith}
use lib.ListN.{length, take, drop, get_or}
use lib.Seq.{take-suc}
use Rattle.std.proofs.Common.{take-append-drop}
use Rattle.fields.specs.Field.{number}
use Rattle.json_text.specs.Values.{hex, hexes, escape, escaped}
use Rattle.json_text.proofs.Texts.{escaped_append, escaped_one}
use Rattle.json_values.proofs.Plain.{hex_plain}

hexes_append : (a b : List ℕ) → hexes (a ++ b) ≡ hexes a ++ hexes b
unfolding hexes
hexes_append [] b = refl
hexes_append (c ∷ a) b = rw (hexes_append a b)

number_append : (s : ℕ) (a b : List ℕ) → number s (a ++ b) ≡ number (number s a) b
unfolding number
number_append s [] b = refl
number_append s (c ∷ a) b = number_append (s * 256 + c) a b

two_digits : (b : ℕ) → b < 256 → escaped (hex (b / 16) ∷ hex (b % 16) ∷ []) ≡ hex (b / 16) ∷ hex (b % 16) ∷ []
unfolding escaped
two_digits b h = rw (hex_plain (b / 16) (omega arith), hex_plain (b % 16) (omega arith))

-- What is written of a front, and of what is behind it.
module _ (bs : List ℕ) (i : ℕ) where
  pub escaped_rest : escaped (take i bs) ++ escaped (drop i bs) ≡ escaped bs
  escaped_rest = sym (escaped_append (take i bs) (drop i bs)) ∙ ap escaped (take-append-drop i bs)

  pub digits_rest : escaped (hexes (take i bs)) ++ escaped (hexes (drop i bs)) ≡ escaped (hexes bs)
  digits_rest =
      sym (escaped_append (hexes (take i bs)) (hexes (drop i bs))) ∙ ap escaped (sym (hexes_append (take i bs) (drop i bs)) ∙ ap hexes (take-append-drop i bs))

module _ (bs : List ℕ) (i : ℕ) (h : i < length bs) where
  pub escaped_turn : escaped (take (suc i) bs) ≡ escaped (take i bs) ++ escape (get_or bs i 0)
  escaped_turn =
      ap escaped (take-suc bs i 0 h) ∙ escaped_append (take i bs) (get_or bs i 0 ∷ []) ∙ ap (λ e. escaped (take i bs) ++ e) (escaped_one (get_or bs i 0))

  hexes_turn : hexes (take (suc i) bs) ≡ hexes (take i bs) ++ (hex (get_or bs i 0 / 16) ∷ hex (get_or bs i 0 % 16) ∷ [])
  unfolding hexes
  hexes_turn = ap hexes (take-suc bs i 0 h) ∙ hexes_append (take i bs) (get_or bs i 0 ∷ [])

  -- two digits more, of which none is escaped
  pub digits_turn : get_or bs i 0 < 256 → escaped (hexes (take (suc i) bs)) ≡ escaped (hexes (take i bs)) ++ (hex (get_or bs i 0 / 16) ∷ hex (get_or bs i 0 % 16) ∷ [])
  digits_turn b =
      ap escaped hexes_turn ∙ escaped_append (hexes (take i bs)) (hex (get_or bs i 0 / 16) ∷ hex (get_or bs i 0 % 16) ∷ [])
      ∙ ap (λ e. escaped (hexes (take i bs)) ++ e) (two_digits (get_or bs i 0) b)

  pub number_turn : number 0 (take (suc i) bs) ≡ number 0 (take i bs) * 256 + get_or bs i 0
  unfolding number
  number_turn = ap (number 0) (take-suc bs i 0 h) ∙ number_append 0 (take i bs) (get_or bs i 0 ∷ [])
