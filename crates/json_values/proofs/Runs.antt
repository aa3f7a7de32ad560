-- Bytes of a string that stand as they are, one behind the other: put at once they are put with their escapes.
use mathlib.Core.Path.{◌≡◌, refl, sym, ap, ap₂, ◌∙◌}
use mathlib.Core.List.{List, [], ◌∷◌, ◌++◌}
use Prim.Native.Nat.{ℕ, suc, ◌+◌, ◌-◌, ◌≤◌, ◌<◌}
use native.Mathlib.Omega.{arith}
use lib.ListN.{length, take, drop, get_or, length-drop}
use lib.Seq.{take-suc, get_or-drop}
use Rattle.std.specs.Prelude.{Result, Ok, ⊤}
use Rattle.std.proofs.Common.{take-add}
use Rattle.json_text.specs.Values.{escape, escaped}
use Rattle.json_text.proofs.Texts.{escaped_append, escaped_one}
use Rattle.json_values.specs.declared.output.Out.{Out}
use Rattle.json_values.specs.Puts.{Puts}
use Rattle.json_values.proofs.Puts.{puts_append}

-- The bytes from a place to another.
abbrev pub part : List ℕ → (start i : ℕ) → List ℕ
part bs start i = take (i - start) (drop start bs)

-- They stand as they are.
pub record Run (bs : List ℕ) (start i : ℕ) : Type 0 where
  pub inside : start ≤ i
  pub held : i ≤ length bs
  pub plain : escaped (part bs start i) ≡ part bs start i

pub none_yet : (bs : List ℕ) (i : ℕ) → i ≤ length bs → Run bs i i
unfolding escaped
none_yet bs i h = let e : i - i ≡ 0 = omega arith in record { inside = omega arith; held = h; plain = rw e refl }

pub part_more : (bs : List ℕ) (start i : ℕ) → start ≤ i → i < length bs → part bs start (suc i) ≡ part bs start i ++ (get_or bs i 0 ∷ [])
part_more bs start i l h =
    let k : suc i - start ≡ suc (i - start) = omega arith in
    let at : start + (i - start) ≡ i = omega arith in
    let byte : get_or (drop start bs) (i - start) 0 ≡ get_or bs i 0 = get_or-drop start bs (i - start) 0 ∙ ap (λ j. get_or bs j 0) at in
    rw k (take-suc (drop start bs) (i - start) 0 (omega (arith, length-drop start bs)) ∙ ap (λ b. part bs start i ++ (b ∷ [])) byte)

pub one_more : (bs : List ℕ) (start i : ℕ) → Run bs start i → i < length bs → escape (get_or bs i 0) ≡ get_or bs i 0 ∷ [] → Run bs start (suc i)
one_more bs start i r h e = record {
  inside = omega (arith, r.inside);
  held = omega arith;
  plain = rw (part_more bs start i r.inside h)
      (escaped_append (part bs start i) (get_or bs i 0 ∷ []) ∙ ap₂ (λ a b. a ++ b) r.plain (escaped_one (get_or bs i 0) ∙ e));
}

-- Behind what was put before them.
pub run_put : (bs : List ℕ) (start i : ℕ) → Run bs start i → {o p q : Out} {u : ⊤} {s : Result ⊤ _} → Puts (escaped (take start bs)) o p (Ok u)
    → Puts (part bs start i) p q s → Puts (escaped (take i bs)) o q s
run_put bs start i r x y =
    let at : start + (i - start) ≡ i = omega (arith, r.inside) in
    let whole : take i bs ≡ take start bs ++ part bs start i = ap (λ j. take j bs) (sym at) ∙ take-add start (i - start) bs in
    rw (whole, escaped_append (take start bs) (part bs start i), r.plain) (puts_append x y)
