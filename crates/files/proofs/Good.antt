-- A good field, taken apart; and what a bad one is refused with.
use mathlib.Core.Path.{◌≡◌, refl, sym, ap, subst}
use mathlib.Core.Bool.{Bool, true, false, cond}
use mathlib.Core.List.{List, [], ◌∷◌, ◌++◌}
use Prim.Native.Nat.{ℕ, ◌+◌, ◌*◌, ◌≤◌, ◌<◌}
use native.Mathlib.Omega.{arith}
use borrow.Author.Tests.{leb-true}
use lib.Dec.{leb}
use lib.ListN.{length, take, drop, length-append, take-append-drop}
use lib.Seq.{length-take-le, drop-append_seam, drop-drop}
use Rattle.std.specs.Prelude.{Result, Ok, Err}
use Rattle.refusals.specs.declared.Reason.{Reason}
use Rattle.refusals.specs.declared.Reason.TheVariants.{BadField, NotUnicode}
use Rattle.fields.specs.declared.Field.{Field}
use Rattle.fields.specs.Field.{head, good, allowed, unicode, word, whole, first}

-- no field is both
pub never : {r : Reason} {f : Field} → ◌≡◌ {A = Result Field Reason} (Err r) (Ok f) → ⊥
never e = let z : ◌≡◌ {A = ℕ} 0 1 = cc in omega arith

-- what is known of the tag and the payload of a good field
pub record Told (tag : ℕ) (payload : List ℕ) (f : Field) : Type 0 where
  pub right : allowed tag (length payload) ≡ true
  pub text : unicode tag payload ≡ true
  pub its_word : f.word ≡ word tag payload
  pub takes : f.width ≡ head + length payload

-- a good field: its head, a payload of that length, and what is behind it
pub record GoodField (part : List ℕ) (f : Field) : Type 0 where
  pub tag : ℕ
  pub high : ℕ
  pub low : ℕ
  pub payload : List ℕ
  pub rest : List ℕ
  pub split : part ≡ tag ∷ high ∷ low ∷ (payload ++ rest)
  pub long : length payload ≡ high * 256 + low
  pub told : Told tag payload f

module _ {f : Field} where
  whole_told : (tag : ℕ) (payload : List ℕ) → whole tag payload ≡ Ok f → Told tag payload f
  unfolding whole
  whole_told tag payload e = go (allowed tag (length payload)) (unicode tag payload) refl refl e
    where
      go : (t u : Bool) → allowed tag (length payload) ≡ t → unicode tag payload ≡ u
          → ◌≡◌ {A = Result Field Reason} (cond t (cond u (Ok (good (word tag payload) (head + length payload))) (Err NotUnicode)) (Err BadField)) (Ok f)
          → Told tag payload f
      go true true a p e = let same : good (word tag payload) (head + length payload) ≡ f = cc in record { right = a; text = p; its_word = ap (λ g. g.word) (sym same); takes = ap (λ g. g.width) (sym same) }
      go true false a p e = absurd (never e)
      go false u a p e = absurd (never e)

  pub good_field : (part : List ℕ) → first part ≡ Ok f → GoodField part f
  unfolding first
  good_field [] e = absurd (never e)
  good_field (tag ∷ []) e = absurd (never e)
  good_field (tag ∷ high ∷ []) e = absurd (never e)
  good_field (tag ∷ high ∷ low ∷ rest) e = go (leb size (length rest)) refl e
    where
      size : ℕ
      size = high * 256 + low

      go : (t : Bool) → leb size (length rest) ≡ t → cond t (whole tag (take size rest)) (Err BadField) ≡ Ok f → GoodField (tag ∷ high ∷ low ∷ rest) f
      go true t e =
          record {
            tag = tag;
            high = high;
            low = low;
            payload = take size rest;
            rest = drop size rest;
            split = rw (take-append-drop size rest);
            long = length-take-le size rest (leb-true size (length rest) t);
            told = whole_told tag (take size rest) e;
          }
      go false t e = absurd (never e)

-- it takes some bytes, and no more than there are
pub record Taken (part : List ℕ) (width : ℕ) : Type 0 where
  pub some : 0 < width
  pub held : width ≤ length part

pub taken : (part : List ℕ) {f : Field} → first part ≡ Ok f → Taken part f.width
taken part e =
    let g = good_field part e in
    record { some = omega (arith, g.told.takes); held = rw g.split (simp length-append (omega (arith, g.told.takes))) }

-- behind them is what is behind it
pub behind : {part : List ℕ} {f : Field} (g : GoodField part f) → drop f.width part ≡ g.rest
behind g =
    rw (g.told.takes, g.split, ← drop-drop (length g.payload) head (g.tag ∷ g.high ∷ g.low ∷ (g.payload ++ g.rest))) (drop-append_seam g.payload g.rest)

-- a bad one is refused for one of two reasons
pub bad_field : (part : List ℕ) {r : Reason} (P : Reason → Type 0) → P BadField → P NotUnicode → first part ≡ Err r → P r
unfolding first whole
bad_field part {r} P bad foreign e = by_part part e
  where
    is_bad : ◌≡◌ {A = Result Field Reason} (Err BadField) (Err r) → P r
    is_bad f = let same : BadField ≡ r = cc in subst P same bad

    go : (s t u : Bool) (f : Field) → ◌≡◌ {A = Result Field Reason} (cond s (cond t (cond u (Ok f) (Err NotUnicode)) (Err BadField)) (Err BadField)) (Err r) → P r
    go true true true f e = absurd (never (sym e))
    go true true false f e = let same : NotUnicode ≡ r = cc in subst P same foreign
    go true false u f e = is_bad e
    go false t u f e = is_bad e

    by_part : (bytes : List ℕ) → first bytes ≡ Err r → P r
    by_part [] f = is_bad f
    by_part (tag ∷ []) f = is_bad f
    by_part (tag ∷ high ∷ []) f = is_bad f
    by_part (tag ∷ high ∷ low ∷ rest) f =
        let payload = take (high * 256 + low) rest in
        go (leb (high * 256 + low) (length rest)) (allowed tag (length payload)) (unicode tag payload) _ f
