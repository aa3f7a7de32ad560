-- `four::put_text` meets its contract: the length of the text tells which buffer it is in.
use Prim.Native.Nat.{ℕ, ◌<◌}
use mathlib.Core.Path.{◌≡◌, refl, ap, ◌∙◌}
use mathlib.Core.Bool.{Bool, true, false, not, cond}
use mathlib.Core.List.{List, [], ◌∷◌}
use native.Mathlib.Omega.{arith}
use borrow.Author.Tests.{eq-eqb, ne_eqb, leb-true}
use lib.Dec.{eqb, leb}
use lib.ListN.{length, take}
use lib.Seq.{length-take-le}
use mir.Val.{bool_byte}
use Rattle.text.specs.Fold.{choose, has_pair, folded}
use Rattle.text.specs.Entries.{text_of}
use Rattle.text.proofs.Cases.{Told, same, less, told}
use Rattle.four.specs.Answers.{over, text_words}
use Rattle.four.proofs.put_text.Goals as goal

-- with a pair the text is shorter than the payload
shorter : (payload work : List ℕ) → has_pair payload ≡ true → length (folded payload) < length payload → length (text_of payload work) < length payload
shorter payload work h l = rw h (go (leb (length (folded payload)) (length work)) refl)
  where
    go : (t : Bool) → leb (length (folded payload)) (length work) ≡ t → length (choose t (take (length (folded payload)) work) []) < length payload
    go true e = rw (length-take-le (length (folded payload)) work (leb-true _ _ e)) l
    go false e = omega arith

-- so its length, held to the payload's, tells whether there is one
which : (payload work : List ℕ) → bool_byte (not (eqb (length (text_of payload work)) (length payload))) ≡ cond (has_pair payload) 1 0
which payload work = go (told payload)
  where
    go : Told payload (folded payload) (has_pair payload) → bool_byte (not (eqb (length (text_of payload work)) (length payload))) ≡ cond (has_pair payload) 1 0
    go (same h e) = rw (h, eq-eqb (length payload) (length payload) refl)
    go (less h l) =
        let s = shorter payload work h l in
        rw (ne_eqb (length (text_of payload work)) (length payload) (λ e. omega arith), h)

-- the four words, from the text that was handed back
words : (payload work text : List ℕ) → text ≡ text_of payload work
    → 0 ∷ length text ∷ bool_byte (not (eqb (length text) (length payload))) ∷ 0 ∷ [] ≡ text_words payload work
words payload work text e = rw (e, which payload work)

pub returns : goal.returns
returns c = c.put.ensures ∙ ap (λ (ws : List ℕ). over ws c.args.words.now) (words c.args.payload.now c.args.work.now _ c.text-text.ensures)
