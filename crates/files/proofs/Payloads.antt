-- A file that is accepted holds Unicode in every field, and its words are those of its fields.
use mathlib.Core.Path.{◌≡◌, refl, sym, ◌∙◌}
use mathlib.Core.Bool.{Bool, true, false, cond}
use mathlib.Core.List.{List, [], ◌∷◌}
use Prim.Native.Nat.{ℕ, zero, suc, ◌≤◌}
use native.Mathlib.Omega.{arith}
use lib.Dec.{leb}
use lib.ListN.{length, drop, length-drop}
use Rattle.std.specs.Prelude.{Result, Ok, Err}
use Rattle.refusals.specs.declared.Reason.{Reason}
use Rattle.refusals.specs.Reasons.{number as number_of}
use Rattle.fields.specs.declared.Field.{Field}
use Rattle.fields.specs.Field.{first}
use Rattle.files.specs.File.{Content, read, refused, NoRoom, TooLong, most, before, fields}
use Rattle.files.specs.Entry.{within, content}
use Rattle.files.specs.Claims.{Holds, none, field, UnicodePayloads}
use Rattle.files.proofs.Good.{GoodField, good_field, taken, behind}
use Rattle.files.proofs.Pass.{good_next, bad_next, none_left}
use Rattle.files.proofs.Outcomes.{accepted}

-- a good field holds Unicode, and the file goes on behind it
one_more : {part words : List ℕ} {f : Field} → GoodField part f → Holds (drop f.width part) words → Holds part (f.word ∷ words)
one_more g k = rw (g.split, g.told.its_word) (field g.tag g.high g.low g.payload g.rest _ g.long g.told.right g.told.text (rw (behind g) at k))

-- words behind a first one
before_read : (w : ℕ) (c : Content) {words : List ℕ} → before w c ≡ read words → (ws : List ℕ) × (c ≡ read ws) × (words ≡ w ∷ ws)
unfolding before
before_read w (read ws) e = (ws, refl, cc)
before_read w (refused n p) e = let z : ◌≡◌ {A = ℕ} 0 1 = cc in absurd (omega arith)

-- words come of such fields alone, and none of no bytes
no_fields : (bound number : ℕ) (words : List ℕ) → fields bound number [] ≡ read words → Holds [] words
no_fields bound number words e =
    let nothing : words ≡ [] = cc (none_left bound number) in
    rw nothing none

all_fields : (bound number : ℕ) (bytes words : List ℕ) → length bytes ≤ bound → fields bound number bytes ≡ read words → Holds bytes words
all_fields zero number [] words h e = no_fields zero number words e
all_fields zero number (b ∷ bytes) words h e = absurd (omega arith)
all_fields (suc bound) number [] words h e = no_fields (suc bound) number words e
all_fields (suc bound) number (b ∷ bytes) words h e = go (first (b ∷ bytes)) refl (all_fields bound (suc number))
  where
    go : (r : Result Field Reason) → first (b ∷ bytes) ≡ r
        → ((rest ws : List ℕ) → length rest ≤ bound → fields bound (suc number) rest ≡ read ws → Holds rest ws)
        → Holds (b ∷ bytes) words
    go (Ok g) f rec =
        let some = (taken (b ∷ bytes) f).some in
        let r = before_read g.word _ (sym (good_next bound number (b ∷ bytes) (omega arith) f) ∙ e) in
        rw r.2 (one_more (good_field (b ∷ bytes) f) (rec (drop g.width (b ∷ bytes)) r.0 (simp length-drop (omega arith)) r.1))
    go (Err reason) f rec =
        let r : refused (number_of reason) number ≡ read words = sym (bad_next bound number (b ∷ bytes) (omega arith) f) ∙ e in
        let z : ◌≡◌ {A = ℕ} 0 1 = cc in
        absurd (omega arith)

-- a file gives the words that its fields do
within_read : (room : ℕ) (c : Content) {words : List ℕ} → within room c ≡ read words → c ≡ read words
unfolding within
within_read room (read ws) {words} e = go (leb (length ws) room) e
  where
    go : (t : Bool) → cond t (read ws) (refused NoRoom 0) ≡ read words → read ws ≡ read words
    go true f = f
    go false f = let z : ◌≡◌ {A = ℕ} 0 1 = cc in absurd (omega arith)
within_read room (refused n p) e = let z : ◌≡◌ {A = ℕ} 0 1 = cc in absurd (omega arith)

content_held : (bytes : List ℕ) (room : ℕ) {words : List ℕ} → content bytes room ≡ read words → Holds bytes words
unfolding content
content_held bytes room {words} e = go (leb (length bytes) most) e
  where
    go : (t : Bool) → cond t (within room (fields (length bytes) 0 bytes)) (refused TooLong 0) ≡ read words → Holds bytes words
    go true f = all_fields (length bytes) 0 bytes words (omega arith) (within_read room _ f)
    go false f = let z : ◌≡◌ {A = ℕ} 0 1 = cc in absurd (omega arith)

pub unicode_payloads : UnicodePayloads
unicode_payloads bytes room count e =
    let a = accepted bytes room e in
    record { words = a.words; held = content_held bytes room a.given; counted = a.counted; front = rw (a.given, a.counted) }
