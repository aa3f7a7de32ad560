-- What a file can give: words that the buffer has room for, or refusal 6 or 3 at place 0, or 5 or 33 at the number of a field.
use mathlib.Core.Path.{◌≡◌, refl}
use mathlib.Core.Bool.{Bool, true, false, cond}
use mathlib.Core.List.{List, [], ◌∷◌}
use Prim.Native.Nat.{ℕ, zero, suc, ◌≤◌}
use native.Mathlib.Omega.{arith}
use borrow.Author.Tests.{leb-true}
use lib.Dec.{leb}
use lib.ListN.{length}
use Rattle.std.specs.Prelude.{Result, Ok, Err}
use Rattle.refusals.specs.declared.Reason.{Reason}
use Rattle.refusals.specs.declared.Reason.TheVariants.{BadField, NotUnicode}
use Rattle.refusals.specs.Reasons.{number as number_of}
use Rattle.fields.specs.declared.Field.{Field}
use Rattle.fields.specs.Field.{first}
use Rattle.files.specs.File.{Content, read, refused, NoRoom, TooLong, most, before, fields}
use Rattle.files.specs.Entry.{within, content, answered}
use Rattle.files.proofs.Good.{bad_field as bad}
use Rattle.files.proofs.Pass.{good_next, bad_next}

-- the refusals by number and place
pub data Refusal : (number place : ℕ) → Type 0 where
  too_long : Refusal TooLong 0
  bad_field : (number : ℕ) → Refusal (number_of BadField) number
  not_unicode : (number : ℕ) → Refusal (number_of NotUnicode) number
  no_room : Refusal NoRoom 0

-- a bad field's is one of two
pub refusal : (part : List ℕ) {r : Reason} → first part ≡ Err r → (number : ℕ) → Refusal (number_of r) number
refusal part e number = bad part (λ r. Refusal (number_of r) number) (bad_field number) (not_unicode number) e

-- that words meet a condition, and a refusal is one of them
abbrev Among : (List ℕ → Type 0) → Content → Type 0
Among P (read words) = P words
Among P (refused number place) = Refusal number place

-- any words
abbrev Any : List ℕ → Type 0
Any words = Unit

before_among : (w : ℕ) (c : Content) → Among Any c → Among Any (before w c)
unfolding before
before_among w (read words) k = tt
before_among w (refused number place) k = k

fields_among : (bound number : ℕ) (bytes : List ℕ) → Among Any (fields bound number bytes)
unfolding fields
fields_among zero number bytes = tt
fields_among (suc bound) number [] = tt
fields_among (suc bound) number (b ∷ bytes) = go (first (b ∷ bytes)) refl (fields_among bound (suc number))
  where
    go : (r : Result Field Reason) → first (b ∷ bytes) ≡ r → ((rest : List ℕ) → Among Any (fields bound (suc number) rest))
        → Among Any (fields (suc bound) number (b ∷ bytes))
    go (Ok f) e k = rw (good_next bound number (b ∷ bytes) (omega arith) e) (before_among f.word _ (k _))
    go (Err r) e k = rw (bad_next bound number (b ∷ bytes) (omega arith) e) (refusal (b ∷ bytes) e number)

-- words that a buffer has room for
abbrev Fit : (room : ℕ) → List ℕ → Type 0
Fit room words = length words ≤ room

within_among : (room : ℕ) (c : Content) → Among Any c → Among (Fit room) (within room c)
unfolding within
within_among room (read words) k = go (leb (length words) room) refl
  where
    go : (t : Bool) → leb (length words) room ≡ t → Among (Fit room) (cond t (read words) (refused NoRoom 0))
    go true e = leb-true (length words) room e
    go false e = no_room
within_among room (refused number place) k = k

-- so is what a file gives
pub content_among : (bytes : List ℕ) (room : ℕ) → Among (Fit room) (content bytes room)
unfolding content
content_among bytes room = go (leb (length bytes) most)
  where
    go : (t : Bool) → Among (Fit room) (cond t (within room (fields (length bytes) 0 bytes)) (refused TooLong 0))
    go true = within_among room _ (fields_among (length bytes) 0 bytes)
    go false = too_long

-- where a count is answered, it is that of the file's words, and the buffer has room for them
pub record Accepted (bytes : List ℕ) (room count : ℕ) : Type 0 where
  pub words : List ℕ
  pub given : content bytes room ≡ read words
  pub counted : length words ≡ count
  pub fit : count ≤ room

pub accepted : (bytes : List ℕ) (room : ℕ) {count : ℕ} → answered (content bytes room) ≡ Ok count → Accepted bytes room count
accepted bytes room {count} e = go (content bytes room) refl (content_among bytes room) e
  where
    go : (c : Content) → content bytes room ≡ c → Among (Fit room) c → answered c ≡ Ok count → Accepted bytes room count
    go (read words) q fit f =
        let counted : length words ≡ count = cc in
        record { words = words; given = q; counted = counted; fit = omega arith }
    go (refused number place) q r f =
        let z : ◌≡◌ {A = ℕ} 0 1 = cc in
        absurd (omega arith)
