-- What a file holds: words, no more of them than it has bytes, or refusal 6 at place 0, or 5 or 33 at the number of a field; and what is answered by it.
use mathlib.Core.Path.{◌≡◌, refl, ◌∙◌}
use mathlib.Core.Bool.{Bool, true, false, cond}
use mathlib.Core.List.{List, [], ◌∷◌}
use Prim.Native.Nat.{ℕ, zero, suc, ◌≤◌}
use native.Mathlib.Omega.{arith}
use borrow.Author.Tests.{le-leb}
use lib.Dec.{leb}
use lib.ListN.{length}
use Rattle.std.specs.Prelude.{Result, Ok, Err}
use Rattle.refusals.specs.declared.Reason.{Reason}
use Rattle.refusals.specs.declared.Reason.TheVariants.{BadField, NotUnicode}
use Rattle.refusals.specs.Reasons.{number as number_of}
use Rattle.refusals.specs.Refusal.{Numbered, refusal}
use Rattle.fields.specs.declared.Field.{Field}
use Rattle.fields.specs.Field.{first}
use Rattle.files.specs.File.{Content, read, refused, TooLong, most, before, fields}
use Rattle.files.specs.Entry.{within, content, answered}
use Rattle.files.proofs.Good.{bad_field as bad}
use Rattle.files.proofs.Pass.{good_next, bad_next}
use Rattle.payloads.specs.Index.{held}

-- the refusals by number and place
pub data Refusal : (number place : ℕ) → Type 0 where
  too_long : Refusal TooLong 0
  bad_field : (number : ℕ) → Refusal (number_of BadField) number
  not_unicode : (number : ℕ) → Refusal (number_of NotUnicode) number

-- a bad field's is one of two
refused_field : (part : List ℕ) {r : Reason} → first part ≡ Err r → (number : ℕ) → Refusal (number_of r) number
refused_field part e number = bad part (λ r. Refusal (number_of r) number) (bad_field number) (not_unicode number) e

-- words, no more than so many, or one of the refusals
abbrev pub Given : (room : ℕ) → Content → Type 0
Given room (read words) = length words ≤ room
Given room (refused number place) = Refusal number place

before_given : (room w : ℕ) (c : Content) → Given room c → Given (suc room) (before w c)
unfolding before
before_given room w (read words) k = omega arith
before_given room w (refused number place) k = k

pub fields_given : (bound number : ℕ) (bytes : List ℕ) → Given bound (fields bound number bytes)
unfolding fields
fields_given zero number bytes = omega arith
fields_given (suc bound) number [] = omega arith
fields_given (suc bound) number (b ∷ bytes) = go (first (b ∷ bytes)) refl (fields_given bound (suc number))
  where
    go : (r : Result Field Reason) → first (b ∷ bytes) ≡ r → ((rest : List ℕ) → Given bound (fields bound (suc number) rest)) → Given (suc bound) (fields (suc bound) number (b ∷ bytes))
    go (Ok f) e k = rw (good_next bound number (b ∷ bytes) (omega arith) e) (before_given bound f.word _ (k _))
    go (Err r) e k = rw (bad_next bound number (b ∷ bytes) (omega arith) e) (refused_field (b ∷ bytes) e number)

within_given : (room : ℕ) (c : Content) → Given room c → Given room (within room c)
unfolding within
within_given room (read words) k = rw (le-leb (length words) room k) k
within_given room (refused number place) k = k

-- so is what a file holds
pub held_given : (bytes : List ℕ) → Given (length bytes) (held bytes)
unfolding content
held_given bytes = go (leb (length bytes) most)
  where
    go : (t : Bool) → Given (length bytes) (cond t (within (length bytes) (fields (length bytes) 0 bytes)) (refused TooLong 0))
    go true = within_given (length bytes) _ (fields_given (length bytes) 0 bytes)
    go false = too_long

-- where a count is answered, it is that of the words that the file holds
pub record Counted (bytes : List ℕ) (count : ℕ) : Type 0 where
  pub words : List ℕ
  pub given : held bytes ≡ read words
  pub counted : length words ≡ count

pub counted : (bytes : List ℕ) {count : ℕ} → answered (held bytes) ≡ Ok count → Counted bytes count
counted bytes {count} e = go (held bytes) refl e
  where
    go : (c : Content) → held bytes ≡ c → answered c ≡ Ok count → Counted bytes count
    go (read words) q f = record { words = words; given = q; counted = cc }
    go (refused number place) q f = let z : ◌≡◌ {A = ℕ} 0 1 = cc in absurd (omega arith)

-- where a refusal is answered, it is the one that the file holds
pub turned_down : (bytes : List ℕ) {e : Numbered} → answered (held bytes) ≡ Err e → held bytes ≡ refused e.number e.place
turned_down bytes {e} k = go (held bytes) refl k
  where
    go : (c : Content) → held bytes ≡ c → answered c ≡ Err e → held bytes ≡ refused e.number e.place
    go (read words) q f = let z : ◌≡◌ {A = ℕ} 0 1 = cc in absurd (omega arith)
    go (refused number place) q f = let same : refusal number place ≡ e = cc in q ∙ rw (← same) refl
