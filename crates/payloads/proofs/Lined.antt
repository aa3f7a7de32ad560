-- A file that is accepted is its fields, one behind another and nothing else.
use mathlib.Core.Path.{◌≡◌, refl, sym, ap, ◌∙◌}
use mathlib.Core.Bool.{Bool, true, false, cond}
use mathlib.Core.List.{List, [], ◌∷◌, ◌++◌, map}
use Prim.Native.Nat.{ℕ, zero, suc, ◌+◌, ◌*◌, ◌≤◌}
use native.Mathlib.Omega.{arith}
use borrow.Author.Tests.{leb-true}
use lib.Dec.{leb}
use lib.ListN.{length, take, length-append, length-map}
use lib.Seq.{take_at}
use Rattle.fields.specs.Field.{allowed, unicode, word}
use Rattle.files.specs.File.{read, refused, TooLong, most, fields}
use Rattle.files.specs.Entry.{within, content}
use Rattle.files.specs.Claims.{Holds, none, field}
use Rattle.files.proofs.Payloads.{unicode_payloads}
use Rattle.payloads.specs.Fields.{Field, cut, fields_of}
use Rattle.payloads.specs.Index.{held, most_fields}
use Rattle.payloads.proofs.Cut.{none_cut, one_cut}

-- bytes, and the fields that they are
pub data Lined : (bytes : List ℕ) → List Field → Type 0 where
  end : Lined [] []
  then : (tag high low : ℕ) (payload rest : List ℕ) (fs : List Field) → length payload ≡ high * 256 + low → allowed tag (length payload) ≡ true → unicode tag payload ≡ true
      → Lined rest fs
      → Lined (tag ∷ high ∷ low ∷ (payload ++ rest)) ((tag, payload) ∷ fs)

-- the words of fields
abbrev pub words_of : List Field → List ℕ
words_of fs = map (λ f. word f.0 f.1) fs

-- a field takes three bytes and more
pub lined_thirds : {bytes : List ℕ} {fs : List Field} → Lined bytes fs → 3 * length fs ≤ length bytes
lined_thirds end = omega arith
lined_thirds (then tag high low payload rest fs e a u k) = simp length-append (omega (arith, lined_thirds k))

-- fields that are held are cut so, and the words are theirs
cuts : {bytes words : List ℕ} → Holds bytes words → (bound : ℕ) → length bytes ≤ bound → Lined bytes (cut bound bytes) × (words ≡ words_of (cut bound bytes))
cuts none bound h = rw (none_cut bound) (end, refl)
cuts (field tag high low payload rest words e a u k) zero h = absurd (omega arith)
cuts (field tag high low payload rest words e a u k) (suc bound) h =
    let long = length-append payload rest in
    let more = cuts k bound (omega arith) in
    rw (one_cut bound tag high low payload rest e) (then tag high low payload rest (cut bound rest) e a u more.0, ap (λ ws. word tag payload ∷ ws) more.1)

-- that a file is accepted: it is short enough, and its fields are lined up, with these words
pub record Accepted (bytes words : List ℕ) : Type 0 where
  pub short : length bytes ≤ most
  pub lined : Lined bytes (fields_of bytes)
  pub theirs : words ≡ words_of (fields_of bytes)

module _ (bytes words : List ℕ) (e : held bytes ≡ read words) where
  -- the words are those that are held
  holds : Holds bytes words
  holds =
      let u = unicode_payloads bytes (length bytes) (length words) (rw e) in
      let front = rw e at u.front in
      let same : u.words ≡ words = sym (take_at u.words _ (length words) u.counted) ∙ ap (take (length words)) (sym front) ∙ take_at words _ (length words) refl in
      rw same at u.held

  no_more : length bytes ≤ most
  unfolding content
  no_more = go (leb (length bytes) most) refl e
    where
      go : (t : Bool) → leb (length bytes) most ≡ t → cond t (within (length bytes) (fields (length bytes) 0 bytes)) (refused TooLong 0) ≡ read words → length bytes ≤ most
      go true t f = leb-true (length bytes) most t
      go false t f = let z : ◌≡◌ {A = ℕ} 0 1 = cc in absurd (omega arith)

  pub accepted : Accepted bytes words
  unfolding fields_of
  accepted =
      let c = cuts holds (length bytes) (omega arith) in
      record { short = no_more; lined = c.0; theirs = c.1 }

-- how many fields it has: as many as words, and no more than the index has room for
module _ (bytes words : List ℕ) (e : held bytes ≡ read words) where
  pub fields_counted : length (fields_of bytes) ≡ length words
  fields_counted = sym (ap length (accepted bytes words e).theirs ∙ length-map (fields_of bytes) _)

  pub fields_few : length words ≤ most_fields
  fields_few =
      let a = accepted bytes words e in
      omega (arith, fields_counted, lined_thirds a.lined, a.short)
