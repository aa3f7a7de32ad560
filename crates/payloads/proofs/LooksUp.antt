-- What is looked up by the index of a file is the class and the payload of the field with that number.
use mathlib.Core.Path.{◌≡◌, refl, sym, ap}
use mathlib.Core.Bool.{Bool, true, false}
use mathlib.Core.List.{List, []}
use Prim.Native.Nat.{ℕ, ◌≤◌, ◌<◌}
use native.Mathlib.Omega.{arith}
use borrow.Author.Tests.{ltb-true, ltb-false}
use lib.Dec.{ltb}
use lib.ListN.{length, get_or, get_or-append, get_or-eq_default}
use Rattle.files.specs.File.{read}
use Rattle.payloads.specs.Fields.{Field, NoClass, fields_of, class_at, payload_at}
use Rattle.payloads.specs.Index.{held, begins, laid, start_of, class_by, payload_by}
use Rattle.payloads.specs.Claims.{LooksUp}
use Rattle.payloads.proofs.Cut.{length_begins}
use Rattle.payloads.proofs.Lined.{accepted, fields_counted}
use Rattle.payloads.proofs.Lies.{Lies, lies, its_class, its_payload}

module _ (bytes words : List ℕ) (place : ℕ) (e : held bytes ≡ read words) where
  abbrev starts : List ℕ
  starts = laid bytes (read words)

  -- the number of a field
  there : place < length words → Lies bytes (start_of starts place) (get_or (fields_of bytes) place (NoClass, []))
  there h =
      let many = fields_counted bytes words e in
      let inside : place < length (begins 0 (fields_of bytes)) = omega (arith, length_begins 0 (fields_of bytes)) in
      rw (get_or-append (begins 0 (fields_of bytes)) _ 0 place inside) (lies bytes (accepted bytes words e).lined 0 refl place (omega arith))

  -- behind the last one there is none
  none : length words ≤ place → get_or (fields_of bytes) place (NoClass, []) ≡ (NoClass, [])
  none h =
      let many = fields_counted bytes words e in
      get_or-eq_default (fields_of bytes) (NoClass, []) {n = place} (omega arith)

  class_found : (t : Bool) → ltb place (length words) ≡ t → class_by bytes starts (length words) place ≡ class_at (fields_of bytes) place
  unfolding class_by class_at
  class_found true t = rw t (its_class bytes (there (ltb-true place (length words) t)))
  class_found false t = rw t (sym (ap (λ (f : Field). f.0) (none (ltb-false place (length words) t))))

  payload_found : (t : Bool) → ltb place (length words) ≡ t → payload_by bytes starts (length words) place ≡ payload_at (fields_of bytes) place
  unfolding payload_by payload_at
  payload_found true t = rw t (its_payload bytes (there (ltb-true place (length words) t)))
  payload_found false t = rw t (sym (ap (λ (f : Field). f.1) (none (ltb-false place (length words) t))))

pub looks_up : LooksUp
looks_up bytes words place e = (class_found bytes words place e (ltb place (length words)) refl, payload_found bytes words place e (ltb place (length words)) refl)
