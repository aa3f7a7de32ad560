-- The bound of the fields never counts: from the number of the bytes on, every bound gives the same.
use mathlib.Core.Path.{◌≡◌, refl}
use mathlib.Core.List.{List, [], ◌∷◌}
use Prim.Native.Nat.{ℕ, zero, suc, ◌≤◌}
use native.Mathlib.Omega.{arith}
use lib.ListN.{length, drop, length-drop}
use Rattle.std.specs.Prelude.{Result, Ok, Err}
use Rattle.refusals.specs.declared.Reason.{Reason}
use Rattle.fields.specs.declared.Field.{Field}
use Rattle.fields.specs.Field.{first}
use Rattle.files.specs.File.{fields}
use Rattle.files.proofs.Good.{taken}
use Rattle.files.proofs.Pass.{none_left, good_next, bad_next}

-- two bounds that are no less than the number of the bytes
pub same_fields : (b b' number : ℕ) (bytes : List ℕ) → length bytes ≤ b → length bytes ≤ b' → fields b number bytes ≡ fields b' number bytes
same_fields zero b' number [] h h' = rw (none_left zero number, none_left b' number)
same_fields zero b' number (x ∷ bytes) h h' = absurd (omega arith)
same_fields (suc b) b' number [] h h' = rw (none_left (suc b) number, none_left b' number)
same_fields (suc b) zero number (x ∷ bytes) h h' = absurd (omega arith)
same_fields (suc b) (suc b') number (x ∷ bytes) h h' = go (first (x ∷ bytes)) refl (same_fields b b' (suc number))
  where
    go : (r : Result Field Reason) → first (x ∷ bytes) ≡ r
        → ((rest : List ℕ) → length rest ≤ b → length rest ≤ b' → fields b (suc number) rest ≡ fields b' (suc number) rest)
        → fields (suc b) number (x ∷ bytes) ≡ fields (suc b') number (x ∷ bytes)
    go (Ok f) e same =
        let some = (taken (x ∷ bytes) e).some in
        let rest = same (drop f.width (x ∷ bytes)) (simp length-drop (omega arith)) (simp length-drop (omega arith)) in
        rw (good_next b number (x ∷ bytes) (omega arith) e, good_next b' number (x ∷ bytes) (omega arith) e, rest)
    go (Err r) e same = rw (bad_next b number (x ∷ bytes) (omega arith) e, bad_next b' number (x ∷ bytes) (omega arith) e)
