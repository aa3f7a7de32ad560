-- The fields of bytes, cut off one by one, and how many places they begin at.
use mathlib.Core.Path.{◌≡◌, refl, ap}
use mathlib.Core.List.{List, [], ◌∷◌, ◌++◌}
use Prim.Native.Nat.{ℕ, zero, suc, ◌+◌, ◌*◌}
use lib.ListN.{length}
use lib.Seq.{take-append_seam, drop-append_seam}
use Rattle.payloads.specs.Fields.{Field, cut}
use Rattle.payloads.specs.Index.{begins}

-- no bytes have no fields
pub none_cut : (bound : ℕ) → cut bound [] ≡ []
unfolding cut
none_cut zero = refl
none_cut (suc bound) = refl

-- a payload of the length that stands before it, and what is behind it
pub one_cut : (bound tag high low : ℕ) (payload rest : List ℕ) → length payload ≡ high * 256 + low
    → cut (suc bound) (tag ∷ high ∷ low ∷ (payload ++ rest)) ≡ (tag, payload) ∷ cut bound rest
unfolding cut
one_cut bound tag high low payload rest e = rw (← e, take-append_seam, drop-append_seam)

-- fields begin at as many places
pub length_begins : (at : ℕ) (fs : List Field) → length (begins at fs) ≡ length fs
unfolding begins
length_begins at [] = refl
length_begins at (f ∷ fs) = ap suc (length_begins (at + (3 + length f.1)) fs)
