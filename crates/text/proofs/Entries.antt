-- The two entries together: folding and then handing back gives the folded text.
use mathlib.Core.Path.{◌≡◌, refl, sym, ap}
use mathlib.Core.Bool.{Bool, true, false}
use mathlib.Core.List.{List}
use Prim.Native.Nat.{ℕ, ◌+◌}
use native.Mathlib.Omega.{arith}
use lib.Dec.{leb}
use lib.ListN.{length, drop, length-append}
use lib.Seq.{take-append_seam}
use borrow.Author.Tests.{le-leb}
use Rattle.std.specs.Prelude.{Ok, Err}
use Rattle.refusals.specs.Refusal.{refusal}
use Rattle.text.specs.Fold.{has_pair, folded, written}
use Rattle.text.specs.Entries.{fold_answer, fold_buffer, text_of}
use Rattle.text.proofs.Cases.{Told, same, less, told}

-- the text behind a folding is the folded payload, of length n
abbrev pub Back : List ℕ → List ℕ → ℕ → Type 0
Back payload work n = (text_of payload (fold_buffer payload work) ≡ folded payload) × (length (folded payload) ≡ n)

-- a work buffer with a text at its front is at least as long
has_room : (text work : List ℕ) → leb (length text) (length (written text work)) ≡ true
has_room text work = rw length-append (le-leb (length text) (length text + length (drop (length text) work)) (omega arith))

-- folding that is accepted, and then handing back, gives the folded payload, of the length that was answered
pub fold_then_text : (payload work : List ℕ) {n : ℕ} → fold_answer payload work ≡ Ok n → Back payload work n
fold_then_text payload work {n} accepted = go (told payload)
  where
    some : has_pair payload ≡ true → (t : Bool) → leb (length (folded payload)) (length work) ≡ t → Back payload work n
    some h true q =
        let e : Ok (length (folded payload)) ≡ Ok n = rw (h, q) at accepted in
        rw (h, q, has_room (folded payload) work) (take-append_seam (folded payload) (drop (length (folded payload)) work), cc)
    some h false q =
        let e : Err (refusal 3 0) ≡ Ok n = rw (h, q) at accepted in
        let z : ◌≡◌ {A = ℕ} 0 1 = cc in
        absurd (omega arith)

    go : Told payload (folded payload) (has_pair payload) → Back payload work n
    go (same h e) =
        let l : Ok (length payload) ≡ Ok n = rw h at accepted in
        rw h (sym e, cc (ap length e))
    go (less h l) = some h (leb (length (folded payload)) (length work)) refl
