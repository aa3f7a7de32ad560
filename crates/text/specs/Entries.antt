-- What the two string entries answer, and what the work buffer holds after folding.
use Rattle.std.specs.Prelude.{ℕ, List, [], Result, Ok, Err, leb, length, take}
use Rattle.refusals.specs.declared.Reason.TheVariants.{NoRoom}
use Rattle.refusals.specs.Reasons.{number}
use Rattle.refusals.specs.Refusal.{Numbered, refusal}
use Rattle.text.specs.Fold.{choose, has_pair, folded, written}

-- by case: there is no pair; the work buffer has room for the folded payload; it is too short
abbrev pub by_case : {A : Type 0} → List ℕ → List ℕ → A → A → A → A
by_case payload work none room short =
    choose (has_pair payload) (choose (leb (length (folded payload)) (length work)) room short) none

-- what folding answers: the length of the text, or that the work buffer is too short for it
abbrev pub fold_answer : List ℕ → List ℕ → Result ℕ Numbered
fold_answer payload work =
    by_case payload work (Ok (length payload)) (Ok (length (folded payload))) (Err (refusal (number NoRoom) 0))

-- every byte of the work buffer after folding
abbrev pub fold_buffer : List ℕ → List ℕ → List ℕ
fold_buffer payload work =
    by_case payload work work (written (folded payload) work) work

-- the text handed back
abbrev pub text_of : List ℕ → List ℕ → List ℕ
text_of payload work = by_case payload work payload (take (length (folded payload)) work) []
