-- For each public function: its contract determines what it answers.
use Rattle.std.proofs.Common.{sym, ◌∙◌}
use Rattle.grammar.specs.Once.{Determines}
use Rattle.refusals.proofs.Refusal.new.Reads as new
use Rattle.refusals.proofs.Refusal.at.Reads as at
use Rattle.refusals.proofs.Refusal.number.Reads as number
use Rattle.refusals.proofs.Refusal.place.Reads as place
use Rattle.refusals.proofs.numbered.ByNumber.new.Reads as told-new
use Rattle.refusals.proofs.numbered.ByNumber.number.Reads as told-number
use Rattle.refusals.proofs.numbered.ByNumber.place.Reads as told-place
use Rattle.refusals.proofs.numbered.by_number.Reads as by-number

pub new_determined : Determines new.Post (λ κs r left. r)
new_determined κs args r r' left left' p q = cc

pub at_determined : Determines at.Post (λ κs r left. r)
at_determined κs args r r' left left' p q = cc

pub number_determined : Determines number.Post (λ κs r left. r)
number_determined κs args r r' left left' p q = cc

pub place_determined : Determines place.Post (λ κs r left. r)
place_determined κs args r r' left left' p q = cc

pub told_new_determined : Determines told-new.Post (λ κs r left. r)
told_new_determined κs args r r' left left' p q = cc

pub told_number_determined : Determines told-number.Post (λ κs r left. r)
told_number_determined κs args r r' left left' p q = cc

pub told_place_determined : Determines told-place.Post (λ κs r left. r)
told_place_determined κs args r r' left left' p q = cc

pub by_number_determined : (t : _) (l : _) → Determines (by-number.Post t l) (λ κs r left. r)
by_number_determined t l κs args r r' left left' p q = p ∙ sym q
