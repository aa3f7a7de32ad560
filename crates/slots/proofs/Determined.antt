-- For each public function: its contract determines what it answers.
use Rattle.grammar.specs.Once.{Determines}
use Rattle.slots.proofs.slot.Reads as slot
use Rattle.slots.proofs.mark_good.Reads as mark-good
use Rattle.slots.proofs.is_list.Reads as is_list
use Rattle.slots.proofs.taken_in.Reads as taken_in
use Rattle.slots.proofs.child_good.Reads as child-good
use Rattle.slots.proofs.next_good.Reads as next-good

pub slot_determined : Determines slot.Post (λ κs r left. r)
slot_determined κs args r r' left left' p q = cc

pub mark_good_determined : Determines mark-good.Post (λ κs r left. r)
mark_good_determined κs args r r' left left' p q = cc

pub is_list_determined : Determines is_list.Post (λ κs r left. r)
is_list_determined κs args r r' left left' p q = cc

pub taken_in_determined : Determines taken_in.Post (λ κs r left. r)
taken_in_determined κs args r r' left left' p q = cc

pub child_good_determined : Determines child-good.Post (λ κs r left. r)
child_good_determined κs args r r' left left' p q = cc

pub next_good_determined : Determines next-good.Post (λ κs r left. r)
next_good_determined κs args r r' left left' p q = cc
