-- For each public function: its contract determines what it answers.
use Rattle.grammar.specs.Once.{Determines}
use Rattle.orders.proofs.order_of.Reads as order-of
use Rattle.orders.proofs.is_infix.Reads as is-infix
use Rattle.orders.proofs.infix_mark.Reads as infix-mark
use Rattle.orders.proofs.is_suffix.Reads as is-suffix
use Rattle.orders.proofs.goes_on.Reads as goes_on

pub order_of_determined : Determines order-of.Post (λ κs r left. r)
order_of_determined κs args r r' left left' p q = cc

pub is_infix_determined : Determines is-infix.Post (λ κs r left. r)
is_infix_determined κs args r r' left left' p q = cc

pub infix_mark_determined : Determines infix-mark.Post (λ κs r left. r)
infix_mark_determined κs args r r' left left' p q = cc

pub is_suffix_determined : Determines is-suffix.Post (λ κs r left. r)
is_suffix_determined κs args r r' left left' p q = cc

pub goes_on_determined : Determines goes_on.Post (λ κs r left. r)
goes_on_determined κs args r r' left left' p q = cc
