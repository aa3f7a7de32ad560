-- For each public function: its contract determines what it answers.
use Rattle.grammar.specs.Once.{Determines}
use Rattle.unicode_text.proofs.is_scalar.Reads as is-scalar
use Rattle.unicode_text.proofs.is_well_formed.Reads as is-well-formed

pub is_scalar_determined : Determines is-scalar.Post (λ κs r left. r)
is_scalar_determined κs args r r' left left' p q = cc

pub is_well_formed_determined : Determines is-well-formed.Post (λ κs r left. r)
is_well_formed_determined κs args r r' left left' p q = cc
