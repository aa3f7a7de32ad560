-- The contract of `first_field` determines the field.
use Rattle.grammar.specs.Once.{Determines}
use Rattle.fields.proofs.first_field.Reads as first_field

pub first_field_determined : Determines first_field.Post (λ κs r left. r)
first_field_determined κs args r r' left left' p q = cc
