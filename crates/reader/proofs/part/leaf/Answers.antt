-- `leaf` meets its contract: a row without slots.
use Rattle.std.proofs.Common.{[], refl}
use Rattle.reader.specs.Meets.{of_node}
use Rattle.reader.proofs.Answers.{at_once}
use Rattle.reader.proofs.part.leaf.Goals as goal

pub returns : goal.returns
returns c ts lt = (c.put_row.ensures ts lt).1 _ [] [] _ _ _ (at_once _ _ lt) (record { few = tt; root = of_node; refs = (refl, refl, refl, refl) })
