-- `alone` meets its contract: a row without slots, closed by a semicolon.
use Rattle.std.proofs.Common.{[], refl}
use Rattle.reader.specs.Meets.{of_node}
use Rattle.reader.proofs.Answers.{at_once}
use Rattle.reader.proofs.simple.alone.Goals as goal

pub returns : goal.returns
returns c = c.closed.ensures.1 _ [] [] _ _ _ (at_once _ _ c.requires.within) (record { few = tt; root = of_node; refs = (refl, refl, refl, refl) })
