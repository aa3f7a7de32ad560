-- `suffix` meets its contract: a row around the tree in the first rows.
use Rattle.std.proofs.Common.{[], refl}
use Rattle.reader.specs.Meets.{of_node}
use Rattle.reader.proofs.part.suffix.Goals as goal

pub returns : goal.returns
returns c ts lt =
    let p = c.put_row.ensures ts lt in
    (p.0, λ from t zs left s e. p.1 _ [] _ _ _ _ s (record { few = tt; root = of_node; refs = (e, refl, refl, refl) }))
