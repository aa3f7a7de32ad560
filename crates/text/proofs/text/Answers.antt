-- `text` meets its contract: the folded length tells the case, and each returns its part.
use borrow.Author.Tests.{le-leb, lt-leb}
use Rattle.text.proofs.Cases.{paired, unpaired}
use Rattle.text.proofs.text.Goals as goal

pub returns-then-count-payload : goal.returns-then-count-payload
returns-then-count-payload c = rw (unpaired c.args.payload.now c.folded_length-count.ensures c.if-count-payload.true)

pub returns-then-count-work : goal.returns-then-count-work
returns-then-count-work c =
    let counted = c.folded_length-count.ensures in
    rw (paired c.args.payload.now counted c.if-count-payload.false, ← counted, le-leb _ _ c.if-count-work.true)

pub returns-else-count-work : goal.returns-else-count-work
returns-else-count-work c =
    let counted = c.folded_length-count.ensures in
    rw (paired c.args.payload.now counted c.if-count-payload.false, ← counted, lt-leb _ _ c.if-count-work.false)
