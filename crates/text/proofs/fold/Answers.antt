-- `fold` meets its contract: the folded length tells the case, and only the last one writes.
use Rattle.std.proofs.Common.{Ok, Err, ap}
use borrow.Author.Tests.{le-leb, lt-leb}
use Rattle.text.proofs.Cases.{paired, unpaired}
use Rattle.text.proofs.fold.Goals as goal

pub returns-then-count-payload-clause-answer : goal.returns-then-count-payload-clause-answer
returns-then-count-payload-clause-answer c =
    rw (unpaired c.args.payload.now c.folded_length-count.ensures c.if-count-payload.true) (ap Ok c.if-count-payload.true)

pub returns-then-count-payload-clause-buffer : goal.returns-then-count-payload-clause-buffer
returns-then-count-payload-clause-buffer c =
    rw (unpaired c.args.payload.now c.folded_length-count.ensures c.if-count-payload.true)

pub returns-then-work-count-clause-answer : goal.returns-then-work-count-clause-answer
returns-then-work-count-clause-answer c =
    let counted = c.folded_length-count.ensures in
    rw (paired c.args.payload.now counted c.if-count-payload.false, ← counted, lt-leb _ _ c.if-work-count.true) (ap Err c.new.ensures)

pub returns-clause-answer : goal.returns-clause-answer
returns-clause-answer c =
    let counted = c.folded_length-count.ensures in
    rw (paired c.args.payload.now counted c.if-count-payload.false, ← counted, le-leb _ _ c.if-work-count.false)

pub returns-clause-buffer : goal.returns-clause-buffer
returns-clause-buffer c =
    let counted = c.folded_length-count.ensures in
    rw (paired c.args.payload.now counted c.if-count-payload.false, ← counted, le-leb _ _ c.if-work-count.false) (rw counted c.write_folded.ensures)
