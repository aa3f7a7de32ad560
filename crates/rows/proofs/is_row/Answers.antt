-- `is_row` meets its contract: the two tests are those of `is_row`.
use borrow.Author.Tests.{lt-ltb, le-ltb}
use Rattle.rows.specs.Rows.{is_row}
use Rattle.rows.proofs.is_row.Goals as goal

pub returns-then-reference-gt0 : goal.returns-then-reference-gt0
unfolding is_row
returns-then-reference-gt0 c = rw (lt-ltb 0 c.args.reference c.if-reference-gt0.true)

pub returns-else-reference-gt0 : goal.returns-else-reference-gt0
unfolding is_row
returns-else-reference-gt0 c = rw (le-ltb 0 c.args.reference c.if-reference-gt0.false)
