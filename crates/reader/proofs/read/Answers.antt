-- `read` meets its contract: one of the three readers, its tree as a list of one.
use Rattle.reader.specs.Entries.{reads}
use Rattle.reader.proofs.Lists.{as_list}
use Rattle.reader.proofs.read.Goals as goal

pub returns-in-Expression : goal.returns-in-Expression
unfolding reads
returns-in-Expression c = rw c.in-Expression.is (as_list (rw c.nesting-less.ensures at c.expression.ensures))

pub returns-in-Statement : goal.returns-in-Statement
unfolding reads
returns-in-Statement c = rw c.in-Statement.is (rw c.nesting-less.ensures at c.statement.ensures)

pub returns-in-Script : goal.returns-in-Script
unfolding reads
returns-in-Script c = rw c.in-Script.is (as_list c.script.ensures)
