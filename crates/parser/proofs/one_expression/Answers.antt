-- `one_expression` meets its contract: the entry for it.
use Rattle.grammar.specs.Script.{one_expression}
use Rattle.reader.specs.Entries.{enters, reads}
use Rattle.parser.proofs.one_expression.Goals as goal

pub returns : goal.returns
unfolding one_expression enters reads
returns c = c.enter.ensures
