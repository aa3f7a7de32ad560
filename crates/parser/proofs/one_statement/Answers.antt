-- `one_statement` meets its contract: the entry for it.
use Rattle.grammar.specs.Script.{one_statement}
use Rattle.reader.specs.Entries.{enters, reads}
use Rattle.parser.proofs.one_statement.Goals as goal

pub returns : goal.returns
unfolding one_statement enters reads
returns c = c.enter.ensures
