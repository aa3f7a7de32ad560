-- `whole_script` meets its contract: the entry for it, which starts where every good array does.
use Rattle.reader.proofs.Wholes.{whole_enters}
use Rattle.parser.proofs.whole_script.Goals as goal

pub returns : goal.returns
returns c = rw (whole_enters _ _ _) c.enter.ensures
