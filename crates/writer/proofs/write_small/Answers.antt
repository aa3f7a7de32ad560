-- `write_small` meets its contract: it writes the front.
use Rattle.writer.proofs.write_small.Goals as goal

pub returns : goal.returns
returns c = rw (← c.front.ensures) c.put.ensures
