-- `exports::shigthapul_write_small` meets its contract: what the writer answers, with its refusal by the number, is put.
use Rattle.exports.proofs.shigthapul_write_small.Goals as goal

pub returns : goal.returns
returns c = record { answer = _; writes = c.write_small-wrote.ensures; four = rw c.by_number.ensures at c.put_count.ensures }
