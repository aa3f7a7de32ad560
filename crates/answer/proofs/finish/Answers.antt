-- `finish` meets its contract: the reader's answer as an entry's, and a pool of zeros after a refusal.
use Rattle.std.proofs.Common.{refl}
use Rattle.answer.proofs.finish.Goals as goal

pub returns-in-Ok : goal.returns-in-Ok
returns-in-Ok g c = rw (c.in-Ok.is, c.from.ensures) (refl, refl)

pub returns-in-Err : goal.returns-in-Err
returns-in-Err g c = rw c.in-Err.is (refl, c.clear.ensures)
