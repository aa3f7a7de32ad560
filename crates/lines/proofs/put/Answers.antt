-- `lines::put` meets its contract: the text is copied where it fits, and nothing happens where it doesn't.
use Rattle.std.proofs.Common.{sym}
use Rattle.lines.proofs.Buffers.{denied, fits}
use Rattle.lines.proofs.put.Goals as goal

pub returns-then-out-text : goal.returns-then-out-text
returns-then-out-text c = record { met = sym (denied _ _ c.if-out-text.true) }

pub returns : goal.returns
returns c = record { met = rw c.copy_from_slice.ensures.after (sym (fits _ _ c.if-out-text.false)) }
