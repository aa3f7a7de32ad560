-- `write` meets its contract: a small pool is its own front.
use native.Mathlib.Omega.{arith}
use Rattle.trees.proofs.Words.{whole_front}
use Rattle.writer.proofs.write.Goals as goal

pub returns-then-pool-end : goal.returns-then-pool-end
returns-then-pool-end c = rw (whole_front c.args.pool.now (omega (arith, c.if-pool-end.true, c.end.ensures))) at c.write_small.ensures
