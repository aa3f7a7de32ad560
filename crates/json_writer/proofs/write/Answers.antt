-- `write` meets its contract: a small pool is its own front.
use Rattle.std.proofs.Common.{arith}
use Rattle.trees.proofs.Words.{whole_front}
use Rattle.json_writer.proofs.write.Goals as goal

pub returns-then-pool-end : goal.returns-then-pool-end
returns-then-pool-end c = rw (whole_front c.args.pool.now (omega arith)) at c.write_small.ensures
