-- `in_small` meets its contract: by what the check over the file says of the front of the pool.
use Rattle.std.proofs.Common.{refl, arith}
use Rattle.trees.proofs.Words.{few_front}
use Rattle.json_writer.proofs.Checked.{passed}
use Rattle.json_writer.proofs.Outcomes.{refuses}
use Rattle.json_writer.proofs.in_small.Goals as goal

pub returns-in_err-count : goal.returns-in_err-count
returns-in_err-count c = refuses _ c.in_err-count.ensures.verdict c.from_residual.ensures refl

pub put-requires : goal.put-requires
put-requires c = rw c.front.ensures (passed c.in_ok-count.ensures (λ i. omega (arith, c.type_inv.file i)) (omega (arith, few_front c.args.pool.now)))

pub returns : goal.returns
returns c = rw c.front.ensures at c.put.ensures
