-- `in_large` meets its contract: by what the check over the file says.
use Rattle.std.proofs.Common.{length, refl, arith}
use Rattle.trees.proofs.Words.{most}
use Rattle.json_writer.proofs.Checked.{passed}
use Rattle.json_writer.proofs.Outcomes.{refuses}
use Rattle.json_writer.proofs.in_large.Goals as goal

pub returns-in_err-count : goal.returns-in_err-count
returns-in_err-count c = refuses _ c.in_err-count.ensures.verdict c.from_residual.ensures refl

pub put-requires : goal.put-requires
put-requires c = passed c.in_ok-count.ensures (λ i. omega (arith, c.type_inv.file i)) (omega (arith, most (length c.args.pool.now)))
