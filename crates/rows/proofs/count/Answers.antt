-- `count` meets its contract: as many rows as there are whole ones, and no more than the most.
use Rattle.std.proofs.Common.{arith}
use Rattle.grammar.specs.Script.{rows}
use Rattle.rows.proofs.count.Goals as goal

pub returns-then-n-gt-MOST : goal.returns-then-n-gt-MOST
unfolding rows
returns-then-n-gt-MOST c = omega arith

pub returns-else-n-gt-MOST : goal.returns-else-n-gt-MOST
unfolding rows
returns-else-n-gt-MOST c = omega arith
