-- `orders::goes_on` meets its contract: the one goal that stays open is where a suffix operator and an opener come together.
use Rattle.std.proofs.Common.{arith}
use Rattle.orders.proofs.Goes.{goes}
use Rattle.orders.proofs.goes_on.Goals.{then-is_suffix, else-is_suffix}
use Rattle.orders.proofs.goes_on.Goals as goal

pub returns-then-opens : goal.returns-then-opens
returns-then-opens c =
    elim c.if-is_suffix.branch [
      | then-is_suffix w ↦ grind (arith, goes)
      | else-is_suffix w ↦ grind (arith, goes)
    ]
