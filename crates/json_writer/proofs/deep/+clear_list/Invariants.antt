-- `clear_list` goes down the levels that are left, and clears the list from a row on.
use Rattle.json_writer.proofs.DeepTurns.{Turn, to_come}
use Rattle.json_writer.proofs.deep.+clear_list.Given as goal

abbrev pub decreases-clear_list : goal.decreases-clear_list
decreases-clear_list l = l.left

abbrev pub invariant-loop-r : goal.invariant-loop-r
invariant-loop-r l = Turn l.pool l.c l.left l.fn.links l.links l.r

abbrev pub decreases-loop-r : goal.decreases-loop-r
decreases-loop-r l = to_come l.pool l.r
