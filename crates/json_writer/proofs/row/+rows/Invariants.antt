-- What falls at each call: the rows that are left on a path, and then a rank. `put_members` goes on with the rows that are next.
use Rattle.std.proofs.Common.{◌+◌, ◌*◌}
use Rattle.json_writer.proofs.DeepTurns.{to_come}
use Rattle.json_writer.proofs.Members.{Going}
use Rattle.json_writer.proofs.row.+rows.Given as goal

abbrev pub decreases-put_members : goal.decreases-put_members
decreases-put_members l = 3 * l.left + 1

abbrev pub decreases-put_slot : goal.decreases-put_slot
decreases-put_slot l = 3 * l.left + 2

abbrev pub decreases-put_row : goal.decreases-put_row
decreases-put_row l = 3 * l.left

abbrev pub invariant-put_members-loop-r : goal.invariant-put_members-loop-r
invariant-put_members-loop-r l = Going l.pool l.fields.file.now l.initial.r l.r l.left l.initial.out l.out

abbrev pub decreases-put_members-loop-r : goal.decreases-put_members-loop-r
decreases-put_members-loop-r l = to_come l.pool l.r
