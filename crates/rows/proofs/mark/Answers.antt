-- `mark` meets its contract: the word lies within the row, and the row within the pool.
use Rattle.std.proofs.Common.{sym, ◌∙◌, arith}
use Rattle.rows.proofs.Laws.{inside}
use Rattle.rows.specs.Rows.{marked}
use Rattle.rows.proofs.mark.Goals as goal

pub seat_of-i-requires : goal.seat_of-i-requires
seat_of-i-requires c = let i = inside _ _ (sym c.is_row.ensures ∙ c.if-is_row.true) in (i.0, omega (arith, i))

pub offset_bounds-pool-i : goal.offset_bounds-pool-i
offset_bounds-pool-i c = omega (arith, inside _ _ (sym c.is_row.ensures ∙ c.if-is_row.true), c.seat_of-i.ensures)

pub bounds-pool-i : goal.bounds-pool-i
bounds-pool-i c = omega (arith, inside _ _ (sym c.is_row.ensures ∙ c.if-is_row.true), c.seat_of-i.ensures)

pub offset_bounds-pool-i-then-is_row : goal.offset_bounds-pool-i-then-is_row
offset_bounds-pool-i-then-is_row c = omega (arith, inside _ _ (sym c.is_row.ensures ∙ c.if-is_row.true), c.seat_of-i.ensures)

pub bounds-pool-i-then-is_row : goal.bounds-pool-i-then-is_row
bounds-pool-i-then-is_row c = omega (arith, inside _ _ (sym c.is_row.ensures ∙ c.if-is_row.true), c.seat_of-i.ensures)

pub returns-then-is_row : goal.returns-then-is_row
unfolding marked
returns-then-is_row c = rw (sym c.is_row.ensures ∙ c.if-is_row.true, c.with_flag.ensures, c.seat_of-i.ensures)

pub returns-else-is_row : goal.returns-else-is_row
unfolding marked
returns-else-is_row c = rw (sym c.is_row.ensures ∙ c.if-is_row.false)
