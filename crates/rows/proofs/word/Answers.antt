-- `word` meets its contract: the word lies within the row, and the row within the pool.
use Rattle.std.proofs.Common.{sym, ◌∙◌, arith}
use borrow.Author.Tests.{lt-ltb, le-ltb}
use Rattle.rows.proofs.Laws.{inside}
use Rattle.rows.specs.Rows.{read}
use Rattle.rows.proofs.word.Goals as goal

pub returns-then-not-is_row : goal.returns-then-not-is_row
unfolding read
returns-then-not-is_row c = rw (sym c.is_row.ensures ∙ c.if-not-is_row.true)

pub returns-then-k-ge-WIDTH : goal.returns-then-k-ge-WIDTH
unfolding read
returns-then-k-ge-WIDTH c = rw (sym c.is_row.ensures ∙ c.if-not-is_row.false, le-ltb _ _ c.if-k-ge-WIDTH.true)

pub seat_of-i-requires : goal.seat_of-i-requires
seat_of-i-requires c = let i = inside _ _ (sym c.is_row.ensures ∙ c.if-not-is_row.false) in (i.0, omega (arith, i))

pub offset_bounds-pool-i : goal.offset_bounds-pool-i
offset_bounds-pool-i c = omega (arith, inside _ _ (sym c.is_row.ensures ∙ c.if-not-is_row.false), c.seat_of-i.ensures)

pub bounds-pool-i : goal.bounds-pool-i
bounds-pool-i c = omega (arith, inside _ _ (sym c.is_row.ensures ∙ c.if-not-is_row.false), c.seat_of-i.ensures)

pub returns : goal.returns
unfolding read
returns c = rw (sym c.is_row.ensures ∙ c.if-not-is_row.false, lt-ltb _ _ c.if-k-ge-WIDTH.false, c.seat_of-i.ensures)
