-- `row_good` meets its contract: the tests of a row, one after the other.
use Rattle.std.proofs.Common.{◌≡◌, refl, ap, ◌∙◌}
use Rattle.slots.specs.Fine.{next_fine}
use Rattle.trees.specs.Pool.{row_fine}
use Rattle.trees.proofs.Tests.{and_then, and_not, tests, takes_row}
use Rattle.trees.proofs.bad.row_good.Goals as goal
use Rattle.trees.proofs.bad.row_good.Goals.{Joined-slot_good-4, then-mark_good, else-mark_good, then-slot_good, else-slot_good, then-slot_good-2, else-slot_good-2, then-slot_good-3, else-slot_good-3, then-slot_good-4, else-slot_good-4}

-- the tests of its own words
own : (c : Joined-slot_good-4) → c.if-slot_good-4.value ≡ row_fine c.args.pool.now c.args.r
own c =
    tests c.args.pool.now c.args.r c.requires c.word-kind.ensures c.word-mark.ensures c.word-next.ensures refl c.mark_good.ensures
    (elim c.if-mark_good.branch [ then-mark_good w ↦ and_then w.if-mark_good.true w.value-is w.slot_good.ensures | else-mark_good w ↦ and_not _ w.if-mark_good.false w.value-is ])
    (elim c.if-slot_good.branch [ then-slot_good w ↦ and_then w.if-slot_good.true w.value-is w.slot_good-then-slot_good.ensures | else-slot_good w ↦ and_not _ w.if-slot_good.false w.value-is ])
    (elim c.if-slot_good-2.branch [ then-slot_good-2 w ↦ and_then w.if-slot_good-2.true w.value-is w.slot_good-then-slot_good-2.ensures | else-slot_good-2 w ↦ and_not _ w.if-slot_good-2.false w.value-is ])
    (elim c.if-slot_good-3.branch [ then-slot_good-3 w ↦ and_then w.if-slot_good-3.true w.value-is w.slot_good-then-slot_good-3.ensures | else-slot_good-3 w ↦ and_not _ w.if-slot_good-3.false w.value-is ])
    (elim c.if-slot_good-4.branch [ then-slot_good-4 w ↦ and_then w.if-slot_good-4.true w.value-is (w.next_good.ensures ∙ ap (λ n. next_fine n _ _) w.count.ensures) | else-slot_good-4 w ↦ and_not _ w.if-slot_good-4.false w.value-is ])

pub returns-then-next_good : goal.returns-then-next_good
returns-then-next_good c =
    let taken' = takes_row c.args.pool.now c.args.r c.args.s c.requires c.word-kind.ensures c.word-mark.ensures c.word-next.ensures in
    rw (← own (goal.at.returns-then-next_good c).Joined-slot_good-4) (and_then c.if-next_good.true refl (c.taken_in.ensures ∙ taken'))

pub returns-else-next_good : goal.returns-else-next_good
returns-else-next_good c =
    rw (← own (goal.at.returns-else-next_good c).Joined-slot_good-4) (and_not _ c.if-next_good.false refl)
