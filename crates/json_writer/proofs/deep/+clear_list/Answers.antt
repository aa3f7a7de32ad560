-- `clear_list` meets its contract: each turn clears a row, its children and what is below them, and leaves the rest of the list.
use Rattle.std.proofs.Common.{arith}
use Rattle.json_writer.proofs.DeepClears.{begins_0, begins_1, begins_2, begins_3}
use Rattle.json_writer.proofs.DeepTurns.{clears_no_levels, still_wide, turn_first, turn_last, wide_set, word_is, turn_less, turn_on}
use Rattle.json_writer.proofs.deep.+clear_list.Goals as goal

pub returns-then-left-eq0 : goal.returns-then-left-eq0
returns-then-left-eq0 t c = clears_no_levels _ c.if-left-eq0.true

pub loop-r-init : goal.loop-r-init
loop-r-init t c = turn_first _ c.requires.begins

pub clear_list-requires : goal.clear_list-requires
clear_list-requires t c =
    let row = c.loop-r.invariant.row c.loop-r-test.true in
    (omega arith, (rw (word_is c.loop-r.invariant c.loop-r-test.true {k = 3} (omega arith) c.word.ensures) (begins_0 _ row.0 row.1), wide_set c.loop-r.invariant c.loop-r-test.true c.requires.pool_in_bounds))

pub clear_list-requires-in-loop-r : goal.clear_list-requires-in-loop-r
clear_list-requires-in-loop-r t c =
    let row = c.loop-r.invariant.row c.loop-r-test.true in
    (omega arith, (rw (word_is c.loop-r.invariant c.loop-r-test.true {k = 4} (omega arith) c.word-in-loop-r.ensures) (begins_1 _ row.0 row.1), still_wide c.clear_list.ensures (wide_set c.loop-r.invariant c.loop-r-test.true c.requires.pool_in_bounds)))

pub clear_list-requires-in-loop-r-2 : goal.clear_list-requires-in-loop-r-2
clear_list-requires-in-loop-r-2 t c =
    let row = c.loop-r.invariant.row c.loop-r-test.true in
    (omega arith, (rw (word_is c.loop-r.invariant c.loop-r-test.true {k = 5} (omega arith) c.word-in-loop-r-2.ensures) (begins_2 _ row.0 row.1), still_wide c.clear_list-in-loop-r.ensures (still_wide c.clear_list.ensures (wide_set c.loop-r.invariant c.loop-r-test.true c.requires.pool_in_bounds))))

pub clear_list-requires-in-loop-r-3 : goal.clear_list-requires-in-loop-r-3
clear_list-requires-in-loop-r-3 t c =
    let row = c.loop-r.invariant.row c.loop-r-test.true in
    (omega arith, (rw (word_is c.loop-r.invariant c.loop-r-test.true {k = 6} (omega arith) c.word-in-loop-r-3.ensures) (begins_3 _ row.0 row.1), still_wide c.clear_list-in-loop-r-2.ensures (still_wide c.clear_list-in-loop-r.ensures (still_wide c.clear_list.ensures (wide_set c.loop-r.invariant c.loop-r-test.true c.requires.pool_in_bounds)))))

pub loop-r-smaller : goal.loop-r-smaller
loop-r-smaller t c = turn_less c.loop-r.invariant c.loop-r-test.true c.word-r.ensures

pub loop-r-preserved : goal.loop-r-preserved
loop-r-preserved t c =
    turn_on c.loop-r.invariant c.loop-r-test.true (omega arith) (omega (arith, c.loop-r.invariant.long, c.requires.pool_in_bounds))
    c.word.ensures c.clear_list.ensures c.word-in-loop-r.ensures c.clear_list-in-loop-r.ensures c.word-in-loop-r-2.ensures c.clear_list-in-loop-r-2.ensures
    c.word-in-loop-r-3.ensures c.clear_list-in-loop-r-3.ensures c.word-r.ensures

pub returns : goal.returns
returns t c = turn_last c.loop-r.invariant c.loop-r-test.false
