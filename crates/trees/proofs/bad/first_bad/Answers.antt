-- `first_bad` meets its contract: the loop keeps what `Sofar` says of the rows below.
use Rattle.std.proofs.Common.{arith, ap, not, get_or, ◌+◌}
use Rattle.trees.specs.Verdict.{lowest}
use Rattle.trees.specs.Pool.{In}
use Rattle.trees.specs.Survey.{Told}
use Rattle.trees.proofs.Firsts.{Sofar, single, bad, passed, skipped, doubled, first_row, last_row}
use Rattle.trees.proofs.bad.first_bad.Goals as goal
use Rattle.trees.proofs.bad.first_bad.Goals.{Joined-word-ne0, then-word-ne0+else-word-eq2+else-not-row_good, else-word-ne0}

pub loop-r-init : goal.loop-r-init
loop-r-init c = first_row _ _ c.requires.pool_in_bounds_3 c.requires.fact

pub returns-then-word-eq2 : goal.returns-then-word-eq2
returns-then-word-eq2 c =
    let row : In c.args.pool.now c.loop-r.r = (c.loop-r.invariant.some, omega arith) in
    let told : Told c.args.pool.now c.args.root c.loop-r.r (get_or c.args.owners.now c.loop-r.r 0) (get_or c.args.words.now c.loop-r.r 0) = c.requires.surveyed.each c.loop-r.r row in
    lowest (doubled _ _ c.loop-r.invariant row told c.if-word-eq2.true)

pub returns-then-not-row_good : goal.returns-then-not-row_good
returns-then-not-row_good c =
    let row : In c.args.pool.now c.loop-r.r = (c.loop-r.invariant.some, omega arith) in
    let told : Told c.args.pool.now c.args.root c.loop-r.r (get_or c.args.owners.now c.loop-r.r 0) (get_or c.args.words.now c.loop-r.r 0) = c.requires.surveyed.each c.loop-r.r row in
    let one = single _ _ c.loop-r.invariant row c.if-word-ne0.true c.if-word-eq2.false c.slot_by-s.ensures told in
    lowest (bad _ _ c.loop-r.invariant row c.slot_by-s.result one c.row_good.ensures (ap not c.if-not-row_good.true))

-- the next row
next : (c : Joined-word-ne0) → Sofar c.args.pool.now c.args.root c.if-word-ne0.stands (c.loop-r.r + 1)
next c =
    let row : In c.args.pool.now c.loop-r.r = (c.loop-r.invariant.some, omega arith) in
    let told : Told c.args.pool.now c.args.root c.loop-r.r (get_or c.args.owners.now c.loop-r.r 0) (get_or c.args.words.now c.loop-r.r 0) = c.requires.surveyed.each c.loop-r.r row in
    let inv = c.loop-r.invariant in
    elim c.if-word-ne0.branch [
      | then-word-ne0+else-word-eq2+else-not-row_good w ↦ rw w.stands-is (
          passed _ _ inv row w.slot_by-s.result
          (single _ _ inv row w.if-word-ne0.true w.if-word-eq2.false w.slot_by-s.ensures told) w.row_good.ensures (ap not w.if-not-row_good.false) (omega arith)
          )
      | else-word-ne0 w ↦ rw w.stands-is (skipped _ _ inv told w.if-word-ne0.false)
    ]

pub loop-r-preserved : goal.loop-r-preserved
loop-r-preserved c = next (goal.at.loop-r-preserved c).Joined-word-ne0

pub returns-after-word-ne0 : goal.returns-after-word-ne0
returns-after-word-ne0 c = last_row _ _ (next (goal.at.returns-after-word-ne0 c).Joined-word-ne0) c.requires.fact (omega arith)
