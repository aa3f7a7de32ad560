-- `folded_length` meets its contract: a pass over the payload, counting.
use Rattle.std.proofs.Common.{arith}
use Rattle.text.proofs.Pass.{turned, ended}
use Rattle.text.proofs.folded_length.Goals as goal

pub overflow_add-at : goal.overflow_add-at
overflow_add-at c =
    let turn = turned c.args.payload.now c.loop-at.at c.loop-at.count c.width-at.result c.loop-at.invariant c.loop-at-test.true c.width-at.ensures in
    omega (arith, turn.pass)

pub loop-at-smaller : goal.loop-at-smaller
loop-at-smaller c =
    let turn = turned c.args.payload.now c.loop-at.at c.loop-at.count c.width-at.result c.loop-at.invariant c.loop-at-test.true c.width-at.ensures in
    omega (arith, turn)

pub loop-at-preserved : goal.loop-at-preserved
loop-at-preserved c =
    let turn = turned c.args.payload.now c.loop-at.at c.loop-at.count c.width-at.result c.loop-at.invariant c.loop-at-test.true c.width-at.ensures in
    turn.pass

pub returns : goal.returns
returns c = ended c.args.payload.now c.loop-at.at c.loop-at.count c.loop-at.invariant c.loop-at-test.false
