-- `write_folded` meets its contract: a pass over the payload, each folded byte stored behind those before it.
use Rattle.std.proofs.Common.{◌≡◌, ℕ, ◌+◌, ◌≤◌, ◌<◌, List, ◌++◌, length, get_or, take, drop, set, take-suc, drop-cons, length-take-le, add-one, refl, ◌∙◌, arith}
use lib.Seq.{append_snoc, set_at, take-length}
use Rattle.text.specs.Fold.{folded}
use Rattle.text.proofs.Pass.{turned, ended}
use Rattle.text.proofs.write_folded.Goals as goal

-- one more byte of the text stored behind `count` of them
store : (text work : List ℕ) (count : ℕ) → count < length text → length text ≤ length work → set (take count text ++ drop count work) count (get_or text count 0) ≡ take (count + 1) text ++ drop (count + 1) work
store text work count h k =
    rw (add-one, take-suc text count 0 h, append_snoc, drop-cons work count 0 (omega arith), set_at (take count text) _ _ _ count (length-take-le count text (omega arith)))

pub bounds-work-count : goal.bounds-work-count
bounds-work-count c =
    let turn = turned c.args.payload.now c.loop-at.at c.loop-at.count _ c.loop-at.invariant.0 c.loop-at-test.true refl in
    omega (arith, turn.more)

pub overflow_add-at : goal.overflow_add-at
overflow_add-at c =
    let turn = turned c.args.payload.now c.loop-at.at c.loop-at.count c.width-at.result c.loop-at.invariant.0 c.loop-at-test.true c.width-at.ensures in
    omega (arith, turn.pass)

pub loop-at-smaller : goal.loop-at-smaller
loop-at-smaller c =
    let turn = turned c.args.payload.now c.loop-at.at c.loop-at.count c.width-at.result c.loop-at.invariant.0 c.loop-at-test.true c.width-at.ensures in
    omega (arith, turn)

pub loop-at-preserved : goal.loop-at-preserved
loop-at-preserved c =
    let turn = turned c.args.payload.now c.loop-at.at c.loop-at.count c.width-at.result c.loop-at.invariant.0 c.loop-at-test.true c.width-at.ensures in (
      turn.pass,
      rw (c.loop-at.invariant.1, ← turn.byte) (store (folded c.args.payload.now) c.args.work.now c.loop-at.count turn.more c.requires),
    )

pub returns : goal.returns
returns c =
    let whole = ended c.args.payload.now c.loop-at.at c.loop-at.count c.loop-at.invariant.0 c.loop-at-test.false in
    c.loop-at.invariant.1 ∙ rw (whole, take-length)
