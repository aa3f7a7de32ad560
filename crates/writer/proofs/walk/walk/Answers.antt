-- `walk` meets its contract: `Going` holds at each turn.
use Rattle.std.proofs.Common.{refl, arith}
use Rattle.grammar.specs.Script.{rows}
use Rattle.writer.proofs.Going.{begun, placed, gone, arrived, no_more, few_so_far}
use Rattle.writer.proofs.walk.walk.Goals as goal

pub overflow_mul-end : goal.overflow_mul-end
unfolding rows
overflow_mul-end g c = omega (arith, c.count-end.ensures)

pub loop-init : goal.loop-init
loop-init g c = (c.requires.ready, begun _ _ _ _ c.requires.ready _ _ _ _ _ _ refl refl refl (omega (arith, c.count-end.ensures)) c.requires.words_value c.requires.places_value)

pub turn-at-requires : goal.turn-at-requires
turn-at-requires g c =
    let here = placed _ _ _ _ c.loop.invariant.0 c.loop.invariant.1 c.if-at-eq0.false in
    (omega arith, (omega (arith, here.0), (here.1, few_so_far _ _ _ _ c.loop.invariant.0 c.loop.invariant.1)))

pub loop-preserved : goal.loop-preserved
loop-preserved g c = (c.loop.invariant.0, gone _ _ _ _ c.loop.invariant.0 _ _ _ (omega arith) c.loop.invariant.1 c.if-at-eq0.false c.turn-at.ensures)

pub returns-after-loop : goal.returns-after-loop
returns-after-loop g c = arrived _ _ _ _ c.loop.invariant.0 c.args.words.now c.args.places.now c.loop.invariant.1 (no_more _ _ _ _ c.loop.invariant.0 c.loop.invariant.1 (omega arith)) refl refl

pub returns-then-at-eq0 : goal.returns-then-at-eq0
returns-then-at-eq0 g c = arrived _ _ _ _ c.loop.invariant.0 c.args.words.now c.args.places.now c.loop.invariant.1 c.if-at-eq0.true refl refl
