-- `walk` meets its contract: the loop keeps what `Walk` says, and the end of it is what `Surveyed` asks.
use Rattle.std.proofs.Common.{◌/◌, arith, length-set}
use Rattle.trees.proofs.Walk.{begun, turned, surveyed, not_full, same_lengths}
use Rattle.trees.proofs.reach.walk.Goals as goal

pub loop-j-init : goal.loop-j-init
loop-j-init g c = (
  begun _ _ _ _ _ c.requires.none.no_owners c.requires.none.no_words c.requires.wide (omega (arith, c.requires.none.no_queue.long)) c.requires.fact,
  simp length-set c.requires.none.no_words.long,
)

pub look-found-requires : goal.look-found-requires
look-found-requires g c =
    let member = c.loop-j.invariant.0.members (c.loop-j.j / 5) (omega (arith, c.loop-j-test.true)) in
    let full = not_full _ _ c.loop-j.invariant.0 in
    (omega arith, (member.inside, (omega arith, (omega arith, omega (arith, full)))))

pub loop-j-preserved : goal.loop-j-preserved
loop-j-preserved g c =
    let s = same_lengths _ 0 c.look-found.ensures in
    (turned _ _ c.loop-j.invariant.0 c.loop-j-test.true c.look-found.ensures, omega (arith, s))

pub returns : goal.returns
returns g c = surveyed _ _ c.loop-j.invariant.0 c.loop-j-test.false c.requires.fact
