-- `to_json::show` meets its contract: the line of the file's or the parser's refusal, or what is shown of the parser's tree.
use Rattle.std.proofs.Common.{arith, ◌≡◌, length}
use Rattle.to_json.proofs.Lines.{shows_refusal, shows_script}
use Rattle.to_json.proofs.show.Goals as goal

pub tell-requires : goal.tell-requires
tell-requires c = omega arith

pub refuse-requires : goal.refuse-requires
refuse-requires c = omega arith

pub returns-in-Ok : goal.returns-in-Ok
returns-in-Ok c =
    let e : length c.args.out.now ≡ 4194305 = omega arith in
    (omega (arith, c.tell.ensures.0, c.tell.auto.out), shows_script c.read.ensures.answer c.in-Ok.is c.read.ensures.pool (rw (e) at c.tell.ensures.1))

pub returns-in-Err : goal.returns-in-Err
returns-in-Err c = (omega (arith, c.refuse.ensures.0, c.refuse.auto.out), shows_refusal c.read.ensures.answer c.in-Err.is c.refuse.ensures.1)
