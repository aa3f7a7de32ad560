-- `number_of` meets its contract: each turn reads one more byte, and eight bytes give 64 bits.
use Rattle.std.proofs.Common.{◌<◌, add-one, arith, length-take, get_or-take}
use Rattle.json_values.proofs.Read.{begun, room, turned, ended}
use Rattle.json_values.proofs.values.number_of.Goals as goal

pub loop-b-init : goal.loop-b-init
loop-b-init c = begun _ (omega (arith, length-take c.min.result c.args.bytes.now))

pub overflow_mul-n : goal.overflow_mul-n
overflow_mul-n c = omega (arith, room _ c.loop-b.n c.loop-b.b-index c.loop-b.invariant c.loop-b-test.true)

pub overflow_add-n : goal.overflow_add-n
overflow_add-n c =
    let bytes = c.args.bytes.now in
    let i = c.loop-b.b-index in
    let inside : i < c.min.result = omega (arith, length-take c.min.result bytes) in
    omega (arith, room _ c.loop-b.n i c.loop-b.invariant c.loop-b-test.true, get_or-take c.min.result bytes i 0 inside, c.type_inv.bytes i)

pub loop-b-preserved : goal.loop-b-preserved
loop-b-preserved c =
    let bytes = c.args.bytes.now in
    let i = c.loop-b.b-index in
    let inside : i < c.min.result = omega (arith, length-take c.min.result bytes) in
    rw add-one (turned _ c.loop-b.n i c.loop-b.invariant c.loop-b-test.true (omega (arith, get_or-take c.min.result bytes i 0 inside, c.type_inv.bytes i)))

pub returns : goal.returns
returns c = ended c.args.most c.args.bytes.now c.min.ensures c.loop-b.invariant (omega arith)
