-- `to_json::tell` meets its contract: the newline is in the byte that the text was not lent, and a refusal's line takes the place of all.
use Rattle.std.proofs.Common.{arith, rules, ◌<◌, length}
use Rattle.to_json.proofs.Lines.{as_long, inside, text_line, refusal_line}
use Rattle.to_json.proofs.tell.Goals as goal

pub bounds-out-n : goal.bounds-out-n
bounds-out-n c =
    let some : 0 < length c.args.out.now = omega arith in
    let long = as_long c.args.out.now some c.write-told.ensures c.write-told.auto.out in
    let within = inside c.args.out.now some c.write-told.ensures c.write-told.auto.out c.in-Ok.is in
    omega arith

pub overflow_add-result : goal.overflow_add-result
overflow_add-result c =
    let some : 0 < length c.args.out.now = omega arith in
    let within = inside c.args.out.now some c.write-told.ensures c.write-told.auto.out c.in-Ok.is in
    search rules

pub refuse-requires : goal.refuse-requires
refuse-requires c =
    let some : 0 < length c.args.out.now = omega arith in
    let long = as_long c.args.out.now some c.write-told.ensures c.write-told.auto.out in
    omega arith

pub returns-in-Ok : goal.returns-in-Ok
returns-in-Ok c =
    let some : 0 < length c.args.out.now = omega arith in
    let within = inside c.args.out.now some c.write-told.ensures c.write-told.auto.out c.in-Ok.is in
    (omega arith, text_line c.args.out.now some c.write-told.ensures c.write-told.auto.out c.in-Ok.is)

pub returns-in-Err : goal.returns-in-Err
returns-in-Err c =
    let some : 0 < length c.args.out.now = omega arith in
    let long = as_long c.args.out.now some c.write-told.ensures c.write-told.auto.out in
    (omega (arith, c.refuse.ensures.0), refusal_line c.args.out.now some c.write-told.ensures c.write-told.auto.out c.in-Err.is c.refuse.ensures.1)
