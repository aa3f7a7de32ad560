-- `exports::shigthapul_json` meets its contract: four words are the whole answer, and where the pool has few rows, its front is the pool.
use native.Mathlib.Omega.{arith}
use lib.Seq.{length-take-le}
use Rattle.trees.proofs.Words.{whole_front}
use Rattle.exports.proofs.Fours.{tells_whole}
use Rattle.exports.proofs.+shigthapul_json.Goals as goal

pub shigthapul_json-requires : goal.shigthapul_json-requires
shigthapul_json-requires t c = omega (arith, length-take-le 4 c.args.answer.now (omega (arith, c.if-answer-gt4.true)))

pub returns-then-answer-gt4 : goal.returns-then-answer-gt4
returns-then-answer-gt4 t c = tells_whole c.shigthapul_json.ensures

pub returns-then-pool-end : goal.returns-then-pool-end
returns-then-pool-end t c = rw (whole_front c.args.pool.now (omega (arith, c.if-pool-end.true, c.end.ensures))) at c.shigthapul_json_small.ensures

pub returns : goal.returns
returns t c = record { answer = _; tells = c.write_large-told.ensures; four = rw c.by_number.ensures at c.put_count.ensures }
