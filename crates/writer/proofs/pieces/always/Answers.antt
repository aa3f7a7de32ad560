-- `always` meets its contract: the sign for the mark, or the payload.
use native.Mathlib.Omega.{arith}
use mathlib.Core.Path.{ap, ◌∙◌}
use Rattle.tokens.specs.Tokens.{word}
use Rattle.written.specs.Written.{infix_signs, bool_signs, prefix_signs, suffix_signs}
use Rattle.writer.specs.Codes as codes
use Rattle.writer.proofs.Spelling.{mark_done, payload_done, payload_number}
use Rattle.writer.proofs.pieces.always.Goals as goal

pub returns-in-1 : goal.returns-in-1
unfolding codes.decoded codes.low
returns-in-1 c = mark_done c.args.pool.now c.args.r c.args.b bool_signs c.bool_sign.result c.word.result (rw c.in-1.is) c.bool_sign.ensures c.word.ensures

pub returns-in-2 : goal.returns-in-2
unfolding codes.decoded codes.low
returns-in-2 c = mark_done c.args.pool.now c.args.r c.args.b infix_signs c.infix_sign.result c.word.result (rw c.in-2.is) c.infix_sign.ensures c.word.ensures

pub returns-in-8 : goal.returns-in-8
unfolding codes.decoded codes.low
returns-in-8 c = mark_done c.args.pool.now c.args.r c.args.b prefix_signs c.prefix_sign.result c.word.result (rw c.in-8.is) c.prefix_sign.ensures c.word.ensures

pub returns-in-9 : goal.returns-in-9
unfolding codes.decoded codes.low
returns-in-9 c = mark_done c.args.pool.now c.args.r c.args.b suffix_signs c.suffix_sign.result c.word.result (rw c.in-9.is) c.suffix_sign.ensures c.word.ensures

pub returns-in_default : goal.returns-in_default
returns-in_default c = let p = payload_number c.args.b (omega arith) (omega arith) in payload_done c.args.pool.now c.args.r c.args.b c.token_of.result c.word-in_default.result p.0 (ap word c.token_of.ensures ∙ p.1) c.word-in_default.ensures
