-- `put_head` meets its contract: the first members, and the payload behind them.
use Rattle.std.proofs.Common.{◌≡◌, ◌∙◌, arith}
use Rattle.grammar.specs.Script.{word_of}
use Rattle.payloads.specs.Fields.{fields_of}
use Rattle.trees.proofs.Words.{read_in}
use Rattle.json_values.proofs.Puts.{handed_on}
use Rattle.json_writer.proofs.Wholes.{head_by, head_stop}
use Rattle.json_writer.proofs.head.put_head.Goals as goal

pub put_paid-requires-clause-place_value : goal.put_paid-requires-clause-place_value
put_paid-requires-clause-place_value c =
    let k : c.word-kind.result ≡ word_of c.args.pool.now c.args.r 0 = c.word-kind.ensures ∙ read_in c.args.pool.now c.args.r 0 c.requires.fact (omega arith) in
    let p : c.word-place.result ≡ word_of c.args.pool.now c.args.r 2 = c.word-place.ensures ∙ read_in c.args.pool.now c.args.r 2 c.requires.fact (omega arith) in
    rw (k, p) c.requires.r_value

pub returns-in_err-put_first : goal.returns-in_err-put_first
returns-in_err-put_first c =
    let k : c.word-kind.result ≡ word_of c.args.pool.now c.args.r 0 = c.word-kind.ensures ∙ read_in c.args.pool.now c.args.r 0 c.requires.fact (omega arith) in
    let p : c.word-place.result ≡ word_of c.args.pool.now c.args.r 2 = c.word-place.ensures ∙ read_in c.args.pool.now c.args.r 2 c.requires.fact (omega arith) in
    let m : c.word.result ≡ word_of c.args.pool.now c.args.r 1 = c.word.ensures ∙ read_in c.args.pool.now c.args.r 1 c.requires.fact (omega arith) in
    rw (← k, ← p, ← m) (handed_on (head_stop (fields_of c.args.fields.file.now) _ _ _ c.in_err-put_first.ensures) c.from_residual.ensures)

pub returns : goal.returns
returns c =
    let k : c.word-kind.result ≡ word_of c.args.pool.now c.args.r 0 = c.word-kind.ensures ∙ read_in c.args.pool.now c.args.r 0 c.requires.fact (omega arith) in
    let p : c.word-place.result ≡ word_of c.args.pool.now c.args.r 2 = c.word-place.ensures ∙ read_in c.args.pool.now c.args.r 2 c.requires.fact (omega arith) in
    let m : c.word.result ≡ word_of c.args.pool.now c.args.r 1 = c.word.ensures ∙ read_in c.args.pool.now c.args.r 1 c.requires.fact (omega arith) in
    rw (← k, ← p, ← m) (head_by (fields_of c.args.fields.file.now) _ _ _ c.in_ok-put_first.ensures c.put_paid.ensures)
