-- `to_json::read` meets its contract: the script is that of the file's words, and a refusal is the file's.
use Rattle.std.proofs.Common.{length}
use Rattle.std.proofs.lemmas.Result.{err_from_is_err_and}
use Rattle.to_json.proofs.Files.{script, refusal_of}
use Rattle.to_json.proofs.read.Goals as goal

pub returns-in_err-n : goal.returns-in_err-n
returns-in_err-n c =
    let p = err_from_is_err_and c.from_residual.result c.from_residual.ensures.1 in
    let e = refusal_of c.args.bytes.now (length c.args.tokens.now) (length c.args.pool.now) c.args.pool.now c.read.ensures.answer c.in_err-n.was in
    record { answer = rw (p.1, p.2) e.0; pool = e.1 }

pub returns : goal.returns
returns c =
    let s = script c.args.bytes.now c.read.new.words (length c.args.tokens.now) (length c.args.pool.now) c.in_ok-n.n c.read.ensures.answer c.in_ok-n.was c.read.ensures.buffer c.whole_script.ensures in
    record { answer = s.0; pool = s.1 }
