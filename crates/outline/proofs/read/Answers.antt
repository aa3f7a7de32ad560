-- `outline::read` meets its contract: the script is that of the file's words, and a refusal is the file's.
use Rattle.std.proofs.Common.{length}
use Rattle.outline.proofs.Files.{script, refusal_of}
use Rattle.outline.proofs.read.Goals as goal

pub returns-in-Err : goal.returns-in-Err
returns-in-Err c = refusal_of c.args.bytes.now (length c.args.tokens.now) (length c.args.pool.now) c.args.pool.now c.read.ensures.answer c.in-Err.is

pub returns-in-Ok : goal.returns-in-Ok
returns-in-Ok c =
    script c.args.bytes.now c.read.new.words (length c.args.tokens.now) (length c.args.pool.now) c.in-Ok.n c.read.ensures.answer c.in-Ok.is c.read.ensures.buffer c.whole_script.ensures
