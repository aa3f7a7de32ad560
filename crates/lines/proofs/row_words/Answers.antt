-- `lines::row_words` meets its contract: each turn stores one more word.
use Rattle.std.proofs.Common.{add-one, refl}
use Rattle.rows.specs.Rows.{read}
use Rattle.lines.specs.Lines.{from}
use Rattle.lines.proofs.Words.{one_more}
use Rattle.lines.proofs.row_words.Goals as goal

pub loop-k-init : goal.loop-k-init
unfolding from
loop-k-init c = refl

pub loop-k-preserved : goal.loop-k-preserved
loop-k-preserved c = rw (c.loop-k.invariant, c.word.ensures, add-one) (one_more (read c.args.pool.now c.args.reference) _ c.loop-k.k c.loop-k-test.true)
