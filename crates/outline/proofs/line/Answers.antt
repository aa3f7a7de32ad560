-- `outline::line` meets its contract: the buffer is long enough, so the whole line is in front.
use Rattle.std.proofs.Common.{arith, sym, ◌∙◌}
use Rattle.lines.proofs.Texts.{written_whole, row_at}
use Rattle.outline.proofs.line.Goals as goal

pub returns-then-i-eq0 : goal.returns-then-i-eq0
returns-then-i-eq0 c =
    let w = written_whole c.first_line.ensures.written (omega (arith, c.first_line.ensures.short, c.requires)) in
    (omega (arith, w.0, c.first_line.ensures.short), w.1 ∙ rw (c.by_number.ensures, c.if-i-eq0.true))

pub returns-else-i-eq0 : goal.returns-else-i-eq0
returns-else-i-eq0 c =
    let w = written_whole c.row_line.ensures.written (omega (arith, c.row_line.ensures.short, c.requires)) in
    (omega (arith, w.0, c.row_line.ensures.short), w.1 ∙ sym (row_at c.args.answer.now c.args.pool.now c.args.i (omega arith) c.requires.0))
