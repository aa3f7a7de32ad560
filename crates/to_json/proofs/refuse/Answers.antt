-- `to_json::refuse` meets its contract: the buffer is long enough, so the whole line is in front.
use Rattle.std.proofs.Common.{arith, ◌∙◌}
use Rattle.lines.proofs.Texts.{written_whole}
use Rattle.to_json.proofs.refuse.Goals as goal

pub returns : goal.returns
returns c =
    let w = written_whole c.first_line.ensures.written (omega (arith, c.first_line.ensures.short, c.requires)) in
    (omega (arith, w.0, c.first_line.ensures.short, c.requires), w.1 ∙ rw c.by_number.ensures)
