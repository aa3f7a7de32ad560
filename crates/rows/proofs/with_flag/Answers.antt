-- `with_flag` meets its contract: a flag that the mark lacks is added, and the sum fits.
use Rattle.std.proofs.Common.{◌≡◌, sym, ap, ◌∙◌}
use borrow.Author.Tests.{ne_eqb}
use Rattle.grammar.specs.Tree.{flag}
use Rattle.rows.specs.Rows.{bit}
use Rattle.rows.proofs.with_flag.Goals as goal
use Rattle.rows.proofs.with_flag.Goals.{in-Thread, in-Async, in-Grouped}

pub returns-then-mark-bit-eq0 : goal.returns-then-mark-bit-eq0
unfolding flag
returns-then-mark-bit-eq0 c =
    let number : c.match-f.bit ≡ bit c.args.f = elim c.match-f.branch [ in-Thread w ↦ w.bit-is ∙ ap bit (sym w.in-Thread.is) | in-Async w ↦ w.bit-is ∙ ap bit (sym w.in-Async.is) | in-Grouped w ↦ w.bit-is ∙ ap bit (sym w.in-Grouped.is) ] in
    rw (← number, c.if-mark-bit-eq0.true)

pub returns-else-mark-bit-eq0 : goal.returns-else-mark-bit-eq0
unfolding flag
returns-else-mark-bit-eq0 c =
    let number : c.match-f.bit ≡ bit c.args.f = elim c.match-f.branch [ in-Thread w ↦ w.bit-is ∙ ap bit (sym w.in-Thread.is) | in-Async w ↦ w.bit-is ∙ ap bit (sym w.in-Async.is) | in-Grouped w ↦ w.bit-is ∙ ap bit (sym w.in-Grouped.is) ] in
    rw (← number, ne_eqb _ 0 c.if-mark-bit-eq0.false)
