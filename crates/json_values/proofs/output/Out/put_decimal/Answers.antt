-- `put_decimal` meets its contract: the digits are written to an array, and that part of it is put.
use Rattle.std.proofs.Common.{sym, arith}
use lib.Seq.{length-take-le}
use Rattle.lines.proofs.Texts.{written_whole}
use Rattle.json_values.proofs.output.Out.put_decimal.Goals as goal

pub slice_bounds-digits-end : goal.slice_bounds-digits-end
slice_bounds-digits-end c =
    let digits = c.number-count.ensures in
    omega (arith, (written_whole digits.written (omega (arith, digits.short))).0, digits.short)

pub slice_bounds-put_bytes-end : goal.slice_bounds-put_bytes-end
slice_bounds-put_bytes-end c =
    let digits = c.number-count.ensures in
    sym (length-take-le _ _ (omega (arith, (written_whole digits.written (omega (arith, digits.short))).0, digits.short)))

pub returns : goal.returns
returns c =
    let digits = c.number-count.ensures in
    rw (written_whole digits.written (omega (arith, digits.short))).1 at c.put_bytes.ensures
