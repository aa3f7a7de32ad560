-- `put_signed` meets its contract: from 2 ^ 63 on a minus sign, and what is missing to 2 ^ 64.
use Rattle.std.proofs.Common.{◌≡◌, ◌+◌, ◌-◌, ◌^◌, arith}
use borrow.Author.Tests.{lt-ltb, le-ltb}
use Rattle.json_text.specs.Values.{signed}
use Rattle.json_values.proofs.Puts.{puts_append, puts_stop, handed_on}
use Rattle.json_values.proofs.output.Out.put_signed.Goals as goal

pub returns-then-n-lt-SIGNED : goal.returns-then-n-lt-SIGNED
unfolding signed
returns-then-n-lt-SIGNED c = rw (lt-ltb _ (2 ^ 63) c.if-n-lt-SIGNED.true) c.put_decimal.ensures

pub returns-in_err-put_byte : goal.returns-in_err-put_byte
unfolding signed
returns-in_err-put_byte c = rw (le-ltb c.args.n (2 ^ 63) c.if-n-lt-SIGNED.false) (handed_on (puts_stop _ c.in_err-put_byte.ensures) c.from_residual.ensures)

pub returns : goal.returns
unfolding signed
returns c =
    let n = c.args.n in
    let e : 0xFFFFFFFFFFFFFFFF - n + 1 ≡ 2 ^ 64 - n = omega arith in
    rw (le-ltb n (2 ^ 63) c.if-n-lt-SIGNED.false) (puts_append c.in_ok-put_byte.ensures (rw e at c.put_decimal-2.ensures))
