-- `put_hex` meets its contract: the digit of the upper four bits, and that of the lower.
use Rattle.json_values.proofs.Puts.{puts_append, puts_stop, handed_on}
use Rattle.json_values.proofs.output.Out.put_hex.Goals as goal

pub returns-in_err-put_byte : goal.returns-in_err-put_byte
returns-in_err-put_byte c = handed_on (puts_stop _ (rw c.digit.ensures at c.in_err-put_byte.ensures)) c.from_residual.ensures

pub returns : goal.returns
returns c = puts_append (rw c.digit.ensures at c.in_ok-put_byte.ensures) (rw c.digit-2.ensures at c.put_byte-2.ensures)
