-- `put_short` meets its contract: a backslash, and the letter behind it.
use Rattle.json_values.proofs.Puts.{puts_append, puts_stop, handed_on}
use Rattle.json_values.proofs.output.Out.put_short.Goals as goal

pub returns-in_err-put_byte : goal.returns-in_err-put_byte
returns-in_err-put_byte c = handed_on (puts_stop _ c.in_err-put_byte.ensures) c.from_residual.ensures

pub returns : goal.returns
returns c = puts_append c.in_ok-put_byte.ensures c.put_byte-2.ensures
