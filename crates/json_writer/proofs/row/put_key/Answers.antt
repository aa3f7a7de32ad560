-- `put_key` meets its contract: the digit of the slot between its letters.
use Rattle.json_values.proofs.Puts.{puts_append, puts_stop, handed_on}
use Rattle.json_writer.specs.Ready.{key}
use Rattle.json_writer.proofs.row.put_key.Goals as goal

pub returns-in_err-put_bytes : goal.returns-in_err-put_bytes
unfolding key
returns-in_err-put_bytes c = handed_on (puts_stop _ c.in_err-put_bytes.ensures) c.from_residual.ensures

pub returns-in_err-put_byte : goal.returns-in_err-put_byte
unfolding key
returns-in_err-put_byte c = handed_on (puts_append c.in_ok-put_bytes.ensures (puts_stop _ c.in_err-put_byte.ensures)) c.from_residual-in_err-put_byte.ensures

pub returns : goal.returns
unfolding key
returns c = puts_append c.in_ok-put_bytes.ensures (puts_append c.in_ok-put_byte.ensures c.put_bytes-2.ensures)
