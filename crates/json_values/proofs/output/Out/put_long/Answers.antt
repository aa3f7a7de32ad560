-- `put_long` meets its contract: the letters, and the two digits behind them.
use Rattle.json_values.proofs.Puts.{puts_append, puts_stop, handed_on}
use Rattle.json_values.proofs.output.Out.put_long.Goals as goal

pub returns-in_err-put_bytes : goal.returns-in_err-put_bytes
returns-in_err-put_bytes c = handed_on (puts_stop _ c.in_err-put_bytes.ensures) c.from_residual.ensures

pub returns : goal.returns
returns c = puts_append c.in_ok-put_bytes.ensures c.put_hex.ensures
