-- `put_first` meets its contract: one part behind another.
use Rattle.json_values.proofs.Puts.{puts_append, puts_stop, handed_on}
use Rattle.json_writer.specs.Ready.{first_members}
use Rattle.json_writer.proofs.head.put_first.Goals as goal

pub returns-in_err-put_bytes : goal.returns-in_err-put_bytes
unfolding first_members
returns-in_err-put_bytes c = handed_on (puts_stop _ c.in_err-put_bytes.ensures) c.from_residual.ensures

pub returns-in_err-put_name : goal.returns-in_err-put_name
unfolding first_members
returns-in_err-put_name c = handed_on (puts_append c.in_ok-put_bytes.ensures (puts_stop _ c.in_err-put_name.ensures)) c.from_residual-in_err-put_name.ensures

pub returns-in_err-put_bytes-2 : goal.returns-in_err-put_bytes-2
unfolding first_members
returns-in_err-put_bytes-2 c =
    handed_on (puts_append c.in_ok-put_bytes.ensures (puts_append c.in_ok-put_name.ensures (puts_stop _ c.in_err-put_bytes-2.ensures)))
    c.from_residual-in_err-put_bytes-2.ensures

pub returns-in_err-put_decimal : goal.returns-in_err-put_decimal
unfolding first_members
returns-in_err-put_decimal c =
    handed_on
    (puts_append c.in_ok-put_bytes.ensures
    (puts_append c.in_ok-put_name.ensures (puts_append c.in_ok-put_bytes-2.ensures (puts_stop _ c.in_err-put_decimal.ensures)))) c.from_residual-in_err-put_decimal.ensures

pub returns-in_err-put_bytes-3 : goal.returns-in_err-put_bytes-3
unfolding first_members
returns-in_err-put_bytes-3 c =
    handed_on
    (puts_append c.in_ok-put_bytes.ensures
    (puts_append c.in_ok-put_name.ensures
    (puts_append c.in_ok-put_bytes-2.ensures (puts_append c.in_ok-put_decimal.ensures (puts_stop _ c.in_err-put_bytes-3.ensures))))) c.from_residual-in_err-put_bytes-3.ensures

pub returns : goal.returns
unfolding first_members
returns c =
    puts_append c.in_ok-put_bytes.ensures
    (puts_append c.in_ok-put_name.ensures
    (puts_append c.in_ok-put_bytes-2.ensures (puts_append c.in_ok-put_decimal.ensures (puts_append c.in_ok-put_bytes-3.ensures c.put_decimal-2.ensures))))
