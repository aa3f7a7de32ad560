-- `put_control` meets its contract: five control characters have a short form, and the others go by their number.
use Rattle.std.proofs.Common.{arith}
use Rattle.json_text.specs.Values.{escape}
use Rattle.json_values.proofs.Plain.{by_number}
use Rattle.json_values.proofs.output.Out.put_control.Goals as goal

pub returns-in-8 : goal.returns-in-8
unfolding escape
returns-in-8 c = rw c.in-8.is c.put_short.ensures

pub returns-in-9 : goal.returns-in-9
unfolding escape
returns-in-9 c = rw c.in-9.is c.put_short-in-9.ensures

pub returns-in-10 : goal.returns-in-10
unfolding escape
returns-in-10 c = rw c.in-10.is c.put_short-in-10.ensures

pub returns-in-12 : goal.returns-in-12
unfolding escape
returns-in-12 c = rw c.in-12.is c.put_short-in-12.ensures

pub returns-in-13 : goal.returns-in-13
unfolding escape
returns-in-13 c = rw c.in-13.is c.put_short-in-13.ensures

pub returns-in_default : goal.returns-in_default
returns-in_default c = rw (by_number c.args.b (λ e. omega arith) (λ e. omega arith) (omega arith) (λ e. omega arith) (λ e. omega arith) (λ e. omega arith) (λ e. omega arith) (λ e. omega arith)) c.put_long.ensures
