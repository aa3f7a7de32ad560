-- `put_escape` meets its contract: a control character, a byte behind a backslash, or the byte itself.
use Rattle.std.proofs.Common.{arith}
use Rattle.json_values.proofs.Plain.{plain, behind_backslash}
use Rattle.json_values.proofs.output.Out.put_escape.Goals as goal

pub returns-in-34 : goal.returns-in-34
returns-in-34 c = rw (behind_backslash _ c.in-34.is) c.put_short.ensures

pub returns-in_default : goal.returns-in_default
returns-in_default c = rw (plain c.args.b (λ e. grind arith) (λ e. grind arith) (omega arith)) c.put_byte.ensures
