-- `form_of` meets its contract: what has no arm has no form.
use Rattle.std.proofs.Common.{arith}
use Rattle.writer.proofs.Spelling.{no_form}
use Rattle.writer.proofs.forms.form_of.Goals as goal

pub returns-in_default : goal.returns-in_default
returns-in_default c = no_form c.args.kind (omega arith) (λ h. omega arith)
