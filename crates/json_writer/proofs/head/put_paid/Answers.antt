-- `put_paid` meets its contract: nothing, or the key and the value of the payload that is looked up.
use Rattle.std.proofs.Common.{sym, ◌∙◌}
use Rattle.payloads.specs.Fields.{fields_of}
use Rattle.payloads.proofs.Needed.{none_needed, some_needed}
use Rattle.json_text.proofs.Rows.{paid_none}
use Rattle.json_values.proofs.Puts.{puts_none, handed_on}
use Rattle.json_writer.proofs.Wholes.{tag_number, paid_by, paid_stop}
use Rattle.json_writer.proofs.head.put_paid.Goals as goal

pub returns-in_default : goal.returns-in_default
returns-in_default c =
    rw (paid_none (fields_of c.args.fields.file.now) c.args.kind c.args.place (none_needed c.args.kind (sym c.needs.ensures ∙ c.in_default.is))) puts_none

pub returns-in_err-put_bytes : goal.returns-in_err-put_bytes
returns-in_err-put_bytes c =
    handed_on (paid_stop (fields_of c.args.fields.file.now) c.args.kind c.args.place (some_needed c.args.kind (sym c.needs.ensures ∙ c.in-Some.is)).1 c.in_err-put_bytes.ensures) c.from_residual.ensures

pub returns : goal.returns
returns c =
    let class = some_needed c.args.kind (sym c.needs.ensures ∙ c.in-Some.is) in
    paid_by c.args.kind c.args.place c.requires.indexes c.requires.place_value class.1 c.in_ok-put_bytes.ensures
    (rw (← class.0, ← (tag_number c.in-Some.class), ← c.payload-payload.ensures) c.put_value.ensures)
