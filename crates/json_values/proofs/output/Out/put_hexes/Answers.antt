-- `put_hexes` meets its contract: a quotation mark, the digits of each byte, and the other quotation mark.
use Rattle.std.proofs.Common.{◌≡◌, suc, length, add-one, arith}
use lib.Seq.{take-length}
use Rattle.json_text.specs.Values.{hexes, escaped}
use Rattle.json_values.proofs.Puts.{puts_none, puts_append, handed_on}
use Rattle.json_values.proofs.Turns.{digits_turn, digits_rest}
use Rattle.json_values.proofs.Strings.{no_quote, no_more, all_quoted}
use Rattle.json_values.proofs.output.Out.put_hexes.Goals as goal

pub returns-in_err-put_byte : goal.returns-in_err-put_byte
returns-in_err-put_byte c = handed_on (no_quote _ c.in_err-put_byte.ensures) c.from_residual.ensures

pub loop-b-init : goal.loop-b-init
unfolding hexes escaped
loop-b-init c = puts_none

pub loop-b-preserved : goal.loop-b-preserved
loop-b-preserved c =
    let i = c.loop-b.b-index in
    let bytes = c.args.bytes.now in
    rw (add-one, digits_turn bytes i (omega arith) (omega (arith, c.type_inv.bytes i))) (puts_append c.loop-b.invariant c.in_ok-put_hex.ensures)

pub returns-in_err-put_hex : goal.returns-in_err-put_hex
returns-in_err-put_hex c =
    let i = c.loop-b.b-index in
    let bytes = c.args.bytes.now in
    let front = rw (← (digits_turn bytes i (omega arith) (omega (arith, c.type_inv.bytes i)))) at (puts_append c.loop-b.invariant c.in_err-put_hex.ensures) in
    handed_on (no_more (hexes c.args.bytes.now) c.in_ok-put_byte.ensures _ front (digits_rest bytes (suc i))) c.from_residual-in_err-put_hex.ensures

pub returns : goal.returns
returns c =
    let whole : c.loop-b.b-index ≡ length c.args.bytes.now = omega arith in
    all_quoted (hexes c.args.bytes.now) c.in_ok-put_byte.ensures (rw (whole, take-length) at c.loop-b.invariant) c.put_byte-2.ensures
