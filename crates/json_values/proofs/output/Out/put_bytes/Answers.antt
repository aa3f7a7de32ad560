-- `put_bytes` meets its contract: all bytes at once where there is room for them, and one more each turn where not.
use Rattle.std.proofs.Common.{◌≡◌, refl, ◌+◌, length, drop, add-one, arith, take-append-drop}
use lib.Seq.{take-suc, take-length}
use Rattle.std.proofs.lemmas.List.{nil_from_length}
use Rattle.json_values.proofs.Puts.{puts_none, puts_part, puts_append, puts_stop, handed_on}
use Rattle.json_values.proofs.output.Out.put_bytes.Goals as goal

pub returns-then-bytes-self : goal.returns-then-bytes-self
returns-then-bytes-self c = puts_part c.copy.new.to _ refl refl refl c.copy.ensures (omega arith) (omega arith)

pub loop-b-init : goal.loop-b-init
loop-b-init c = puts_none

pub loop-b-preserved : goal.loop-b-preserved
loop-b-preserved c =
    rw (add-one, take-suc c.args.bytes.now c.loop-b.b-index 0 (omega arith)) (puts_append c.loop-b.invariant c.in_ok-put_byte.ensures)

pub returns-in_err-put_byte : goal.returns-in_err-put_byte
returns-in_err-put_byte c =
    let i = c.loop-b.b-index in
    let bytes = c.args.bytes.now in
    let front = rw (← (take-suc bytes i 0 (omega arith))) at (puts_append c.loop-b.invariant c.in_err-put_byte.ensures) in
    handed_on (rw take-append-drop at (puts_stop (drop (i + 1) bytes) (rw (← add-one) at front))) c.from_residual.ensures

pub returns : goal.returns
returns c =
    let whole : c.loop-b.b-index ≡ length c.args.bytes.now = omega arith in
    rw (whole, take-length) at c.loop-b.invariant

pub returns-then-bytes-eq0 : goal.returns-then-bytes-eq0
returns-then-bytes-eq0 c = rw (nil_from_length c.args.bytes.now (omega arith)) puts_none
