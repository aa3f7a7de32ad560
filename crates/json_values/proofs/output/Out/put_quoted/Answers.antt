-- `put_quoted` meets its contract: a quotation mark, each byte with its escape, and the other quotation mark.
use Rattle.std.proofs.Common.{◌≡◌, suc, [], length, add-one, arith, append-nil}
use lib.Seq.{take-length}
use Rattle.json_text.specs.Values.{escaped}
use Rattle.json_values.proofs.Puts.{puts_none, puts_append, handed_on}
use Rattle.json_values.proofs.Turns.{escaped_turn, escaped_rest}
use Rattle.json_values.proofs.Runs.{none_yet, one_more, run_put}
use Rattle.json_values.proofs.Strings.{no_quote, no_more, all_quoted}
use Rattle.json_values.proofs.output.Out.put_quoted.Goals as goal
use Rattle.json_values.proofs.output.Out.put_quoted.Goals.{then-not-is_plain+in_ok-put_bytes+in_ok-put_escape, else-not-is_plain}

pub returns-in_err-put_byte : goal.returns-in_err-put_byte
returns-in_err-put_byte c = handed_on (no_quote _ c.in_err-put_byte.ensures) c.from_residual.ensures

pub loop-i-init : goal.loop-i-init
unfolding escaped
loop-i-init c = (none_yet _ 0 (omega arith), puts_none)

pub returns-in_err-put_bytes : goal.returns-in_err-put_bytes
returns-in_err-put_bytes c =
    let i = c.loop-i.i in
    let bytes = c.args.bytes.now in
    let front = run_put bytes c.loop-i.start i c.loop-i.invariant.0 c.loop-i.invariant.1 c.in_err-put_bytes.ensures in
    handed_on (no_more bytes c.in_ok-put_byte.ensures _ front (escaped_rest bytes i)) c.from_residual-in_err-put_bytes.ensures

pub returns-in_err-put_escape : goal.returns-in_err-put_escape
returns-in_err-put_escape c =
    let i = c.loop-i.i in
    let bytes = c.args.bytes.now in
    let run = run_put bytes c.loop-i.start i c.loop-i.invariant.0 c.loop-i.invariant.1 c.in_ok-put_bytes.ensures in
    let front = rw (← (escaped_turn bytes i (omega arith))) at (puts_append run c.in_err-put_escape.ensures) in
    handed_on (no_more bytes c.in_ok-put_byte.ensures _ front (escaped_rest bytes (suc i))) c.from_residual-in_err-put_escape.ensures

pub loop-i-preserved : goal.loop-i-preserved
loop-i-preserved c =
    let i = c.loop-i.i in
    let bytes = c.args.bytes.now in
    elim c.if-not-is_plain.branch [
      | then-not-is_plain+in_ok-put_bytes+in_ok-put_escape w ↦
          (let run = run_put bytes c.loop-i.start i c.loop-i.invariant.0 c.loop-i.invariant.1 w.in_ok-put_bytes.ensures in
          rw (w.start-is, w.self-is, add-one) (none_yet bytes (suc i) (omega arith), rw (escaped_turn bytes i (omega arith)) (puts_append run w.in_ok-put_escape.ensures)))
      | else-not-is_plain w ↦
          rw (w.start-is, w.self-is, add-one) (one_more bytes c.loop-i.start i c.loop-i.invariant.0 (omega arith) (c.is_plain.ensures w.if-not-is_plain.false), c.loop-i.invariant.1)
    ]

pub returns-in_err-put_bytes-2 : goal.returns-in_err-put_bytes-2
returns-in_err-put_bytes-2 c =
    let bytes = c.args.bytes.now in
    let whole : c.loop-i.i ≡ length bytes = omega arith in
    let all = run_put bytes c.loop-i.start (length bytes) (rw whole at c.loop-i.invariant.0) c.loop-i.invariant.1 c.in_err-put_bytes-2.ensures in
    handed_on (no_more bytes c.in_ok-put_byte.ensures [] (rw take-length at all) (append-nil _)) c.from_residual-in_err-put_bytes-2.ensures

pub returns : goal.returns
returns c =
    let bytes = c.args.bytes.now in
    let whole : c.loop-i.i ≡ length bytes = omega arith in
    let all = run_put bytes c.loop-i.start (length bytes) (rw whole at c.loop-i.invariant.0) c.loop-i.invariant.1 c.in_ok-put_bytes-2.ensures in
    all_quoted bytes c.in_ok-put_byte.ensures (rw take-length at all) c.put_byte-2.ensures
