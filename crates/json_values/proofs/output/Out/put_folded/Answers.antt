-- `put_folded` meets its contract: a quotation mark, each folded byte with its escape, and the other quotation mark.
use Rattle.std.proofs.Common.{refl, suc, [], add-one, arith, append-nil}
use Rattle.text.specs.Fold.{folded}
use Rattle.text.proofs.Pass.{begun}
use Rattle.json_text.specs.Values.{escaped}
use Rattle.json_values.proofs.Puts.{puts_none, handed_on}
use Rattle.json_values.proofs.Turns.{escaped_rest}
use Rattle.json_values.proofs.Strings.{no_quote, no_more, all_quoted}
use Rattle.json_values.proofs.Runs.{none_yet}
use Rattle.json_values.proofs.Folding.{folding_more, folding_run, folding_escape, within, on, folding_on, folding_all}
use Rattle.json_values.proofs.output.Out.put_folded.Goals as goal

pub returns-in_err-put_byte : goal.returns-in_err-put_byte
returns-in_err-put_byte c = handed_on (no_quote _ c.in_err-put_byte.ensures) c.from_residual.ensures

pub loop-i-init : goal.loop-i-init
unfolding escaped
loop-i-init c = record { count = 0; met = 0; pass = begun c.args.bytes.now; inside = omega arith; run = none_yet (folded c.args.bytes.now) 0 (omega arith); same = refl; puts = puts_none }

pub loop-i-preserved-then-is_plain : goal.loop-i-preserved-then-is_plain
loop-i-preserved-then-is_plain c = rw add-one (folding_more c.args.bytes.now c.loop-i.start c.loop-i.i c.loop-i.invariant c.loop-i-test.true (c.is_plain.ensures c.if-is_plain.true))

pub returns-in_err-put_bytes : goal.returns-in_err-put_bytes
returns-in_err-put_bytes c =
    let l = c.loop-i in
    let text = folded c.args.bytes.now in
    handed_on (no_more text c.in_ok-put_byte.ensures _ (folding_run c.args.bytes.now l.start l.i l.invariant c.in_err-put_bytes.ensures) (escaped_rest text l.invariant.met))
    c.from_residual-in_err-put_bytes.ensures

pub returns-in_err-put_escape : goal.returns-in_err-put_escape
returns-in_err-put_escape c =
    let l = c.loop-i in
    let text = folded c.args.bytes.now in
    let front = folding_escape c.args.bytes.now l.start l.i l.invariant c.loop-i-test.true c.in_ok-put_bytes.ensures c.in_err-put_escape.ensures in
    handed_on (no_more text c.in_ok-put_byte.ensures _ front (escaped_rest text (suc l.invariant.met))) c.from_residual-in_err-put_escape.ensures

pub overflow_add-i-else-is_plain : goal.overflow_add-i-else-is_plain
overflow_add-i-else-is_plain c = let l = c.loop-i in omega (arith, within c.args.bytes.now l.start l.i l.invariant c.loop-i-test.true c.width-i.ensures)

pub loop-i-smaller : goal.loop-i-smaller
loop-i-smaller c =
    let l = c.loop-i in
    let bytes = c.args.bytes.now in
    omega (arith, within bytes l.start l.i l.invariant c.loop-i-test.true c.width-i.ensures, on bytes l.start l.i l.invariant c.loop-i-test.true c.width-i.ensures)

pub loop-i-preserved : goal.loop-i-preserved
loop-i-preserved c =
    let l = c.loop-i in
    folding_on c.args.bytes.now l.start l.i l.invariant c.loop-i-test.true c.width-i.ensures c.in_ok-put_bytes.ensures c.in_ok-put_escape.ensures

pub returns-in_err-put_bytes-2 : goal.returns-in_err-put_bytes-2
returns-in_err-put_bytes-2 c =
    let l = c.loop-i in
    let text = folded c.args.bytes.now in
    handed_on
    (no_more text c.in_ok-put_byte.ensures [] (folding_all c.args.bytes.now l.start l.i l.invariant c.loop-i-test.false c.in_err-put_bytes-2.ensures) (append-nil _))
    c.from_residual-in_err-put_bytes-2.ensures

pub returns : goal.returns
returns c =
    let l = c.loop-i in
    all_quoted (folded c.args.bytes.now) c.in_ok-put_byte.ensures (folding_all c.args.bytes.now l.start l.i l.invariant c.loop-i-test.false c.in_ok-put_bytes-2.ensures) c.put_byte-2.ensures
