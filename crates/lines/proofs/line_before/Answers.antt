-- `lines::line_before` meets its contract: each turn puts a number, and the byte behind it, before those that are there.
use Rattle.std.proofs.Common.{ℕ, ◌≡◌, ◌≤◌, ◌+◌, ◌*◌, List, [], ◌∷◌, length, drop, arith, length-set}
use Rattle.lines.proofs.Buffers.{Line, none, one_more, more_room}
use Rattle.lines.specs.Lines.{line, places}
use Rattle.lines.proofs.line_before.Goals as goal

-- Where no number is left all of them are there.
whole : {numbers buf₀ buf left : List ℕ} {at next : ℕ} → Line numbers buf₀ buf at left next → length left ≡ 0
    → (at ≤ length buf₀) × (length buf₀ ≤ at + places * length numbers) × (drop at buf ≡ line numbers)
whole {left = []} w e = (rw (← w.long) w.end, rw (← w.long, ← w.all) w.room, rw (← w.all) w.whole)
whole {left = n ∷ left} w e = absurd (omega arith)

pub loop-n-init : goal.loop-n-init
loop-n-init c =
    let e : c.into_iter-n-iterator.result.iter.rest.now ≡ c.args.numbers.now = cc in
    rw e (none c.args.numbers.now c.args.buf.now)

pub overflow_sub-at : goal.overflow_sub-at
overflow_sub-at c = omega (arith, more_room _ _ _ _ _ _ _ _ c.loop-n.invariant c.in-Some.ensures.steps c.requires)

pub bounds-buf-at : goal.bounds-buf-at
bounds-buf-at c = omega (arith, more_room _ _ _ _ _ _ _ _ c.loop-n.invariant c.in-Some.ensures.steps c.requires, c.loop-n.invariant.end)

pub digits_before-at-requires : goal.digits_before-at-requires
digits_before-at-requires c = (omega (arith, more_room _ _ _ _ _ _ _ _ c.loop-n.invariant c.in-Some.ensures.steps c.requires), simp length-set (omega (arith, c.loop-n.invariant.end)))

pub loop-n-preserved : goal.loop-n-preserved
loop-n-preserved c =
    one_more _ _ _ _ _ _ _ _ c.loop-n.invariant c.in-Some.ensures.steps c.requires c.digits_before-at.new.buf c.digits_before-at.result (λ i. omega (arith, c.type_inv.numbers i)) (simp length-set at c.digits_before-at.auto.buf) c.digits_before-at.ensures.0 c.digits_before-at.ensures.1

pub returns : goal.returns
returns c = whole c.loop-n.invariant c.in-None.ensures.steps.0
