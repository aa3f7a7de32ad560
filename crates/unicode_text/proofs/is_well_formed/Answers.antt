-- `is_well_formed` meets its contract: a pass over the bytes, sequence by sequence.
use Rattle.std.proofs.Common.{◌≡◌, ℕ, zero, suc, ◌+◌, ◌-◌, ◌≤◌, ◌<◌, List, length, take, drop, length-drop, take_all, refl, sym, ◌∙◌, arith}
use Rattle.unicode_text.specs.Unicode.{table, first}
use Rattle.unicode_text.proofs.Pass.{Pass, begun, ended, fails, on, goes}
use Rattle.unicode_text.proofs.is_well_formed.Goals as goal

-- the sequence that a pass sees from where it stands
seen : (bytes : List ℕ) (at : ℕ) {n : ℕ} → n ≡ first table (take (length bytes - at) (drop at bytes)) → n ≡ first table (drop at bytes)
seen bytes at e =
    let long : length (drop at bytes) ≤ length bytes - at = simp length-drop (omega arith) in
    e ∙ rw (take_all _ (drop at bytes) long)

-- a sequence that is there ends within the bytes
inside : (bytes : List ℕ) (at n : ℕ) → Pass bytes at → at < length bytes → n ≡ first table (take (length bytes - at) (drop at bytes)) → n ≤ length bytes - at
inside bytes at n pass more e = omega (arith, seen bytes at e, on pass more)

-- and the pass goes on behind it
next : (bytes : List ℕ) (at n : ℕ) → Pass bytes at → at < length bytes → n ≡ first table (take (length bytes - at) (drop at bytes)) → (n ≡ 0 → ⊥) → Pass bytes (at + n)
next bytes at zero pass more e some = absurd (some refl)
next bytes at (suc n) pass more e some = goes pass more (sym (seen bytes at e))

pub loop-at-init : goal.loop-at-init
loop-at-init c = begun c.args.bytes.now

pub returns-then-n-eq0 : goal.returns-then-n-eq0
returns-then-n-eq0 c =
    sym (fails c.loop-at.invariant c.loop-at-test.true (sym (seen c.args.bytes.now c.loop-at.at c.width-n.ensures) ∙ c.if-n-eq0.true))

pub overflow_add-at : goal.overflow_add-at
overflow_add-at c = omega (arith, inside c.args.bytes.now c.loop-at.at c.width-n.result c.loop-at.invariant c.loop-at-test.true c.width-n.ensures)

pub loop-at-preserved : goal.loop-at-preserved
loop-at-preserved c =
    next c.args.bytes.now c.loop-at.at c.width-n.result c.loop-at.invariant c.loop-at-test.true c.width-n.ensures c.if-n-eq0.false

pub returns : goal.returns
returns c = sym (ended c.loop-at.invariant c.loop-at-test.false)
