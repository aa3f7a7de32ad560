-- `row` meets its contract: what has no arm is no kind.
use Rattle.std.proofs.Common.{rules, ℕ, zero, suc, ◌+◌, ◌-◌, ◌≤◌, ◌<◌, arith, ◌≡◌, refl, sym, true, ⊎_elim, eqb, eqb-true}
use Rattle.tokens.proofs.Tests.{below, under, past}
use Rattle.slots.specs.Slots.{slot, kind_of, of_expressions, of_statements}
use Rattle.slots.specs.Codes.{code, packed}
use Rattle.slots.proofs.Either.{less_or, Neither, beyond, none_before}
use Rattle.slots.proofs.Numbers.{no_kind}
use Rattle.slots.proofs.row.Goals as goal

gap : below (λ i. eqb (packed (20 + i)) 0) 12 ≡ true
unfolding packed slot kind_of of_expressions of_statements code
gap = refl

in-gap : (x : ℕ) → 20 ≤ x → x < 32 → 0 ≡ packed x
in-gap x l h =
    let z : packed (20 + (x - 20)) ≡ 0 = eqb-true (packed (20 + (x - 20))) 0 (under (λ i. eqb (packed (20 + i)) 0) 12 gap (x - 20) (omega arith)) in
    let e : 20 + (x - 20) ≡ x = omega arith in
    sym (rw e at z)

zeroth : 0 ≡ packed 0
unfolding packed slot kind_of of_expressions of_statements code
zeroth = refl

no_arm : (x : ℕ) → Neither 1 19 32 15 x → 0 ≡ packed x
no_arm zero none = zeroth
no_arm (suc y) none =
    ⊎_elim (λ h. in-gap (suc y) (past 1 19 (suc y) (omega arith) (none_before 1 19 32 15 (suc y) none)) h) (λ l. no_kind (suc y) (beyond 1 19 32 15 (suc y) l none)) (less_or (suc y) 32)

pub returns-in_default : goal.returns-in_default
returns-in_default c = (no_arm c.args.kind (search rules), omega arith)
