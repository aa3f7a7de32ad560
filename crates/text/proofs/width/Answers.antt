-- `width` meets its contract: from a place on there is nothing, a pair, or a byte that begins none.
use Rattle.std.proofs.Common.{rules, ◌≡◌, ℕ, ◌-◌, ◌≤◌, ◌<◌, List, [], ◌∷◌, length, get_or, take, drop, take_all, length-drop, drop_of_length-le, refl, sym, arith}
use borrow.Author.Tests.{ne_eqb}
use Rattle.std.proofs.Math.Bool.{and-false}
use Rattle.text.specs.Fold.{width_of}
use Rattle.text.proofs.width.Goals as goal

-- the part of a payload from a place on
part : (payload : List ℕ) (at : ℕ) → take (length payload - at) (drop at payload) ≡ drop at payload
part payload at =
    let ahead : length (drop at payload) ≤ length payload - at = simp length-drop (omega arith) in
    take_all _ (drop at payload) ahead

-- a pair
pair : (part : List ℕ) → 2 ≤ length part → get_or part 0 0 ≡ 92 → get_or part 1 0 ≡ 92 → 2 ≡ width_of part
unfolding width_of
pair [] h p q = absurd (omega arith)
pair (x ∷ []) h p q = absurd (omega arith)
pair (x ∷ y ∷ rest) h p q = rw (p, q)

-- one byte
one : (part : List ℕ) → 0 < length part → length part < 2 → 1 ≡ width_of part
unfolding width_of
one [] h l = absurd (omega arith)
one (x ∷ []) h l = refl
one (x ∷ y ∷ rest) h l = absurd (omega arith)

-- two of which the first or the second is no backslash
first : (part : List ℕ) → 2 ≤ length part → (get_or part 0 0 ≡ 92 → ⊥) → 1 ≡ width_of part
unfolding width_of
first [] h p = absurd (omega arith)
first (x ∷ []) h p = refl
first (x ∷ y ∷ rest) h p = rw (ne_eqb x 92 p)

second : (part : List ℕ) → 2 ≤ length part → (get_or part 1 0 ≡ 92 → ⊥) → 1 ≡ width_of part
unfolding width_of
second [] h q = absurd (omega arith)
second (x ∷ []) h q = refl
second (x ∷ y ∷ rest) h q = rw (ne_eqb y 92 q, and-false)

-- and none
none : (payload : List ℕ) (at : ℕ) → length payload ≤ at → 0 ≡ width_of (drop at payload)
unfolding width_of
none payload at h = rw (drop_of_length-le payload {i = at} h)

pub returns-then-payload-at : goal.returns-then-payload-at
returns-then-payload-at c = none c.args.payload.now c.args.at c.if-payload-at.true

pub returns-in-92 : goal.returns-in-92
returns-in-92 c = rw (sym (part c.args.payload.now c.args.at)) (pair _ c.in-92.len_at_least (search rules) (search rules))

pub returns-in_default : goal.returns-in_default
returns-in_default c =
    let some : 0 < length (drop c.args.at c.args.payload.now) = simp length-drop (omega arith) in
    one _ some (rw (part c.args.payload.now c.args.at) at c.in_default.len_below)

pub returns-in_default-2 : goal.returns-in_default-2
returns-in_default-2 c = rw (sym (part c.args.payload.now c.args.at)) (second _ c.in_default.len_at_least (search rules))

pub returns-in_default-3 : goal.returns-in_default-3
returns-in_default-3 c = rw (sym (part c.args.payload.now c.args.at)) (first _ c.in_default.len_at_least (search rules))
