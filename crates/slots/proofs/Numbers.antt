-- Slots and kinds, and their numbers.
use Prim.Native.Nat.{ℕ, ◌-◌, ◌/◌, ◌%◌, ◌^◌, ◌≤◌, ◌<◌}
use native.Mathlib.Omega.{arith}
use mathlib.Core.Path.{◌≡◌, refl}
use mathlib.Core.Bool.{Bool, true, ◌&&◌, and-eq-true_iff}
use mathlib.Core.Logic.{⊎_elim}
use lib.Dec.{leb, ltb}
use lib.ListN.{length, get_or, get_or-eq_default}
use borrow.Author.Tests.{le-ltb, leb-true, ltb-true}
use Rattle.tokens.proofs.Tests.{under}
use Rattle.slots.specs.Slots.{Takes, expressions, statements, blocks, pairs, names, plain-identifier, any-root, Many, no, one, at_most_one, any, some, Slot, ◌of◌}
use Rattle.slots.specs.Slots.{of_expressions, of_statements, kind_of, slot}
use Rattle.slots.proofs.Either.{less_or}
use Rattle.slots.specs.Codes.{many_code, kinds_code, code, packed, many_of, kinds_of, slot_of}

-- each digit stands for what it is the number of
many_back : (m : Many) → (many_of (many_code m) ≡ m) × (many_code m ≤ 4)
unfolding many_of
many_back no = (refl, omega arith)
many_back one = (refl, omega arith)
many_back at_most_one = (refl, omega arith)
many_back any = (refl, omega arith)
many_back some = (refl, omega arith)

kinds_back : (k : Takes) → (kinds_of (kinds_code k) ≡ k) × (kinds_code k ≤ 6)
unfolding kinds_of
kinds_back names = (refl, omega arith)
kinds_back expressions = (refl, omega arith)
kinds_back statements = (refl, omega arith)
kinds_back blocks = (refl, omega arith)
kinds_back pairs = (refl, omega arith)
kinds_back plain-identifier = (refl, omega arith)
kinds_back any-root = (refl, omega arith)

-- and so does a slot's number
pub of_code : (s : Slot) → slot_of (code s) ≡ s
unfolding code
of_code s =
    let m = many_back s.many in
    let k = kinds_back s.kinds in
    let e : code s / 16 ≡ many_code s.many = omega arith in
    let f : code s % 16 ≡ kinds_code s.kinds = omega arith in
    rw (e, f, m.0, k.0)

pub code_small : (s : Slot) → code s < 256
unfolding code
code_small s = omega (arith, many_back s.many, kinds_back s.kinds)

-- the slots in a kind's number
module _ (k : ℕ) {x : ℕ} (e : x ≡ packed k) where
  pub slot_0 : x / 16777216 % 256 ≡ code (slot k 0)
  unfolding packed
  slot_0 = omega (arith, code_small (slot k 0), code_small (slot k 1), code_small (slot k 2), code_small (slot k 3))

  pub slot_1 : x / 65536 % 256 ≡ code (slot k 1)
  unfolding packed
  slot_1 = omega (arith, code_small (slot k 0), code_small (slot k 1), code_small (slot k 2), code_small (slot k 3))

  pub slot_2 : x / 256 % 256 ≡ code (slot k 2)
  unfolding packed
  slot_2 = omega (arith, code_small (slot k 2), code_small (slot k 3))

  pub slot_3 : x % 256 ≡ code (slot k 3)
  unfolding packed
  slot_3 = omega (arith, code_small (slot k 3))

  pub marks_there : x / 4294967296 ≡ (kind_of k).marks
  unfolding packed
  marks_there = omega (arith, code_small (slot k 0), code_small (slot k 1), code_small (slot k 2), code_small (slot k 3))

-- no kind above 46
unknown_kind : (k : ℕ) → 47 ≤ k → kind_of k ≡ get_or of_statements 15 (kind_of 0)
unfolding kind_of of_statements of_expressions
unknown_kind k h = rw (le-ltb k 32 (omega arith), get_or-eq_default of_statements (kind_of 0) {n = k - 32} (omega arith))

pub no_kind : (k : ℕ) → 47 ≤ k → 0 ≡ packed k
unfolding packed slot kind_of of_statements of_expressions code
no_kind k h = rw (unknown_kind k h)

-- each kind has no more than four slots, and its marks are two digits
few : ℕ → Bool
few k = leb (length (kind_of k).slots) 4 && ltb (kind_of k).marks 256

all_few : (k : ℕ) → few k ≡ true
unfolding kind_of of_statements of_expressions few
all_few k = ⊎_elim (λ l. under few 47 refl k l) (λ l. rw (unknown_kind k l)) (less_or k 47)

bounds : (k : ℕ) → (length (kind_of k).slots ≤ 4) × ((kind_of k).marks < 256)
unfolding few
bounds k =
    let both = (and-eq-true_iff (leb (length (kind_of k).slots) 4) (ltb (kind_of k).marks 256)).0 (all_few k) in
    (leb-true _ _ both.0, ltb-true _ _ both.1)

pub no_slot : (k i : ℕ) → 4 ≤ i → 0 ≡ code (slot k i)
unfolding slot code
no_slot k i h = rw (get_or-eq_default (kind_of k).slots (no of names) {n = i} (omega (arith, bounds k)))

pub packed_small : (k : ℕ) → packed k < 2 ^ 40
unfolding packed
packed_small k = omega (arith, bounds k, code_small (slot k 0), code_small (slot k 1), code_small (slot k 2), code_small (slot k 3))

pub ruleset digits = (slot_0, slot_1, slot_2, slot_3, no_slot, marks_there)
