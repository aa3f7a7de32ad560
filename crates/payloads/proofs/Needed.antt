-- The class that a kind needs is told from its tag.
use mathlib.Core.Path.{◌≡◌, refl}
use mathlib.Core.Bool.{Bool, true, false, cond}
use Prim.Native.Nat.{ℕ, ◌≤◌}
use native.Mathlib.Omega.{arith}
use borrow.Author.Tests.{eqb-true, eqb-false}
use lib.Dec.{eqb}
use Rattle.std.specs.Prelude.{Some, None}
use Rattle.fields.specs.declared.classes.Class.{Class}
use Rattle.fields.specs.Classes.{tag, class_of}
use Rattle.fields.proofs.Tags.{class_tag, no_class}
use Rattle.payloads.specs.Needs.{needs, needed}

-- every kind that needs one needs one that there is
one_of : (b : Bool) {m n : ℕ} → m ≤ 10 → n ≤ 10 → cond b m n ≤ 10
one_of true h l = h
one_of false h l = l

below : (k : ℕ) → needs k ≤ 10
unfolding needs
below k =
    one_of (eqb k 2) (omega arith)
    (one_of (eqb k 3) (omega arith)
    (one_of (eqb k 4) (omega arith)
    (one_of (eqb k 5) (omega arith)
    (one_of (eqb k 6) (omega arith)
    (one_of (eqb k 18) (omega arith)
    (one_of (eqb k 34) (omega arith)
    (one_of (eqb k 35) (omega arith)
    (one_of (eqb k 40) (omega arith) (omega arith)))))))))

-- a kind without one, and a kind with one
pub none_needed : (k : ℕ) → needed k ≡ None → needs k ≡ 0
none_needed k e = go (eqb (needs k) 0) refl e
  where
    go : (b : Bool) → eqb (needs k) 0 ≡ b → cond b None (class_of (needs k)) ≡ None → needs k ≡ 0
    go true q f = eqb-true (needs k) 0 q
    go false q f = absurd (omega (arith, below k, no_class (needs k) f))

pub some_needed : (k : ℕ) {c : Class} → needed k ≡ Some c → (tag c ≡ needs k) × (needs k ≡ 0 → ⊥)
some_needed k {c} e = go (eqb (needs k) 0) refl e
  where
    go : (b : Bool) → eqb (needs k) 0 ≡ b → cond b None (class_of (needs k)) ≡ Some c → (tag c ≡ needs k) × (needs k ≡ 0 → ⊥)
    go true q f = let z : ◌≡◌ {A = ℕ} 0 1 = cc in absurd (omega arith)
    go false q f = (class_tag (needs k) f, eqb-false (needs k) 0 q)
