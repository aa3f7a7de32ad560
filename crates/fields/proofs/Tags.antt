-- A class is told from its tag, and above the classes there is none.
use mathlib.Core.Path.{◌≡◌, ◌∙◌}
use mathlib.Core.List.{List, [], ◌∷◌}
use Prim.Native.Nat.{ℕ, zero, suc, ◌+◌, ◌≤◌, ◌<◌}
use Rattle.std.proofs.Common.{rules}
use native.Mathlib.Omega.{arith}
use lib.ListN.{length}
use Rattle.std.specs.Prelude.{Some, None, slice_get}
use Rattle.fields.specs.Classes.{tag, classes, class_of}
use Rattle.fields.specs.declared.classes.Class.{Class}

-- classes whose tags count on from a number
Counted : ℕ → List Class → Type 0
Counted k [] = Unit
Counted k (c ∷ cs) = (tag c ≡ k) × Counted (suc k) cs

-- no number is another
never : {A : Type 0} → ◌≡◌ {A = ℕ} 0 1 → A
never z = absurd (omega arith)

found : (k n : ℕ) (cs : List Class) {c : Class} → Counted k cs → slice_get cs n ≡ Some c → tag c ≡ k + n
unfolding Counted
found k n [] t e = never cc
found k zero (d ∷ cs) {c} t e = let same : d ≡ c = cc in rw (← same, t.0) (omega arith)
found k (suc n) (d ∷ cs) t e = found (suc k) n cs t.1 e ∙ omega arith

missed : (n : ℕ) (cs : List Class) → slice_get cs n ≡ None → length cs ≤ n
missed n [] e = omega arith
missed zero (d ∷ cs) e = never cc
missed (suc n) (d ∷ cs) e = let more = missed n cs e in omega arith

pub class_tag : (n : ℕ) {c : Class} → class_of n ≡ Some c → tag c ≡ n
unfolding Counted
class_tag n e = found 0 n classes (search rules) e ∙ omega arith

pub no_class : (n : ℕ) → class_of n ≡ None → 10 < n
no_class n e = missed n classes e
