-- One check and then another: the first one's refusal, or what the second says.
use Rattle.std.proofs.Common.{◌≡◌, ℕ, List, refl}
use Rattle.std.specs.Prelude.{Result, Ok, Err}
use Rattle.grammar.specs.Parsed.{Check, met, failed}
use Rattle.grammar.specs.Script.{both, array_good}
use Rattle.refusals.specs.Refusal.{Numbered, checked}
use Rattle.refusals.proofs.Laws.{not_both}

pub first_says : {A B : Type 0} (a b : Check) (x : A) (y : B) {e : Numbered} → checked a x ≡ Err e → ◌≡◌ {A = Result B Numbered} (Err e) (checked (both a b) y)
unfolding both
first_says met b x y q = not_both refl q
first_says (failed n p) b x y q = cc

pub second_says : {A B : Type 0} (a b : Check) (x : A) (y : B) {z : A} → checked a x ≡ Ok z → checked b y ≡ checked (both a b) y
unfolding both
second_says met b x y q = refl
second_says (failed n p) b x y q = not_both q refl

-- A check that gives a value was met: so an array that is let pass is a good one.
pub good_array : (ts : List ℕ) → ◌≡◌ {A = Result (Unit {0}) Numbered} (checked (array_good ts) tt) (Ok tt) → array_good ts ≡ met
good_array ts e = go (array_good ts) e
  where
    go : (k : Check) → ◌≡◌ {A = Result (Unit {0}) Numbered} (checked k tt) (Ok tt) → k ≡ met
    go met r = refl
    go (failed n p) r = not_both r refl
