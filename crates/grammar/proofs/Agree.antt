-- Answers that agree, but for refusals that are let off: a relation that the steps of the readers keep.
use Prim.Native.Nat.{ℕ, zero, suc}
use mathlib.Core.Path.{◌≡◌}
use mathlib.Core.Logic.{◌⊎◌, inl, inr}
use Rattle.grammar.specs.Tree.{Tree, ended}
use Rattle.grammar.specs.Parsed.{Parsed, refused, read, ◌>>=◌, build, NoRow}
use Rattle.grammar.proofs.Like.{Like}
use Rattle.grammar.proofs.Walk.{Kept}

-- The first answer is a refusal by a number that is let off; or both are refusals by one number, at places that correspond; or what was read is
-- related, the places correspond, and so do the rows left.
pub data Agree (Off : ℕ → Type 0) (At : ℕ → ℕ → Type 0) (up : ℕ → ℕ) (A : Type 0) (R : A → A → Type 0) : Parsed A → Parsed A → Type 0 where
  let_off : {n p : ℕ} {y : Parsed A} → Off n → Agree Off At up A R (refused n p) y
  both_refuse : {n p q : ℕ} → At p q → Agree Off At up A R (refused n p) (refused n q)
  both_read : {a b : A} {at bt n : ℕ} → R a b → At at bt → Agree Off At up A R (read a at n) (read b bt (up n))

-- A row taken is one row of each; where only the first may have none left, the refusal for want of it is let off.
module _ (Off : ℕ → Type 0) (At : ℕ → ℕ → Type 0) (up : ℕ → ℕ) (taken : (n : ℕ) → up (suc n) ≡ suc (up n)) (none : Off NoRow ⊎ (up 0 ≡ 0)) where
  agree_then : {A B : Type 0} (R : A → A → Type 0) (S : B → B → Type 0) (x y : Parsed A) (f g : A × ℕ × ℕ → Parsed B) → Agree Off At up A R x y
      → ((a b : A) (at bt n : ℕ) → R a b → At at bt → Agree Off At up B S (f (a, at, n)) (g (b, bt, up n))) → Agree Off At up B S (x >>= f) (y >>= g)
  unfolding ◌>>=◌
  agree_then R S x y f g (let_off h) next = let_off h
  agree_then R S x y f g (both_refuse h) next = both_refuse h
  agree_then R S x y f g (both_read {a} {b} {at} {bt} {n} r h) next = next a b at bt n r h

  agree_build : (t u : Tree) (at bt n : ℕ) → Like At (ended at t) (ended bt u) → At at bt → Agree Off At up Tree (Like At) (build t at n) (build u bt (up n))
  unfolding build
  agree_build t u at bt zero l h = go none
    where
      go : Off NoRow ⊎ (up 0 ≡ 0) → Agree Off At up Tree (Like At) (refused NoRow at) (build u bt (up 0))
      go (inl off) = let_off off
      go (inr z) = rw z (both_refuse h)
  agree_build t u at bt (suc n) l h = rw (taken n) (both_read l h)

  pub agreed : Kept At up (Agree Off At up)
  agreed = record {
    refusing = λ R n p q h. both_refuse h;
    reading = λ R a b at bt n r h. both_read r h;
    going_on = agree_then;
    building = agree_build;
  }
