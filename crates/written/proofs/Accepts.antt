-- A fact of what a reader gives where it accepts, and a rule for each thing that a reader can begin with.
use Prim.Native.Nat.{ℕ, zero, suc}
use mathlib.Core.Path.{◌≡◌, refl}
use mathlib.Core.Bool.{Bool, true, false}
use mathlib.Core.List.{List, [], ◌∷◌}
use Rattle.grammar.specs.Tree.{Tree, ended}
use Rattle.grammar.specs.Parsed.{Parsed, refused, read, Reader, ◌>>=◌, ◌>>◌, Check, met, failed, need, build, choose, Arm, ◌⇒◌}

-- What holds of what a reader gives, where it accepts.
abbrev pub Fact : Type 0 → Type 1
Fact A = A → ℕ → Type 0

abbrev pub Gives : {A : Type 0} → Fact A → Parsed A → Type 0
Gives Q (refused n p) = Unit {0}
Gives Q (read t at room) = Q t at

pub gives_then : {A B : Type 0} (Q : Fact A) (R : Fact B) (x : Parsed A) (f : A × ℕ × ℕ → Parsed B) → Gives Q x
    → ((t : A) (at room : ℕ) → Q t at → Gives R (f (t, at, room))) → Gives R (x >>= f)
unfolding ◌>>=◌
gives_then Q R (refused n p) f h k = tt
gives_then Q R (read t at room) f h k = k t at room h

pub gives_map : {A : Type 0} (Q R : Fact A) (x : Parsed A) → Gives Q x → ((t : A) (at : ℕ) → Q t at → R t at) → Gives R x
gives_map Q R (refused n p) h k = tt
gives_map Q R (read t at room) h k = k t at h

module _ {A : Type 0} (R : Fact A) where
  pub gives_refused : (n p : ℕ) → Gives R (refused n p)
  gives_refused n p = tt

  pub gives_need : (b : Bool) (n p : ℕ) (x : Parsed A) → (b ≡ true → Gives R x) → Gives R (need b n p >> x)
  unfolding need ◌>>◌
  gives_need true n p x h = h refl
  gives_need false n p x h = tt

  pub gives_check : (c : Check) (x : Parsed A) → Gives R x → Gives R (c >> x)
  unfolding ◌>>◌
  gives_check met x h = h
  gives_check (failed n p) x h = tt

  pub gives_choose : (b : Bool) (x y : Unit {0} → Parsed A) → (b ≡ true → Gives R (x tt)) → (b ≡ false → Gives R (y tt)) → Gives R (choose b x y)
  unfolding choose
  gives_choose true x y h k = h refl
  gives_choose false x y h k = k refl

pub gives_build : (R : Fact Tree) (t : Tree) (at room : ℕ) → R (ended at t) at → Gives R (build t at room)
unfolding build
gives_build R t at zero h = tt
gives_build R t at (suc m) h = h

-- What holds of each arm of a match.
infixr 5 ◌▹◌
pub data Arms (P : Reader Tree → Type 0) : List (Arm Tree) → Type 0 where
  end : Arms P []
  ◌▹◌ : {w : ℕ} {f : Reader Tree} {arms : List (Arm Tree)} → P f → Arms P arms → Arms P ((w ⇒ f) ∷ arms)
