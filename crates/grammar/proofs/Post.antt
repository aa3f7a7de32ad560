-- A fact of what a reader gives back where it accepts, and one of its refusals' numbers; and a rule for each thing that a reader can begin with.
use Prim.Native.Nat.{ℕ, zero, suc}
use mathlib.Core.Path.{◌≡◌, refl}
use mathlib.Core.Bool.{Bool, true, false}
use mathlib.Core.List.{List, [], ◌∷◌}
use lib.Dec.{ltb}
use Rattle.grammar.specs.Tree.{Tree, ended}
use Rattle.grammar.specs.Parsed.{Parsed, refused, read, Reader, ◌>>=◌, ◌>>◌, need, build, choose, Arm, ◌⇒◌, match, NoRow}

abbrev pub Fact : Type 0 → Type 1
Fact A = A → ℕ → ℕ → Type 0

-- A fact of what was read, or else one of the refusal's number.
abbrev pub Ends : {A : Type 0} → (ℕ → Type 0) → Fact A → Parsed A → Type 0
Ends B Q (refused n p) = B n
Ends B Q (read t at room) = Q t at room

-- The same where no refusal has the number 0.
abbrev pub Numbered : ℕ → Type 0
Numbered n = ltb 0 n ≡ true

abbrev pub Post : {A : Type 0} → Fact A → Parsed A → Type 0
Post Q x = Ends Numbered Q x

module _ (B : ℕ → Type 0) where
  pub post_then : {A C : Type 0} (Q : Fact A) (R : Fact C) (x : Parsed A) (f : A × ℕ × ℕ → Parsed C) → Ends B Q x
      → ((t : A) (at room : ℕ) → Q t at room → Ends B R (f (t, at, room))) → Ends B R (x >>= f)
  unfolding ◌>>=◌
  post_then Q R (refused n p) f h k = h
  post_then Q R (read t at room) f h k = k t at room h

  pub post_map : {A : Type 0} (Q R : Fact A) (x : Parsed A) → Ends B Q x → ((t : A) (at room : ℕ) → Q t at room → R t at room) → Ends B R x
  post_map Q R (refused n p) h k = h
  post_map Q R (read t at room) h k = k t at room h

  module _ {A : Type 0} (R : Fact A) where
    pub post_refused : (n p : ℕ) → B n → Ends B R (refused n p)
    post_refused n p z = z

    pub post_need : (b : Bool) (n p : ℕ) (x : Parsed A) → B n → (b ≡ true → Ends B R x) → Ends B R (need b n p >> x)
    unfolding need ◌>>◌
    post_need true n p x z h = h refl
    post_need false n p x z h = z

    pub post_choose : (b : Bool) (x y : Unit {0} → Parsed A) → (b ≡ true → Ends B R (x tt)) → (b ≡ false → Ends B R (y tt)) → Ends B R (choose b x y)
    unfolding choose
    post_choose true x y h k = h refl
    post_choose false x y h k = k refl

  pub post_build : (R : Fact Tree) (t : Tree) (at room : ℕ) → (room ≡ zero → B NoRow) → ((m : ℕ) → room ≡ suc m → R (ended at t) at m) → Ends B R (build t at room)
  unfolding build
  post_build R t at zero z h = z refl
  post_build R t at (suc m) z h = h m refl

-- What holds of each arm of a match.
infixr 5 ◌▹◌
pub data Arms {A : Type 0} (P : Reader A → Type 0) : List (Arm A) → Type 0 where
  end : Arms P []
  ◌▹◌ : {w : ℕ} {f : Reader A} {arms : List (Arm A)} → P f → Arms P arms → Arms P ((w ⇒ f) ∷ arms)

-- What holds of a reader wherever it starts, and so of a match of such readers.
abbrev pub Each : {A : Type 0} → (ℕ → Type 0) → (ℕ → ℕ → Type 0) → (ℕ → ℕ → Fact A) → Reader A → Type 0
Each B H Q f = (at room : ℕ) → H at room → Ends B (Q at room) (f at room)

pub match_each : {A : Type 0} (B : ℕ → Type 0) (H : ℕ → ℕ → Type 0) (Q : ℕ → ℕ → Fact A) {arms : List (Arm A)} (w : ℕ) (other : Reader A)
    → Arms (Each B H Q) arms → Each B H Q other → Each B H Q (match w arms other)
unfolding match
match_each B H Q w other end h at room r = h at room r
match_each B H Q w other (x ▹ xs) h at room r = post_choose _ _ _ _ _ (λ e. x at room r) (λ e. match_each B H Q w other xs h at room r)
