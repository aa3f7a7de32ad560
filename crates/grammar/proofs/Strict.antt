-- Strict rules refuse by 30, or change nothing.
use Prim.Native.Nat.{ℕ}
use mathlib.Core.Path.{◌≡◌, refl, ap}
use mathlib.Core.Bool.{Bool, true, false}
use mathlib.Core.List.{List}
use mathlib.Core.Logic.{inl, inr}
use Rattle.grammar.specs.Words.{tok, step, next_is}
use Rattle.grammar.specs.Parsed.{Parsed, ◌>>◌, need, WrongSign}
use Rattle.grammar.specs.Rules.{Rules, original, fits}
use Rattle.grammar.specs.Expressions.{expression}
use Rattle.grammar.specs.Statements.{statement}
use Rattle.grammar.specs.Claims.{Unless, StrictOrSame}
use Rattle.grammar.proofs.Like.{one_tree, one_list}
use Rattle.grammar.proofs.Walk.{Relation, Beside, expression_alike, statement_alike}
use Rattle.grammar.proofs.Agree.{Agree, let_off, both_refuse, both_read, agreed}
use Rattle.grammar.proofs.Entries.{all_entries}

abbrev pub strict : Rules
strict = record { strict = true }

-- Refusal 30 is let off.
abbrev Thirty : ℕ → Type 0
Thirty number = number ≡ WrongSign

abbrev same : ℕ → ℕ
same room = room

-- A refusal by 30, or the same.
abbrev OrSame : Relation
OrSame = Agree Thirty ◌≡◌ same

or_same : {A : Type 0} {R : A → A → Type 0} (x y : Parsed A) → ((a b : A) → R a b → a ≡ b) → OrSame A R x y → Unless WrongSign x y
or_same x y one (let_off h) = inl h
or_same x y one (both_refuse p) = inr (rw p)
or_same x y one (both_read {a} {b} r p) = inr (rw (p, one a b r))

-- A sign that only the first rules ask for.
asked : {A : Type 0} {R : A → A → Type 0} (b : Bool) (p : ℕ) (x y : Parsed A) → OrSame A R x y → OrSame A R (need b WrongSign p >> x) y
unfolding need ◌>>◌
asked true p x y h = h
asked false p x y h = let_off refl

module _ (ts : List ℕ) where
  strictly : Beside ◌≡◌ same OrSame strict original ts ts
  unfolding fits need ◌>>◌
  strictly = record {
    kept = agreed Thirty ◌≡◌ same (λ n. refl) (inr refl);
    token = λ a b. ap (tok ts);
    on = λ a b. ap (step ts);
    fitting = λ R at bt w p q x y h i k. asked (next_is ts at w) p x y k;
  }

  -- The same of the readers, with any nesting.
  pub expression_or_same : (d pre at room : ℕ) → Unless WrongSign (expression strict ts d pre at room) (expression original ts d pre at room)
  expression_or_same d pre at room = or_same _ _ one_tree (expression_alike strictly d pre at at room refl)

  pub statement_or_same : (d at room : ℕ) → Unless WrongSign (statement strict ts d at room) (statement original ts d at room)
  statement_or_same d at room = or_same _ _ one_list (statement_alike strictly d at at room refl)

pub strict_or_same : StrictOrSame
strict_or_same ts start room =
    let (x, s, w) = all_entries (strictly ts) start room in
    (or_same _ _ one_list x, or_same _ _ one_list s, or_same _ _ one_list w)
