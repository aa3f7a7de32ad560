-- A sign and what is read after it, or a list and its sign, as a step of a longer reader.
use mathlib.Core.Path.{◌≡◌, refl, sym, ap, ◌∙◌}
use mathlib.Core.Bool.{Bool, true, false}
use mathlib.Core.List.{List}
use Prim.Native.Nat.{ℕ}
use Rattle.grammar.specs.Words.{SLBrace, Zero, step, next_is}
use Rattle.grammar.specs.Tree.{Tree, Trees}
use Rattle.grammar.specs.Parsed.{Parsed, refused, read, Reader, ◌>>=◌, ◌>>◌, need}
use Rattle.grammar.specs.Rules.{Rules}
use Rattle.grammar.specs.Expressions.{Rec}
use Rattle.modes.specs.declared.Due.{Due}
use Rattle.modes.specs.Modes.{comes}
use Rattle.reader.proofs.Lists.{checked_then}
use Rattle.reader.specs.Promises.{behind_sign, body, braced, items, closed_list}

module _ {B : Type 0} (ts : List ℕ) (f : Tree × ℕ × ℕ → Parsed B) (at room : ℕ) where
  pub sign_then : (rec : Rec) (sign number : ℕ) → (behind_sign ts rec sign number at room >>= f) ≡ (need (next_is ts at sign) number at >> (rec Zero (step ts (step ts at)) room >>= f))
  unfolding behind_sign
  sign_then rec sign number = sym (checked_then _ _ f)

  module _ (due : Due) (block : Reader Tree) where
    pub body_then : (sign missing bare : ℕ) → (body due ts block sign missing bare at room >>= f)
        ≡ (need (next_is ts at sign) missing at >> (need (comes due ts (step ts at) SLBrace) bare (step ts at) >> (block (step ts at) room >>= f)))
    unfolding body braced
    body_then sign missing bare =
        sym (checked_then _ _ f) ∙ ap (λ (x : Parsed B). need (next_is ts at sign) missing at >> x) (sym (checked_then _ _ f))

    pub braced_then : (number : ℕ) → (braced due ts block number at room >>= f) ≡ (need (comes due ts at SLBrace) number at >> (block at room >>= f))
    unfolding braced
    braced_then number = sym (checked_then _ _ f)

shut_then : {B : Type 0} (x : Parsed Trees) (test : ℕ → Bool) (number : ℕ) (on : ℕ → ℕ) (f : Trees × ℕ × ℕ → Parsed B)
    → ((x >>= λ (list, at, room). need (test at) number at >> read list (on at) room) >>= f) ≡ (x >>= λ (list, at, room). need (test at) number at >> f (list, on at, room))
unfolding need ◌>>◌ ◌>>=◌
shut_then (refused n p) test number on f = refl
shut_then (read list at room) test number on f = go (test at)
  where
    go : (b : Bool) → ((need b number at >> read list (on at) room) >>= f) ≡ (need b number at >> f (list, on at, room))
    go true = refl
    go false = refl

-- A list and its closing sign, as a step of a longer reader.
pub closed_then : {B : Type 0} (due : Due) (rules : Rules) (ts : List ℕ) (rec : Rec) (paired : Bool) (close number at room : ℕ) (f : Trees × ℕ × ℕ → Parsed B)
    → (closed_list due rules ts rec paired close number at room >>= f)
    ≡ (items rules ts rec paired at room >>= λ (list, at, room). need (comes due ts at close) number at >> f (list, step ts at, room))
unfolding closed_list
closed_then due rules ts rec paired close number at room f = shut_then _ (λ at. comes due ts at close) number (step ts) f
