-- The definitions of expressions, one reading after another, and what each is at its ends.
use mathlib.Core.Path.{◌≡◌, refl, sym, ap, ◌∙◌}
use mathlib.Core.Bool.{Bool, true, false, not, ◌&&◌, false≢true}
use mathlib.Core.List.{List, [], ◌∷◌}
use Prim.Native.Nat.{ℕ, zero, suc, ◌-◌}
use native.Mathlib.Numerals.{sub-one}
use Rattle.grammar.specs.Words.{SRBox, SRBrace, SRparen, SColon, SSemiColon, SImpl, SIncr, SDecr, SLParen, SLBox, Zero, step, tok, next_is}
use Rattle.grammar.specs.Tree.{Tree, Trees, nil, ◌▸◌}
use Rattle.grammar.specs.Tree as tree
use Rattle.grammar.specs.Parsed.{refused, read, ◌>>=◌, build, turns, ArrayNotTerminated, HashNotTerminated, WrongSign, ExpectedArrow, ExpectedColon}
use Rattle.grammar.specs.Rules.{Rules}
use Rattle.grammar.specs.Expressions.{Rec}
use Rattle.grammar.specs.Expressions as spec
use Rattle.modes.specs.declared.Mode.{Mode}
use Rattle.modes.specs.declared.Due.TheVariants.{Always, By}
use Rattle.modes.specs.Modes.{by}
use Rattle.answer.specs.Answer.{Read}
use Rattle.reader.specs.Promises.{Follows, item, items, closed_list}
use Rattle.reader.proofs.Answers.{by_eq, choose_true, choose_false, need_met, need_failed, Starts, starts_at, starts_after, goes}
use Rattle.reader.proofs.Bodies.{closed_then}
use Rattle.reader.proofs.Lists.{then_assoc}
use Rattle.reader.proofs.Matches.{none, unmatched}

-- An array that is not empty.
module _ (rules : Rules) (ts : List ℕ) (rec : Rec) (start room : ℕ) (some : next_is ts start SRBox ≡ false) where
  unfoldable pub array_first : Starts (spec.array rules ts rec start room) (closed_list Always rules ts rec false SRBox ArrayNotTerminated start room)
  unfolding spec.array items
  array_first = record {
    rest = λ (values, at, left). build (tree.array start values) at left;
    eq = choose_false _ _ some ∙ sym (closed_then Always rules ts rec false SRBox ArrayNotTerminated start room _);
  }

  pub array_ended : {values : Trees} {at left : ℕ} → closed_list Always rules ts rec false SRBox ArrayNotTerminated start room ≡ read values at left
      → spec.array rules ts rec start room ≡ build (tree.array start values) at left
  unfolding array_first
  array_ended f = goes array_first f

-- A hash that is not empty.
module _ (rules : Rules) (ts : List ℕ) (rec : Rec) (start room : ℕ) (some : next_is ts start SRBrace ≡ false) where
  unfoldable pub hash_first : Starts (spec.hash_literal rules ts rec start room) (closed_list Always rules ts rec true SRBrace HashNotTerminated start room)
  unfolding spec.hash_literal items
  hash_first = record {
    rest = λ (pairs, at, left). build (tree.hash start pairs) at left;
    eq = choose_false _ _ some ∙ then_assoc _ _ _ ∙ sym (closed_then Always rules ts rec true SRBrace HashNotTerminated start room _);
  }

  pub hash_ended : {pairs : Trees} {at left : ℕ} → closed_list Always rules ts rec true SRBrace HashNotTerminated start room ≡ read pairs at left
      → spec.hash_literal rules ts rec start room ≡ build (tree.hash start pairs) at left
  unfolding hash_first
  hash_ended f = goes hash_first f

-- A call with arguments.
module _ (mode : Mode) (ts : List ℕ) (rec : Rec) (caller : Tree) (start room : ℕ) (some : next_is ts start SRparen ≡ false) where
  unfoldable pub call_first : Starts (spec.call (by mode) ts rec caller start room) (closed_list (By mode) (by mode) ts rec false SRparen WrongSign start room)
  unfolding spec.call items
  call_first = record {
    rest = λ (arguments, at, left). build (tree.call start caller arguments) at left;
    eq = choose_false _ _ some ∙ sym (closed_then (By mode) (by mode) ts rec false SRparen WrongSign start room _);
  }

  pub call_ended : {arguments : Trees} {at left : ℕ} → closed_list (By mode) (by mode) ts rec false SRparen WrongSign start room ≡ read arguments at left
      → spec.call (by mode) ts rec caller start room ≡ build (tree.call start caller arguments) at left
  unfolding call_first
  call_ended f = goes call_first f

-- A lambda with parameters.
module _ (rules : Rules) (ts : List ℕ) (rec : Rec) (start room : ℕ) (more : next_is ts start SSemiColon ≡ false) (some : next_is ts start SImpl ≡ false) where
  unfoldable pub lambda_first : Starts (spec.lambda rules ts rec start room) (closed_list Always rules ts rec false SImpl ExpectedArrow start room)
  unfolding spec.lambda items
  lambda_first = record {
    rest = λ (parameters, at, left). rec Zero (step ts at) left >>= λ (body, at, left). build (tree.lambda start parameters body) at left;
    eq = need_met _ _ _ (ap not more) ∙ need_met _ _ _ (ap not some) ∙ sym (closed_then Always rules ts rec false SImpl ExpectedArrow start room _);
  }

  module _ {parameters : Trees} {at left : ℕ} (e : closed_list Always rules ts rec false SImpl ExpectedArrow start room ≡ read parameters at left) {d : ℕ} (j : d ≡ step ts at) where
    unfoldable pub lambda_second : Starts (spec.lambda rules ts rec start room) (rec Zero d left)
    unfolding lambda_first
    lambda_second = starts_after (goes lambda_first e) (starts_at (λ (k : ℕ). rec Zero k left) _ j)

    pub lambda_ended : {body : Tree} {at' left' : ℕ} → rec Zero d left ≡ read body at' left' → spec.lambda rules ts rec start room ≡ build (tree.lambda start parameters body) at' left'
    unfolding lambda_second
    lambda_ended f = goes lambda_second f

-- A pair.
module _ (rules : Rules) (ts : List ℕ) (rec : Rec) (start room : ℕ) where
  unfoldable pub pair_first : Starts (spec.pair rules ts rec start room) (rec Zero start room)
  unfolding spec.pair
  pair_first = record { rest = _; eq = refl }

  module _ {key : Tree} {at left : ℕ} (e : rec Zero start room ≡ read key at left) where
    pub pair_stops : next_is ts at SColon ≡ false → spec.pair rules ts rec start room ≡ refused ExpectedColon at
    unfolding pair_first
    pair_stops n = goes pair_first e ∙ need_failed _ _ _ n

    module _ {c d : ℕ} (met : next_is ts at SColon ≡ true) (i : c ≡ step ts at) (j : d ≡ step ts c) where
      unfoldable pub pair_second : Starts (spec.pair rules ts rec start room) (rec Zero d left)
      unfolding pair_first
      pair_second = starts_after (goes pair_first e ∙ need_met _ _ _ met) (starts_at (λ (k : ℕ). rec Zero k left) _ (j ∙ ap (step ts) i))

      pub pair_ended : {value : Tree} {end left' : ℕ} → rec Zero d left ≡ read value end left' → spec.pair rules ts rec start room ≡ build (tree.pair c key value) end left'
      unfolding pair_second
      pair_ended {value} {end} {left'} f = goes pair_second f ∙ ap (λ (k : ℕ). build (tree.pair k key value) end left') (sym i)

-- Nothing more may be open.
pub too_deep : (rules : Rules) (ts : List ℕ) (allow order at room : ℕ) → allow ≡ 0 → spec.expression rules ts allow order at room ≡ refused 2 at
unfolding spec.expression
too_deep rules ts allow order at room e = rw e

-- One more is open.
pub one_less : (rules : Rules) (ts : List ℕ) (allow order at room : ℕ) → ((allow ≡ 0) → ⊥)
    → spec.expression rules ts allow order at room ≡ spec.level rules ts (spec.expression rules ts (allow - 1)) order at room
unfolding spec.expression
one_less rules ts zero order at room n = absurd (n refl)
one_less rules ts (suc d) order at room n = rw sub-one

-- A list is empty, or begins with an item.
pub list_none : (rules : Rules) (ts : List ℕ) (rec : Rec) (paired : Bool) (at room : ℕ) → (not paired && next_is ts at SRparen) ≡ true → items rules ts rec paired at room ≡ read nil at room
unfolding items spec.list_expr
list_none rules ts rec true at room h = absurd (false≢true h)
list_none rules ts rec false at room h = choose_true _ _ h

pub list_some : (rules : Rules) (ts : List ℕ) (rec : Rec) (paired : Bool) (at room : ℕ) → (not paired && next_is ts at SRparen) ≡ false
    → items rules ts rec paired at room
    ≡ (item rules ts rec Zero paired (step ts at) room >>= λ (t, at, room). spec.entries rules ts rec (item rules ts rec Zero paired) turns (t ▸ nil) at room)
unfolding items spec.list_expr item
list_some rules ts rec true at room h = refl
list_some rules ts rec false at room h = choose_false _ _ h

-- Whether a word is no suffix, call or index.
abbrev pub others : ℕ → Bool
others = none (SIncr ∷ SDecr ∷ SLParen ∷ SLBox ∷ [])

pub by_infix : {ts : List ℕ} {at first rows head w : ℕ} {r : Read} {xs ys : List ℕ} (rules : Rules) (rec : Rec) → tok ts at ≡ w → others w ≡ true
    → Follows (spec.infix_expression rules ts rec) ts at first rows head r xs ys → Follows (spec.operation rules ts rec) ts at first rows head r xs ys
unfolding spec.operation
by_infix rules rec e h f = (f.0, λ from t zs left s g. by_eq (unmatched _ _ _ _ _ (rw e h)) (f.1 from t zs left s g))
