-- The statement that one tree is: a list of one, an expression where no keyword begins it; and a condition before a step.
use mathlib.Core.Path.{◌≡◌, refl}
use mathlib.Core.Bool.{Bool, true}
use mathlib.Core.List.{List, [], ◌∷◌}
use Prim.Native.Nat.{ℕ}
use Rattle.grammar.specs.Words.{KIf, KWhile, KFor, KBreak, KContinue, KConst, KVar, KFunc, KReturn, KTry, KThrow, KForEach, KAssert, tok}
use Rattle.grammar.specs.Tree.{Tree, Trees, nil, ◌▸◌}
use Rattle.grammar.specs.Parsed.{Parsed, refused, read, Reader, Check, met, failed, ◌>>=◌, ◌>>◌}
use Rattle.grammar.specs.Rules.{Rules}
use Rattle.grammar.specs.Expressions.{Rec}
use Rattle.grammar.specs.Statements.{kept, expression_statement}
use Rattle.answer.specs.Answer.{Read}
use Rattle.reader.specs.Meets.{Meets, Case, one, many}
use Rattle.reader.specs.Promises.{around}
use Rattle.reader.proofs.Answers.{by_eq}
use Rattle.reader.proofs.Matches.{none, unmatched}

-- What reads a tree reads a list of one.
pub as_list : {ts : List ℕ} {from : ℕ} {P : Parsed Tree} {ss : List Trees} {first : ℕ} {r : Read} {xs ys : List ℕ}
    → Meets one ts from P ss first r xs ys → Meets many ts from (P >>= λ (t, at, room). read (t ▸ nil) at room) ss first r xs ys
unfolding ◌>>=◌
as_list {ts} {from} {P} {ss} {first} {r} {xs} {ys} m = record { met = go P m.met }
  where
    go : (Q : Parsed Tree) → Case one ts from Q ss first r xs ys → Case many ts from (Q >>= λ (t, at, room). read (t ▸ nil) at room) ss first r xs ys
    go (refused n p) q = q
    go (read t at left) g = g

-- A condition before what is read and handed on is a condition before the reading.
pub checked_then : {A B : Type 0} (k : Check) (x : Parsed A) (f : A × ℕ × ℕ → Parsed B) → (k >> (x >>= f)) ≡ ((k >> x) >>= f)
unfolding ◌>>◌ ◌>>=◌
checked_then met x f = refl
checked_then (failed n p) x f = refl

-- One reader after another, either way.
pub then_assoc : {A B C : Type 0} (x : Parsed A) (f : A × ℕ × ℕ → Parsed B) (g : B × ℕ × ℕ → Parsed C) → (x >>= λ y. f y >>= g) ≡ ((x >>= f) >>= g)
unfolding ◌>>=◌
then_assoc (refused n p) f g = refl
then_assoc (read a at left) f g = refl

-- Whether a word is none of the keywords that statements begin with.
abbrev pub plain : ℕ → Bool
plain = none (KBreak ∷ KContinue ∷ KVar ∷ KConst ∷ KIf ∷ KAssert ∷ KWhile ∷ KReturn ∷ KFunc ∷ KFor ∷ KThrow ∷ KTry ∷ KForEach ∷ [])

-- A statement that no keyword begins is an expression.
pub by_expression : {ts : List ℕ} {at first w : ℕ} {r : Read} {xs ys : List ℕ} (rules : Rules) (expr : Rec) (stmt : Reader Trees) (room : ℕ) → tok ts at ≡ w → plain w ≡ true
    → Meets one ts at (around expr 38 0 at at room) [] first r xs ys → Meets one ts at (kept rules ts expr stmt at room) [] first r xs ys
unfolding kept expression_statement around
by_expression rules expr stmt room e h m = by_eq (unmatched _ _ _ _ _ (rw e h)) m
