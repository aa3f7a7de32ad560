-- Nothing is read at the end, so that reading statements always goes on.
use mathlib.Core.Path.{◌≡◌, refl, sym, ap, ◌∙◌}
use mathlib.Core.Bool.{Bool, true, false}
use mathlib.Core.List.{List}
use Prim.Native.Nat.{ℕ, zero, suc, ◌≤◌, ◌<◌}
use native.Mathlib.Omega.{arith}
use lib.ListN.{length}
use lib.Dec.{eqb}
use borrow.Author.Tests.{eqb-true, eqb-false}
use Rattle.grammar.specs.Words.{EOF, tok, step, is, class}
use Rattle.grammar.specs.Tree.{Trees}
use Rattle.grammar.specs.Parsed.{Parsed, refused, read, ◌>>=◌, choose, match}
use Rattle.grammar.specs.Rules.{Rules}
use Rattle.grammar.specs.Expressions as e
use Rattle.grammar.specs.Statements as s
use Rattle.words.proofs.Steps.{step_on}
use Rattle.std.specs.Prelude.{Ok}
use Rattle.answer.specs.declared.Piece.{Piece}
use Rattle.answer.specs.Answer.{Read}
use Rattle.reader.specs.Meets.{Sound}
use Rattle.reader.specs.Promises.{Begun, BegunCase}
use Rattle.reader.proofs.Moves.{moves}

-- At the end an expression is refused, and so is a statement.
no_expression : (rules : Rules) (ts : List ℕ) (d pre at room : ℕ) → tok ts at ≡ EOF → (n : ℕ) × (e.expression rules ts d pre at room ≡ refused n at)
unfolding e.expression e.level e.prefix_part e.no_prefix match choose class ◌>>=◌
no_expression rules ts zero pre at room q = (2, refl)
no_expression rules ts (suc d) pre at room q = (11, rw q)

no_statement : (rules : Rules) (ts : List ℕ) (d at room : ℕ) → tok ts at ≡ EOF → (n : ℕ) × (s.statement rules ts d at room ≡ refused n at)
unfolding s.statement s.level s.kept s.expression_statement is match choose ◌>>=◌
no_statement rules ts zero at room q = (2, refl)
no_statement rules ts (suc d) at room q = let x = no_expression rules ts d 0 at room q in (x.0, rw (q, x.1))

-- So what was read as a statement did not begin there.
pub not_at_end : (rules : Rules) (ts : List ℕ) (d at room : ℕ) {us : Trees} {b left : ℕ} → s.statement rules ts d at room ≡ read us b left → (tok ts at ≡ EOF) → ⊥
not_at_end rules ts d at room {us} {b} {left} e q =
    let x = no_statement rules ts d at room q in
    let z : ◌≡◌ {A = Parsed Trees} (refused x.0 at) (read us b left) = sym x.1 ∙ e in
    let y : ◌≡◌ {A = ℕ} 0 1 = cc in
    omega arith

-- A step from where a statement ended goes past where it began.
pub passes : {ts : List ℕ} {at b : ℕ} → Sound ts → at ≤ b → b < length ts → ((tok ts at ≡ EOF) → ⊥) → at < step ts b
passes {ts} {at} {b} so le w n = go (eqb (tok ts b) EOF) refl
  where
    go : (c : Bool) → eqb (tok ts b) EOF ≡ c → at < step ts b
    go true q =
        let ne : (at ≡ b) → ⊥ = λ z. n (ap (tok ts) z ∙ eqb-true _ _ q) in
        omega (arith, step_on ts b, ne)
    go false q = omega (arith, moves so w (eqb-false _ _ q))

-- What began was not at the end.
pub begins : {ts : List ℕ} {at : ℕ} {r : Read} {t : Piece} → Begun ts at r → r ≡ Ok t → (tok ts at ≡ EOF) → ⊥
begins {ts} {at} {r} {t} b e = let q : BegunCase ts at (Ok t) = rw e at b.begun in q
