-- What holds of every accepted answer: the rule of infix rows, the cursor, the rows; and no entry answers with the refusal 0.
use Prim.Native.Nat.{ℕ}
use native.Mathlib.Omega.{arith}
use mathlib.Core.Path.{◌≡◌, refl}
use mathlib.Core.Bool.{true, false}
use mathlib.Core.List.{List}
use lib.ListN.{length}
use borrow.Author.Tests.{ltb-true}
use Rattle.grammar.specs.Words.{EOF, Zero}
use Rattle.grammar.specs.Tree.{nil, join}
use Rattle.grammar.specs.Parsed.{Parsed, refused, turns, Unreached}
use Rattle.grammar.specs.Rules.{Rules}
use Rattle.grammar.specs.Expressions.{expression}
use Rattle.grammar.specs.Statements.{statement}
use Rattle.grammar.specs.Script.{nesting, one_expression, one_statement, whole_script}
use Rattle.grammar.specs.Claims.{OfEntries, KeepsRule, GoesForward, SpendsRows, StaysInside, NeverUnreached}
use Rattle.grammar.proofs.Post.{Fact, Post, post_then, post_map, post_need}
use Rattle.grammar.proofs.Turns.{enough, post_entry}
use Rattle.grammar.proofs.Runs.{Run, start, up₀, row_list, expression_runs}
use Rattle.grammar.proofs.Blocks.{statements_runs, statement_runs}

module _ (rules : Rules) (ts : List ℕ) (at room : ℕ) where
  pub expression_entry : Post (Run ts at at room) (one_expression rules ts at room)
  unfolding one_expression
  expression_entry = post_entry _ refl ts _ _ (λ v. post_need _ _ _ _ _ _ refl (λ e.
      post_then _ _ _ _ _ (expression_runs ts v rules nesting Zero at room (ltb-true at (length ts) e)) (λ t c m h. h.run)))

  pub statement_entry : Post (Run ts at at room) (one_statement rules ts at room)
  unfolding one_statement
  statement_entry = post_entry _ refl ts _ _ (λ v. post_need _ _ _ _ _ _ refl (λ e.
      post_map _ _ _ (statement rules ts nesting at room) (statement_runs ts v rules nesting at room (ltb-true at (length ts) e)) (λ us c m h. h.0)))

pub script_entry : (rules : Rules) (ts : List ℕ) (room : ℕ) → Post (Run ts 0 0 room) (whole_script rules ts room)
unfolding whole_script join
script_entry rules ts room = post_entry _ refl ts _ _ (λ v. post_then _ _ _ _ _
    (statements_runs ts v rules (expression rules ts nesting) (expression_runs ts v rules nesting) (statement rules ts nesting) (statement_runs ts v rules nesting) EOF turns 0 0 room nil 0 room
    (start ts 0 room v.some) (enough ts v 0))
    (λ list c m r. post_then _ _ _ _ _ (row_list ts 46 0 c list nil nil nil r (up₀ ts c) refl refl) (λ t c m h. h.run)))

pub of_entries : OfEntries (λ ts start room us at left. Run ts start start room us at left)
of_entries rules ts start room us at left =
    (λ e. rw e at (expression_entry rules ts start room), λ e. rw e at (statement_entry rules ts start room), λ e. rw e at (script_entry rules ts room))

pub rule : KeepsRule
rule rules ts start room us at left = let r = of_entries rules ts start room us at left in (λ e. (r.0 e).kept, λ e. (r.1 e).kept, λ e. (r.2 e).kept)

pub forward : GoesForward
forward rules ts start room us at left = let r = of_entries rules ts start room us at left in (λ e. (r.0 e).on, λ e. (r.1 e).on, λ e. (r.2 e).on)

pub rows : SpendsRows
rows rules ts start room us at left = let r = of_entries rules ts start room us at left in (λ e. (r.0 e).spent, λ e. (r.1 e).spent, λ e. (r.2 e).spent)

pub inside : StaysInside
inside rules ts start room us at left = let r = of_entries rules ts start room us at left in (λ e. (r.0 e).within, λ e. (r.1 e).within, λ e. (r.2 e).within)

numbered : {A : Type 0} (R : Fact A) (place : ℕ) (x : Parsed A) → Post R x → ¬ (x ≡ refused Unreached place)
numbered R place x h e = let f : false ≡ true = rw e at h in let z : ◌≡◌ {A = ℕ} 0 1 = cc in omega arith

pub never_unreached : NeverUnreached
never_unreached rules ts start room place =
    (numbered _ place _ (expression_entry rules ts start room), numbered _ place _ (statement_entry rules ts start room), numbered _ place _ (script_entry rules ts room))
