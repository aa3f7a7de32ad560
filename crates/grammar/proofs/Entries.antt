-- The three entries side by side, by two rules and of one array.
use Prim.Native.Nat.{ℕ}
use mathlib.Core.Path.{◌≡◌, refl}
use mathlib.Core.List.{List}
use Rattle.grammar.specs.Words.{EOF, Zero}
use Rattle.grammar.specs.Tree.{Tree, Trees, nil, ◌▸◌}
use Rattle.grammar.specs.Parsed.{Parsed, read, ◌>>=◌, ◌>>◌, Check, met, failed, turns}
use Rattle.grammar.specs.Rules.{Rules}
use Rattle.grammar.specs.Expressions.{expression}
use Rattle.grammar.specs.Statements.{statement}
use Rattle.grammar.specs.Script.{nesting, one_expression, one_statement, whole_script}
use Rattle.grammar.proofs.Like.{Like, nodes, Likes, nils, one_like}
use Rattle.grammar.proofs.Walk.{Relation, Beside, expression_alike, statement_alike, statements_alike}

module _ {up : ℕ → ℕ} {Rel : Relation} {P Q : Rules} {ts : List ℕ} (beside : Beside ◌≡◌ up Rel P Q ts ts) where
  on_check : {A : Type 0} (R : A → A → Type 0) (c : Check) (x y : Parsed A) → Rel A R x y → Rel A R (c >> x) (c >> y)
  unfolding ◌>>◌
  on_check R met x y h = h
  on_check R (failed n p) x y h = beside.kept.refusing R n p p refl

  -- A tree as a list.
  as_list : (x y : Parsed Tree) → Rel Tree (Like ◌≡◌) x y
      → Rel Trees (Likes ◌≡◌) (x >>= λ (t, at, room). read (t ▸ nil) at room) (y >>= λ (t, at, room). read (t ▸ nil) at room)
  as_list x y h = beside.kept.going_on _ _ x y _ _ h (λ t u at bt n r. beside.kept.reading _ _ _ at bt n (one_like r))

  pub all_entries : (start room : ℕ)
      → Rel Trees (Likes ◌≡◌) (one_expression P ts start room) (one_expression Q ts start (up room))
      × Rel Trees (Likes ◌≡◌) (one_statement P ts start room) (one_statement Q ts start (up room))
      × Rel Trees (Likes ◌≡◌) (whole_script P ts room) (whole_script Q ts (up room))
  unfolding one_expression one_statement whole_script
  all_entries start room =
      let exprs = expression_alike beside nesting in
      let stmts = statement_alike beside nesting in
      let script = statements_alike beside (expression P ts nesting) (expression Q ts nesting) exprs (statement P ts nesting) (statement Q ts nesting) stmts EOF turns nil nil nils in (
        on_check _ _ _ _ (on_check _ _ _ _ (as_list _ _ (exprs Zero start start room refl))),
        on_check _ _ _ _ (on_check _ _ _ _ (stmts start start room refl)),
        on_check _ _ _ _ (beside.kept.going_on _ _ _ _ _ _ (script 0 0 room refl) (λ list more at bt n r p.
            as_list _ _ (beside.kept.building _ _ at bt n (nodes refl r nils nils nils p) p))),
      )
