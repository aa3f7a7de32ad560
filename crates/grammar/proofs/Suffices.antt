-- Rows enough for statements and scripts: two for each token, or fewer for one statement; and the claims.
use Prim.Native.Nat.{ℕ, zero, suc, ◌+◌, ◌*◌, ◌/◌, ◌≤◌, ◌<◌}
use mathlib.Core.Path.{◌≡◌, refl}
use mathlib.Core.Bool.{true, false}
use mathlib.Core.List.{List}
use mathlib.Core.Logic.{inl}
use native.Mathlib.Nat.{le-div_iff_mul-le}
use native.Mathlib.Omega.{arith}
use lib.Dec.{eqb}
use lib.ListN.{length}
use borrow.Author.Tests.{ltb-true}
use Rattle.grammar.specs.Words.{Identifier, SLParen, SComma, SLBrace, SRBrace, KIn, EOF, Zero, tok, step, is, next_is}
use Rattle.grammar.specs.Tree.{Tree, Trees, nil, join, width}
use Rattle.grammar.specs.Tree as tree
use Rattle.grammar.specs.Parsed.{Parsed, refused, Reader, ◌>>=◌, build, turns, BreakWithoutSemicolon, ContinueWithoutSemicolon, NoRow}
use Rattle.grammar.specs.Rules.{Rules}
use Rattle.grammar.specs.Expressions.{Rec, list_expr, expression}
use Rattle.grammar.specs.Statements.{statements, opened, block, assert, function, else, if, value, var, const, while, return, foreach, for}
use Rattle.grammar.specs.Statements.{throw, finally, try, expression_statement, alone, begun, kept, level, statement}
use Rattle.grammar.specs.Script.{nesting, one_expression, one_statement, whole_script, most_rows, largest, rows}
use Rattle.grammar.specs.Claims.{tokens_from, expression_rows, statement_rows, script_rows, RowsEnough, LargestEnough}
use Rattle.grammar.proofs.Post.{Fact, post_then, post_map, post_refused, post_need, post_choose, post_build, match_each, end, ◌▹◌}
use Rattle.grammar.proofs.Steps.{step_on, step_up}
use Rattle.grammar.proofs.Turns.{Valid, statement_eof, in_step, goes_forward, post_entry}
use Rattle.grammar.proofs.Runs.{Ahead, up₀, up}
use Rattle.grammar.proofs.Enough.{Spared, Spares, Paid, Took, past, row, Then, Takes, Reads, rec_then, list_paid}
use Rattle.grammar.proofs.Enough.{but_at_eof, expression_reads}

-- From the place s with n rows: now c is current, m rows are left, and two for each token up to c are no fewer than were taken.
pub record Spent (ts : List ℕ) (s n : ℕ) (t : Tree) (c m : ℕ) : Type 0 where
  pub within : c < length ts
  pub fits : 2 * s + n ≤ 2 * step ts c + m

-- The same in a statement with a block, where k rows are saved: four by its first two signs, so that four fewer are enough.
record Twice (ts : List ℕ) (s n k c m : ℕ) : Type 0 where
  within : c < length ts
  given : 2 * length ts ≤ 2 * s + n + 6
  least : 4 ≤ k
  fits : 2 * s + n + k ≤ 2 * step ts c + m

-- A statement starts at a place that isn't EOF's, with rows enough.
record Starts (ts : List ℕ) (at room : ℕ) : Type 0 where
  within : at < length ts
  on : at < step ts at
  once : length ts ≤ at + room
  twice : 2 * length ts ≤ 2 * at + room + 6

-- What a reader of statements is asked for.
abbrev Stated : (ts : List ℕ) (at room : ℕ) → Fact Trees
Stated ts at room us c m = (c < length ts) × (2 * at + room ≤ 2 * step ts c + m)

abbrev States : List ℕ → Reader Trees → Type 0
States ts f = (at room : ℕ) → at < length ts → statement_rows (tokens_from ts at) ≤ room → Spares (Stated ts at room) (f at room)

module _ (ts : List ℕ) (v : Valid ts) (rules : Rules) (expr : Rec) (expr-reads : (pre : ℕ) → Reads ts v (expr pre)) (stmt : Reader Trees) (stmt-states : States ts stmt) where
  -- Where two rows for each token from a place on were enough, and x says so, they still are behind the statements.
  pub statements_spent : (x close i : ℕ) (list : Trees) (at room : ℕ) → 2 * length ts ≤ x + 2 → at < length ts → x ≤ 2 * at + room
      → Spares (λ us c m. (c < length ts) × (x ≤ 2 * c + m) × (is ts c close ≡ true)) (statements rules ts expr stmt close i list at room)
  unfolding statements
  statements_spent x close zero list at room g h f = refl
  statements_spent x close (suc i) list at room g h f = post_choose _ _ _ _ _ (λ e. (h, f, e)) (λ e. post_choose _ _ _ _ _
      (λ e'. statements_spent x close i list (step ts at) room g (in_step ts at h) (omega (arith, step_on ts at)))
      (λ e'. post_then _ _ _ _ _ (stmt-states at room h (omega arith))
      (λ us c m q. statements_spent x close i (join list us) (step ts c) m g (in_step ts c q.0) (omega (arith, q.1)))))

  -- A block, whose opener is at `start`: its closing brace pays for it.
  abbrev Closed : (x : ℕ) → Fact Tree
  Closed x t c m = (c < length ts) × (x + 1 ≤ 2 * step ts c + m)

  closed : (x c room : ℕ) (t : Tree) → 2 * length ts ≤ x + 2 → c < length ts → x ≤ 2 * c + room → is ts c SRBrace ≡ true → Spares (Closed x) (build t c room)
  closed x c room t g h f e =
      let lt = past ts v c SRBrace h refl e in
      post_build _ (Closed x) t c room (λ z. absurd (omega (arith, in_step ts c h))) (λ m z. (h, omega arith))

  opened_spent : (start room : ℕ) → start < length ts → 2 * length ts ≤ 2 * step ts start + room + 2
      → Spares (Closed (2 * step ts start + room)) (opened rules ts expr stmt start room)
  unfolding opened next_is
  opened_spent start room h g =
      let x = 2 * step ts start + room in
      let h' = in_step ts start h in
      post_choose _ _ _ _ _ (λ e. closed x (step ts start) room _ g h' (omega arith) e)
      (λ e. post_then _ _ _ _ _ (stmt-states (step ts start) room h' (omega arith)) (λ us c m q. post_then _ _ _ _ _
      (statements_spent x SRBrace turns us (step ts c) m g (in_step ts c q.0) q.1) (λ us c m q. closed x c m _ g q.0 q.1 q.2)))

  -- The rules for statements with blocks.
  expr_twice : (A : Type 0) (pre at room : ℕ) (R : Fact A) (f : Tree × ℕ × ℕ → Parsed A) (s n k c : ℕ) → Twice ts s n k c room → Ahead ts (step ts c) at
      → ((t : Tree) (c m : ℕ) → Twice ts s n k c m → Spares R (f (t, c, m))) → Spares R (expr pre at room >>= f)
  expr_twice A pre at room R f s n k c x h next =
      let b = h.stays (in_step ts c x.within) in
      post_then _ (Took ts at room) R _ f (expr-reads pre at room b (omega (arith, x, h.on))) (λ t c m q.
      next t c m (record { within = q.paid.within; given = x.given; least = x.least; fits = omega (arith, x.fits, h.on, q.paid.fits, q.some) }))

  list_twice : (A : Type 0) (at room : ℕ) (R : Fact A) (f : Trees × ℕ × ℕ → Parsed A) (s n k c : ℕ) → Twice ts s n k c room → Ahead ts c at
      → ((us : Trees) (c m : ℕ) → Twice ts s n k c m → Spares R (f (us, c, m))) → Spares R (list_expr rules ts expr at room >>= f)
  list_twice A at room R f s n k c x h next =
      let b = h.stays x.within in
      let on = step_up ts c at h.on in
      let p : Paid ts (step ts at) room 0 at room = record { within = b; given = omega (arith, x, on, in_step ts at b); fewer = omega arith; fits = omega arith } in
      post_then _ _ R _ f (list_paid ts v rules expr expr-reads (step ts at) room 0 at room p) (λ us c m q.
      next us c m (record { within = q.within; given = x.given; least = x.least; fits = omega (arith, x.fits, on, q.fits, q.fewer) }))

  block_twice : (A : Type 0) (start room : ℕ) (R : Fact A) (f : Tree × ℕ × ℕ → Parsed A) (s n k c : ℕ) → Twice ts s n k c room → Ahead ts c start
      → ((t : Tree) (c m : ℕ) → Twice ts s n 5 c m → Spares R (f (t, c, m))) → Spares R (opened rules ts expr stmt start room >>= f)
  block_twice A start room R f s n k c x h next =
      let on = step_up ts c start h.on in
      post_then _ (Closed (2 * step ts start + room)) R _ f (opened_spent start room (h.stays x.within) (omega (arith, x, on))) (λ t c m q.
      next t c m (record { within = q.0; given = x.given; least = omega arith; fits = omega (arith, x, on, q.1) }))

  row_twice : {s n c room : ℕ} (t : Tree) (at : ℕ) → Twice ts s n 5 c room → Ahead ts c at → Spares (Spent ts s n) (build t at room)
  row_twice {c} {room} t at x h =
      let b = h.stays x.within in
      let on = step_up ts c at h.on in
      post_build _ _ t at room (λ z. absurd (omega (arith, x, on, in_step ts at b))) (λ m z. record { within = b; fits = omega (arith, x.fits, on) })

  abbrev Follows : (ℕ → ℕ → Parsed Trees) → Type 1
  Follows g = (A : Type 0) (at room : ℕ) (R : Fact A) (f : Trees × ℕ × ℕ → Parsed A) (s n : ℕ) → Twice ts s n 5 at room
      → ((us : Trees) (c m : ℕ) → Twice ts s n 5 c m → Spares R (f (us, c, m))) → Spares R (g at room >>= f)

  ruleset parts = (post_refused, post_need, post_choose, up₀, up, expr_twice, list_twice, block_twice, row_twice)

  else_twice : (s n at room : ℕ) → Twice ts s n 5 at room → Spares (λ us. Twice ts s n 5) (else rules ts expr stmt at room)
  unfolding else block
  else_twice s n at room r = search parts depth 9

  else_then : Follows (else rules ts expr stmt)
  else_then A at room R f s n r = post_then _ _ R _ f (else_twice s n at room r)

  finally_twice : (s n at room : ℕ) → Twice ts s n 5 at room → Spares (λ us. Twice ts s n 5) (finally rules ts expr stmt at room)
  unfolding finally block
  finally_twice s n at room r = search parts depth 9

  finally_then : Follows (finally rules ts expr stmt)
  finally_then A at room R f s n r = post_then _ _ R _ f (finally_twice s n at room r)

  -- A reader of one statement; and what its first word and the next one save, or its first word and the one behind its first expression.
  abbrev Keeps : Reader Tree → Type 0
  Keeps f = (at room : ℕ) → Starts ts at room → Spares (Spent ts at room) (f at room)

  opens : (at room w : ℕ) → Starts ts at room → eqb w EOF ≡ false → next_is ts at w ≡ true → Twice ts at room 4 (step ts at) room
  unfolding next_is
  opens at room w r n e =
      let h = in_step ts at r.within in
      record { within = h; given = r.twice; least = omega arith; fits = omega (arith, r.on, past ts v (step ts at) w h n e) }

  abbrev Behind : (at room : ℕ) → Fact Tree
  Behind at room t c m = (w : ℕ) → eqb w EOF ≡ false → next_is ts c w ≡ true → Twice ts at room 4 (step ts c) m

  first : (at room : ℕ) → Starts ts at room → Spares (Behind at room) (expr Zero (step ts at) room)
  unfolding next_is
  first at room r = post_map _ (Took ts (step ts at) room) (Behind at room) (expr Zero (step ts at) room)
      (expr-reads Zero (step ts at) room (in_step ts at r.within) (omega (arith, r))) (λ t c m q w n e.
      let h = in_step ts c q.paid.within in
      record { within = h; given = r.twice; least = omega arith; fits = omega (arith, r.on, q.paid.fits, q.some, past ts v (step ts c) w h n e) })

  if_keeps : Keeps (if rules ts expr stmt)
  unfolding if block
  if_keeps at room s = post_need _ _ _ _ _ _ refl (λ e. let r = opens at room SLParen s refl e in search (parts, else_then) depth 12)

  while_keeps : Keeps (while rules ts expr stmt)
  unfolding while block
  while_keeps at room s = post_need _ _ _ _ _ _ refl (λ e. let r = opens at room SLParen s refl e in search parts depth 12)

  function_keeps : Keeps (λ at. function rules ts expr stmt (step ts at))
  unfolding function block next_is
  function_keeps at room s = post_need _ _ _ _ _ _ refl (λ e. let r = opens at room Identifier s refl e in search parts depth 12)

  for_keeps : Keeps (for rules ts expr stmt)
  unfolding for block
  for_keeps at room s = post_then _ _ _ _ _ (first at room s) (λ t c m q. post_need _ _ _ _ _ _ refl (λ e. let r = q KIn refl e in search parts depth 12))

  foreach_keeps : Keeps (foreach rules ts expr stmt)
  unfolding foreach block
  foreach_keeps at room s = post_then _ _ _ _ _ (first at room s) (λ t c m q. post_need _ _ _ _ _ _ refl (λ e. let r = q SComma refl e in search parts depth 15))

  try_keeps : Keeps (try rules ts expr stmt)
  unfolding try block
  try_keeps at room s = post_need _ _ _ _ _ _ refl (λ e. let r = opens at room SLBrace s refl e in search (parts, finally_then) depth 15)

  -- Statements without a block take no more rows than tokens; one of an expression takes a row more.
  simply : (f : Reader Tree) → Takes ts v f → Keeps f
  simply f p at room s =
      let r : Paid ts at room 1 at room = record { within = s.within; given = omega (arith, s.once); fewer = omega arith; fits = omega (arith, s.on) } in
      post_map _ (Took ts at room) (Spent ts at room) (f at room) (p at room r) (λ t c m q.
      record { within = q.paid.within; fits = omega (arith, q.paid.fits, q.some) })

  expr_then : (A : Type 0) (pre at room : ℕ) → Then ts v A at room (expr pre at room)
  expr_then = rec_then ts v rules expr expr-reads

  ruleset steps = (post_refused, post_need, post_choose, up₀, up, row, expr_then)

  alone_keeps : (made : ℕ → Tree) (number : ℕ) → Spared number → Keeps (alone rules ts expr stmt made number)
  unfolding alone
  alone_keeps made number z = simply (alone rules ts expr stmt made number) (λ at room r. search steps)

  var_keeps : Keeps (λ at. var rules ts expr stmt (step ts at))
  unfolding var value
  var_keeps = simply (λ at. var rules ts expr stmt (step ts at)) (λ at room r. search steps depth 12)

  const_keeps : Keeps (λ at. const rules ts expr stmt (step ts at))
  unfolding const value
  const_keeps = simply (λ at. const rules ts expr stmt (step ts at)) (λ at room r. search steps depth 12)

  assert_keeps : Keeps (assert rules ts expr stmt)
  unfolding assert
  assert_keeps = simply (assert rules ts expr stmt) (λ at room r. search steps depth 12)

  return_keeps : Keeps (return rules ts expr stmt)
  unfolding return
  return_keeps = simply (return rules ts expr stmt) (λ at room r. search steps depth 12)

  throw_keeps : Keeps (throw rules ts expr stmt)
  unfolding throw
  throw_keeps = simply (throw rules ts expr stmt) (λ at room r. search steps depth 12)

  plain_keeps : Keeps (expression_statement rules ts expr stmt)
  unfolding expression_statement
  plain_keeps at room s = post_then _ (Took ts at room) _ _ _ (expr-reads Zero at room s.within (omega (arith, s.once))) (λ t c m q.
      post_build _ (Spent ts at room) _ c m (λ z. absurd (omega (arith, s.once, q.paid.fits, in_step ts c q.paid.within))) (λ m' z.
      record { within = q.paid.within; fits = omega (arith, q.paid.fits, q.some) }))

  begun_keeps : (f : Reader Tree) → Keeps f → Keeps (begun rules ts expr stmt f)
  unfolding begun
  begun_keeps f p at room s = post_need _ _ _ _ _ _ refl (λ e. p at room s)

  kept_keeps : Keeps (kept rules ts expr stmt)
  unfolding kept
  kept_keeps at room s = match_each _ _ _ (tok ts at) (expression_statement rules ts expr stmt)
      (alone_keeps tree.break BreakWithoutSemicolon refl ▹ alone_keeps tree.continue ContinueWithoutSemicolon refl ▹ begun_keeps _ var_keeps
      ▹ begun_keeps _ const_keeps ▹ begun_keeps _ if_keeps ▹ begun_keeps _ assert_keeps ▹ begun_keeps _ while_keeps ▹ return_keeps
      ▹ begun_keeps _ function_keeps ▹ begun_keeps _ for_keeps ▹ begun_keeps _ throw_keeps ▹ begun_keeps _ try_keeps ▹ begun_keeps _ foreach_keeps ▹ end)
      plain_keeps at room s

  level_states : (at room : ℕ) → Starts ts at room → Spares (Stated ts at room) (level rules ts expr stmt at room)
  unfolding level
  level_states at room s = post_choose _ _ _ _ _ (λ e. (s.within, omega (arith, s.on)))
      (λ e. post_then _ _ _ _ _ (kept_keeps at room s) (λ t c m q. (q.within, q.fits)))

statement_states : (ts : List ℕ) (v : Valid ts) (rules : Rules) (d : ℕ) → States ts (statement rules ts d)
unfolding statement
statement_states ts v rules zero at room h g = refl
statement_states ts v rules (suc d) at room h g = but_at_eof ts (Stated ts at room) at (statement rules ts (suc d) at room) (statement_eof ts at _ refl refl rules (suc d) room) (λ n.
    let lt = goes_forward ts v at h (inl n) in
    let k = in_step ts at h in
    level_states ts v rules (expression rules ts d) (expression_reads ts v rules d) (statement rules ts d) (statement_states ts v rules d) at room
    (record { within = h; on = lt; once = omega arith; twice = omega arith }))

-- The entries, where the rows are enough if the array is a good one.
module _ (rules : Rules) (ts : List ℕ) (at room : ℕ) where
  expression_enough : (Valid ts → expression_rows (tokens_from ts at) ≤ room) → Spares (λ us c m. Unit {0}) (one_expression rules ts at room)
  unfolding one_expression
  expression_enough h = post_entry _ refl ts _ _ (λ v. post_need _ _ _ _ _ _ refl (λ e.
      let lt = ltb-true at (length ts) e in
      post_then _ _ _ _ _ (expression_reads ts v rules nesting Zero at room lt (omega (arith, h v))) (λ t c m q. tt)))

  statement_enough : (Valid ts → statement_rows (tokens_from ts at) ≤ room) → Spares (λ us c m. Unit {0}) (one_statement rules ts at room)
  unfolding one_statement
  statement_enough h = post_entry _ refl ts _ _ (λ v. post_need _ _ _ _ _ _ refl (λ e.
      post_map _ _ _ (statement rules ts nesting at room) (statement_states ts v rules nesting at room (ltb-true at (length ts) e) (h v)) (λ us c m q. tt)))

script_enough : (rules : Rules) (ts : List ℕ) (room : ℕ) → (Valid ts → script_rows (tokens_from ts 0) ≤ room) → Spares (λ us c m. Unit {0}) (whole_script rules ts room)
unfolding whole_script
script_enough rules ts room h = post_entry _ refl ts _ _ (λ v. post_then _ _ _ _ _
    (statements_spent ts v rules (expression rules ts nesting) (expression_reads ts v rules nesting) (statement rules ts nesting) (statement_states ts v rules nesting) room EOF turns nil 0 room
    (omega (arith, h v)) v.some (omega arith))
    (λ list c m q. post_then _ _ _ _ _ (post_build _ (λ t c m. Unit {0}) _ c m (λ z. absurd (omega (arith, h v, q))) (λ m e. tt)) (λ t c m q. tt)))

spared : {A : Type 0} (R : Fact A) (place : ℕ) (x : Parsed A) → Spares R x → ¬ (x ≡ refused NoRow place)
spared R place x h e = let f : true ≡ false = rw e at h in let z : ◌≡◌ {A = ℕ} 0 1 = cc in omega arith

pub rows_enough : RowsEnough
rows_enough rules ts start room place = (
  λ h. spared _ place _ (expression_enough rules ts start room (λ v. h)),
  λ h. spared _ place _ (statement_enough rules ts start room (λ v. h)),
  λ h. spared _ place _ (script_enough rules ts room (λ v. h)),
)

pub largest_enough : LargestEnough
unfolding turns
largest_enough rules ts start room place h = (
  spared _ place _ (expression_enough rules ts start room (λ v. omega (arith, v.short))),
  spared _ place _ (statement_enough rules ts start room (λ v. omega (arith, v.short))),
  spared _ place _ (script_enough rules ts room (λ v. omega (arith, v.short))),
)

-- A pool of that many words has the most rows.
pub rows_full : (words : ℕ) → largest ≤ words → most_rows ≤ rows words
unfolding rows
rows_full words h =
    let k : most_rows ≤ words / width = (le-div_iff_mul-le {k = width} {x = most_rows} {y = words} (omega arith)).1 (omega arith) in
    omega arith
