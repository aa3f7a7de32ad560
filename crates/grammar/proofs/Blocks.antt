-- What the readers of statements have read where they accept: the walk of their text.
use Prim.Native.Nat.{ℕ, zero, suc, ◌+◌, ◌≤◌, ◌<◌}
use mathlib.Core.Path.{◌≡◌, refl, sym, ◌∙◌}
use mathlib.Core.Bool.{true, false}
use mathlib.Core.Logic.{inl}
use native.Mathlib.Omega.{arith}
use native.Mathlib.Decide.{dec_lt}
use lib.Dec.{eqb, ltb}
use lib.ListN.{length}
use borrow.Author.Tests.{eqb-true, eqb-false}
use mathlib.Core.List.{List}
use Rattle.grammar.specs.Words.{EOF, SSemiColon, tok, step, is}
use Rattle.grammar.specs.Tree.{Trees, leaf, join}
use Rattle.grammar.specs.Tree as tree
use Rattle.grammar.specs.Parsed.{Parsed, Reader, ◌>>=◌, turns, BreakWithoutSemicolon, ContinueWithoutSemicolon}
use Rattle.grammar.specs.Rules.{Rules}
use Rattle.grammar.specs.Expressions.{Rec, list_expr, expression}
use Rattle.grammar.specs.Statements.{statements, opened, block, assert, function, else, if, value, var, const, while, return, foreach, for}
use Rattle.grammar.specs.Statements.{throw, finally, try, expression_statement, alone, begun, kept, level, statement}
use Rattle.grammar.proofs.Post.{Fact, Post, post_then, post_map, post_refused, post_need, post_choose, match_each, end, ◌▹◌}
use Rattle.grammar.proofs.Steps.{step_on}
use Rattle.grammar.proofs.Turns.{Valid, goes_forward, enough, statement_eof, not_at_eof}
use Rattle.grammar.proofs.Runs.{Run, Above, Ahead, start, up₀, up, both, later, Hands, hands, Reads, shut_hands, begun_at}
use Rattle.grammar.proofs.Runs.{single, listed, row_of, row_list, rec_then, list_then, expression_runs}

-- What a statement's reader gives: and it reads nothing at EOF.
abbrev pub Stated : (ts : List ℕ) (at room : ℕ) → Fact Trees
Stated ts at room us c m = Run ts at at room us c m × ¬ (tok ts at ≡ EOF)

module _ (ts : List ℕ) (v : Valid ts) (rules : Rules) (expr : Rec) (Expr-runs : (pre at room : ℕ) → at < length ts → Post (Above ts pre at room) (expr pre at room))
    (stmt : Reader Trees) (stmt-runs : (at room : ℕ) → at < length ts → Post (Stated ts at room) (stmt at room))
  where
    expr_then : (A : Type 0) (pre at room : ℕ) → Hands ts A single at room (expr pre at room)
    expr_then = rec_then ts v rules expr Expr-runs

    exprs_then : (A : Type 0) (at room : ℕ) → Hands ts A listed at room (list_expr rules ts expr at room)
    exprs_then = list_then ts v rules expr Expr-runs

    stmt_then : (A : Type 0) (at room : ℕ) → Hands ts A listed at room (stmt at room)
    stmt_then A at room = hands ts A listed at room _ (λ h. post_map _ _ _ (stmt at room) (stmt-runs at room h) (λ us c m q. q.0))

    -- Behind a statement the cursor goes on.
    stmt_on : (at room : ℕ) (us : Trees) (c m : ℕ) → at < length ts → Stated ts at room us c m → at < step ts c
    stmt_on at room us c m h q = go (dec_lt at c)
      where
        go : Dec (at < c) → at < step ts c
        go (yes lt) = omega (arith, step_on ts c)
        go (no ge) = let e : at ≡ c = omega (arith, q.0.on) in rw (← e) (goes_forward ts v at h (inl q.1))

    pub statements_runs : (close i s p n : ℕ) (list : Trees) (at room : ℕ) → Run ts s p n list at room → length ts ≤ i + at
        → Post (Run ts s p n) (statements rules ts expr stmt close i list at room)
    unfolding statements is
    statements_runs close zero s p n list at room r f = absurd (omega (arith, r.within))
    statements_runs close (suc i) s p n list at room r f = post_choose _ _ _ _ _ (λ e. r) (λ e. post_choose _ _ _ _ _
        (λ e'.
        let lt : at < step ts at = goes_forward ts v at r.within (inl (λ q. eqb-false SSemiColon EOF refl (sym (eqb-true _ _ e') ∙ q))) in
        statements_runs close i s p n list (step ts at) room (later ts r (up ts _ _ (up₀ ts at))) (omega arith))
        (λ e'. post_then _ _ _ _ _ (stmt-runs at room r.within) (λ us c m q. statements_runs close i s p n (join list us) (step ts c) m
        (later ts (both ts r (up₀ ts at) q.0) (up ts _ _ (up₀ ts c))) (omega (arith, stmt_on at room us c m r.within q)))))

    statements_then : {A : Type 0} (R : Fact A) (f : Trees × ℕ × ℕ → Parsed A) (close s p n : ℕ) (list : Trees) (c at room : ℕ) → Run ts s p n list c room → Ahead ts c at
        → ((all : Trees) (c m : ℕ) → Run ts s p n all c m → Post R (f (all, c, m))) → Post R (statements rules ts expr stmt close turns list at room >>= f)
    statements_then R f close s p n list c at room r h k = post_then _ _ R _ f (statements_runs close turns s p n list at room (later ts r h) (enough ts v at)) k

    ruleset parts = (post_refused, post_need, post_choose, row_of, row_list, up₀, up, expr_then, exprs_then, stmt_then, statements_then)

    opened_runs : Reads ts (opened rules ts expr stmt)
    unfolding opened join
    opened_runs at room h = let r = start ts at room h in search parts depth 12

    block_then : (A : Type 0) (at room : ℕ) → Hands ts A single (step ts at) room (block rules ts expr stmt at room)
    unfolding block
    block_then A at room = shut_hands ts A (opened rules ts expr stmt) (step ts at) room opened_runs

    else_runs : (at room : ℕ) → at < length ts → Post (Run ts at at room) (else rules ts expr stmt at room)
    unfolding else join
    else_runs at room h = let r = start ts at room h in search (parts, block_then) depth 9

    else_then : (A : Type 0) (at room : ℕ) → Hands ts A listed at room (else rules ts expr stmt at room)
    else_then A at room = hands ts A listed at room _ (else_runs at room)

    finally_runs : (at room : ℕ) → at < length ts → Post (Run ts at at room) (finally rules ts expr stmt at room)
    unfolding finally join
    finally_runs at room h = let r = start ts at room h in search (parts, block_then) depth 9

    finally_then : (A : Type 0) (at room : ℕ) → Hands ts A listed at room (finally rules ts expr stmt at room)
    finally_then A at room = hands ts A listed at room _ (finally_runs at room)

    ruleset walk = (parts, block_then, else_then, finally_then)

    assert_runs : Reads ts (assert rules ts expr stmt)
    unfolding assert join
    assert_runs at room h = let r = start ts at room h in search walk depth 12

    function_runs : Reads ts (function rules ts expr stmt)
    unfolding function join
    function_runs at room h = let r = start ts at room h in search walk depth 12

    if_runs : Reads ts (if rules ts expr stmt)
    unfolding if join
    if_runs at room h = let r = start ts at room h in search walk depth 12

    var_runs : Reads ts (var rules ts expr stmt)
    unfolding var value join
    var_runs at room h = let r = start ts at room h in search walk depth 12

    const_runs : Reads ts (const rules ts expr stmt)
    unfolding const value join
    const_runs at room h = let r = start ts at room h in search walk depth 12

    while_runs : Reads ts (while rules ts expr stmt)
    unfolding while join
    while_runs at room h = let r = start ts at room h in search walk depth 12

    return_runs : Reads ts (return rules ts expr stmt)
    unfolding return join
    return_runs at room h = let r = start ts at room h in search walk depth 12

    foreach_runs : Reads ts (foreach rules ts expr stmt)
    unfolding foreach join
    foreach_runs at room h = let r = start ts at room h in search walk depth 15

    for_runs : Reads ts (for rules ts expr stmt)
    unfolding for join
    for_runs at room h = let r = start ts at room h in search walk depth 12

    throw_runs : Reads ts (throw rules ts expr stmt)
    unfolding throw join
    throw_runs at room h = let r = start ts at room h in search walk

    try_runs : Reads ts (try rules ts expr stmt)
    unfolding try join
    try_runs at room h = let r = start ts at room h in search walk depth 15

    plain_runs : Reads ts (expression_statement rules ts expr stmt)
    unfolding expression_statement join
    plain_runs at room h = let r = start ts at room h in search walk

    alone_runs : (k number : ℕ) → eqb k 12 ≡ false → ltb 0 number ≡ true → Reads ts (alone rules ts expr stmt (leaf k 0) number)
    unfolding alone join
    alone_runs k number other z at room h = let r = start ts at room h in search (post_need, row_of, up₀, up)

    begun_runs : (f : Reader tree.Tree) → Reads ts f → Reads ts (begun rules ts expr stmt f)
    unfolding begun
    begun_runs f p at room h = post_need _ _ _ _ _ _ refl (λ e. p at room h)

    kept_runs : Reads ts (kept rules ts expr stmt)
    unfolding kept
    kept_runs at room h = match_each _ _ _ (tok ts at) (expression_statement rules ts expr stmt)
        (alone_runs 32 BreakWithoutSemicolon refl refl ▹ alone_runs 33 ContinueWithoutSemicolon refl refl ▹ begun_runs _ (begun_at ts (var rules ts expr stmt) var_runs)
        ▹ begun_runs _ (begun_at ts (const rules ts expr stmt) const_runs) ▹ begun_runs _ if_runs ▹ begun_runs _ assert_runs ▹ begun_runs _ while_runs ▹ return_runs
        ▹ begun_runs _ (begun_at ts (function rules ts expr stmt) function_runs) ▹ begun_runs _ for_runs ▹ begun_runs _ throw_runs ▹ begun_runs _ try_runs ▹ begun_runs _ foreach_runs ▹ end)
        plain_runs at room h

    level_runs : (at room : ℕ) → at < length ts → Post (Run ts at at room) (level rules ts expr stmt at room)
    unfolding level
    level_runs at room h = post_choose _ _ _ _ _ (λ e. start ts at room h) (λ e. post_then _ _ _ _ _ (kept_runs at room h) (λ t c m q. q.run))

pub statement_runs : (ts : List ℕ) (v : Valid ts) (rules : Rules) (d at room : ℕ) → at < length ts → Post (Stated ts at room) (statement rules ts d at room)
unfolding statement
statement_runs ts v rules zero at room h = refl
statement_runs ts v rules (suc d) at room h = not_at_eof ts at (Run ts at at room) (statement rules ts (suc d) at room)
    (level_runs ts v rules (expression rules ts d) (expression_runs ts v rules d) (statement rules ts d) (statement_runs ts v rules d) at room h) (statement_eof ts at _ refl refl rules (suc d) room)
