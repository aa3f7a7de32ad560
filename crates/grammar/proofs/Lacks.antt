-- Every reader with two numbers of rows: the walk of their text, and what it says of the three entries.
use Prim.Native.Nat.{ℕ, zero, suc}
use mathlib.Core.Path.{refl}
use mathlib.Core.List.{List}
use Rattle.grammar.specs.Words.{EOF, tok, step, Zero}
use Rattle.grammar.specs.Tree.{Tree, Trees, nil, ◌▸◌, join, leaf, Thread, Async}
use Rattle.grammar.specs.Parsed.{Reader, build, turns}
use Rattle.grammar.specs.Rules.{Rules}
use Rattle.grammar.specs.Expressions as e
use Rattle.grammar.specs.Statements as s
use Rattle.grammar.specs.Script.{nesting, one_expression, one_statement, whole_script}
use Rattle.grammar.proofs.Post.{end, ◌▹◌}
use Rattle.grammar.proofs.Runs.{single, listed}
use Rattle.grammar.proofs.Fewer.{Fewer, on_from, then_tree, then_list, then_longer, on_choose, on_check, on_refused, on_read, on_flagged, on_row, on_row_list, on_infix, Reads, Lists, match_fewer}

module _ (ts : List ℕ) where
  leaf_lacks : (kind mark : ℕ) → Reads nil (λ at. build (leaf kind mark at) at)
  unfolding join
  leaf_lacks kind mark at n k = search on_row

  identifier_lacks : (kind mark : ℕ) → Reads nil (e.get_identifier ts (leaf kind mark))
  unfolding e.get_identifier
  identifier_lacks kind mark at n k = search (on_check, leaf_lacks)

  no_prefix_lacks : Reads nil (e.no_prefix ts)
  unfolding e.no_prefix
  no_prefix_lacks at n k = search (on_choose, on_refused)

  dots_lack : (i : ℕ) (names : Trees) → Lists names (e.dots ts i names)
  unfolding e.dots
  dots_lack zero names at n k = on_refused _ _ _ _ _ _
  dots_lack (suc i) names at n k = let more = dots_lack i in search (on_choose, on_read, then_tree, identifier_lacks, more) depth 9

  ruleset base = (then_tree, then_list, on_check, on_choose, on_refused, on_read, on_row, on_row_list, dots_lack, identifier_lacks)

  dot_lacks : Reads nil (e.dot_expression ts)
  unfolding e.dot_expression join
  dot_lacks at n k = search base depth 12

  module _ (rules : Rules) (rec : e.Rec) (ih : (pre : ℕ) → Reads nil (rec pre)) where
    entries_lack : (f : Reader Tree) → Reads nil f → (i : ℕ) (list : Trees) → Lists list (e.entries rules ts rec f i list)
    unfolding e.entries
    entries_lack f h zero list at n k = on_refused _ _ _ _ _ _
    entries_lack f h (suc i) list at n k = let more = entries_lack f h i in search (base, h, more) depth 9

    list_lacks : Lists nil (e.list_expr rules ts rec)
    unfolding e.list_expr join
    list_lacks at n k = search (base, entries_lack) depth 9

    pair_lacks : Reads nil (e.pair rules ts rec)
    unfolding e.pair join
    pair_lacks at n k = search base depth 9

    ruleset walk = (base, list_lacks)

    lambda_lacks : Reads nil (e.lambda rules ts rec)
    unfolding e.lambda join
    lambda_lacks at n k = search walk depth 12

    started_lacks : (flag : ℕ) → Reads nil (e.started rules ts rec flag)
    unfolding e.started join
    started_lacks flag at n k = search (base, on_flagged) depth 9

    array_lacks : Reads nil (e.array rules ts rec)
    unfolding e.array join
    array_lacks at n k = search walk depth 12

    hash_lacks : Reads nil (e.hash_literal rules ts rec)
    unfolding e.hash_literal join
    hash_lacks at n k = search (base, pair_lacks, entries_lack, then_longer) depth 12

    prefix_lacks : (mark : ℕ) → Reads nil (e.prefix rules ts rec mark)
    unfolding e.prefix join
    prefix_lacks mark at n k = search walk depth 9

    sub_lacks : Reads nil (e.sub_expression rules ts rec)
    unfolding e.sub_expression join
    sub_lacks at n k = search (base, on_flagged) depth 9

    shell_lacks : Reads nil (e.shell rules ts rec)
    unfolding e.shell e.command join
    shell_lacks at n k = search walk depth 9

    prefix_part_lacks : Reads nil (e.prefix_part rules ts rec)
    unfolding e.prefix_part
    prefix_part_lacks at n k = match_fewer nil (tok ts at) (e.no_prefix ts)
        (dot_lacks ▹ leaf_lacks _ _ ▹ leaf_lacks _ _ ▹ leaf_lacks _ _ ▹ leaf_lacks _ _ ▹ leaf_lacks _ _ ▹ leaf_lacks _ _ ▹ lambda_lacks ▹ leaf_lacks _ _
        ▹ started_lacks Thread ▹ started_lacks Async ▹ array_lacks ▹ hash_lacks ▹ prefix_lacks 0 ▹ prefix_lacks 1 ▹ prefix_lacks 2 ▹ prefix_lacks 3
        ▹ sub_lacks ▹ shell_lacks ▹ end) no_prefix_lacks at n k

    module _ (t : Tree) where
      suffix_lacks : (mark : ℕ) → Reads (t ▸ nil) (e.suffix_expression rules ts rec t mark)
      unfolding e.suffix_expression join
      suffix_lacks mark at n k = search on_row

      call_lacks : Reads (t ▸ nil) (e.call rules ts rec t)
      unfolding e.call join
      call_lacks at n k = search walk depth 9

      index_lacks : Reads (t ▸ nil) (e.index rules ts rec t)
      unfolding e.index join
      index_lacks at n k = search walk depth 9

      infix_lacks : Reads (t ▸ nil) (e.infix_expression rules ts rec t)
      unfolding e.infix_expression join
      infix_lacks at n k = search (base, on_infix) depth 9

      operation_lacks : Reads (t ▸ nil) (e.operation rules ts rec t)
      unfolding e.operation
      operation_lacks at n k = match_fewer (t ▸ nil) (tok ts at) (e.infix_expression rules ts rec t)
          (suffix_lacks 0 ▹ suffix_lacks 1 ▹ call_lacks ▹ index_lacks ▹ end) infix_lacks at n k

    climb_lacks : (pre i : ℕ) (t : Tree) → Reads (t ▸ nil) (e.climb rules ts rec pre i t)
    unfolding e.climb
    climb_lacks pre zero t at n k = on_refused _ _ _ _ _ _
    climb_lacks pre (suc i) t at n k =
        on_choose _ _ _ _ _ _ _ _ (on_from single _ _ _ _ _ _ _ (operation_lacks t (step ts at) n k) (λ t at n k. climb_lacks pre i t at n k)) (on_read _ _ _ _ _ _ refl)

    pub level_lacks : (pre : ℕ) → Reads nil (e.level rules ts rec pre)
    unfolding e.level
    level_lacks pre at n k =
        on_from single _ _ _ _ _ _ _ (prefix_part_lacks at n k) (λ t at n k. on_choose _ _ _ _ _ _ _ _ (on_read _ _ _ _ _ _ refl) (climb_lacks pre turns t at n k))

  pub expression_lacks : (rules : Rules) (d pre : ℕ) → Reads nil (e.expression rules ts d pre)
  unfolding e.expression
  expression_lacks rules zero pre at n k = on_refused _ _ _ _ _ _
  expression_lacks rules (suc d) pre at n k = level_lacks rules (e.expression rules ts d) (expression_lacks rules d) pre at n k

  module _ (rules : Rules) (expr : e.Rec) (expr-lacks : (pre : ℕ) → Reads nil (expr pre)) (stmt : Reader Trees) (stmt-lacks : Lists nil stmt) where
    exprs_lack : Lists nil (e.list_expr rules ts expr)
    exprs_lack = list_lacks rules expr expr-lacks

    pub statements_lack : (close i : ℕ) (list : Trees) → Lists list (s.statements rules ts expr stmt close i list)
    unfolding s.statements
    statements_lack close zero list at n k = on_refused _ _ _ _ _ _
    statements_lack close (suc i) list at n k = let more = statements_lack close i in search (base, more) depth 9

    ruleset parts = (base, exprs_lack, statements_lack, then_longer)

    block_lacks : Reads nil (s.block rules ts expr stmt)
    unfolding s.block s.opened join
    block_lacks at n k = search parts depth 12

    else_lacks : Lists nil (s.else rules ts expr stmt)
    unfolding s.else join
    else_lacks at n k = search (base, block_lacks) depth 9

    finally_lacks : Lists nil (s.finally rules ts expr stmt)
    unfolding s.finally join
    finally_lacks at n k = search (base, block_lacks) depth 9

    ruleset bodies = (base, exprs_lack, block_lacks, else_lacks, finally_lacks)

    assert_lacks : Reads nil (s.assert rules ts expr stmt)
    unfolding s.assert join
    assert_lacks at n k = search bodies depth 12

    function_lacks : Reads nil (s.function rules ts expr stmt)
    unfolding s.function join
    function_lacks at n k = search bodies depth 15

    if_lacks : Reads nil (s.if rules ts expr stmt)
    unfolding s.if join
    if_lacks at n k = search bodies depth 15

    var_lacks : Reads nil (s.var rules ts expr stmt)
    unfolding s.var s.value join
    var_lacks at n k = search bodies depth 12

    const_lacks : Reads nil (s.const rules ts expr stmt)
    unfolding s.const s.value join
    const_lacks at n k = search bodies depth 12

    while_lacks : Reads nil (s.while rules ts expr stmt)
    unfolding s.while join
    while_lacks at n k = search bodies depth 12

    return_lacks : Reads nil (s.return rules ts expr stmt)
    unfolding s.return join
    return_lacks at n k = search bodies depth 12

    foreach_lacks : Reads nil (s.foreach rules ts expr stmt)
    unfolding s.foreach join
    foreach_lacks at n k = search bodies depth 15

    for_lacks : Reads nil (s.for rules ts expr stmt)
    unfolding s.for join
    for_lacks at n k = search bodies depth 15

    throw_lacks : Reads nil (s.throw rules ts expr stmt)
    unfolding s.throw join
    throw_lacks at n k = search bodies depth 9

    try_lacks : Reads nil (s.try rules ts expr stmt)
    unfolding s.try join
    try_lacks at n k = search bodies depth 15

    plain_lacks : Reads nil (s.expression_statement rules ts expr stmt)
    unfolding s.expression_statement join
    plain_lacks at n k = search bodies depth 9

    alone_lacks : (kind mark number : ℕ) → Reads nil (s.alone rules ts expr stmt (leaf kind mark) number)
    unfolding s.alone join
    alone_lacks kind mark number at n k = search (on_check, on_row)

    begun_lacks : (f : Reader Tree) → Reads nil f → Reads nil (s.begun rules ts expr stmt f)
    unfolding s.begun
    begun_lacks f h at n k = on_check _ _ _ _ _ _ (h at n k)

    kept_lacks : Reads nil (s.kept rules ts expr stmt)
    unfolding s.kept
    kept_lacks at n k = match_fewer nil (tok ts at) (s.expression_statement rules ts expr stmt)
        (alone_lacks _ _ _ ▹ alone_lacks _ _ _ ▹ begun_lacks _ (λ at. var_lacks (step ts at)) ▹ begun_lacks _ (λ at. const_lacks (step ts at))
        ▹ begun_lacks _ if_lacks ▹ begun_lacks _ assert_lacks ▹ begun_lacks _ while_lacks ▹ return_lacks ▹ begun_lacks _ (λ at. function_lacks (step ts at))
        ▹ begun_lacks _ for_lacks ▹ begun_lacks _ throw_lacks ▹ begun_lacks _ try_lacks ▹ begun_lacks _ foreach_lacks ▹ end) plain_lacks at n k

    statement_level_lacks : Lists nil (s.level rules ts expr stmt)
    unfolding s.level join
    statement_level_lacks at n k = search (base, kept_lacks) depth 9

  pub statement_lacks : (rules : Rules) (d : ℕ) → Lists nil (s.statement rules ts d)
  unfolding s.statement
  statement_lacks rules zero at n k = on_refused _ _ _ _ _ _
  statement_lacks rules (suc d) at n k =
      statement_level_lacks rules (e.expression rules ts d) (expression_lacks rules d) (s.statement rules ts d) (statement_lacks rules d) at n k

-- The three entries.
pub entries_lack_rows : (rules : Rules) (ts : List ℕ) (start room k : ℕ)
    → Fewer listed nil k (one_expression rules ts start room) (one_expression rules ts start k)
    × Fewer listed nil k (one_statement rules ts start room) (one_statement rules ts start k)
    × Fewer listed nil k (whole_script rules ts room) (whole_script rules ts k)
unfolding one_expression one_statement whole_script join
entries_lack_rows rules ts start room k =
    let exprs = expression_lacks ts rules nesting in
    let stmts = statement_lacks ts rules nesting in
    let script = statements_lack ts rules (e.expression rules ts nesting) exprs (s.statement rules ts nesting) stmts EOF turns nil in (
      on_check _ _ _ _ _ _ (on_check _ _ _ _ _ _ (on_from single _ _ _ _ _ _ _ (exprs Zero start room k) (λ t at n m. on_read _ _ _ _ _ _ refl))),
      on_check _ _ _ _ _ _ (on_check _ _ _ _ _ _ (stmts start room k)),
      on_check _ _ _ _ _ _ (on_from listed _ _ _ _ _ _ _ (script 0 room k) (λ us at n m.
          on_from single _ _ _ _ _ _ _ (on_row_list _ _ _ _ _ _ _ us nil nil nil refl) (λ t at n m. on_read _ _ _ _ _ _ refl))),
    )
