-- What is read where d may be open opens no more than d: a walk along the readers.
use Prim.Native.Nat.{ℕ, zero, suc, ◌+◌, ◌<◌}
use native.Mathlib.Omega.{arith}
use mathlib.Core.Path.{◌≡◌, refl}
use mathlib.Core.Bool.{cond}
use mathlib.Core.List.{List}
use lib.Dec.{ltb}
use borrow.Author.Tests.{lt-ltb}
use Rattle.grammar.specs.Words.{Zero, tok, step}
use Rattle.grammar.specs.Tree.{Tree, infixed, node, Trees, nil, ◌▸◌, join, leaf, Thread, Async}
use Rattle.grammar.specs.Parsed.{Parsed, Reader, ◌>>=◌, build, Arm, match, turns, BreakWithoutSemicolon, ContinueWithoutSemicolon}
use Rattle.grammar.specs.Rules.{Rules}
use Rattle.grammar.specs.Expressions as e
use Rattle.grammar.specs.Statements as s
use Rattle.written.specs.Claims.{above, beside}
use Rattle.written.proofs.Accepts.{Fact, Gives, gives_then, gives_refused, gives_need, gives_choose, gives_build, Arms, end, ◌▹◌}
use Rattle.written.proofs.Opens.{grouped, base, opens_of, Low, Lows, lows_nil, lows_one, lows_join, made_low, group_low, Start, thread_count, async_count, start_low, joined_low}
use Rattle.written.proofs.Signs.{infix_low}

abbrev pub LowAt : ℕ → Fact Tree
LowAt n t at = Low n t

abbrev pub LowsAt : ℕ → Fact Trees
LowsAt n us at = Lows n us

-- A row one above its slots, and one on their level.
row_up : {d : ℕ} (k m p at room : ℕ) (x y z w : Trees) → base k m + grouped m ≡ 1 → beside k ≡ 0 → Lows d x → Lows d y → Lows d z → Lows d w
    → Gives (LowAt (suc d)) (build (node k m p x y z w 0) at room)
row_up {d} k m p at room x y z w e f a b c g = gives_build (LowAt (suc d)) (node k m p x y z w 0) at room
    (made_low k m p 1 0 (suc d) x y z w e f (omega (arith, a.low)) (omega (arith, b.low)) (omega (arith, c.low)) (omega (arith, g.low)))

row_flat : {d : ℕ} (k m p at room : ℕ) (x y z w : Trees) → base k m + grouped m ≡ 0 → beside k ≡ 0 → Lows d x → Lows d y → Lows d z → Lows d w
    → Gives (LowAt d) (build (node k m p x y z w 0) at room)
row_flat {d} k m p at room x y z w e f a b c g = gives_build (LowAt d) (node k m p x y z w 0) at room
    (made_low k m p 0 0 d x y z w e f (omega (arith, a.low)) (omega (arith, b.low)) (omega (arith, c.low)) (omega (arith, g.low)))

-- An index or a call: behind its first slot.
row_behind : {d : ℕ} (k m p at room : ℕ) (t : Tree) (y : Trees) → base k m + grouped m ≡ 0 → beside k ≡ 1 → Low (suc d) t → Lows d y
    → Gives (LowAt (suc d)) (build (node k m p (t ▸ nil) y nil nil 0) at room)
unfolding opens_of
row_behind {d} k m p at room t y e f a b = gives_build (LowAt (suc d)) (node k m p (t ▸ nil) y nil nil 0) at room
    (made_low k m p 0 1 (suc d) (t ▸ nil) y nil nil e f (omega (arith, a.low)) (omega (arith, b.low)) (omega arith) (omega arith))

abbrev Reads : ℕ → Reader Tree → Type 0
Reads n f = (at room : ℕ) → Gives (LowAt n) (f at room)

match_reads : (n : ℕ) {arms : List (Arm Tree)} (w : ℕ) (other : Reader Tree) → Arms (Reads n) arms → Reads n other → Reads n (match w arms other)
unfolding match
match_reads n w other end h at room = h at room
match_reads n w other (r ▹ rs) h at room = gives_choose _ _ _ _ (λ q. r at room) (λ q. match_reads n w other rs h at room)

leaf_reads : (d k m : ℕ) → base k m + grouped m ≡ 1 → beside k ≡ 0 → Reads (suc d) (λ at. build (leaf k m at) at)
leaf_reads d k m e f at room = row_up k m at at room nil nil nil nil e f lows_nil lows_nil lows_nil lows_nil

module _ (rules : Rules) (ts : List ℕ) (d : ℕ) where
  identifier_reads : (k : ℕ) → base k 0 + grouped 0 ≡ 1 → beside k ≡ 0 → Reads (suc d) (e.get_identifier ts (leaf k 0))
  unfolding e.get_identifier
  identifier_reads k e f at room = gives_need _ _ _ _ _ (λ q. leaf_reads d k 0 e f at room)

  dots_low : (i : ℕ) (us : Trees) (at room : ℕ) → Lows (suc d) us → Gives (LowsAt (suc d)) (e.dots ts i us at room)
  unfolding e.dots base above beside grouped
  dots_low zero us at room h = tt
  dots_low (suc i) us at room h = gives_choose _ _ _ _
      (λ q. gives_then _ _ _ _ (identifier_reads 18 refl refl (step ts (step ts at)) room) (λ t c m z. dots_low i (join us (t ▸ nil)) c m (lows_join us (t ▸ nil) h (lows_one z))))
      (λ q. h)

  dot_reads : Reads (suc d) (e.dot_expression ts)
  unfolding e.dot_expression base above beside grouped
  dot_reads at room = gives_then _ _ _ _ (identifier_reads 2 refl refl at room) (λ t c m z. gives_choose _ _ _ _
      (λ q. gives_then _ _ _ _ (dots_low turns nil c m lows_nil) (λ us c m h. row_flat 17 0 at c m (t ▸ nil) us nil nil refl refl (lows_one z) h lows_nil lows_nil))
      (λ q. z))

  no_prefix_reads : Reads (suc d) (e.no_prefix ts)
  unfolding e.no_prefix
  no_prefix_reads at room = search (gives_choose, gives_refused)

  module _ (rec : e.Rec) (ih : (pre : ℕ) → Reads d (rec pre)) where
    rec_then : {A : Type 0} (R : Fact A) (pre at room : ℕ) (f : Tree × ℕ × ℕ → Parsed A) → ((t : Tree) (c m : ℕ) → Low d t → Gives R (f (t, c, m))) → Gives R (rec pre at room >>= f)
    rec_then R pre at room f h = gives_then _ R _ f (ih pre at room) h

    entries_low : (entry : Reader Tree) → Reads d entry → (i : ℕ) (us : Trees) (at room : ℕ) → Lows d us → Gives (LowsAt d) (e.entries rules ts rec entry i us at room)
    unfolding e.entries
    entries_low entry r zero us at room h = tt
    entries_low entry r (suc i) us at room h = gives_choose _ _ _ _
        (λ q. gives_then _ _ _ _ (r (step ts (step ts at)) room) (λ t c m z. entries_low entry r i (join us (t ▸ nil)) c m (lows_join us (t ▸ nil) h (lows_one z)))) (λ q. h)

    list_low : (at room : ℕ) → Gives (LowsAt d) (e.list_expr rules ts rec at room)
    unfolding e.list_expr
    list_low at room = gives_choose _ _ _ _ (λ q. lows_nil) (λ q. rec_then _ Zero (step ts at) room _ (λ t c m z. entries_low (rec Zero) (ih Zero) turns (t ▸ nil) c m (lows_one z)))

    list_then : {A : Type 0} (R : Fact A) (at room : ℕ) (f : Trees × ℕ × ℕ → Parsed A) → ((us : Trees) (c m : ℕ) → Lows d us → Gives R (f (us, c, m)))
        → Gives R (e.list_expr rules ts rec at room >>= f)
    list_then R at room f h = gives_then _ R _ f (list_low at room) h

    ruleset parts = (gives_need, gives_choose, gives_refused, row_up, rec_then, list_then, lows_nil, lows_one)

    pair_reads : Reads d (e.pair rules ts rec)
    unfolding e.pair base above beside grouped
    pair_reads at room = rec_then _ Zero _ _ _ (λ t c m z. gives_need _ _ _ _ _ (λ q. rec_then _ Zero _ _ _ (λ u c₂ m₂ w.
        row_flat 19 0 _ c₂ m₂ (t ▸ nil) (u ▸ nil) nil nil refl refl (lows_one z) (lows_one w) lows_nil lows_nil)))

    hash_reads : Reads (suc d) (e.hash_literal rules ts rec)
    unfolding e.hash_literal base above beside grouped
    hash_reads at room = gives_choose _ _ _ _ (λ q. search parts depth 9) (λ q. gives_then _ _ _ _ (pair_reads (step ts at) room) (λ t c m z.
        gives_then _ _ _ _ (entries_low (e.pair rules ts rec) pair_reads turns (t ▸ nil) c m (lows_one z)) (λ us c m w. search parts depth 9)))

    array_reads : Reads (suc d) (e.array rules ts rec)
    unfolding e.array base above beside grouped
    array_reads at room = search parts depth 9

    started_reads : (f : ℕ) → Start f → Reads (suc d) (e.started rules ts rec f)
    unfolding e.started
    started_reads f s at room = rec_then _ Zero (step ts at) room _ (λ t c m z. gives_need _ _ _ _ _ (λ q. start_low f d t s q z))

    prefix_reads : (mark : ℕ) → mark < 256 → Reads (suc d) (e.prefix rules ts rec mark)
    unfolding e.prefix base above beside grouped
    prefix_reads mark l at room = let g : 1 + cond (ltb mark 256) 0 1 ≡ 1 = rw (lt-ltb mark 256 l) in rec_then _ Zero (step ts at) room _ (λ t c m z.
        row_up 13 mark at c m (t ▸ nil) nil nil nil g refl (lows_one z) lows_nil lows_nil lows_nil)

    shell_reads : Reads (suc d) (e.shell rules ts rec)
    unfolding e.shell e.command base above beside grouped
    shell_reads at room = search parts depth 9

    suffix_reads : (left : Tree) → Low (suc d) left → (mark : ℕ) → mark < 256 → Reads (suc d) (e.suffix_expression rules ts rec left mark)
    unfolding e.suffix_expression base above beside grouped
    suffix_reads left h mark l at room = let g : 0 + cond (ltb mark 256) 0 1 ≡ 0 = rw (lt-ltb mark 256 l) in
        row_flat 14 mark at at room (left ▸ nil) nil nil nil g refl (lows_one h) lows_nil lows_nil lows_nil

    infix_reads : (left : Tree) → Low (suc d) left → Reads (suc d) (e.infix_expression rules ts rec left)
    unfolding e.infix_expression
    infix_reads left h at room = rec_then _ _ _ _ _ (λ t c m z. gives_build (LowAt (suc d)) _ c m (infix_low_at _ at left t (infix_low (tok ts at)) h z))
      where
        infix_low_at : {z : ℕ} (m p : ℕ) (l r : Tree) → m < 23 → Low (suc d) l → Low d r → Low (suc d) (infixed m p l r z)
        infix_low_at m p l r i x y = joined_low m p l r (omega arith) x.low y.low

    lambda_reads : Reads (suc d) (e.lambda rules ts rec)
    unfolding e.lambda base above beside grouped
    lambda_reads at room = search parts depth 9

    sub_reads : Reads (suc d) (e.sub_expression rules ts rec)
    unfolding e.sub_expression
    sub_reads at room = gives_need _ _ _ _ _ (λ q. rec_then _ Zero _ _ _ (λ t c m z. gives_need _ _ _ _ _ (λ q₁. group_low d t z)))

    prefix_part_reads : Reads (suc d) (e.prefix_part rules ts rec)
    unfolding e.prefix_part base above beside grouped
    prefix_part_reads at room = match_reads (suc d) (tok ts at) (e.no_prefix ts)
        (dot_reads ▹ leaf_reads d 3 0 refl refl ▹ leaf_reads d 4 0 refl refl ▹ leaf_reads d 5 0 refl refl ▹ leaf_reads d 6 0 refl refl ▹ leaf_reads d 7 1 refl refl ▹ leaf_reads d 7 0 refl refl
        ▹ lambda_reads ▹ leaf_reads d 1 0 refl refl ▹ started_reads Thread thread_count ▹ started_reads Async async_count ▹ array_reads ▹ hash_reads
        ▹ prefix_reads 0 (omega arith) ▹ prefix_reads 1 (omega arith) ▹ prefix_reads 2 (omega arith) ▹ prefix_reads 3 (omega arith) ▹ sub_reads ▹ shell_reads ▹ end)
        no_prefix_reads at room

    call_reads : (left : Tree) → Low (suc d) left → Reads (suc d) (e.call rules ts rec left)
    unfolding e.call base above beside grouped
    call_reads left h at room = gives_choose _ _ _ _ (λ q. row_behind 11 0 at _ room left nil refl refl h lows_nil)
        (λ q. list_then _ _ _ _ (λ us c m z. gives_need _ _ _ _ _ (λ q₁. row_behind 11 0 at _ m left us refl refl h z)))

    index_reads : (left : Tree) → Low (suc d) left → Reads (suc d) (e.index rules ts rec left)
    unfolding e.index base above beside grouped
    index_reads left h at room = rec_then _ _ _ _ _ (λ t c m z. gives_need _ _ _ _ _ (λ q. row_behind 10 0 at _ m left (t ▸ nil) refl refl h (lows_one z)))

    operation_reads : (left : Tree) → Low (suc d) left → Reads (suc d) (e.operation rules ts rec left)
    unfolding e.operation
    operation_reads left h at room = match_reads (suc d) (tok ts at) (e.infix_expression rules ts rec left)
        (suffix_reads left h 0 (omega arith) ▹ suffix_reads left h 1 (omega arith) ▹ call_reads left h ▹ index_reads left h ▹ end) (infix_reads left h) at room

    climb_reads : (pre i : ℕ) (left : Tree) → Low (suc d) left → Reads (suc d) (e.climb rules ts rec pre i left)
    unfolding e.climb
    climb_reads pre zero left h at room = tt
    climb_reads pre (suc i) left h at room = gives_choose _ _ _ _ (λ q. gives_then _ _ _ _ (operation_reads left h (step ts at) room) (λ t c m z. climb_reads pre i t z c m)) (λ q. h)

    level_reads : (pre : ℕ) → Reads (suc d) (e.level rules ts rec pre)
    unfolding e.level
    level_reads pre at room = gives_then _ _ _ _ (prefix_part_reads at room) (λ t c m z. gives_choose _ _ _ _ (λ q. z) (λ q. climb_reads pre turns t z c m))

pub expression_reads : (rules : Rules) (ts : List ℕ) (d pre : ℕ) → Reads d (e.expression rules ts d pre)
unfolding e.expression
expression_reads rules ts zero pre at room = tt
expression_reads rules ts (suc d) pre at room = level_reads rules ts d (e.expression rules ts d) (expression_reads rules ts d) pre at room

module _ (rules : Rules) (ts : List ℕ) (d : ℕ) (expr : e.Rec) (ih : (pre : ℕ) → Reads d (expr pre)) (stmt : Reader Trees) (is : (at room : ℕ) → Gives (LowsAt d) (stmt at room)) where
  expr_then : {A : Type 0} (R : Fact A) (pre at room : ℕ) (f : Tree × ℕ × ℕ → Parsed A) → ((t : Tree) (c m : ℕ) → Low d t → Gives R (f (t, c, m))) → Gives R (expr pre at room >>= f)
  expr_then R pre at room f h = gives_then _ R _ f (ih pre at room) h

  exprs_then : {A : Type 0} (R : Fact A) (at room : ℕ) (f : Trees × ℕ × ℕ → Parsed A) → ((us : Trees) (c m : ℕ) → Lows d us → Gives R (f (us, c, m)))
      → Gives R (e.list_expr rules ts expr at room >>= f)
  exprs_then R at room f h = list_then rules ts d expr ih R at room f h

  pub statements_low : (close i : ℕ) (us : Trees) (at room : ℕ) → Lows d us → Gives (LowsAt d) (s.statements rules ts expr stmt close i us at room)
  unfolding s.statements
  statements_low close zero us at room h = tt
  statements_low close (suc i) us at room h = gives_choose _ _ _ _ (λ q. h) (λ q. gives_choose _ _ _ _ (λ q₁. statements_low close i us (step ts at) room h)
      (λ q₁. gives_then _ _ _ _ (is at room) (λ vs c m z. statements_low close i (join us vs) (step ts c) m (lows_join us vs h z))))

  block_reads : Reads d (s.block rules ts expr stmt)
  unfolding s.block s.opened base above beside grouped
  block_reads at room = gives_choose _ _ _ _ (λ q. row_flat 46 0 _ _ room nil nil nil nil refl refl lows_nil lows_nil lows_nil lows_nil)
      (λ q. gives_then _ _ _ _ (is _ room) (λ us c m z. gives_then _ _ _ _ (statements_low _ turns us (step ts c) m z)
      (λ all c m w. row_flat 46 0 _ c m all nil nil nil refl refl w lows_nil lows_nil lows_nil)))

  block_then : {A : Type 0} (R : Fact A) (at room : ℕ) (f : Tree × ℕ × ℕ → Parsed A) → ((t : Tree) (c m : ℕ) → Low d t → Gives R (f (t, c, m)))
      → Gives R (s.block rules ts expr stmt at room >>= f)
  block_then R at room f h = gives_then _ R _ f (block_reads at room) h

  else_low : (at room : ℕ) → Gives (LowsAt d) (s.else rules ts expr stmt at room)
  unfolding s.else
  else_low at room = gives_choose _ _ _ _ (λ q. gives_need _ _ _ _ _ (λ q₁. block_then _ _ room _ (λ t c m z. lows_one z))) (λ q. lows_nil)

  else_then : {A : Type 0} (R : Fact A) (at room : ℕ) (f : Trees × ℕ × ℕ → Parsed A) → ((us : Trees) (c m : ℕ) → Lows d us → Gives R (f (us, c, m)))
      → Gives R (s.else rules ts expr stmt at room >>= f)
  else_then R at room f h = gives_then _ R _ f (else_low at room) h

  finally_low : (at room : ℕ) → Gives (LowsAt d) (s.finally rules ts expr stmt at room)
  unfolding s.finally
  finally_low at room = gives_choose _ _ _ _ (λ q. gives_need _ _ _ _ _ (λ q₁. block_then _ _ room _ (λ t c m z. lows_one z))) (λ q. lows_nil)

  finally_then : {A : Type 0} (R : Fact A) (at room : ℕ) (f : Trees × ℕ × ℕ → Parsed A) → ((us : Trees) (c m : ℕ) → Lows d us → Gives R (f (us, c, m)))
      → Gives R (s.finally rules ts expr stmt at room >>= f)
  finally_then R at room f h = gives_then _ R _ f (finally_low at room) h

  ruleset bodies = (gives_need, gives_choose, gives_refused, row_up, expr_then, exprs_then, block_then, else_then, finally_then, lows_nil, lows_one)

  assert_reads : Reads (suc d) (s.assert rules ts expr stmt)
  unfolding s.assert base above beside grouped
  assert_reads at room = search bodies depth 15

  var_reads : Reads (suc d) (s.var rules ts expr stmt)
  unfolding s.var s.value base above beside grouped
  var_reads at room = search bodies depth 15

  const_reads : Reads (suc d) (s.const rules ts expr stmt)
  unfolding s.const s.value base above beside grouped
  const_reads at room = search bodies depth 15

  return_reads : Reads (suc d) (s.return rules ts expr stmt)
  unfolding s.return base above beside grouped
  return_reads at room = search bodies depth 15

  throw_reads : Reads (suc d) (s.throw rules ts expr stmt)
  unfolding s.throw base above beside grouped
  throw_reads at room = search bodies depth 15

  expression_statement_reads : Reads (suc d) (s.expression_statement rules ts expr stmt)
  unfolding s.expression_statement base above beside grouped
  expression_statement_reads at room = search bodies depth 15

  alone_reads : (k number : ℕ) → base k 0 + grouped 0 ≡ 1 → beside k ≡ 0 → Reads (suc d) (s.alone rules ts expr stmt (leaf k 0) number)
  unfolding s.alone
  alone_reads k number e f at room = gives_need _ _ _ _ _ (λ q. row_up k 0 at _ room nil nil nil nil e f lows_nil lows_nil lows_nil lows_nil)

  function_reads : Reads (suc d) (s.function rules ts expr stmt)
  unfolding s.function base above beside grouped
  function_reads at room = search bodies depth 15

  if_reads : Reads (suc d) (s.if rules ts expr stmt)
  unfolding s.if base above beside grouped
  if_reads at room = search bodies depth 15

  while_reads : Reads (suc d) (s.while rules ts expr stmt)
  unfolding s.while base above beside grouped
  while_reads at room = search bodies depth 15

  foreach_reads : Reads (suc d) (s.foreach rules ts expr stmt)
  unfolding s.foreach base above beside grouped
  foreach_reads at room = search bodies depth 15

  for_reads : Reads (suc d) (s.for rules ts expr stmt)
  unfolding s.for base above beside grouped
  for_reads at room = search bodies depth 15

  try_reads : Reads (suc d) (s.try rules ts expr stmt)
  unfolding s.try base above beside grouped
  try_reads at room = search bodies depth 15

  begun_reads : (f : Reader Tree) → Reads (suc d) f → Reads (suc d) (s.begun rules ts expr stmt f)
  unfolding s.begun
  begun_reads f h at room = gives_need _ _ _ _ _ (λ q. h at room)

  kept_reads : Reads (suc d) (s.kept rules ts expr stmt)
  unfolding s.kept base above beside grouped
  kept_reads at room = match_reads (suc d) (tok ts at) (s.expression_statement rules ts expr stmt)
      (alone_reads 32 BreakWithoutSemicolon refl refl ▹ alone_reads 33 ContinueWithoutSemicolon refl refl ▹ begun_reads _ (λ at. var_reads (step ts at))
      ▹ begun_reads _ (λ at. const_reads (step ts at)) ▹ begun_reads _ if_reads ▹ begun_reads _ assert_reads ▹ begun_reads _ while_reads ▹ return_reads
      ▹ begun_reads _ (λ at. function_reads (step ts at)) ▹ begun_reads _ for_reads ▹ begun_reads _ throw_reads ▹ begun_reads _ try_reads ▹ begun_reads _ foreach_reads ▹ end)
      expression_statement_reads at room

  statement_level : (at room : ℕ) → Gives (LowsAt (suc d)) (s.level rules ts expr stmt at room)
  unfolding s.level
  statement_level at room = gives_choose _ _ _ _ (λ q. lows_nil) (λ q. gives_then _ _ _ _ (kept_reads at room) (λ t c m z. lows_one z))

pub statement_low : (rules : Rules) (ts : List ℕ) (d at room : ℕ) → Gives (LowsAt d) (s.statement rules ts d at room)
unfolding s.statement
statement_low rules ts zero at room = tt
statement_low rules ts (suc d) at room =
    statement_level rules ts d (e.expression rules ts d) (expression_reads rules ts d) (s.statement rules ts d) (statement_low rules ts d) at room
