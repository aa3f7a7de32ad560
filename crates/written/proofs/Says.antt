-- What is written of statements and blocks is read back.
use Prim.Native.Nat.{ℕ, zero, suc, ◌+◌, ◌≤◌, ◌<◌}
use native.Mathlib.Omega.{arith}
use mathlib.Core.Path.{◌≡◌, refl, ◌∙◌}
use mathlib.Core.Bool.{Bool, true, false, cond, ◌||◌}
use mathlib.Core.List.{List, [], ◌∷◌, ◌++◌}
use lib.Dec.{eqb}
use lib.ListN.{length, length-append}
use borrow.Author.Tests.{eq-eqb}
use Rattle.grammar.specs.Words.{Empty, SRparen, SSemiColon, SComma, SLBrace, SRBrace, SImpl, KIf, KElse, KWhile, KFor, KBreak, KContinue, KConst, KVar}
use Rattle.grammar.specs.Words.{KFunc, KReturn, KTry, KFinally, KThrow, KForEach, KIn, KAssert, tok, step, is, next_is, Zero}
use Rattle.grammar.specs.Tree.{Tree, node, Trees, nil, ◌▸◌, size, sizes, join}
use Rattle.grammar.specs.Parsed.{Parsed, read, Reader, ◌>>=◌, build, choose, turns}
use Rattle.grammar.specs.Rules.{Rules}
use Rattle.grammar.specs.Expressions.{Rec, list_expr, level, expression}
use Rattle.grammar.specs.Statements as s
use Rattle.grammar.specs.Statements.{opened, else, finally, kept, statement}
use Rattle.slots.specs.Slots.{expressions, statements, blocks, how_many}
use Rattle.written.specs.Written.{Token, forms, look, form, joined, separated, empty_slot, piece, pieces, write, writes}
use Rattle.written.specs.Claims.{deep, deeps}
use Rattle.written.proofs.Dress.{seen, seens, dressed, dresseds, inner}
use Rattle.written.proofs.Stood.{Stood, formed, single, cut, spans, empty_list}
use Rattle.written.proofs.Shapes.{Fit, AllFit, fit_head, fit_tail, positive}
use Rattle.written.proofs.Signs.{Closes, closes, by_rparen, by_comma, by_arrow, by_in, by_brace, starter, differs, inside}
use Rattle.written.proofs.Heads.{one_head, list_head}
use Rattle.written.proofs.Back.{join_one, join_nil, Upto, Lot, list_read}
use Rattle.written.proofs.Exprs.{firsts, wholes}
use Rattle.written.proofs.Stated.{Block, a_block, blocked, Expression, Body, Maybe, without, with_one, Kept, a_break, a_continue, a_bare_var, a_var, a_const, a_bare_return, a_return}
use Rattle.written.proofs.Stated.{a_throw, an_expression, a_try, a_function, a_for, a_while, an_assert, an_if, a_foreach, kept_of, one_open}
use Rattle.written.proofs.Arms as arms

-- The words that a written statement begins with.
abbrev opens : ℕ → Bool
opens w =
    starter w || eqb w KBreak || eqb w KContinue || eqb w KVar || eqb w KConst || eqb w KReturn || eqb w KThrow || eqb w KTry || eqb w KFunc || eqb w KFor || eqb w KWhile
    || eqb w KAssert || eqb w KIf || eqb w KForEach

starter_opens : (w : ℕ) → starter w ≡ true → opens w ≡ true
starter_opens w h = go (starter w) h (eqb w KBreak) (eqb w KContinue) (eqb w KVar) (eqb w KConst) (eqb w KReturn) (eqb w KThrow) (eqb w KTry) (eqb w KFunc) (eqb w KFor)
    (eqb w KWhile) (eqb w KAssert) (eqb w KIf) (eqb w KForEach)
  where
    go : (a : Bool) → a ≡ true → (b c d e f g h i j k l m n : Bool) → a || b || c || d || e || f || g || h || i || j || k || l || m || n ≡ true
    go a q b c d e f g h i j k l m n = rw q

-- What follows a statement is neither `else` nor `finally`.
pub record Ends (w : ℕ) : Type 0 where
  pub no_else : eqb w KElse ≡ false
  pub no_finally : eqb w KFinally ≡ false

opens_ends : (w : ℕ) → opens w ≡ true → Ends w
opens_ends w h = record { no_else = differs opens w KElse h refl; no_finally = differs opens w KFinally h refl }

module _ (ts : List ℕ) where
  kept_head : {n : ℕ} {t : Tree} → Kept n t → (at c : ℕ) → Stood ts at (write t) c → opens (tok ts at) ≡ true
  unfolding form look forms writes
  kept_head (a_break {m} {p} e) at c h = rw (formed ts 32 m p nil nil nil nil at c h).0.0
  kept_head (a_continue {m} {p} e) at c h = rw (formed ts 33 m p nil nil nil nil at c h).0.0
  kept_head (a_bare_var {m} {p} e) at c h = rw (formed ts 34 m p nil nil nil nil at c h).0.0
  kept_head (a_var {m} {p} {t} e x) at c h = rw (formed ts 34 m p (t ▸ nil) nil nil nil at c h).0.0
  kept_head (a_const {m} {p} {t} e x) at c h = rw (formed ts 35 m p (t ▸ nil) nil nil nil at c h).0.0
  kept_head (a_bare_return {m} {p} e) at c h = rw (formed ts 36 m p nil nil nil nil at c h).0.0
  kept_head (a_return {m} {p} {t} e x) at c h = rw (formed ts 36 m p (t ▸ nil) nil nil nil at c h).0.0
  kept_head (a_throw {m} {p} {t} e x) at c h = rw (formed ts 37 m p (t ▸ nil) nil nil nil at c h).0.0
  kept_head (an_expression {m} {p} {t} e x) at c h =
      let (c1, g, r) = formed ts 38 m p (t ▸ nil) nil nil nil at c h in
      starter_opens (tok ts at) (one_head ts t x.ok at c1 g)
  kept_head (a_try {m} {p} {x} {y} {z} {w} e f g i j) at c h = rw (formed ts 39 m p (x ▸ nil) (y ▸ nil) (z ▸ nil) w at c h).0.0
  kept_head (a_function {m} {p} {us} {t} e f g i) at c h = rw (formed ts 40 m p us (t ▸ nil) nil nil at c h).0.0
  kept_head (a_for {m} {p} {x} {y} {z} e f g i) at c h = rw (formed ts 41 m p (x ▸ nil) (y ▸ nil) (z ▸ nil) nil at c h).0.0
  kept_head (a_while {m} {p} {x} {y} e f g) at c h = rw (formed ts 42 m p (x ▸ nil) (y ▸ nil) nil nil at c h).0.0
  kept_head (an_assert {m} {p} {x} {y} e f g) at c h = rw (formed ts 43 m p (x ▸ nil) (y ▸ nil) nil nil at c h).0.0
  kept_head (an_if {m} {p} {x} {y} {z} e f g i) at c h = rw (formed ts 44 m p (x ▸ nil) (y ▸ nil) z nil at c h).0.0
  kept_head (a_foreach {m} {p} {x} {y} {z} {w} e f g i j) at c h = rw (formed ts 45 m p (x ▸ nil) (y ▸ nil) (z ▸ nil) (w ▸ nil) at c h).0.0

  some_more : (xs ys : List Token) → 1 ≤ length ys → 1 ≤ length (xs ++ ys)
  some_more xs ys h = omega (arith, length-append xs ys)

  -- A statement is one token at least.
  kept_long : {n : ℕ} {t : Tree} → Kept n t → 1 ≤ length (write t)
  unfolding write form look forms pieces piece
  kept_long (a_break e) = omega arith
  kept_long (a_continue e) = omega arith
  kept_long (a_bare_var e) = omega arith
  kept_long (a_var e x) = omega arith
  kept_long (a_const e x) = omega arith
  kept_long (a_bare_return e) = omega arith
  kept_long (a_return e x) = omega arith
  kept_long (a_throw e x) = omega arith
  kept_long (an_expression {m} {p} {t} e x) = some_more (joined (writes (t ▸ nil))) _ (omega arith)
  kept_long (a_try e f g i j) = omega arith
  kept_long (a_function e f g i) = omega arith
  kept_long (a_for e f g i) = omega arith
  kept_long (a_while e f g) = omega arith
  kept_long (an_assert e f g) = omega arith
  kept_long (an_if e f g i) = omega arith
  kept_long (a_foreach e f g i j) = omega arith

  some_kept : (t : Tree) → Fit statements t → Kept (deep t) t
  some_kept t o = kept_of (deep t) t o (omega arith)

  said_head : (t : Tree) → Fit statements t → (at c : ℕ) → Stood ts at (write t) c → opens (tok ts at) ≡ true
  said_head t o at c h = kept_head (some_kept t o) at c h

  -- What follows, where more statements may.
  next_ends : (us : Trees) (at c : ℕ) → AllFit statements us → Stood ts at (joined (writes us)) c → Ends (tok ts c) → Ends (tok ts at)
  unfolding writes joined
  next_ends nil at c o h e = rw h e
  next_ends (t ▸ us) at c o h e =
      let (c1, k, r) = cut ts at c (write t) (joined (writes us)) h in
      opens_ends (tok ts at) (said_head t (fit_head o) at c1 k)

  pub many : (us : Trees) (at c : ℕ) → AllFit statements us → Stood ts at (joined (writes us)) c → at + how_many us ≤ c
  unfolding writes joined
  many nil at c o h = omega arith
  many (t ▸ us) at c o h =
      let (c1, k, r) = cut ts at c (write t) (joined (writes us)) h in
      omega (arith, spans ts at c1 (write t) k, many us c1 c (fit_tail o) r, kept_long (some_kept t (fit_head o)))

  block_head : (t : Tree) → Fit blocks t → (at c : ℕ) → Stood ts at (joined (writes (t ▸ nil))) c → tok ts at ≡ SLBrace
  unfolding form look forms writes
  block_head t o at c h = go (blocked (deep t) t o (omega arith)) (single ts at c t h)
    where
      go : {n : ℕ} {t : Tree} → Block n t → Stood ts at (write t) c → tok ts at ≡ SLBrace
      go (a_block {m} {p} {us} e f g) h = (formed ts 46 m p us nil nil nil at c h).0.0

module _ (rules : Rules) (ts : List ℕ) (short : length ts ≤ turns) where
  abbrev ex : ℕ → Rec
  ex d = expression rules ts d

  abbrev st : ℕ → Reader Trees
  st d = statement rules ts d

  -- An expression up to and with the semicolon behind it.
  record Onto (d at c : ℕ) (t : Tree) : Type 0 where
    tree : Tree
    same : seen tree ≡ dressed t
    reads : (room left : ℕ) → size t + left ≡ room → ex d Zero at room ≡ read tree c left

  onto : (d : ℕ) (t : Tree) (at c : ℕ) → Fit expressions t → deep t ≤ d → Stood ts at (joined (writes (t ▸ nil))) c → tok ts c ≡ SSemiColon → Onto d at c t
  unfolding expression level choose next_is is ◌>>=◌ writes
  onto zero t at c o l h semi = absurd (omega (arith, positive t o))
  onto (suc d) t at c o l h semi =
      let u = firsts rules ts short d t at c o l (single ts at c t h) (rw semi) in
      record { tree = u.tree; same = u.same; reads = λ room left q. rw (u.reads room left q, u.stops, semi) }

  -- An expression before another sign.
  upto : (d : ℕ) (t : Tree) (at c w : ℕ) → Expression d t → Stood ts at (joined (writes (t ▸ nil))) c → tok ts c ≡ w → Closes w → Upto ts (ex d Zero) at c t
  unfolding writes
  upto d t at c w x h e close = wholes rules ts short d Zero t at c x.ok x.low (single ts at c t h) (rw e close)

  pub record Said (d at c : ℕ) (t : Tree) : Type 0 where
    pub tree : Tree
    pub last : ℕ
    pub same : seen tree ≡ dressed t
    pub stops : step ts last ≡ c
    pub on : last < step ts last
    pub reads : (room left : ℕ) → size t + left ≡ room → st d at room ≡ read (tree ▸ nil) last left

  abbrev pub Says : ℕ → Type 0
  Says d = (t : Tree) (at c : ℕ) → Fit statements t → deep t ≤ d → Stood ts at (write t) c → Ends (tok ts c) → Said d at c t

  -- Statements up to a closing word, which is current then.
  pub record Ran (R : ℕ → Parsed Trees) (before : Trees) (c : ℕ) (us : Trees) : Type 0 where
    pub trees : Trees
    pub same : seens trees ≡ dresseds us
    pub reads : (room left : ℕ) → sizes us + left ≡ room → R room ≡ read (join before trees) c left

  -- The loop over statements: its end, and one turn.
  run_none : (d e close n at c : ℕ) (before : Trees) → at ≡ c → tok ts c ≡ close → Ran (s.statements rules ts (ex e) (st d) close (suc n) before at) before c nil
  unfolding s.statements choose is seens dresseds
  run_none d e close n at c before h q = record {
    trees = nil;
    same = refl;
    reads = λ room left r. let z : left ≡ room = omega arith in rw (h, q, eq-eqb close close refl, join_nil before, z);
  }

  run_one : (d e close n at b c : ℕ) (before us : Trees) (t : Tree) → eqb (tok ts at) close ≡ false → eqb (tok ts at) SSemiColon ≡ false → (u : Said d at b t)
      → Ran (s.statements rules ts (ex e) (st d) close n (join before (u.tree ▸ nil)) b) (join before (u.tree ▸ nil)) c us
      → Ran (s.statements rules ts (ex e) (st d) close (suc n) before at) before c (t ▸ us)
  unfolding s.statements choose is ◌>>=◌ seens dresseds
  run_one d e close n at b c before us t x y u v = record {
    trees = u.tree ▸ v.trees;
    same = rw (u.same, v.same);
    reads = λ room left q. rw (x, y, u.reads room (sizes us + left) (omega arith), u.stops, v.reads (sizes us + left) left refl, join_one before u.tree v.trees);
  }

  pub run : (d e close : ℕ) → Says d → Ends close → opens close ≡ false → (us before : Trees) (n at c : ℕ) → Stood ts at (joined (writes us)) c → tok ts c ≡ close
      → AllFit statements us → deeps us ≤ d → how_many us < n → Ran (s.statements rules ts (ex e) (st d) close n before at) before c us
  unfolding writes joined deeps
  run d e close says ends other us before zero at c h q o l m = absurd (omega arith)
  run d e close says ends other nil before (suc n) at c h q o l m = run_none d e close n at c before h q
  run d e close says ends other (t ▸ us) before (suc n) at c h q o l m =
      let (c1, k, r) = cut ts at c (write t) (joined (writes us)) h in
      let x = said_head ts t (fit_head o) at c1 k in
      let u = says t at c1 (fit_head o) (omega arith) k (next_ends ts us c1 c (fit_tail o) r (rw q ends)) in
      run_one d e close n at c1 c before us t (differs opens (tok ts at) close x other) (differs opens (tok ts at) SSemiColon x refl) u
      (run d e close says ends other us (join before (u.tree ▸ nil)) n c1 c r q (fit_tail o) (omega arith) (omega arith))

  module _ (d : ℕ) (says : Says d) where
    rbrace_ends : Ends SRBrace
    rbrace_ends = record { no_else = refl; no_finally = refl }

    opened_none : (at c left : ℕ) → step ts at ≡ c → tok ts c ≡ SRBrace → opened rules ts (ex d) (st d) at (suc left) ≡ read (node 46 0 at nil nil nil nil c) c left
    unfolding opened choose next_is is build
    opened_none at c left e f = rw (e, f)

    opened_some : (at a c1 c room r left : ℕ) (t : Tree) (us : Trees) → eqb (tok ts (step ts at)) SRBrace ≡ false → st d (step ts at) room ≡ read (t ▸ nil) a r
        → step ts a ≡ c1 → s.statements rules ts (ex d) (st d) SRBrace turns (t ▸ nil) c1 r ≡ read (t ▸ us) c (suc left)
        → opened rules ts (ex d) (st d) at room ≡ read (node 46 0 at (t ▸ us) nil nil nil c) c left
    unfolding opened choose next_is is build ◌>>=◌
    opened_some at a c1 c room r left t us e f g h = rw (e, f, g, h)

    -- A block, from its brace on.
    block_read : {t : Tree} → Block d t → (at c : ℕ) → Stood ts at (write t) c → Upto ts (opened rules ts (ex d) (st d)) at c t
    unfolding form look forms writes joined seen seens dressed dresseds inner deeps join
    block_read (a_block {m} {p} {us = nil} e f g) at c h =
        let (s0, (c1, k, (s1, end))) = formed ts 46 m p nil nil nil nil at c h in
        record {
          tree = node 46 0 at nil nil nil nil c1;
          last = c1;
          same = rw e;
          stops = end;
          on = s1.1;
          reads = λ room left q. let z : room ≡ suc left = omega arith in rw z (opened_none at c1 left k s1.0);
        }
    block_read (a_block {m} {p} {us = t ▸ us} e f g) at c h =
        let (s0, (c1, k, (s1, end))) = formed ts 46 m p (t ▸ us) nil nil nil at c h in
        let (c2, i, r) = cut ts (step ts at) c1 (write t) (joined (writes us)) k in
        let x = said_head ts t (fit_head f) (step ts at) c2 i in
        let ends : Ends (tok ts c1) = rw s1.0 rbrace_ends in
        let u = says t (step ts at) c2 (fit_head f) (omega arith) i (next_ends ts us c2 c1 (fit_tail f) r ends) in
        let in-range : how_many us < turns = omega (arith, many ts us c2 c1 (fit_tail f) r, inside ts SRBrace c1 s1.0 refl) in
        let v = run d d SRBrace says rbrace_ends refl us (u.tree ▸ nil) turns c2 c1 r s1.0 (fit_tail f) (omega arith) in-range in
        record {
          tree = node 46 0 at (u.tree ▸ v.trees) nil nil nil c1;
          last = c1;
          same = rw (u.same, v.same, e);
          stops = end;
          on = s1.1;
          reads = λ room left q.
              opened_some at u.last c2 c1 room (sizes us + suc left) left u.tree v.trees (differs opens (tok ts (step ts at)) SRBrace x refl)
              (u.reads room (sizes us + suc left) (omega arith)) u.stops (v.reads (sizes us + suc left) (suc left) refl);
        }

    body_read : (t : Tree) → Body d t → (at c : ℕ) → Stood ts at (joined (writes (t ▸ nil))) c → Upto ts (opened rules ts (ex d) (st d)) at c t
    unfolding writes
    body_read t x at c h = block_read (blocked d t x.ok x.low) at c (single ts at c t h)

    -- The block of an else, or of a finally, or none.
    else_read : {us : Trees} → Maybe d us → (last at c1 c : ℕ) → step ts last ≡ at → last < step ts last → Stood ts at (cond (empty_slot (writes us)) [] ((KElse, 0) ∷ [])) c1
        → Stood ts c1 (joined (writes us)) c → Ends (tok ts c) → Lot ts (else rules ts (ex d) (st d) last) nil c us
    unfolding writes joined empty_slot join seen seens dressed dresseds inner
    else_read without last at c1 c e f h g ends = record {
      trees = nil;
      last = last;
      same = refl;
      stops = e ∙ h ∙ g;
      on = f;
      reads = λ room left q. let z : left ≡ room = omega arith in rw z (arms.else_none rules ts (ex d) (st d) last c room (e ∙ h ∙ g) ends.no_else);
    }
    else_read (with_one {t} x) last at c1 c e f (h1, h2, h3) g ends =
        let u = body_read t x c1 c g in
        let brace : tok ts (step ts at) ≡ SLBrace = rw h3 (block_head ts t x.ok c1 c g) in
        record {
          trees = u.tree ▸ nil;
          last = u.last;
          same = rw u.same;
          stops = u.stops;
          on = u.on;
          reads = λ room left q. arms.else_some rules ts (ex d) (st d) last at u.last room left u.tree e h1 brace (rw h3 (u.reads room left (omega arith)));
        }

    finally_read : {us : Trees} → Maybe d us → (last at c1 c : ℕ) → step ts last ≡ at → last < step ts last → Stood ts at (cond (empty_slot (writes us)) [] ((KFinally, 0) ∷ [])) c1
        → Stood ts c1 (joined (writes us)) c → Ends (tok ts c) → Lot ts (finally rules ts (ex d) (st d) last) nil c us
    unfolding writes joined empty_slot join seen seens dressed dresseds inner
    finally_read without last at c1 c e f h g ends = record {
      trees = nil;
      last = last;
      same = refl;
      stops = e ∙ h ∙ g;
      on = f;
      reads = λ room left q. let z : left ≡ room = omega arith in rw z (arms.finally_none rules ts (ex d) (st d) last c room (e ∙ h ∙ g) ends.no_finally);
    }
    finally_read (with_one {t} x) last at c1 c e f (h1, h2, h3) g ends =
        let u = body_read t x c1 c g in
        let brace : tok ts (step ts at) ≡ SLBrace = rw h3 (block_head ts t x.ok c1 c g) in
        record {
          trees = u.tree ▸ nil;
          last = u.last;
          same = rw u.same;
          stops = u.stops;
          on = u.on;
          reads = λ room left q. arms.finally_some rules ts (ex d) (st d) last at u.last room left u.tree e h1 brace (rw h3 (u.reads room left (omega arith)));
        }

    -- The parameters of a function, or none.
    no_list : (at c room : ℕ) → step ts at ≡ c → tok ts c ≡ SRparen → list_expr rules ts (ex d) at room ≡ read nil at room
    unfolding list_expr choose next_is is
    no_list at c room e h = rw (e, h)

    parameters : (us : Trees) → AllFit expressions us → deeps us ≤ d → (at c : ℕ) → at < step ts at → Stood ts (step ts at) (separated SComma (writes us)) c → tok ts c ≡ SRparen
        → Lot ts (list_expr rules ts (ex d) at) nil c us
    unfolding writes join seen seens dressed dresseds inner
    parameters nil o l at c f h e =
        let there = empty_list ts SComma (step ts at) c h in
        record { trees = nil; last = at; same = refl; stops = there; on = f; reads = λ room left q. let z : left ≡ room = omega arith in rw z (no_list at c room there e) }
    parameters (t ▸ us) o l at c f h e =
        list_read ts rules short d at c SRparen t us (wholes rules ts short d Zero) o l h e (closes by_rparen) refl refl
        (differs starter (tok ts (step ts at)) SRparen (list_head ts SComma t us o (step ts at) c h) refl)

    kept_read : {t : Tree} → Kept d t → (at c : ℕ) → Stood ts at (write t) c → Ends (tok ts c) → Upto ts (kept rules ts (ex d) (st d)) at c t
    unfolding form look forms writes joined empty_slot seen seens dressed dresseds inner join
    kept_read (a_break {m} {p} e) at c h ends =
        let (s0, (s1, end)) = formed ts 32 m p nil nil nil nil at c h in
        record {
          tree = node 32 0 at nil nil nil nil (step ts at);
          last = step ts at;
          same = rw e;
          stops = end;
          on = s1.1;
          reads = λ room left q. let z : room ≡ suc left = omega arith in rw z (arms.break_arm rules ts (ex d) (st d) at left s0.0 s1.0);
        }
    kept_read (a_continue {m} {p} e) at c h ends =
        let (s0, (s1, end)) = formed ts 33 m p nil nil nil nil at c h in
        record {
          tree = node 33 0 at nil nil nil nil (step ts at);
          last = step ts at;
          same = rw e;
          stops = end;
          on = s1.1;
          reads = λ room left q. let z : room ≡ suc left = omega arith in rw z (arms.continue_arm rules ts (ex d) (st d) at left s0.0 s1.0);
        }
    kept_read (a_bare_var {m} {p} e) at c h ends =
        let (s0, (s1, (c1, x, (c2, y, (s2, end))))) = formed ts 34 m p nil nil nil nil at c h in
        let there : step ts (step ts at) ≡ c2 = x ∙ y in
        let semi : tok ts (step ts (step ts at)) ≡ SSemiColon = rw there s2.0 in
        record {
          tree = node 34 0 (step ts at) nil nil nil nil (step ts (step ts at));
          last = step ts (step ts at);
          same = rw e;
          stops = rw there end;
          on = rw there s2.1;
          reads = λ room left q. let z : room ≡ suc left = omega arith in rw z (arms.bare_var_arm rules ts (ex d) (st d) at left s0.0 s1.0 semi);
        }
    kept_read (a_var {m} {p} {t} e x) at c h ends =
        let (s0, (s1, (c1, (y1, y2, y3), (c2, g, (s2, end))))) = formed ts 34 m p (t ▸ nil) nil nil nil at c h in
        let u = onto d t c1 c2 x.ok x.low g s2.0 in
        record {
          tree = node 34 0 (step ts at) (u.tree ▸ nil) nil nil nil c2;
          last = c2;
          same = rw (u.same, e);
          stops = end;
          on = s2.1;
          reads = λ room left q. arms.var_arm rules ts (ex d) (st d) at room c2 left u.tree s0.0 s1.0 y1 (rw y3 (u.reads room (suc left) (omega arith)));
        }
    kept_read (a_const {m} {p} {t} e x) at c h ends =
        let (s0, (s1, (s2, (c2, g, (s3, end))))) = formed ts 35 m p (t ▸ nil) nil nil nil at c h in
        let u = onto d t (step ts (step ts (step ts at))) c2 x.ok x.low g s3.0 in
        record {
          tree = node 35 0 (step ts at) (u.tree ▸ nil) nil nil nil c2;
          last = c2;
          same = rw (u.same, e);
          stops = end;
          on = s3.1;
          reads = λ room left q. arms.const_arm rules ts (ex d) (st d) at room c2 left u.tree s0.0 s1.0 s2.0 (u.reads room (suc left) (omega arith));
        }
    kept_read (a_bare_return {m} {p} e) at c h ends =
        let (s0, (c1, x, (s1, end))) = formed ts 36 m p nil nil nil nil at c h in
        let there : step ts at ≡ c1 = x in
        let semi : tok ts (step ts at) ≡ SSemiColon = rw there s1.0 in
        record {
          tree = node 36 0 at nil nil nil nil (step ts at);
          last = step ts at;
          same = rw e;
          stops = rw there end;
          on = rw there s1.1;
          reads = λ room left q. let z : room ≡ suc left = omega arith in rw z (arms.bare_return_arm rules ts (ex d) (st d) at left s0.0 semi);
        }
    kept_read (a_return {m} {p} {t} e x) at c h ends =
        let (s0, (c1, g, (s1, end))) = formed ts 36 m p (t ▸ nil) nil nil nil at c h in
        let u = onto d t (step ts at) c1 x.ok x.low g s1.0 in
        record {
          tree = node 36 0 at (u.tree ▸ nil) nil nil nil c1;
          last = c1;
          same = rw (u.same, e);
          stops = end;
          on = s1.1;
          reads = λ room left q. arms.return_arm rules ts (ex d) (st d) at room c1 left u.tree s0.0 (one_head ts t x.ok (step ts at) c1 g) (u.reads room (suc left) (omega arith));
        }
    kept_read (a_throw {m} {p} {t} e x) at c h ends =
        let (s0, (c1, g, (s1, end))) = formed ts 37 m p (t ▸ nil) nil nil nil at c h in
        let u = onto d t (step ts at) c1 x.ok x.low g s1.0 in
        record {
          tree = node 37 0 at (u.tree ▸ nil) nil nil nil c1;
          last = c1;
          same = rw (u.same, e);
          stops = end;
          on = s1.1;
          reads = λ room left q. arms.throw_arm rules ts (ex d) (st d) at room c1 left u.tree s0.0 (one_head ts t x.ok (step ts at) c1 g) (u.reads room (suc left) (omega arith));
        }
    kept_read (an_expression {m} {p} {t} e x) at c h ends =
        let (c1, g, (s1, end)) = formed ts 38 m p (t ▸ nil) nil nil nil at c h in
        let u = onto d t at c1 x.ok x.low g s1.0 in
        record {
          tree = node 38 0 at (u.tree ▸ nil) nil nil nil c1;
          last = c1;
          same = rw (u.same, e);
          stops = end;
          on = s1.1;
          reads = λ room left q. arms.expression_arm rules ts (ex d) (st d) at room c1 left u.tree (one_head ts t x.ok at c1 g) (u.reads room (suc left) (omega arith));
        }
    kept_read (a_try {m} {p} {x} {y} {z} {w} e bx ey bz mw) at c h ends =
        let (s0, (c1, hx, (s1, (c2, hy, (c3, hz, (c4, hf, (c5, hw, end))))))) = formed ts 39 m p (x ▸ nil) (y ▸ nil) (z ▸ nil) w at c h in
        let brace = block_head ts z bz.ok c2 c3 hz in
        let ux = body_read x bx (step ts at) c1 hx in
        let uy = upto d y (step ts c1) c2 SLBrace ey hy brace (closes by_brace) in
        let uz = body_read z bz c2 c3 hz in
        let uw = finally_read mw uz.last c3 c4 c uz.stops uz.on hf (rw end at hw) ends in
        record {
          tree = node 39 0 at (ux.tree ▸ nil) (uy.tree ▸ nil) (uz.tree ▸ nil) uw.trees uw.last;
          last = uw.last;
          same = rw (ux.same, uy.same, uz.same, uw.same, e);
          stops = uw.stops;
          on = uw.on;
          reads = λ room left q.
              arms.try_arm rules ts (ex d) (st d) at room ux.last (size y + (size z + (sizes w + suc left))) c1 uy.last (size z + (sizes w + suc left)) c2 uz.last (sizes w + suc left)
              uw.last left ux.tree uy.tree uz.tree uw.trees s0.0 (block_head ts x bx.ok (step ts at) c1 hx) (ux.reads room _ (omega arith)) ux.stops s1.0
              (uy.reads _ _ refl) uy.stops brace (uz.reads _ _ refl) (uw.reads _ (suc left) refl);
        }
    kept_read (a_function {m} {p} {us} {t} e os ls bt) at c h ends =
        let (s0, (s1, (s2, (c1, hs, (s3, (c2, ht, end)))))) = formed ts 40 m p us (t ▸ nil) nil nil at c h in
        let us1 = parameters us os ls (step ts (step ts at)) c1 s2.1 hs s3.0 in
        let ut = body_read t bt (step ts c1) c2 ht in
        record {
          tree = node 40 0 (step ts at) us1.trees (ut.tree ▸ nil) nil nil ut.last;
          last = ut.last;
          same = rw (us1.same, ut.same, e);
          stops = ut.stops ∙ end;
          on = ut.on;
          reads = λ room left q.
              arms.function_arm rules ts (ex d) (st d) at room us1.last (size t + suc left) c1 ut.last left us1.trees ut.tree s0.0 s1.0 s2.0
              (us1.reads room _ (omega arith)) us1.stops s3.0 (block_head ts t bt.ok (step ts c1) c2 ht) (ut.reads _ _ refl);
        }
    kept_read (a_for {m} {p} {x} {y} {z} e ex1 ey bz) at c h ends =
        let (s0, (c1, hx, (s1, (c2, hy, (s2, (c3, hz, end)))))) = formed ts 41 m p (x ▸ nil) (y ▸ nil) (z ▸ nil) nil at c h in
        let ux = upto d x (step ts at) c1 KIn ex1 hx s1.0 (closes by_in) in
        let uy = upto d y (step ts c1) c2 SImpl ey hy s2.0 (closes by_arrow) in
        let uz = body_read z bz (step ts c2) c3 hz in
        record {
          tree = node 41 0 at (ux.tree ▸ nil) (uy.tree ▸ nil) (uz.tree ▸ nil) nil uz.last;
          last = uz.last;
          same = rw (ux.same, uy.same, uz.same, e);
          stops = uz.stops ∙ end;
          on = uz.on;
          reads = λ room left q.
              arms.for_arm rules ts (ex d) (st d) at room ux.last (size y + (size z + suc left)) c1 uy.last (size z + suc left) c2 uz.last left ux.tree uy.tree uz.tree s0.0
              (one_head ts x ex1.ok (step ts at) c1 hx) (ux.reads room _ (omega arith)) ux.stops s1.0 (uy.reads _ _ refl) uy.stops s2.0
              (block_head ts z bz.ok (step ts c2) c3 hz) (uz.reads _ _ refl);
        }
    kept_read (a_while {m} {p} {x} {y} e ex1 by) at c h ends =
        let (s0, (s1, (c1, hx, (s2, (c2, hy, end))))) = formed ts 42 m p (x ▸ nil) (y ▸ nil) nil nil at c h in
        let ux = upto d x (step ts (step ts at)) c1 SRparen ex1 hx s2.0 (closes by_rparen) in
        let uy = body_read y by (step ts c1) c2 hy in
        record {
          tree = node 42 0 at (ux.tree ▸ nil) (uy.tree ▸ nil) nil nil uy.last;
          last = uy.last;
          same = rw (ux.same, uy.same, e);
          stops = uy.stops ∙ end;
          on = uy.on;
          reads = λ room left q.
              arms.while_arm rules ts (ex d) (st d) at room ux.last (size y + suc left) c1 uy.last left ux.tree uy.tree s0.0 s1.0
              (ux.reads room _ (omega arith)) ux.stops s2.0 (block_head ts y by.ok (step ts c1) c2 hy) (uy.reads _ _ refl);
        }
    kept_read (an_assert {m} {p} {x} {y} e ex1 ey) at c h ends =
        let (s0, (c1, hx, (s1, (c2, hy, (s2, end))))) = formed ts 43 m p (x ▸ nil) (y ▸ nil) nil nil at c h in
        let ux = upto d x (step ts at) c1 SComma ex1 hx s1.0 (closes by_comma) in
        let uy = onto d y (step ts c1) c2 ey.ok ey.low hy s2.0 in
        record {
          tree = node 43 0 at (ux.tree ▸ nil) (uy.tree ▸ nil) nil nil c2;
          last = c2;
          same = rw (ux.same, uy.same, e);
          stops = end;
          on = s2.1;
          reads = λ room left q.
              arms.assert_arm rules ts (ex d) (st d) at room ux.last (size y + suc left) c1 c2 left ux.tree uy.tree s0.0 (one_head ts x ex1.ok (step ts at) c1 hx)
              (ux.reads room _ (omega arith)) ux.stops s1.0 (uy.reads _ _ refl);
        }
    kept_read (an_if {m} {p} {x} {y} {z} e ex1 by mz) at c h ends =
        let (s0, (s1, (c1, hx, (s2, (c2, hy, (c3, hf, (c4, hz, end))))))) = formed ts 44 m p (x ▸ nil) (y ▸ nil) z nil at c h in
        let ux = upto d x (step ts (step ts at)) c1 SRparen ex1 hx s2.0 (closes by_rparen) in
        let uy = body_read y by (step ts c1) c2 hy in
        let uz = else_read mz uy.last c2 c3 c uy.stops uy.on hf (rw end at hz) ends in
        record {
          tree = node 44 0 at (ux.tree ▸ nil) (uy.tree ▸ nil) uz.trees nil uz.last;
          last = uz.last;
          same = rw (ux.same, uy.same, uz.same, e);
          stops = uz.stops;
          on = uz.on;
          reads = λ room left q.
              arms.if_arm rules ts (ex d) (st d) at room ux.last (size y + (sizes z + suc left)) c1 uy.last (sizes z + suc left) uz.last left ux.tree uy.tree uz.trees s0.0 s1.0
              (ux.reads room _ (omega arith)) ux.stops s2.0 (block_head ts y by.ok (step ts c1) c2 hy) (uy.reads _ _ refl) (uz.reads _ (suc left) refl);
        }
    kept_read (a_foreach {m} {p} {x} {y} {z} {w} e ex1 ey ez bw) at c h ends =
        let (s0, (c1, hx, (s1, (c2, hy, (s2, (c3, hz, (s3, (c4, hw, end)))))))) = formed ts 45 m p (x ▸ nil) (y ▸ nil) (z ▸ nil) (w ▸ nil) at c h in
        let ux = upto d x (step ts at) c1 SComma ex1 hx s1.0 (closes by_comma) in
        let uy = upto d y (step ts c1) c2 SComma ey hy s2.0 (closes by_comma) in
        let uz = upto d z (step ts c2) c3 SImpl ez hz s3.0 (closes by_arrow) in
        let uw = body_read w bw (step ts c3) c4 hw in
        record {
          tree = node 45 0 at (ux.tree ▸ nil) (uy.tree ▸ nil) (uz.tree ▸ nil) (uw.tree ▸ nil) uw.last;
          last = uw.last;
          same = rw (ux.same, uy.same, uz.same, uw.same, e);
          stops = uw.stops ∙ end;
          on = uw.on;
          reads = λ room left q.
              arms.foreach_arm rules ts (ex d) (st d) at room ux.last (size y + (size z + (size w + suc left))) c1 uy.last (size z + (size w + suc left)) c2 uz.last (size w + suc left) c3
              uw.last left ux.tree uy.tree uz.tree uw.tree s0.0 (one_head ts x ex1.ok (step ts at) c1 hx) (ux.reads room _ (omega arith)) ux.stops s1.0
              (uy.reads _ _ refl) uy.stops s2.0 (uz.reads _ _ refl) uz.stops s3.0 (block_head ts w bw.ok (step ts c3) c4 hw) (uw.reads _ _ refl);
        }

    -- The statement, where one more is open.
    said : (at c : ℕ) (t : Tree) → opens (tok ts at) ≡ true → Upto ts (kept rules ts (ex d) (st d)) at c t → Said (suc d) at c t
    unfolding statement s.level choose is ◌>>=◌
    said at c t x u = record {
      tree = u.tree;
      last = u.last;
      same = u.same;
      stops = u.stops;
      on = u.on;
      reads = λ room left q. rw (differs opens (tok ts at) Empty x refl, u.reads room left q);
    }

  -- What is written of a statement is read back.
  pub says : (d : ℕ) → Says d
  says zero t at c o l h ends = absurd (omega (arith, one_open t o))
  says (suc d) t at c o l h ends = said d (says d) at c t (said_head ts t o at c h) (kept_read d (says d) (kept_of d t o l) at c h ends)
