-- The readers of statements, each step given.
use Prim.Native.Nat.{ℕ, suc}
use mathlib.Core.Path.{◌≡◌, refl}
use mathlib.Core.Bool.{true, false, not}
use mathlib.Core.List.{List}
use lib.Dec.{eqb}
use Rattle.grammar.specs.Words.{Identifier, SLParen, SRparen, SSemiColon, SComma, SEq, SLBrace, SImpl, KIf, KElse, KWhile, KFor, KBreak, KContinue, KConst, KVar}
use Rattle.grammar.specs.Words.{KFunc, KReturn, KTry, KCatch, KFinally, KThrow, KForEach, KIn, KAssert, tok, step, is, next_is, Zero}
use Rattle.grammar.specs.Tree.{Tree, node, Trees, nil, ◌▸◌}
use Rattle.grammar.specs.Parsed.{Parsed, read, Reader, ◌>>=◌, ◌>>◌, need, build, choose, match}
use Rattle.grammar.specs.Rules.{Rules, fits}
use Rattle.grammar.specs.Expressions.{Rec, list_expr}
use Rattle.grammar.specs.Statements.{opened, block, assert, value, var, const, return, throw, expression_statement, alone, function, else, if, while, foreach, for, finally, try, begun, kept}
use Rattle.written.proofs.Signs.{starter, differs, or_last}

module _ (rules : Rules) (ts : List ℕ) (expr : Rec) (stmt : Reader Trees) where
  abbrev kept_at : ℕ → ℕ → Parsed Tree
  kept_at at room = kept rules ts expr stmt at room

  pub break_arm : (at left : ℕ) → tok ts at ≡ KBreak → tok ts (step ts at) ≡ SSemiColon
      → kept_at at (suc left) ≡ read (node 32 0 at nil nil nil nil (step ts at)) (step ts at) left
  unfolding kept match choose alone need ◌>>◌ build next_is is
  break_arm at left e f = rw (e, f)

  pub continue_arm : (at left : ℕ) → tok ts at ≡ KContinue → tok ts (step ts at) ≡ SSemiColon
      → kept_at at (suc left) ≡ read (node 33 0 at nil nil nil nil (step ts at)) (step ts at) left
  unfolding kept match choose alone need ◌>>◌ build next_is is
  continue_arm at left e f = rw (e, f)

  pub bare_var_arm : (at left : ℕ) → tok ts at ≡ KVar → tok ts (step ts at) ≡ Identifier → tok ts (step ts (step ts at)) ≡ SSemiColon
      → kept_at at (suc left) ≡ read (node 34 0 (step ts at) nil nil nil nil (step ts (step ts at))) (step ts (step ts at)) left
  unfolding kept match choose begun var need ◌>>◌ build next_is is
  bare_var_arm at left e f g = rw (e, f, g)

  pub var_arm : (at room c left : ℕ) (t : Tree) → tok ts at ≡ KVar → tok ts (step ts at) ≡ Identifier → tok ts (step ts (step ts at)) ≡ SEq
      → expr Zero (step ts (step ts (step ts at))) room ≡ read t c (suc left) → kept_at at room ≡ read (node 34 0 (step ts at) (t ▸ nil) nil nil nil c) c left
  unfolding kept match choose begun var value need ◌>>◌ ◌>>=◌ build next_is is
  var_arm at room c left t e f g h = rw (e, f, g, h)

  pub const_arm : (at room c left : ℕ) (t : Tree) → tok ts at ≡ KConst → tok ts (step ts at) ≡ Identifier → tok ts (step ts (step ts at)) ≡ SEq
      → expr Zero (step ts (step ts (step ts at))) room ≡ read t c (suc left) → kept_at at room ≡ read (node 35 0 (step ts at) (t ▸ nil) nil nil nil c) c left
  unfolding kept match choose begun const value need ◌>>◌ ◌>>=◌ build next_is is
  const_arm at room c left t e f g h = rw (e, f, g, h)

  pub bare_return_arm : (at left : ℕ) → tok ts at ≡ KReturn → tok ts (step ts at) ≡ SSemiColon
      → kept_at at (suc left) ≡ read (node 36 0 at nil nil nil nil (step ts at)) (step ts at) left
  unfolding kept match choose return build next_is is
  bare_return_arm at left e f = rw (e, f)

  pub return_arm : (at room c left : ℕ) (t : Tree) → tok ts at ≡ KReturn → starter (tok ts (step ts at)) ≡ true
      → expr Zero (step ts at) room ≡ read t c (suc left) → kept_at at room ≡ read (node 36 0 at (t ▸ nil) nil nil nil c) c left
  unfolding kept match choose return ◌>>=◌ build next_is is
  return_arm at room c left t e f h = rw (e, differs starter (tok ts (step ts at)) SSemiColon f refl, h)

  pub throw_arm : (at room c left : ℕ) (t : Tree) → tok ts at ≡ KThrow → starter (tok ts (step ts at)) ≡ true
      → expr Zero (step ts at) room ≡ read t c (suc left) → kept_at at room ≡ read (node 37 0 at (t ▸ nil) nil nil nil c) c left
  unfolding kept match choose begun throw need ◌>>◌ ◌>>=◌ build next_is is
  throw_arm at room c left t e f h = rw (e, differs starter (tok ts (step ts at)) SSemiColon f refl, h)

  pub expression_arm : (at room c left : ℕ) (t : Tree) → starter (tok ts at) ≡ true
      → expr Zero at room ≡ read t c (suc left) → kept_at at room ≡ read (node 38 0 at (t ▸ nil) nil nil nil c) c left
  unfolding kept match choose expression_statement ◌>>=◌ build
  expression_arm at room c left t f h =
      let w = tok ts at in
      rw (
        differs starter w KBreak f refl,
        differs starter w KContinue f refl,
        differs starter w KVar f refl,
        differs starter w KConst f refl,
        differs starter w KIf f refl,
        differs starter w KAssert f refl,
        differs starter w KWhile f refl,
        differs starter w KReturn f refl,
        differs starter w KFunc f refl,
        differs starter w KFor f refl,
        differs starter w KThrow f refl,
        differs starter w KTry f refl,
        differs starter w KForEach f refl,
        h,
      )

  pub assert_arm : (at room a1 r1 c1 a2 left : ℕ) (x y : Tree) → tok ts at ≡ KAssert → starter (tok ts (step ts at)) ≡ true
      → expr Zero (step ts at) room ≡ read x a1 r1 → step ts a1 ≡ c1 → tok ts c1 ≡ SComma → expr Zero (step ts c1) r1 ≡ read y a2 (suc left)
      → kept_at at room ≡ read (node 43 0 at (x ▸ nil) (y ▸ nil) nil nil a2) a2 left
  unfolding kept match choose begun assert need ◌>>◌ ◌>>=◌ build next_is is
  assert_arm at room a1 r1 c1 a2 left x y e f h s k g = rw (e, differs starter (tok ts (step ts at)) SSemiColon f refl, h, s, k, g)

  -- The blocks that may follow.
  pub else_none : (at c room : ℕ) → step ts at ≡ c → eqb (tok ts c) KElse ≡ false → else rules ts expr stmt at room ≡ read nil at room
  unfolding else choose next_is is
  else_none at c room s e = rw (s, e)

  pub else_some : (at c a room left : ℕ) (t : Tree) → step ts at ≡ c → tok ts c ≡ KElse → tok ts (step ts c) ≡ SLBrace → opened rules ts expr stmt (step ts c) room ≡ read t a left
      → else rules ts expr stmt at room ≡ read (t ▸ nil) a left
  unfolding else choose next_is is need ◌>>◌ ◌>>=◌ block
  else_some at c a room left t s e k h = rw (s, e, k, h)

  pub finally_none : (at c room : ℕ) → step ts at ≡ c → eqb (tok ts c) KFinally ≡ false → finally rules ts expr stmt at room ≡ read nil at room
  unfolding finally choose next_is is
  finally_none at c room s e = rw (s, e)

  pub finally_some : (at c a room left : ℕ) (t : Tree) → step ts at ≡ c → tok ts c ≡ KFinally → tok ts (step ts c) ≡ SLBrace → opened rules ts expr stmt (step ts c) room ≡ read t a left
      → finally rules ts expr stmt at room ≡ read (t ▸ nil) a left
  unfolding finally choose next_is is need ◌>>◌ ◌>>=◌ block fits
  finally_some at c a room left t s e k h = rw (s, e, k, or_last (not rules.strict), h)

  pub if_arm : (at room a1 r1 c1 a2 r2 a3 left : ℕ) (x y : Tree) (z : Trees) → tok ts at ≡ KIf → tok ts (step ts at) ≡ SLParen
      → expr Zero (step ts (step ts at)) room ≡ read x a1 r1 → step ts a1 ≡ c1 → tok ts c1 ≡ SRparen → tok ts (step ts c1) ≡ SLBrace
      → opened rules ts expr stmt (step ts c1) r1 ≡ read y a2 r2 → else rules ts expr stmt a2 r2 ≡ read z a3 (suc left)
      → kept_at at room ≡ read (node 44 0 at (x ▸ nil) (y ▸ nil) z nil a3) a3 left
  unfolding kept match choose begun if need ◌>>◌ ◌>>=◌ build next_is is block
  if_arm at room a1 r1 c1 a2 r2 a3 left x y z e f h s k l g i = rw (e, f, h, s, k, l, g, i)

  pub while_arm : (at room a1 r1 c1 a2 left : ℕ) (x y : Tree) → tok ts at ≡ KWhile → tok ts (step ts at) ≡ SLParen
      → expr Zero (step ts (step ts at)) room ≡ read x a1 r1 → step ts a1 ≡ c1 → tok ts c1 ≡ SRparen → tok ts (step ts c1) ≡ SLBrace
      → opened rules ts expr stmt (step ts c1) r1 ≡ read y a2 (suc left)
      → kept_at at room ≡ read (node 42 0 at (x ▸ nil) (y ▸ nil) nil nil a2) a2 left
  unfolding kept match choose begun while need ◌>>◌ ◌>>=◌ build next_is is block fits
  while_arm at room a1 r1 c1 a2 left x y e f h s k l g = rw (e, f, h, s, k, l, or_last (not rules.strict), g)

  pub foreach_arm : (at room a1 r1 c1 a2 r2 c2 a3 r3 c3 a4 left : ℕ) (x y z w : Tree) → tok ts at ≡ KForEach → starter (tok ts (step ts at)) ≡ true
      → expr Zero (step ts at) room ≡ read x a1 r1 → step ts a1 ≡ c1 → tok ts c1 ≡ SComma
      → expr Zero (step ts c1) r1 ≡ read y a2 r2 → step ts a2 ≡ c2 → tok ts c2 ≡ SComma
      → expr Zero (step ts c2) r2 ≡ read z a3 r3 → step ts a3 ≡ c3 → tok ts c3 ≡ SImpl → tok ts (step ts c3) ≡ SLBrace
      → opened rules ts expr stmt (step ts c3) r3 ≡ read w a4 (suc left)
      → kept_at at room ≡ read (node 45 0 at (x ▸ nil) (y ▸ nil) (z ▸ nil) (w ▸ nil) a4) a4 left
  unfolding kept match choose begun foreach need ◌>>◌ ◌>>=◌ build next_is is block fits
  foreach_arm at room a1 r1 c1 a2 r2 c2 a3 r3 c3 a4 left x y z w e f h s k h2 s2 k2 h3 s3 k3 l g =
      rw (e, differs starter (tok ts (step ts at)) SSemiColon f refl, h, s, k, h2, s2, k2, h3, s3, k3, l, or_last (not rules.strict), g)

  pub for_arm : (at room a1 r1 c1 a2 r2 c2 a3 left : ℕ) (x y z : Tree) → tok ts at ≡ KFor → starter (tok ts (step ts at)) ≡ true
      → expr Zero (step ts at) room ≡ read x a1 r1 → step ts a1 ≡ c1 → tok ts c1 ≡ KIn
      → expr Zero (step ts c1) r1 ≡ read y a2 r2 → step ts a2 ≡ c2 → tok ts c2 ≡ SImpl → tok ts (step ts c2) ≡ SLBrace
      → opened rules ts expr stmt (step ts c2) r2 ≡ read z a3 (suc left)
      → kept_at at room ≡ read (node 41 0 at (x ▸ nil) (y ▸ nil) (z ▸ nil) nil a3) a3 left
  unfolding kept match choose begun for need ◌>>◌ ◌>>=◌ build next_is is block
  for_arm at room a1 r1 c1 a2 r2 c2 a3 left x y z e f h s k h2 s2 k2 l g =
      rw (e, differs starter (tok ts (step ts at)) SSemiColon f refl, h, s, k, h2, s2, k2, l, g)

  pub function_arm : (at room a1 r1 c1 a2 left : ℕ) (xs : Trees) (y : Tree) → tok ts at ≡ KFunc → tok ts (step ts at) ≡ Identifier → tok ts (step ts (step ts at)) ≡ SLParen
      → list_expr rules ts expr (step ts (step ts at)) room ≡ read xs a1 r1 → step ts a1 ≡ c1 → tok ts c1 ≡ SRparen → tok ts (step ts c1) ≡ SLBrace
      → opened rules ts expr stmt (step ts c1) r1 ≡ read y a2 (suc left)
      → kept_at at room ≡ read (node 40 0 (step ts at) xs (y ▸ nil) nil nil a2) a2 left
  unfolding kept match choose begun function need ◌>>◌ ◌>>=◌ build next_is is block
  function_arm at room a1 r1 c1 a2 left xs y e f f2 h s k l g = rw (e, f, f2, h, s, k, l, g)

  pub try_arm : (at room a1 r1 c1 a2 r2 c2 a3 r3 a4 left : ℕ) (x y z : Tree) (w : Trees) → tok ts at ≡ KTry → tok ts (step ts at) ≡ SLBrace
      → opened rules ts expr stmt (step ts at) room ≡ read x a1 r1 → step ts a1 ≡ c1 → tok ts c1 ≡ KCatch
      → expr Zero (step ts c1) r1 ≡ read y a2 r2 → step ts a2 ≡ c2 → tok ts c2 ≡ SLBrace
      → opened rules ts expr stmt c2 r2 ≡ read z a3 r3 → finally rules ts expr stmt a3 r3 ≡ read w a4 (suc left)
      → kept_at at room ≡ read (node 39 0 at (x ▸ nil) (y ▸ nil) (z ▸ nil) w a4) a4 left
  unfolding kept match choose begun try need ◌>>◌ ◌>>=◌ build next_is is block
  try_arm at room a1 r1 c1 a2 r2 c2 a3 r3 a4 left x y z w e f h s k h2 s2 k2 g i = rw (e, f, h, s, k, h2, s2, k2, g, i)
