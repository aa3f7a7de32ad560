-- The readers of statements and blocks, each under the name of the original's function.
use Rattle.std.specs.Prelude.{ℕ, zero, suc, not, List, [], ◌∷◌}
use Rattle.grammar.specs.Words.{Empty, Identifier, SLParen, SRparen, SSemiColon, SComma, SEq, SLBrace, SRBrace, SImpl, KIf, KElse, KWhile, KFor}
use Rattle.grammar.specs.Words.{KBreak, KContinue, KConst, KVar, KFunc, KReturn, KTry, KCatch, KFinally, KThrow, KForEach, KIn, KAssert, tok}
use Rattle.grammar.specs.Words.{step, is, next_is, Zero}
use Rattle.grammar.specs.Tree.{Tree, Trees, nil, ◌▸◌, join}
use Rattle.grammar.specs.Tree as tree
use Rattle.grammar.specs.Parsed.{refused, read, Reader, ◌>>=◌, ◌>>◌, need, build, choose, ◌⇒◌, match, turns, Unreached, TooDeep}
use Rattle.grammar.specs.Parsed.{InvalidSyntax, InvalidToken, InvalidIdentifier, AssertWithoutAction, AssertWithoutComma, FuncWithoutName}
use Rattle.grammar.specs.Parsed.{IfWithoutBody, ConstWithoutValue, ExpectedEq, TryWithoutCatch, BreakWithoutSemicolon, ContinueWithoutSemicolon}
use Rattle.grammar.specs.Parsed.{WrongSign}
use Rattle.grammar.specs.Rules.{Rules, fits}
use Rattle.grammar.specs.Expressions.{Rec, list_expr, expression}

module _ (rules : Rules) (ts : List ℕ) (expr : Rec) (stmt : Reader Trees) where
  -- Statements up to the word `close`: the loop of parse_block_statement, and of a whole script.
  unfoldable pub statements : (close : ℕ) → ℕ → Trees → Reader Trees
  statements close zero list at room = refused Unreached at
  statements close (suc n) list at room =
      choose (is ts at close) (λ _. read list at room) λ _.
      choose (is ts at SSemiColon) (λ _. statements close n list (step ts at) room) λ _. do
        (s, at, room) ← stmt at room
        statements close n (join list s) (step ts at) room

  -- parse_block_statement behind its opener, which may be any token.
  unfoldable pub opened : Reader Tree
  opened start room = choose (next_is ts start SRBrace) (λ _. build (tree.block start nil) (step ts start) room) λ _. do
    (s, at, room) ← stmt (step ts start) room
    (list, at, room) ← statements SRBrace turns s (step ts at) room
    build (tree.block start list) at room

  -- parse_block_statement, whose opener comes next.
  unfoldable pub block : Reader Tree
  block at room = opened (step ts at) room

  -- parse_assert_statement
  unfoldable pub assert : Reader Tree
  assert start room = do
    (target, at, room) ← expr Zero (step ts start) room
    need (not (next_is ts at SSemiColon)) AssertWithoutAction (step ts at)
    need (next_is ts at SComma) AssertWithoutComma at
    (fail, at, room) ← expr Zero (step ts (step ts at)) room
    build (tree.assert start target fail) at room

  -- parse_function_statement behind `func`, at the name.
  unfoldable pub function : Reader Tree
  function name room = do
    need (is ts name Identifier) FuncWithoutName name
    need (next_is ts name SLParen) InvalidSyntax name
    (parameters, at, room) ← list_expr rules ts expr (step ts name) room
    need (next_is ts at SRparen) InvalidSyntax at
    need (next_is ts (step ts at) SLBrace) InvalidSyntax (step ts at)
    (body, at, room) ← block (step ts at) room
    build (tree.function name parameters body) at room

  -- The end of parse_if_statement: the block of an else, or none.
  unfoldable pub else : Reader Trees
  else at room = choose (next_is ts at KElse)
      (λ _. do
        need (next_is ts (step ts at) SLBrace) InvalidSyntax (step ts at)
        (alternate, at, room) ← block (step ts at) room
        read (alternate ▸ nil) at room)
      (λ _. read nil at room)

  -- parse_if_statement
  unfoldable pub if : Reader Tree
  if start room = do
    need (next_is ts start SLParen) InvalidSyntax (step ts start)
    (condition, at, room) ← expr Zero (step ts (step ts start)) room
    need (next_is ts at SRparen) InvalidToken at
    need (next_is ts (step ts at) SLBrace) IfWithoutBody (step ts at)
    (main, at, room) ← block (step ts at) room
    (alternate, at, room) ← else at room
    build (tree.if start condition main alternate) at room

  -- The value of parse_var_or_const, for the row that `made` makes of it.
  unfoldable pub value : (Trees → Tree) → Reader Tree
  value made at room = do
    need (is ts at SEq) ExpectedEq at
    (t, at, room) ← expr Zero (step ts at) room
    build (made (t ▸ nil)) at room

  -- parse_var_or_const for var, at the name.
  unfoldable pub var : Reader Tree
  var name room = do
    need (is ts name Identifier) InvalidIdentifier name
    choose (next_is ts name SSemiColon) (λ _. build (tree.var name nil) (step ts name) room) (λ _. value (tree.var name) (step ts name) room)

  -- parse_var_or_const for const, at the name.
  unfoldable pub const : Reader Tree
  const name room = do
    need (is ts name Identifier) InvalidIdentifier name
    need (not (next_is ts name SSemiColon)) ConstWithoutValue (step ts name)
    value (tree.const name) (step ts name) room

  -- parse_while_statement
  unfoldable pub while : Reader Tree
  while start room = do
    need (next_is ts start SLParen) InvalidSyntax start
    (target, at, room) ← expr Zero (step ts (step ts start)) room
    need (next_is ts at SRparen) InvalidSyntax at
    need (fits rules ts (step ts at) SLBrace) WrongSign (step ts at)
    (body, at, room) ← block (step ts at) room
    build (tree.while start target body) at room

  -- parse_return_statement
  unfoldable pub return : Reader Tree
  return start room = choose (next_is ts start SSemiColon) (λ _. build (tree.return start nil) (step ts start) room) λ _. do
    (t, at, room) ← expr Zero (step ts start) room
    build (tree.return start (t ▸ nil)) at room

  -- parse_for_each_statement
  unfoldable pub foreach : Reader Tree
  foreach start room = do
    (iter, at, room) ← expr Zero (step ts start) room
    need (next_is ts at SComma) InvalidSyntax at
    (i, at, room) ← expr Zero (step ts (step ts at)) room
    need (next_is ts at SComma) InvalidSyntax at
    (element, at, room) ← expr Zero (step ts (step ts at)) room
    need (next_is ts at SImpl) InvalidSyntax at
    need (fits rules ts (step ts at) SLBrace) WrongSign (step ts at)
    (body, at, room) ← block (step ts at) room
    build (tree.foreach start iter i element body) at room

  -- parse_for_loop_statement
  unfoldable pub for : Reader Tree
  for start room = do
    (target, at, room) ← expr Zero (step ts start) room
    need (next_is ts at KIn) InvalidSyntax at
    (iter, at, room) ← expr Zero (step ts (step ts at)) room
    need (next_is ts at SImpl) InvalidSyntax at
    need (next_is ts (step ts at) SLBrace) InvalidSyntax (step ts at)
    (body, at, room) ← block (step ts at) room
    build (tree.for start target iter body) at room

  -- parse_throw_statement
  unfoldable pub throw : Reader Tree
  throw start room = do
    (t, at, room) ← expr Zero (step ts start) room
    build (tree.throw start t) at room

  -- The end of parse_try_statement: the block of a finally, or none.
  unfoldable pub finally : Reader Trees
  finally at room = choose (next_is ts at KFinally)
      (λ _. do
        need (fits rules ts (step ts at) SLBrace) WrongSign (step ts at)
        (final, at, room) ← block (step ts at) room
        read (final ▸ nil) at room)
      (λ _. read nil at room)

  -- parse_try_statement
  unfoldable pub try : Reader Tree
  try start room = do
    need (next_is ts start SLBrace) InvalidSyntax start
    (body, at, room) ← block start room
    need (next_is ts at KCatch) TryWithoutCatch at
    (exception, at, room) ← expr Zero (step ts (step ts at)) room
    need (next_is ts at SLBrace) InvalidSyntax at
    (catch, at, room) ← block at room
    (final, at, room) ← finally at room
    build (tree.try start body exception catch final) at room

  -- parse_expression_statement
  unfoldable pub expression_statement : Reader Tree
  expression_statement start room = do
    (t, at, room) ← expr Zero start room
    build (tree.expression_statement start t) at room

  -- A statement of one row that ends in a semicolon, or else the refusal.
  unfoldable pub alone : (ℕ → Tree) → (number : ℕ) → Reader Tree
  alone made number start room = do
    need (next_is ts start SSemiColon) number start
    build (made start) (step ts start) room

  -- A statement that may not end at once: what comes first in most arms of parse_statement.
  unfoldable pub begun : Reader Tree → Reader Tree
  begun reader start room = do
    need (not (next_is ts start SSemiColon)) InvalidSyntax (step ts start)
    reader start room

  -- The match of parse_statement, but for an Empty token.
  unfoldable pub kept : Reader Tree
  kept start room = match (tok ts start)
      (KBreak ⇒ alone tree.break BreakWithoutSemicolon
      ∷ KContinue ⇒ alone tree.continue ContinueWithoutSemicolon
      ∷ KVar ⇒ begun (λ at. var (step ts at))
      ∷ KConst ⇒ begun (λ at. const (step ts at))
      ∷ KIf ⇒ begun if
      ∷ KAssert ⇒ begun assert
      ∷ KWhile ⇒ begun while
      ∷ KReturn ⇒ return
      ∷ KFunc ⇒ begun (λ at. function (step ts at))
      ∷ KFor ⇒ begun for
      ∷ KThrow ⇒ begun throw
      ∷ KTry ⇒ begun try
      ∷ KForEach ⇒ begun foreach
      ∷ []) expression_statement start room

  -- parse_statement, with `expr` and `stmt` for what is in it: an Empty token gives no tree, any other statement one.
  unfoldable pub level : Reader Trees
  level start room = choose (is ts start Empty) (λ _. read nil start room) λ _. do
    (t, at, room) ← kept start room
    read (t ▸ nil) at room

-- parse_statement, where `d` more expressions and statements may be open.
unfoldable pub statement : Rules → List ℕ → (d : ℕ) → Reader Trees
statement rules ts zero at room = refused TooDeep at
statement rules ts (suc d) at room = level rules ts (expression rules ts d) (statement rules ts d) at room
