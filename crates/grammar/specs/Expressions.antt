-- The readers of expressions, each under the name of the original's function.
use Rattle.std.specs.Prelude.{ℕ, zero, suc, ◌-◌, not, List, [], ◌∷◌, eqb}
use Rattle.grammar.specs.Words.{Operator, Keyword, Integer, Str, Float, Char, Identifier, SLParen, SRparen, SSemiColon, SComma, SExcl, SLBrace}
use Rattle.grammar.specs.Words.{SRBrace, SNeg, SIncr, SDecr, SLBox, SRBox, SImpl, SColon, SDot, SDollar, KNone, KTrue, KFalse, KLambda, KThread}
use Rattle.grammar.specs.Words.{KAsync, tok, step, is, next_is, class, Zero, order, infix_of, goes_on}
use Rattle.grammar.specs.Tree.{Tree, infixed, Trees, nil, ◌▸◌, join, flagged, Thread, Async, Grouped, is_call}
use Rattle.grammar.specs.Tree as tree
use Rattle.grammar.specs.Parsed.{refused, read, Reader, ◌>>=◌, ◌>>◌, need, build, choose, ◌⇒◌, match, turns, Unreached, TooDeep}
use Rattle.grammar.specs.Parsed.{InvalidSyntax, InvalidToken, InvalidSymbol, NotImplemented, InvalidIdentifier, ExpectedColon, NoParameters}
use Rattle.grammar.specs.Parsed.{ExpectedArrow, HashNotTerminated, ArrayNotTerminated, NotCallable, WrongSign}
use Rattle.grammar.specs.Rules.{Rules, fits}

-- The reader of an expression above an order.
abbrev pub Rec : Type 0
Rec = ℕ → Reader Tree

module _ (ts : List ℕ) where
  -- get_identifier, whose row is `made`.
  unfoldable pub get_identifier : (ℕ → Tree) → Reader Tree
  get_identifier made at room = do
    need (is ts at Identifier) InvalidIdentifier at
    build (made at) at room

  -- The loop of parse_dot_expression: the names behind dots.
  unfoldable pub dots : ℕ → Trees → Reader Trees
  dots zero names at room = refused Unreached at
  dots (suc n) names at room = choose (next_is ts at SDot)
      (λ _. do
        (t, at, room) ← get_identifier tree.name (step ts (step ts at)) room
        dots n (join names (t ▸ nil)) at room)
      (λ _. read names at room)

  -- parse_dot_expression
  unfoldable pub dot_expression : Reader Tree
  dot_expression start room = do
    (parent, at, room) ← get_identifier tree.identifier start room
    choose (next_is ts at SDot)
        (λ _. do
          (names, at, room) ← dots turns nil at room
          build (tree.attribute start parent names) at room)
        (λ _. read parent at room)

  -- What matches no arm of parse_expression.
  unfoldable pub no_prefix : Reader Tree
  no_prefix at room =
      choose (eqb (class (tok ts at)) Keyword) (λ _. refused NotImplemented at) λ _.
      choose (eqb (class (tok ts at)) Operator) (λ _. refused InvalidSymbol at) λ _.
      refused InvalidToken at

module _ (rules : Rules) (ts : List ℕ) where
  module _ (rec : Rec) where
    -- The entries of a list behind the first, each behind a comma: the loops of parse_list_expr and parse_hash_literal.
    unfoldable pub entries : Reader Tree → ℕ → Trees → Reader Trees
    entries entry zero list at room = refused Unreached at
    entries entry (suc n) list at room = choose (next_is ts at SComma)
        (λ _. do
          (t, at, room) ← entry (step ts (step ts at)) room
          entries entry n (join list (t ▸ nil)) at room)
        (λ _. read list at room)

    -- parse_list_expr
    unfoldable pub list_expr : Reader Trees
    list_expr at room = choose (next_is ts at SRparen) (λ _. read nil at room) λ _. do
      (t, at, room) ← rec Zero (step ts at) room
      entries (rec Zero) turns (t ▸ nil) at room

    -- parse_pair
    unfoldable pub pair : Reader Tree
    pair at room = do
      (key, at, room) ← rec Zero at room
      need (next_is ts at SColon) ExpectedColon at
      (value, end, room) ← rec Zero (step ts (step ts at)) room
      build (tree.pair (step ts at) key value) end room

    -- parse_hash_literal
    unfoldable pub hash_literal : Reader Tree
    hash_literal start room = choose (next_is ts start SRBrace) (λ _. build (tree.hash start nil) (step ts start) room) λ _. do
      (t, at, room) ← pair (step ts start) room
      (pairs, at, room) ← entries pair turns (t ▸ nil) at room
      need (next_is ts at SRBrace) HashNotTerminated at
      build (tree.hash start pairs) (step ts at) room

    -- parse_array_expression
    unfoldable pub array : Reader Tree
    array start room = choose (next_is ts start SRBox) (λ _. build (tree.array start nil) (step ts start) room) λ _. do
      (values, at, room) ← list_expr start room
      need (next_is ts at SRBox) ArrayNotTerminated at
      build (tree.array start values) (step ts at) room

    -- parse_lambda_exp
    unfoldable pub lambda : Reader Tree
    lambda start room = do
      need (not (next_is ts start SSemiColon)) InvalidSyntax start
      need (not (next_is ts start SImpl)) NoParameters start
      (parameters, at, room) ← list_expr start room
      need (next_is ts at SImpl) ExpectedArrow at
      (body, at, room) ← rec Zero (step ts (step ts at)) room
      build (tree.lambda start parameters body) at room

    -- parse_thread_exp and parse_async_expr, by the flag that they set.
    unfoldable pub started : ℕ → Reader Tree
    started flag start room = do
      (t, at, room) ← rec Zero (step ts start) room
      need (is_call t) NotCallable at
      read (flagged flag t) at room

    -- parse_prefix_expression, by the mark of its operator.
    unfoldable pub prefix : ℕ → Reader Tree
    prefix mark start room = do
      (t, at, room) ← rec Zero (step ts start) room
      build (tree.prefix mark start t) at room

    -- parse_sub_expression
    unfoldable pub sub_expression : Reader Tree
    sub_expression start room = do
      need (not (next_is ts (step ts start) SRparen)) InvalidSyntax (step ts start)
      (t, at, room) ← rec Zero (step ts start) room
      need (next_is ts at SRparen) InvalidSyntax at
      read (flagged Grouped t) (step ts at) room

    -- The command of parse_shell_expression, raw (1) or not (0), for the sign at `start`.
    unfoldable pub command : (raw start : ℕ) → Reader Tree
    command raw start at room = do
      (t, at, room) ← rec Zero at room
      build (tree.shell raw start t) at room

    -- parse_shell_expression
    unfoldable pub shell : Reader Tree
    shell start room = choose (next_is ts start SDot)
        (λ _. command 1 start (step ts (step ts start)) room)
        (λ _. command 0 start (step ts start) room)

    -- The match at the head of parse_expression.
    unfoldable pub prefix_part : Reader Tree
    prefix_part start room = match (tok ts start)
        (Identifier ⇒ dot_expression ts
        ∷ Integer ⇒ (λ at. build (tree.int at) at)
        ∷ Float ⇒ (λ at. build (tree.float at) at)
        ∷ Char ⇒ (λ at. build (tree.char at) at)
        ∷ Str ⇒ (λ at. build (tree.string at) at)
        ∷ KTrue ⇒ (λ at. build (tree.bool 1 at) at)
        ∷ KFalse ⇒ (λ at. build (tree.bool 0 at) at)
        ∷ KLambda ⇒ lambda
        ∷ KNone ⇒ (λ at. build (tree.none at) at)
        ∷ KThread ⇒ started Thread
        ∷ KAsync ⇒ started Async
        ∷ SLBox ⇒ array
        ∷ SLBrace ⇒ hash_literal
        ∷ SIncr ⇒ prefix 0
        ∷ SDecr ⇒ prefix 1
        ∷ SExcl ⇒ prefix 2
        ∷ SNeg ⇒ prefix 3
        ∷ SLParen ⇒ sub_expression
        ∷ SDollar ⇒ shell
        ∷ []) (no_prefix ts) start room

    -- parse_infix_expression, behind `left`.
    unfoldable pub infix_expression : Tree → Reader Tree
    infix_expression left start room = do
      (right, at, room) ← rec (order (tok ts start)) (step ts start) room
      build (infixed (infix_of (tok ts start) - 1) start left right 0) at room

    -- parse_suffix_expression, behind `left`, by the mark of its operator.
    unfoldable pub suffix_expression : Tree → ℕ → Reader Tree
    suffix_expression left mark start room = build (tree.suffix mark start left) start room

    -- parse_call_expression, behind `caller`: with arguments any token closes it, unless the rules ask for the right one.
    unfoldable pub call : Tree → Reader Tree
    call caller start room = choose (next_is ts start SRparen) (λ _. build (tree.call start caller nil) (step ts start) room) λ _. do
      (arguments, at, room) ← list_expr start room
      need (fits rules ts at SRparen) WrongSign at
      build (tree.call start caller arguments) (step ts at) room

    -- parse_index_expression, behind `left`.
    unfoldable pub index : Tree → Reader Tree
    index left start room = do
      (i, at, room) ← rec Zero (step ts start) room
      need (next_is ts at SRBox) InvalidSyntax at
      build (tree.index start left i) (step ts at) room

    -- What an operator does behind `left`: the branches in the loop of parse_expression.
    unfoldable pub operation : Tree → Reader Tree
    operation left start room = match (tok ts start)
        (SIncr ⇒ suffix_expression left 0
        ∷ SDecr ⇒ suffix_expression left 1
        ∷ SLParen ⇒ call left
        ∷ SLBox ⇒ index left
        ∷ []) (infix_expression left) start room

    -- The loop of parse_expression, above the order `pre` and behind `left`.
    unfoldable pub climb : (pre : ℕ) → ℕ → Tree → Reader Tree
    climb pre zero left at room = refused Unreached at
    climb pre (suc n) left at room = choose (goes_on pre (tok ts (step ts at)))
        (λ _. do
          (t, at, room) ← operation left (step ts at) room
          climb pre n t at room)
        (λ _. read left at room)

    -- parse_expression, with `rec` for the expressions in it.
    unfoldable pub level : Rec
    level pre at room = do
      (t, at, room) ← prefix_part at room
      choose (next_is ts at SSemiColon) (λ _. read t (step ts at) room) (λ _. climb pre turns t at room)

  -- parse_expression, where `d` more expressions and statements may be open.
  unfoldable pub expression : (d : ℕ) → Rec
  expression zero pre at room = refused TooDeep at
  expression (suc d) pre at room = level (expression d) pre at room
