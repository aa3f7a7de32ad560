-- The contracts of the readers, by what stands in their part when they begin.
use Rattle.std.specs.Prelude.{ℕ, ◌+◌, ◌/◌, ◌≡◌, Bool, true, false, not, ◌||◌, List, [], ◌∷◌, ◌++◌, length, eqb, Ok, Err}
use Rattle.grammar.specs.Words.{EOF, Identifier, SLBrace, SSemiColon, KIf, KWhile, KFor, KConst, KVar, KFunc, KTry, KThrow, KForEach, KAssert, Zero, tok, step, is, next_is}
use Rattle.grammar.specs.Tree.{Tree, node, Trees, nil, ◌▸◌, size, head_ref, width}
use Rattle.grammar.specs.Parsed.{read, Reader, ◌>>=◌, ◌>>◌, need, choose, build, turns, InvalidIdentifier, ConstWithoutValue}
use Rattle.grammar.specs.Rules.{Rules}
use Rattle.grammar.specs.Expressions.{Rec, entries, list_expr, pair}
use Rattle.grammar.specs.Statements.{value}
use Rattle.modes.specs.declared.Due.{Due}
use Rattle.modes.specs.Modes.{comes}
use Rattle.answer.specs.Answer.{Read}
use Rattle.reader.specs.Meets.{Stands, Meets, one, many, Ending, Bounded, after}

-- Nothing: the reader has the whole part.
abbrev pub Fresh : {A : Type 0} (slot : A → Trees) (reader : Reader A) (ts : List ℕ) (at first : ℕ) (r : Read) (xs ys : List ℕ) → Type 0
Fresh slot reader ts at first r xs ys = Meets slot ts at (reader at (length xs / width)) [] first r xs ys

-- Slots in the first rows, which stay as they are.
abbrev pub Behind : {A : Type 0} (slot : A → Trees) (reader : Reader A) (ts : List ℕ) (at first rows : ℕ) (r : Read) (xs ys : List ℕ) → Type 0
Behind slot reader ts at first rows r xs ys =
    Bounded ts xs at r
    × ((from : ℕ) (slots : List Trees) (zs : List ℕ) (left : ℕ) → Stands ts from slots first rows left zs xs at → Meets slot ts from (reader at left) slots first r zs ys)

-- One tree in the first rows, which the reader goes on from.
abbrev pub Follows : (reader : Tree → Reader Tree) (ts : List ℕ) (at first rows head : ℕ) (r : Read) (xs ys : List ℕ) → Type 0
Follows reader ts at first rows head r xs ys =
    Bounded ts xs at r
    × ((from : ℕ) (t : Tree) (zs : List ℕ) (left : ℕ) → Stands ts from ((t ▸ nil) ∷ []) first rows left zs xs at → head ≡ first + size t
    → Meets one ts from (reader t at left) [] first r zs ys)

-- A list in the first rows, which the reader makes longer.
abbrev pub Extends : (reader : Trees → Reader Trees) (ts : List ℕ) (at first rows head : ℕ) (r : Read) (xs ys : List ℕ) → Type 0
Extends reader ts at first rows head r xs ys =
    Bounded ts xs at r
    × ((from : ℕ) (us : Trees) (zs : List ℕ) (left : ℕ) → Stands ts from (us ∷ []) first rows left zs xs at → head ≡ head_ref us first
    → Meets many ts from (reader us at left) [] first r zs ys)

-- Slots in the first rows, of which the last become those of a tree.
abbrev pub Ends : (reader : Tree → Reader Tree) (ts : List ℕ) (at first rows kind mark place c0 c1 c2 c3 : ℕ) (r : Read) (xs ys : List ℕ) → Type 0
Ends reader ts at first rows kind mark place c0 c1 c2 c3 r xs ys =
    Bounded ts xs at r
    × ((from : ℕ) (before slots : List Trees) (t : Tree) (zs : List ℕ) (left : ℕ) → Stands ts from (before ++ slots) first rows left zs xs at
    → Ending t kind mark place slots (after before first) c0 c1 c2 c3 → Meets one ts from (reader t at left) before first r zs ys)

-- A row of one child, the expression at a place.
unfoldable pub around : (rec : Rec) (kind mark place : ℕ) → Reader Tree
around rec kind mark place at room = do
  (t, at, room) ← rec Zero at room
  build (node kind mark place (t ▸ nil) nil nil nil 0) at room

-- A row whose closing sign comes next.
unfoldable pub closed : (ts : List ℕ) (close number : ℕ) → Tree → Reader Tree
closed ts close number t at room = do
  need (next_is ts at close) number at
  build t (step ts at) room

-- An expression above an order, or a pair of a hash.
unfoldable pub item : (rules : Rules) (ts : List ℕ) (rec : Rec) (order : ℕ) → Bool → Reader Tree
item rules ts rec order true = pair rules ts rec
item rules ts rec order false = rec order

-- A list of expressions, or the pairs of a hash behind its sign.
unfoldable pub items : (rules : Rules) (ts : List ℕ) (rec : Rec) → Bool → Reader Trees
items rules ts rec true at room = do
  (t, at, room) ← pair rules ts rec (step ts at) room
  entries rules ts rec (pair rules ts rec) turns (t ▸ nil) at room
items rules ts rec false at room = list_expr rules ts rec at room

-- The same and its closing sign, which comes next where it is due.
unfoldable pub closed_list : (due : Due) (rules : Rules) (ts : List ℕ) (rec : Rec) (paired : Bool) (close number : ℕ) → Reader Trees
closed_list due rules ts rec paired close number at room = do
  (list, at, room) ← items rules ts rec paired at room
  need (comes due ts at close) number at
  read list (step ts at) room

-- A sign that comes next, and the expression after it.
unfoldable pub behind_sign : (ts : List ℕ) (rec : Rec) (sign number : ℕ) → Reader Tree
behind_sign ts rec sign number at room = do
  need (next_is ts at sign) number at
  rec Zero (step ts (step ts at)) room

-- An opening brace that comes next, where it is due, and the block.
unfoldable pub braced : (due : Due) (ts : List ℕ) (block : Reader Tree) (number : ℕ) → Reader Tree
braced due ts block number at room = do
  need (comes due ts at SLBrace) number at
  block at room

-- A keyword that comes next and its block, or none.
unfoldable pub clause : (due : Due) (ts : List ℕ) (block : Reader Tree) (keyword number : ℕ) → Reader Trees
clause due ts block keyword number at room = choose (next_is ts at keyword)
    (λ _. do
      (t, at, room) ← braced due ts block number (step ts at) room
      read (t ▸ nil) at room)
    (λ _. read nil at room)

-- A sign that comes next, and behind it an opening brace, where it is due, and the block.
unfoldable pub body : (due : Due) (ts : List ℕ) (block : Reader Tree) (sign missing bare : ℕ) → Reader Tree
body due ts block sign missing bare at room = do
  need (next_is ts at sign) missing at
  braced due ts block bare (step ts at) room

-- A name and its value, in a row of this kind; or a name alone, but not for const, whose kind is 35.
unfoldable pub var_or_const : (rules : Rules) (ts : List ℕ) (expr : Rec) (stmt : Reader Trees) (kind : ℕ) → Reader Tree
var_or_const rules ts expr stmt kind name room = do
  need (is ts name Identifier) InvalidIdentifier name
  choose (next_is ts name SSemiColon)
      (λ _. do
        need (not (eqb kind 35)) ConstWithoutValue (step ts name)
        build (node kind 0 name nil nil nil nil 0) (step ts name) room)
      (λ _. value rules ts expr stmt (λ v. node kind 0 name v nil nil nil 0) (step ts name) room)

-- The keywords of statements that may not end right behind them.
unfoldable pub further : ℕ → Bool
further w =
    eqb w KVar
    || eqb w KConst
    || eqb w KIf
    || eqb w KAssert
    || eqb w KWhile
    || eqb w KFunc
    || eqb w KFor
    || eqb w KThrow
    || eqb w KTry
    || eqb w KForEach

-- What was read did not begin at the end.
abbrev pub BegunCase : List ℕ → ℕ → Read → Type 0
BegunCase ts at (Ok t) = (tok ts at ≡ EOF) → ⊥
BegunCase ts at (Err e) = Unit {0}

pub record Begun (ts : List ℕ) (at : ℕ) (r : Read) : Type 0 where
  pub begun : BegunCase ts at r
