-- What is claimed of the definition, each claim as a named type.
use Rattle.std.specs.Prelude.{ℕ, suc, ◌+◌, ◌-◌, ◌*◌, ◌%◌, ◌≤◌, ◌<◌, min, max, ◌≡◌, true, false, cond, List, [], ◌∷◌, ◌++◌, ◌⊎◌, eqb, ltb, length, get_or, replicate}
use Rattle.grammar.specs.Words.{Integer, Str, Float, Char, Identifier, SSemiColon, SDot, KNone, KTrue, KFalse, tok, step, Zero, order, infix_of}
use Rattle.grammar.specs.Words.{goes_on}
use Rattle.grammar.specs.Tree.{Tree, infixed, node, Trees, nil, ◌▸◌, size, sizes, lay, identifier, int, float, char, string, bool, none, width, ended}
use Rattle.grammar.specs.Parsed.{Parsed, refused, read, met, Unreached, NoRow, WrongSign}
use Rattle.grammar.specs.Rules.{Rules, original}
use Rattle.grammar.specs.Expressions.{expression}
use Rattle.grammar.specs.Statements.{statement}
use Rattle.grammar.specs.Script.{nesting, array_good, one_expression, one_statement, whole_script, most_rows, rows, answer, pool, word_of}

-- The order of each infix operator by its mark: Plus, Minus; Mul, Div, Mod; And; Or; Equal; EEqual, NotEqual; the four comparisons; LogicalOr;
-- LogicalAnd; PlusEq, MinusEq, MulEq, DivEq, AndEq, OrEq, ModEq.
unfoldable pub mark_orders : List ℕ
mark_orders = 8 ∷ 8 ∷ 9 ∷ 9 ∷ 9 ∷ 5 ∷ 4 ∷ 1 ∷ 6 ∷ 6 ∷ 7 ∷ 7 ∷ 7 ∷ 7 ∷ 2 ∷ 3 ∷ 1 ∷ 1 ∷ 1 ∷ 1 ∷ 1 ∷ 1 ∷ 1 ∷ []

-- An infix operator has one of these 23 marks, and the order of its mark.
abbrev pub MarksOrder : Type 0
MarksOrder = (w mark : ℕ) → infix_of w ≡ suc mark → (mark < 23) × (order w ≡ get_or mark_orders mark 0)

-- An infix row that is in no brackets has the order `n` or a higher one: the order of the operator at its place.
abbrev pub Binds : List ℕ → ℕ → Tree → Type 0
Binds ts n (infixed m p l r z) = m < 256 → n ≤ order (tok ts p)
Binds ts n (node k m p a b c d z) = Unit {0}

abbrev mutual
  -- What holds of a tree and of every tree in it.
  pub Every : (Tree → Type 0) → Tree → Type 0
  Every Q (infixed m p l r z) = Q (infixed m p l r z) × Every Q l × Every Q r
  Every Q (node k m p a b c d z) = Q (node k m p a b c d z) × EveryOf Q a × EveryOf Q b × EveryOf Q c × EveryOf Q d

  -- What holds of the trees of a slot and of every tree in them.
  pub EveryOf : (Tree → Type 0) → Trees → Type 0
  EveryOf Q nil = Unit {0}
  EveryOf Q (t ▸ ts) = Every Q t × EveryOf Q ts

-- The rule for an infix row: it has the mark of the operator at its place; its left side binds no looser, unless a semicolon stands just before
-- the operator; its right side binds strictly tighter.
pub record Ruled (ts : List ℕ) (mark place : ℕ) (left right : Tree) : Type 0 where
  pub sign : infix_of (tok ts place) ≡ suc (mark % 256)
  pub looser : Binds ts (order (tok ts place)) left ⊎ (tok ts (place - 1) ≡ SSemiColon)
  pub tighter : Binds ts (suc (order (tok ts place))) right

-- A tree whose root keeps the rule, if it is an infix row; no other row has the kind of one.
abbrev pub KeepsBut : List ℕ → Tree → Type 0
KeepsBut ts (infixed m p l r z) = Ruled ts m p l r
KeepsBut ts (node k m p a b c d z) = eqb k 12 ≡ false

-- What holds of every accepted answer of the three entries, from any start place and with any number of rows; a whole script starts at 0.
abbrev pub OfEntries : ((ts : List ℕ) (start room : ℕ) (us : Trees) (at left : ℕ) → Type 0) → Type 0
OfEntries P =
    (rules : Rules) (ts : List ℕ) (start room : ℕ) (us : Trees) (at left : ℕ)
    → (one_expression rules ts start room ≡ read us at left → P ts start room us at left)
    × (one_statement rules ts start room ≡ read us at left → P ts start room us at left)
    × (whole_script rules ts room ≡ read us at left → P ts 0 room us at left)

-- Every infix row of an accepted tree keeps the rule.
abbrev pub KeepsRule : Type 0
KeepsRule = OfEntries (λ ts start room us at left. EveryOf (KeepsBut ts) us)

-- The cursor never goes back.
abbrev pub GoesForward : Type 0
GoesForward = OfEntries (λ ts start room us at left. start ≤ at)

-- The rows used and the rows left are the rows given.
abbrev pub SpendsRows : Type 0
SpendsRows = OfEntries (λ ts start room us at left. sizes us + left ≡ room)

-- The cursor stays in the array.
abbrev pub StaysInside : Type 0
StaysInside = OfEntries (λ ts start room us at left. at < length ts)

-- No loop runs out of turns: no entry answers with the refusal that this would give.
abbrev pub NeverUnreached : Type 0
NeverUnreached =
    (rules : Rules) (ts : List ℕ) (start room place : ℕ)
    → (¬ (one_expression rules ts start room ≡ refused Unreached place))
    × (¬ (one_statement rules ts start room ≡ refused Unreached place))
    × (¬ (whole_script rules ts room ≡ refused Unreached place))

-- How many tokens there are from a place on, EOF not counted.
abbrev pub tokens_from : List ℕ → ℕ → ℕ
tokens_from ts start = length ts - 1 - start

-- Rows that are enough for an expression, where n tokens come before EOF: one for each.
abbrev pub expression_rows : ℕ → ℕ
expression_rows n = n

-- Rows that are enough for a statement: one for each token and one for the statement, or two for each token but two, whichever is more; none for no
-- token.
abbrev pub statement_rows : ℕ → ℕ
statement_rows n = min (2 * n) (max (n + 1) (2 * n - 4))

-- Rows that are enough for a whole script: two for each token, and one for the block.
abbrev pub script_rows : ℕ → ℕ
script_rows n = 2 * n + 1

-- With so many rows no entry refuses for want of a row, whatever the array.
abbrev pub RowsEnough : Type 0
RowsEnough =
    (rules : Rules) (ts : List ℕ) (start room place : ℕ)
    → (expression_rows (tokens_from ts start) ≤ room → ¬ (one_expression rules ts start room ≡ refused NoRow place))
    × (statement_rows (tokens_from ts start) ≤ room → ¬ (one_statement rules ts start room ≡ refused NoRow place))
    × (script_rows (tokens_from ts 0) ≤ room → ¬ (whole_script rules ts room ≡ refused NoRow place))

-- So a pool with the most rows is never too small.
abbrev pub LargestEnough : Type 0
LargestEnough =
    (rules : Rules) (ts : List ℕ) (start room place : ℕ) → most_rows ≤ room
    → (¬ (one_expression rules ts start room ≡ refused NoRow place))
    × (¬ (one_statement rules ts start room ≡ refused NoRow place))
    × (¬ (whole_script rules ts room ≡ refused NoRow place))

-- An answer whose first word is 0 is an acceptance.
abbrev pub Accepts : Parsed Trees → Type 0
Accepts p = get_or (answer p) 0 1 ≡ 0

-- What was read, where an answer is an acceptance.
pub record Accepted (p : Parsed Trees) : Type 0 where
  pub trees : Trees
  pub at : ℕ
  pub left : ℕ
  pub accepted : p ≡ read trees at left

-- No refusal of an entry has the number 0.
abbrev pub ZeroAccepts : Type 0
ZeroAccepts =
    (rules : Rules) (ts : List ℕ) (start room : ℕ)
    → (Accepts (one_expression rules ts start room) → Accepted (one_expression rules ts start room))
    × (Accepts (one_statement rules ts start room) → Accepted (one_statement rules ts start room))
    × (Accepts (whole_script rules ts room) → Accepted (whole_script rules ts room))

-- An infix row of a pool that is in no brackets has the order `n` or a higher one.
abbrev pub RowBinds : (ts pool : List ℕ) (n reference : ℕ) → Type 0
RowBinds ts pool n r = word_of pool r 0 ≡ 12 → word_of pool r 1 < 256 → n ≤ order (tok ts (word_of pool r 2))

-- The rule for an infix row of a pool, by its words and those of its two sides.
pub record RowRuled (ts pool : List ℕ) (reference : ℕ) : Type 0 where
  pub sign : infix_of (tok ts (word_of pool reference 2)) ≡ suc (word_of pool reference 1 % 256)
  pub looser : RowBinds ts pool (order (tok ts (word_of pool reference 2))) (word_of pool reference 3) ⊎ (tok ts (word_of pool reference 2 - 1) ≡ SSemiColon)
  pub tighter : RowBinds ts pool (suc (order (tok ts (word_of pool reference 2)))) (word_of pool reference 4)

-- Every infix row among a pool's words keeps the rule.
abbrev pub RowsRuled : (ts pool : List ℕ) → Type 0
RowsRuled ts pool = (reference : ℕ) → 1 ≤ reference → word_of pool reference 0 ≡ 12 → RowRuled ts pool reference

-- Whatever an entry answers, the words of the pool keep the rule.
abbrev pub PoolKeepsRule : Type 0
PoolKeepsRule =
    (rules : Rules) (ts : List ℕ) (start room words : ℕ)
    → RowsRuled ts (pool words (one_expression rules ts start room))
    × RowsRuled ts (pool words (one_statement rules ts start room))
    × RowsRuled ts (pool words (whole_script rules ts room))

-- Where the rows of a pool end: no place is before the start or past its row's end, no end is past the last place, and ends never fall from row to row.
pub record RowsEnd (pool : List ℕ) (start used last : ℕ) : Type 0 where
  pub begins : (r : ℕ) → 1 ≤ r → r ≤ used → start ≤ word_of pool r 2
  pub ordered : (r : ℕ) → 1 ≤ r → r ≤ used → word_of pool r 2 ≤ word_of pool r 8
  pub inside : (r : ℕ) → 1 ≤ r → r ≤ used → word_of pool r 8 ≤ last
  pub rising : (q r : ℕ) → 1 ≤ q → q ≤ r → r ≤ used → word_of pool q 8 ≤ word_of pool r 8

-- So it is of every accepted answer, with the answer's place for the last.
abbrev pub PoolEnds : Type 0
PoolEnds = OfEntries (λ ts start room us at left. (words : ℕ) → RowsEnd (pool words (read us at left)) start (sizes us) at)

-- The end of a row that an entry has left is the place where the same call with just the rows before it is refused for want of a row, and no other.
abbrev pub EndsWhereLacking : ((room : ℕ) → Parsed Trees) → Type 0
EndsWhereLacking entry =
    (room words r place : ℕ) (us : Trees) (at left : ℕ) → entry room ≡ read us at left → 1 ≤ r → r ≤ sizes us
    → (word_of (pool words (entry room)) r 8 ≡ place → entry (r - 1) ≡ refused NoRow place)
    × (entry (r - 1) ≡ refused NoRow place → word_of (pool words (entry room)) r 8 ≡ place)

-- The same of all three entries.
abbrev pub EndsTold : Type 0
EndsTold =
    (rules : Rules) (ts : List ℕ) (start : ℕ)
    → EndsWhereLacking (λ room. one_expression rules ts start room)
    × EndsWhereLacking (λ room. one_statement rules ts start room)
    × EndsWhereLacking (λ room. whole_script rules ts room)

-- More nesting and more rows never change what the reader of expressions, or that of statements, accepts.
abbrev pub MoreNesting : Type 0
MoreNesting =
    (rules : Rules) (ts : List ℕ) (d d' more at room c left : ℕ) → d ≤ d'
    → ((pre : ℕ) (t : Tree) → expression rules ts d pre at room ≡ read t c left → expression rules ts d' pre at (room + more) ≡ read t c (left + more))
    × ((us : Trees) → statement rules ts d at room ≡ read us c left → statement rules ts d' at (room + more) ≡ read us c (left + more))

-- More rows never change what an entry accepts.
abbrev pub MoreRows : Type 0
MoreRows =
    (rules : Rules) (ts : List ℕ) (start room more : ℕ) (us : Trees) (at left : ℕ)
    → (one_expression rules ts start room ≡ read us at left → one_expression rules ts start (room + more) ≡ read us at (left + more))
    × (one_statement rules ts start room ≡ read us at left → one_statement rules ts start (room + more) ≡ read us at (left + more))
    × (whole_script rules ts room ≡ read us at left → whole_script rules ts (room + more) ≡ read us at (left + more))

-- In a larger pool an entry that accepts gives the same answer and the same words, and zeros behind them.
abbrev pub InLargerPool : ((room : ℕ) → Parsed Trees) → Type 0
InLargerPool entry =
    (words more : ℕ) → Accepts (entry (rows words))
    → (answer (entry (rows (words + more))) ≡ answer (entry (rows words)))
    × (pool (words + more) (entry (rows (words + more))) ≡ pool words (entry (rows words)) ++ replicate more 0)

-- The same of all three entries.
abbrev pub MoreWords : Type 0
MoreWords =
    (rules : Rules) (ts : List ℕ) (start : ℕ)
    → InLargerPool (λ room. one_expression rules ts start room) × InLargerPool (λ room. one_statement rules ts start room) × InLargerPool (λ room. whole_script rules ts room)

-- The parts of a chain: an operand with its tree, or an infix operator with its mark and place.
pub data Part : Type 0 where
  operand : Tree → Part
  sign : (mark place : ℕ) → Part

-- A tree read left to right: an infix row in no brackets gives its left side, its operator and its right side, any other tree is an operand.
unfoldable pub reading : Tree → List Part
reading (infixed m p l r z) = cond (ltb m 256) (reading l ++ (sign m p ∷ reading r)) (operand (infixed m p l r z) ∷ [])
reading (node k m p a b c d z) = operand (node k m p a b c d z) ∷ []

-- What holds of the infix rows that join a tree's operands.
abbrev pub Joins : ((mark place : ℕ) (left right : Tree) → Type 0) → Tree → Type 0
Joins P (infixed m p l r z) = m < 256 → P m p l r × Joins P l × Joins P r
Joins P (node k m p a b c d z) = Unit {0}

-- The rule with no exception: a left side binds no looser, a right side strictly tighter.
abbrev pub Keeps : List ℕ → (mark place : ℕ) (left right : Tree) → Type 0
Keeps ts m p l r = Binds ts (order (tok ts p)) l × Binds ts (suc (order (tok ts p))) r

-- The same operands, joined by the same operators in the same way, wherever the joints end.
pub data Joined : Tree → Tree → Type 0 where
  same : {t : Tree} → Joined t t
  joint : {m p y z : ℕ} {l r l' r' : Tree} → m < 256 → Joined l l' → Joined r r' → Joined (infixed m p l r y) (infixed m p l' r' z)

-- Where the infix rows that join a tree's operands end: the root's at a place, a left side's just before the operator, a right side's with the row itself.
abbrev pub Ends : ℕ → Tree → Type 0
Ends at (infixed m p l r z) = m < 256 → (z ≡ at) × Ends (p - 1) l × Ends at r
Ends at (node k m p a b c d z) = Unit {0}

-- A chain's tree, read from `start` up to `at`: what was read, left to right, is the chain; the rule is kept, and any other tree of that reading that
-- keeps it is joined in the same way; each joint ends where it must, and no other such tree ends so; so many rows are used; the entry accepts with so many
-- rows or more, and no more than `deep` expressions are open at once.
pub record Grouping (rules : Rules) (ts : List ℕ) (deep start at used : ℕ) (parts : List Part) : Type 0 where
  pub tree : Tree
  pub reads : reading tree ≡ parts
  pub kept : Joins (Keeps ts) tree
  pub only : (t : Tree) → reading t ≡ parts → Joins (Keeps ts) t → Joined t tree
  pub ends : Ends at tree
  pub fixed : (t : Tree) → reading t ≡ parts → Joins (Keeps ts) t → Ends at t → t ≡ tree
  pub rows_used : size tree ≡ used
  pub accepted : (room left : ℕ) → used + left ≡ room → one_expression rules ts start room ≡ read (tree ▸ nil) at left
  pub shallow : (d room left : ℕ) → deep ≤ d → used + left ≡ room → expression rules ts d Zero start room ≡ read tree at left

-- The words of values, each with the row that it is read as.
pub data Value : ℕ → (ℕ → Tree) → Type 0 where
  an_identifier : Value Identifier identifier
  an_integer : Value Integer int
  a_float : Value Float float
  a_char : Value Char char
  a_string : Value Str string
  a_true : Value KTrue (bool 1)
  a_false : Value KFalse (bool 0)
  a_none : Value KNone none

-- n values from a place on, with infix operators between them.
pub data Chain (ts : List ℕ) : (start n : ℕ) → List Part → Type 0 where
  one : {s : ℕ} {row : ℕ → Tree} → Value (tok ts s) row → Chain ts s 1 (operand (ended s (row s)) ∷ [])
  more : {s n mark : ℕ} {row : ℕ → Tree} {parts : List Part} → Value (tok ts s) row → infix_of (tok ts (s + 1)) ≡ suc mark → Chain ts (s + 2) n parts
      → Chain ts s (suc n) (operand (ended s (row s)) ∷ sign mark (s + 1) ∷ parts)

-- What follows a chain whose last value is at `last`: a token of order Zero that is neither a semicolon nor, behind an identifier, a dot;
-- or one or more semicolons and then a token of order Zero that isn't one. With it, where the reader then stands.
pub data Ended (ts : List ℕ) (last : ℕ) : (at : ℕ) → Type 0 where
  plainly : order (tok ts (last + 1)) ≡ Zero → ¬ (tok ts (last + 1) ≡ SSemiColon) → (tok ts last ≡ Identifier → ¬ (tok ts (last + 1) ≡ SDot))
      → Ended ts last last
  by_semicolons : (i : ℕ) → ((j : ℕ) → j ≤ i → tok ts (last + 1 + j) ≡ SSemiColon) → order (tok ts (last + 2 + i)) ≡ Zero
      → ¬ (tok ts (last + 2 + i) ≡ SSemiColon) → Ended ts last (last + 1)

-- The grouping condition: in a valid array a chain of n values is read as the one tree that keeps the rule and ends so, in 2n - 1 rows and with no
-- more than ten expressions open at once.
abbrev pub GroupsChains : Type 0
GroupsChains =
    (rules : Rules) (ts : List ℕ) (s n at : ℕ) (parts : List Part) → array_good ts ≡ met → Chain ts s n parts → Ended ts (s + 2 * n - 2) at
    → Grouping rules ts 10 s at (2 * n - 1) parts

-- The highest order of an infix operator.
abbrev pub DivMulMod : ℕ
DivMulMod = 9

-- Operands from a place on with infix operators between them, where the last ends at `e`: each is what the reader itself reads there above
-- all infix operators, with `d` more expressions open and just the rows that it takes. None but the last ends on a semicolon.
pub data Operands (rules : Rules) (ts : List ℕ) (d : ℕ) : (s e : ℕ) → List Part → Type 0 where
  final : {s e : ℕ} {t : Tree} → expression rules ts d DivMulMod s (size t) ≡ read t e 0 → Operands rules ts d s e (operand t ∷ [])
  further : {s c p e mark : ℕ} {t : Tree} {parts : List Part} → expression rules ts d DivMulMod s (size t) ≡ read t c 0 → ¬ (tok ts c ≡ SSemiColon)
      → step ts c ≡ p → infix_of (tok ts p) ≡ suc mark → Operands rules ts d (step ts p) e parts → Operands rules ts d s e (operand t ∷ sign mark p ∷ parts)

-- The rows that the parts of a chain take.
unfoldable pub rows_of : List Part → ℕ
rows_of [] = 0
rows_of (operand t ∷ ps) = size t + rows_of ps
rows_of (sign m p ∷ ps) = suc (rows_of ps)

-- The same for chains of any operands, where the loop stops behind the last one.
abbrev pub GroupsOperands : Type 0
GroupsOperands =
    (rules : Rules) (ts : List ℕ) (d s e : ℕ) (parts : List Part) → array_good ts ≡ met → Operands rules ts d s e parts → goes_on Zero (tok ts (step ts e)) ≡ false
    → 9 + d ≤ nesting → Grouping rules ts (9 + d) s e (rows_of parts) parts

-- The answer and the pool's words where such a chain is read: 0, the root's reference and the rows used, the current place; the tree's rows and zeros.
abbrev pub AnswersChains : Type 0
AnswersChains =
    (rules : Rules) (ts : List ℕ) (deep s at used : ℕ) (parts : List Part) (g : Grouping rules ts deep s at used parts) (words : ℕ) → used ≤ rows words
    → (answer (one_expression rules ts s (rows words)) ≡ 0 ∷ used ∷ used ∷ at ∷ [])
    × (pool words (one_expression rules ts s (rows words)) ≡ lay g.tree 0 0 ++ replicate (words - width * used) 0)

-- A refusal by this number.
abbrev pub Gives : {A : Type 0} → ℕ → Parsed A → Type 0
Gives n (refused m p) = m ≡ n
Gives n (read a at room) = ⊥

-- A refusal by this number, or else the same.
abbrev pub Unless : {A : Type 0} → ℕ → Parsed A → Parsed A → Type 0
Unless n x y = Gives n x ⊎ (x ≡ y)

-- The entries by the first rules refuse by this number, or else answer as by the second.
abbrev pub EntriesUnless : ℕ → (P Q : Rules) → Type 0
EntriesUnless n P Q =
    (ts : List ℕ) (start room : ℕ)
    → Unless n (one_expression P ts start room) (one_expression Q ts start room)
    × Unless n (one_statement P ts start room) (one_statement Q ts start room)
    × Unless n (whole_script P ts room) (whole_script Q ts room)

-- Strict rules refuse by 30, or change nothing.
abbrev pub StrictOrSame : Type 0
StrictOrSame = EntriesUnless WrongSign (record { strict = true }) original
