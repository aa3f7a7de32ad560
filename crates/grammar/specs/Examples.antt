-- The oddities and the edges that the rules list, as examples with every word of the pool; and the claim that the definition agrees with them.
use Rattle.std.specs.Prelude.{ℕ, zero, suc, ◌+◌, ◌-◌, ◌*◌, ◌≡◌, List, [], ◌∷◌, ◌++◌, map, length, replicate}
use Rattle.grammar.specs.Words.{Operator, EOF, Identifier, SLParen, SRparen, SSemiColon, SComma, SExcl, SEq, SLBrace, SRBrace, SImpl, SDot, KIf}
use Rattle.grammar.specs.Words.{KElse, KWhile, KConst, KVar, KTry, KCatch, KFinally, KForEach, KAssert}
use Rattle.grammar.specs.Tree.{Trees, row, width}
use Rattle.grammar.specs.Parsed.{Parsed}
use Rattle.grammar.specs.Rules.{original}
use Rattle.grammar.specs.Script.{one_expression, one_statement, whole_script, answer, pool}

-- The three entries, from place 0.
pub data Entry : Type 0 where
  X S W : Entry

-- What an entry reads by the original's rules.
unfoldable pub entered : Entry → List ℕ → (room : ℕ) → Parsed Trees
entered X ts room = one_expression original ts 0 room
entered S ts room = one_statement original ts 0 room
entered W ts room = whole_script original ts room

-- An example: an entry, tokens, a number of rows, the answer, and the words of the rows that are used.
pub record Example : Type 0 where
  pub entry : Entry
  pub tokens : List ℕ
  pub room : ℕ
  pub answered : List ℕ
  pub laid : List ℕ

-- What an example gives by the definition: the answer, and every word of the pool.
unfoldable pub found : Example → List ℕ
found e = let p = entered e.entry e.tokens e.room in answer p ++ pool (width * e.room) p

-- What it is expected to give: behind the words of its rows the pool is zero.
unfoldable pub expected : Example → List ℕ
expected e = e.answered ++ e.laid ++ replicate (width * e.room - length e.laid) 0

-- Examples that the definition agrees with.
abbrev pub Agrees : List Example → Type 0
Agrees examples = map found examples ≡ map expected examples

-- Signs of the table that the definition knows by their codes alone.
abbrev a : ℕ
a = Identifier

abbrev plus : ℕ
plus = Operator * 256 + 1

abbrev times : ℕ
times = Operator * 256 + 3

abbrev and : ℕ
and = Operator * 256 + 25

-- An example that is accepted, with as many rows as it uses, the last place, and the rows' words.
abbrev accepts : Entry → List ℕ → (room used last : ℕ) → List ℕ → Example
accepts entry tokens room used last laid = record { entry = entry; tokens = tokens; room = room; answered = 0 ∷ used ∷ used ∷ last ∷ []; laid = laid }

-- An example that is refused, with the number and the place.
abbrev refuses : Entry → List ℕ → (room number place : ℕ) → Example
refuses entry tokens room number place = record { entry = entry; tokens = tokens; room = room; answered = number ∷ place ∷ 0 ∷ 0 ∷ []; laid = [] }

-- The rows of the signs ! at the places below one, the innermost first: each holds the row before it, the first one the row with the reference;
-- all end at the last place.
abbrev nots : (place reference last : ℕ) → List ℕ
nots zero r z = []
nots (suc p) r z = row 13 2 p r 0 0 0 0 z ++ nots p (suc r) z

-- The sixteen examples.
abbrev pub table : List Example
table =
    -- (a) is refused 10 at a; (a.b) and (a;) are accepted
    refuses X (SLParen ∷ a ∷ SRparen ∷ EOF ∷ []) 9 10 1
    ∷ accepts W (SLParen ∷ a ∷ SDot ∷ a ∷ SRparen ∷ SSemiColon ∷ SLParen ∷ a ∷ SSemiColon ∷ SRparen ∷ EOF ∷ []) 9 7 10
    (row 2 0 1 0 0 0 0 0 1 ++ row 18 0 3 0 0 0 0 0 3 ++ row 17 256 1 1 2 0 0 0 3 ++ row 38 0 0 3 0 0 0 6 5
    ++ row 2 256 7 0 0 0 0 0 7 ++ row 38 0 6 5 0 0 0 0 9
    ++ row 46 0 0 4 0 0 0 0 10)
    -- !a && b is !(a && b)
    ∷ accepts X (SExcl ∷ a ∷ and ∷ a ∷ EOF ∷ []) 9 4 3 (row 2 0 1 0 0 0 0 0 1 ++ row 2 0 3 0 0 0 0 0 3 ++ row 12 15 2 1 2 0 0 0 3 ++ row 13 2 0 3 0 0 0 0 3)
    -- a = b = c is (a = b) = c
    ∷ accepts X (a ∷ SEq ∷ a ∷ SEq ∷ a ∷ EOF ∷ []) 9 5 4
    (row 2 0 0 0 0 0 0 0 0 ++ row 2 0 2 0 0 0 0 0 2 ++ row 12 7 1 1 2 0 0 0 2 ++ row 2 0 4 0 0 0 0 0 4 ++ row 12 7 3 3 4 0 0 0 4)
    -- a + b; * c is (a + b) * c
    ∷ accepts X (a ∷ plus ∷ a ∷ SSemiColon ∷ times ∷ a ∷ EOF ∷ []) 9 5 5
    (row 2 0 0 0 0 0 0 0 0 ++ row 2 0 2 0 0 0 0 0 2 ++ row 12 0 1 1 2 0 0 0 3 ++ row 2 0 5 0 0 0 0 0 5 ++ row 12 2 4 3 4 0 0 0 5)
    -- the bodies of while, foreach and finally take any opener, and a call with arguments any closer, even EOF
    ∷ accepts W (KWhile ∷ SLParen ∷ a ∷ SRparen ∷ a ∷ SRBrace
    ∷ KForEach ∷ a ∷ SComma ∷ a ∷ SComma ∷ a ∷ SImpl ∷ a ∷ SRBrace
    ∷ KTry ∷ SLBrace ∷ SRBrace ∷ KCatch ∷ a ∷ SLBrace ∷ SRBrace ∷ KFinally ∷ a ∷ SRBrace
    ∷ a ∷ SLParen ∷ a ∷ EOF ∷ []) 99 18 28
    (row 2 0 2 0 0 0 0 0 2 ++ row 46 0 4 0 0 0 0 0 5 ++ row 42 0 0 1 2 0 0 8 5
    ++ row 2 0 7 0 0 0 0 0 7 ++ row 2 0 9 0 0 0 0 0 9 ++ row 2 0 11 0 0 0 0 0 11 ++ row 46 0 13 0 0 0 0 0 14 ++ row 45 0 6 4 5 6 7 13 14
    ++ row 46 0 16 0 0 0 0 0 17 ++ row 2 0 19 0 0 0 0 0 19 ++ row 46 0 20 0 0 0 0 0 21 ++ row 46 0 23 0 0 0 0 0 24 ++ row 39 0 15 9 10 11 12 17 24
    ++ row 2 0 25 0 0 0 0 0 25 ++ row 2 0 27 0 0 0 0 0 27 ++ row 11 0 26 14 15 0 0 0 28 ++ row 38 0 25 16 0 0 0 0 28
    ++ row 46 0 0 3 0 0 0 0 28)
    -- { ; a } as a block is refused 12; a later semicolon is skipped, and var x; is accepted
    ∷ refuses S (KWhile ∷ SLParen ∷ a ∷ SRparen ∷ SLBrace ∷ SSemiColon ∷ a ∷ SRBrace ∷ EOF ∷ []) 9 12 5
    ∷ accepts S (KWhile ∷ SLParen ∷ a ∷ SRparen ∷ SLBrace ∷ a ∷ SSemiColon ∷ SSemiColon ∷ KVar ∷ a ∷ SSemiColon ∷ SRBrace ∷ EOF ∷ []) 9 6 11
    (row 2 0 2 0 0 0 0 0 2 ++ row 2 0 5 0 0 0 0 0 5 ++ row 38 0 5 2 0 0 0 4 6 ++ row 34 0 9 0 0 0 0 0 10 ++ row 46 0 4 3 0 0 0 0 11 ++ row 42 0 0 1 5 0 0 0 11)
    -- assert x; before } is 16 at ;, and assert x;; is 15
    ∷ refuses S (KAssert ∷ a ∷ SSemiColon ∷ SRBrace ∷ EOF ∷ []) 9 16 2
    ∷ refuses S (KAssert ∷ a ∷ SSemiColon ∷ SSemiColon ∷ EOF ∷ []) 9 15 3
    -- else if is 10 at else
    ∷ refuses S (KIf ∷ SLParen ∷ a ∷ SRparen ∷ SLBrace ∷ SRBrace ∷ KElse ∷ KIf ∷ EOF ∷ []) 9 10 6
    -- const x; is 19 at ;
    ∷ refuses S (KConst ∷ a ∷ SSemiColon ∷ EOF ∷ []) 9 19 2
    -- sixty-three ! then a name is accepted as an expression; sixty-four is 2 at place 64
    ∷ accepts X (replicate 63 SExcl ++ (a ∷ EOF ∷ [])) 99 64 63 (row 2 0 63 0 0 0 0 0 63 ++ nots 63 1 63)
    ∷ refuses X (replicate 64 SExcl ++ (a ∷ EOF ∷ [])) 99 2 64
    -- a + b with two rows is 3 at place 2, with three rows accepted
    ∷ refuses X (a ∷ plus ∷ a ∷ EOF ∷ []) 2 3 2
    ∷ accepts X (a ∷ plus ∷ a ∷ EOF ∷ []) 3 3 2 (row 2 0 0 0 0 0 0 0 0 ++ row 2 0 2 0 0 0 0 0 2 ++ row 12 0 1 1 2 0 0 0 2)
    ∷ []

-- The definition agrees with the whole table.
abbrev pub TableHolds : Type 0
TableHolds = Agrees table
