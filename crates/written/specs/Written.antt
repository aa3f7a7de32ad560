-- How a tree is written: the tokens of each kind, on one page.
use Rattle.std.specs.Prelude.{ℕ, ◌+◌, ◌*◌, ◌/◌, ◌%◌, Bool, true, false, cond, List, [], ◌∷◌, ◌++◌, map, eqb, get_or}
use Rattle.grammar.specs.Words.{Operator, EOF, Integer, Str, Float, Char, Identifier, SLParen, SRparen, SSemiColon, SComma, SExcl, SEq, SLBrace, SRBrace, SNeg}
use Rattle.grammar.specs.Words.{SIncr, SDecr, SLBox, SRBox, SImpl, SColon, SDot, SDollar, KIf, KElse, KWhile, KFor, KBreak, KContinue, KConst, KVar}
use Rattle.grammar.specs.Words.{KNone, KFunc, KReturn, KTry, KCatch, KFinally, KThrow, KTrue, KFalse, KForEach, KIn, KLambda, KAssert, KThread, KAsync}
use Rattle.grammar.specs.Tree.{Tree, infixed, node, Trees, nil, ◌▸◌, Thread, Async, Grouped}

-- A written token: its word, and the place of its payload as the tree has it, 0 for a token that has none.
abbrev pub Token : Type 0
Token = ℕ × ℕ

-- A piece of a written form: a sign; the payload of the row, as a token of a class; the sign for the mark, from a table; a sign where the mark has
-- a flag, or where a slot holds something; the trees of a slot, one behind the other, or with a sign between them.
pub data Piece : Type 0 where
  sign : ℕ → Piece
  payload : ℕ → Piece
  by_mark : List ℕ → Piece
  flagged : (flag word : ℕ) → Piece
  where_some : (slot word : ℕ) → Piece
  child : ℕ → Piece
  children : (slot separator : ℕ) → Piece

-- The words of the infix operators by their marks.
unfoldable pub infix_signs : List ℕ
infix_signs = map (λ c. Operator * 256 + c) (1 ∷ 2 ∷ 3 ∷ 4 ∷ 13 ∷ 20 ∷ 21 ∷ 15 ∷ 16 ∷ 17 ∷ 10 ∷ 8 ∷ 9 ∷ 7 ∷ 26 ∷ 25 ∷ 27 ∷ 28 ∷ 31 ∷ 32 ∷ 22 ∷ 23 ∷ 33 ∷ [])

-- The words of bools, prefixes and suffixes by their marks.
abbrev pub bool_signs : List ℕ
bool_signs = KFalse ∷ KTrue ∷ []

abbrev pub prefix_signs : List ℕ
prefix_signs = SIncr ∷ SDecr ∷ SExcl ∷ SNeg ∷ []

abbrev pub suffix_signs : List ℕ
suffix_signs = SIncr ∷ SDecr ∷ []

-- The form of each kind, by its number. A semicolon ends a statement that ends in no block.
unfoldable pub forms : List (ℕ × List Piece)
forms =
    -- single values
    (1, sign KNone ∷ [])
    ∷ (2, payload Identifier ∷ [])
    ∷ (3, payload Integer ∷ [])
    ∷ (4, payload Float ∷ [])
    ∷ (5, payload Char ∷ [])
    ∷ (6, payload Str ∷ [])
    ∷ (7, by_mark bool_signs ∷ [])
    -- array and hash
    ∷ (8, sign SLBox ∷ children 0 SComma ∷ sign SRBox ∷ [])
    ∷ (9, sign SLBrace ∷ children 0 SComma ∷ sign SRBrace ∷ [])
    -- in brackets: index, call, infix, prefix, suffix, lambda and shell form
    ∷ (10, sign SLParen ∷ child 0 ∷ sign SLBox ∷ child 1 ∷ sign SRBox ∷ sign SRparen ∷ [])
    ∷ (11, sign SLParen ∷ flagged Thread KThread ∷ flagged Async KAsync ∷ child 0 ∷ sign SLParen ∷ children 1 SComma ∷ sign SRparen ∷ sign SRparen ∷ [])
    ∷ (12, sign SLParen ∷ child 0 ∷ by_mark infix_signs ∷ child 1 ∷ sign SRparen ∷ [])
    ∷ (13, sign SLParen ∷ by_mark prefix_signs ∷ child 0 ∷ sign SRparen ∷ [])
    ∷ (14, sign SLParen ∷ child 0 ∷ by_mark suffix_signs ∷ sign SRparen ∷ [])
    ∷ (15, sign SLParen ∷ sign KLambda ∷ children 0 SComma ∷ sign SImpl ∷ child 1 ∷ sign SRparen ∷ [])
    ∷ (16, sign SLParen ∷ sign SDollar ∷ flagged 1 SDot ∷ child 0 ∷ sign SRparen ∷ [])
    -- a dotted name and each name behind a dot; a pair of a hash
    ∷ (17, child 0 ∷ sign SDot ∷ children 1 SDot ∷ [])
    ∷ (18, payload Identifier ∷ [])
    ∷ (19, child 0 ∷ sign SColon ∷ child 1 ∷ [])
    -- break, continue, var, const, return, throw, expression
    ∷ (32, sign KBreak ∷ sign SSemiColon ∷ [])
    ∷ (33, sign KContinue ∷ sign SSemiColon ∷ [])
    ∷ (34, sign KVar ∷ payload Identifier ∷ where_some 0 SEq ∷ child 0 ∷ sign SSemiColon ∷ [])
    ∷ (35, sign KConst ∷ payload Identifier ∷ sign SEq ∷ child 0 ∷ sign SSemiColon ∷ [])
    ∷ (36, sign KReturn ∷ child 0 ∷ sign SSemiColon ∷ [])
    ∷ (37, sign KThrow ∷ child 0 ∷ sign SSemiColon ∷ [])
    ∷ (38, child 0 ∷ sign SSemiColon ∷ [])
    -- try, function, for, while, assert, if, foreach
    ∷ (39, sign KTry ∷ child 0 ∷ sign KCatch ∷ child 1 ∷ child 2 ∷ where_some 3 KFinally ∷ child 3 ∷ [])
    ∷ (40, sign KFunc ∷ payload Identifier ∷ sign SLParen ∷ children 0 SComma ∷ sign SRparen ∷ child 1 ∷ [])
    ∷ (41, sign KFor ∷ child 0 ∷ sign KIn ∷ child 1 ∷ sign SImpl ∷ child 2 ∷ [])
    ∷ (42, sign KWhile ∷ sign SLParen ∷ child 0 ∷ sign SRparen ∷ child 1 ∷ [])
    ∷ (43, sign KAssert ∷ child 0 ∷ sign SComma ∷ child 1 ∷ sign SSemiColon ∷ [])
    ∷ (44, sign KIf ∷ sign SLParen ∷ child 0 ∷ sign SRparen ∷ child 1 ∷ where_some 2 KElse ∷ child 2 ∷ [])
    ∷ (45, sign KForEach ∷ child 0 ∷ sign SComma ∷ child 1 ∷ sign SComma ∷ child 2 ∷ sign SImpl ∷ child 3 ∷ [])
    -- block
    ∷ (46, sign SLBrace ∷ child 0 ∷ sign SRBrace ∷ [])
    ∷ []

-- The list behind a number in a table, or none.
unfoldable pub look : {A : Type 0} → List (ℕ × List A) → ℕ → List A
look [] k = []
look ((j, a) ∷ rest) k = cond (eqb j k) a (look rest k)

-- The form of a kind.
unfoldable pub form : ℕ → List Piece
form k = look forms k

-- What the trees of a slot are written as, one behind the other.
unfoldable pub joined : List (List Token) → List Token
joined [] = []
joined (ts ∷ rest) = ts ++ joined rest

-- The same with a sign between them.
unfoldable pub separated : ℕ → List (List Token) → List Token
separated w [] = []
separated w (ts ∷ []) = ts
separated w (ts ∷ us ∷ rest) = ts ++ ((w, 0) ∷ separated w (us ∷ rest))

-- Whether nothing is in a slot.
unfoldable pub empty_slot : List (List Token) → Bool
empty_slot [] = true
empty_slot (ts ∷ rest) = false

-- What a piece of a row's form gives, for the row's mark and place and its written slots. A grouped mark changes nothing.
unfoldable pub piece : Piece → (mark place : ℕ) → List (List (List Token)) → List Token
piece (sign w) m p ss = (w, 0) ∷ []
piece (payload w) m p ss = (w, p) ∷ []
piece (by_mark table) m p ss = (get_or table (m % Grouped) 0, 0) ∷ []
piece (flagged f w) m p ss = cond (eqb (m / f % 2) 0) [] ((w, 0) ∷ [])
piece (where_some i w) m p ss = cond (empty_slot (get_or ss i [])) [] ((w, 0) ∷ [])
piece (child i) m p ss = joined (get_or ss i [])
piece (children i w) m p ss = separated w (get_or ss i [])

-- What the pieces of a form give, one behind the other.
unfoldable pub pieces : List Piece → (mark place : ℕ) → List (List (List Token)) → List Token
pieces [] m p ss = []
pieces (q ∷ qs) m p ss = piece q m p ss ++ pieces qs m p ss

unfoldable mutual
  -- The tokens of a tree.
  pub write : Tree → List Token
  write (infixed m p l r z) = pieces (form 12) m p ((write l ∷ []) ∷ (write r ∷ []) ∷ [])
  write (node k m p a b c d z) = pieces (form k) m p (writes a ∷ writes b ∷ writes c ∷ writes d ∷ [])

  -- The tokens of each tree of a slot.
  pub writes : Trees → List (List Token)
  writes nil = []
  writes (t ▸ ts) = write t ∷ writes ts

-- The written form of a root: a block has no braces there, and EOF is behind it.
unfoldable pub written : Tree → List Token
written (infixed m p l r z) = write (infixed m p l r z) ++ ((EOF, 0) ∷ [])
written (node k m p a b c d z) = cond (eqb k 46) (joined (writes a)) (write (node k m p a b c d z)) ++ ((EOF, 0) ∷ [])

-- The words of tokens.
abbrev pub words : List Token → List ℕ
words ts = map (λ t. t.0) ts

-- The places of their payloads.
abbrev pub places : List Token → List ℕ
places ts = map (λ t. t.1) ts
