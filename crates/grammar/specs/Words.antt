-- Token words: their names, their orders and marks, and the cursor.
use Rattle.std.specs.Prelude.{ℕ, ◌+◌, ◌*◌, ◌/◌, ◌%◌, Bool, cond, not, ◌&&◌, ◌||◌, List, [], ◌∷◌, length, get_or, eqb, ltb}

-- The class of an operator's word.
abbrev pub Operator : ℕ
Operator = 8

-- The class of a keyword's word.
abbrev pub Keyword : ℕ
Keyword = 9

-- The words of the classes that the readers ask for: the class times 256.
abbrev pub Empty : ℕ
Empty = 1 * 256

abbrev pub EOF : ℕ
EOF = 2 * 256

abbrev pub Integer : ℕ
Integer = 3 * 256

abbrev pub Str : ℕ
Str = 4 * 256

abbrev pub Float : ℕ
Float = 5 * 256

abbrev pub Char : ℕ
Char = 6 * 256

abbrev pub Identifier : ℕ
Identifier = 7 * 256

-- The words of the operators that the readers ask for: the class times 256 and the original's code. The others stand in the tables below.
abbrev pub SLParen : ℕ
SLParen = Operator * 256 + 5

abbrev pub SRparen : ℕ
SRparen = Operator * 256 + 6

abbrev pub SSemiColon : ℕ
SSemiColon = Operator * 256 + 11

abbrev pub SComma : ℕ
SComma = Operator * 256 + 12

abbrev pub SExcl : ℕ
SExcl = Operator * 256 + 14

abbrev pub SEq : ℕ
SEq = Operator * 256 + 15

abbrev pub SLBrace : ℕ
SLBrace = Operator * 256 + 18

abbrev pub SRBrace : ℕ
SRBrace = Operator * 256 + 19

abbrev pub SNeg : ℕ
SNeg = Operator * 256 + 24

abbrev pub SIncr : ℕ
SIncr = Operator * 256 + 29

abbrev pub SDecr : ℕ
SDecr = Operator * 256 + 30

abbrev pub SLBox : ℕ
SLBox = Operator * 256 + 34

abbrev pub SRBox : ℕ
SRBox = Operator * 256 + 35

abbrev pub SImpl : ℕ
SImpl = Operator * 256 + 36

abbrev pub SColon : ℕ
SColon = Operator * 256 + 37

abbrev pub SDot : ℕ
SDot = Operator * 256 + 38

abbrev pub SDollar : ℕ
SDollar = Operator * 256 + 40

-- The words of the keywords that the readers ask for.
abbrev pub KIf : ℕ
KIf = Keyword * 256 + 1

abbrev pub KElse : ℕ
KElse = Keyword * 256 + 2

abbrev pub KWhile : ℕ
KWhile = Keyword * 256 + 3

abbrev pub KFor : ℕ
KFor = Keyword * 256 + 4

abbrev pub KBreak : ℕ
KBreak = Keyword * 256 + 5

abbrev pub KContinue : ℕ
KContinue = Keyword * 256 + 6

abbrev pub KConst : ℕ
KConst = Keyword * 256 + 7

abbrev pub KVar : ℕ
KVar = Keyword * 256 + 8

abbrev pub KNone : ℕ
KNone = Keyword * 256 + 9

abbrev pub KFunc : ℕ
KFunc = Keyword * 256 + 10

abbrev pub KReturn : ℕ
KReturn = Keyword * 256 + 11

abbrev pub KTry : ℕ
KTry = Keyword * 256 + 12

abbrev pub KCatch : ℕ
KCatch = Keyword * 256 + 13

abbrev pub KFinally : ℕ
KFinally = Keyword * 256 + 14

abbrev pub KThrow : ℕ
KThrow = Keyword * 256 + 16

abbrev pub KTrue : ℕ
KTrue = Keyword * 256 + 18

abbrev pub KFalse : ℕ
KFalse = Keyword * 256 + 19

abbrev pub KForEach : ℕ
KForEach = Keyword * 256 + 20

abbrev pub KIn : ℕ
KIn = Keyword * 256 + 21

abbrev pub KLambda : ℕ
KLambda = Keyword * 256 + 24

abbrev pub KAssert : ℕ
KAssert = Keyword * 256 + 25

abbrev pub KThread : ℕ
KThread = Keyword * 256 + 26

abbrev pub KAsync : ℕ
KAsync = Keyword * 256 + 27

-- The token at a place.
unfoldable pub tok : List ℕ → ℕ → ℕ
tok ts at = get_or ts at EOF

-- The place after a place: one on, never past the last.
unfoldable pub step : List ℕ → ℕ → ℕ
step ts at = cond (ltb (at + 1) (length ts)) (at + 1) at

-- Whether a word is at a place.
unfoldable pub is : List ℕ → ℕ → ℕ → Bool
is ts at w = eqb (tok ts at) w

-- Whether a word comes next.
unfoldable pub next_is : List ℕ → ℕ → ℕ → Bool
next_is ts at w = is ts (step ts at) w

-- The class of a word: its upper eight bits.
unfoldable pub class : ℕ → ℕ
class w = w / 256

-- The code of a word: its lower eight bits.
unfoldable pub code : ℕ → ℕ
code w = w % 256

-- The entry of a table by operator codes, 0 for any other word.
unfoldable pub by_code : List ℕ → ℕ → ℕ
by_code table w = cond (eqb (class w) Operator) (get_or table (code w) 0) 0

-- The lowest order.
abbrev pub Zero : ℕ
Zero = 0

-- The order of each operator, by its code: get_eval_order.
unfoldable pub orders : List ℕ
orders =
    0 ∷ 8 ∷ 8 ∷ 9 ∷ 9 ∷ 12 ∷ 0 ∷ 7 ∷ 7 ∷ 7 ∷ 7 ∷ 0 ∷ 0 ∷ 9 ∷ 10 ∷ 1 ∷ 6 ∷ 6 ∷ 0 ∷ 0 ∷ 5 ∷ 4 ∷ 1 ∷ 1 ∷ 10 ∷ 3 ∷ 2 ∷ 1 ∷ 1 ∷ 11 ∷ 11 ∷ 1 ∷ 1 ∷ 1 ∷ 13 ∷ 0 ∷ 0 ∷ 0 ∷ 14 ∷ 0 ∷ 0 ∷ []

-- One more than the mark of each infix operator, by its code; 0 for the other operators: has_infix and parse_infix_expression.
unfoldable pub infixes : List ℕ
infixes =
    0 ∷ 1 ∷ 2 ∷ 3 ∷ 4 ∷ 0 ∷ 0 ∷ 14 ∷ 12 ∷ 13 ∷ 11 ∷ 0 ∷ 0 ∷ 5 ∷ 0 ∷ 8 ∷ 9 ∷ 10 ∷ 0 ∷ 0 ∷ 6 ∷ 7 ∷ 21 ∷ 22 ∷ 0 ∷ 16 ∷ 15 ∷ 17 ∷ 18 ∷ 0 ∷ 0 ∷ 19 ∷ 20 ∷ 23 ∷ 0 ∷ 0 ∷ 0 ∷ 0 ∷ 0 ∷ 0 ∷ 0 ∷ []

-- The order of a word: get_next_order.
unfoldable pub order : ℕ → ℕ
order w = by_code orders w

-- One more than the infix mark of a word, 0 where it is no infix operator.
unfoldable pub infix_of : ℕ → ℕ
infix_of w = by_code infixes w

-- Whether a word is an operator that goes on behind an operand: has_infix, has_suffix, a call or an index.
unfoldable pub operates : ℕ → Bool
operates w = ltb 0 (infix_of w) || eqb w SIncr || eqb w SDecr || eqb w SLParen || eqb w SLBox

-- Whether the loop of parse_expression goes on above an order, where the word is next.
unfoldable pub goes_on : ℕ → ℕ → Bool
goes_on pre w = not (eqb w SSemiColon) && ltb pre (order w) && operates w

-- How many codes each class has.
unfoldable pub codes : List ℕ
codes = 1 ∷ 1 ∷ 1 ∷ 1 ∷ 1 ∷ 1 ∷ 1 ∷ 1 ∷ 41 ∷ 28 ∷ 1 ∷ []

-- Whether a word has one of the eleven classes and one of its codes.
unfoldable pub valid : ℕ → Bool
valid w = ltb (code w) (get_or codes (class w) 0)
