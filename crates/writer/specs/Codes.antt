-- The pieces of a form by their numbers.
use Rattle.std.specs.Prelude.{ℕ, suc, ◌+◌, ◌-◌, ◌*◌, ◌/◌, ◌%◌, cond, List, [], ◌∷◌, eqb, ltb, get_or, length}
use Rattle.grammar.specs.Words.{Keyword, Integer, Str, Float, Char, Identifier, SComma, SEq, SDot, KFalse, KElse, KFinally, KThread, KAsync}
use Rattle.grammar.specs.Tree.{Thread, Async}
use Rattle.tokens.specs.Tokens.{token, word}
use Rattle.written.specs.Written.{Piece, sign, payload, by_mark, flagged, where_some, child, children, form, bool_signs, infix_signs, prefix_signs, suffix_signs}

-- The pieces with a number below 16, which are neither slots nor signs that are always there.
unfoldable pub low : List Piece
low =
    sign 0
    ∷ by_mark bool_signs
    ∷ by_mark infix_signs
    ∷ payload Integer
    ∷ payload Str
    ∷ payload Float
    ∷ payload Char
    ∷ payload Identifier
    ∷ by_mark prefix_signs
    ∷ by_mark suffix_signs
    ∷ flagged Thread KThread
    ∷ flagged Async KAsync
    ∷ flagged 1 SDot
    ∷ where_some 0 SEq
    ∷ where_some 2 KElse
    ∷ where_some 3 KFinally
    ∷ []

-- The word of a sign with a number of 64 and above.
unfoldable pub sign_word : ℕ → ℕ
sign_word b = cond (ltb b 128) (1984 + b) (2176 + b)

-- The piece with a number.
unfoldable pub decoded : ℕ → Piece
decoded b =
    cond (ltb b 16) (get_or low b (sign 0))
    (cond (ltb b 20) (child (b % 4))
    (cond (ltb b 24) (children (b % 4) SComma)
    (cond (ltb b 64) (children (b % 4) SDot)
    (sign (word (token (sign_word b)))))))

-- The piece with a number before others; none with the number 0.
unfoldable pub spelled : ℕ → List Piece → List Piece
spelled b qs = cond (eqb b 0) [] (decoded b ∷ qs)

-- The number of a piece.
unfoldable pub coded : Piece → ℕ
coded (sign w) = cond (ltb w (Keyword * 256)) (w - 1984) (w - 2176)
coded (payload w) = w / 256
coded (by_mark table) = cond (eqb (length table) 23) 2 (cond (eqb (length table) 4) 8 (cond (eqb (get_or table 0 0) KFalse) 1 9))
coded (flagged f w) = cond (eqb w KThread) 10 (cond (eqb w KAsync) 11 12)
coded (where_some i w) = cond (eqb i 0) 13 (cond (eqb i 2) 14 15)
coded (child i) = 16 + i
coded (children i w) = cond (eqb w SComma) (20 + i) (24 + i)

-- A form as a number: a byte for each piece, the first lowest.
unfoldable pub encoded : List Piece → ℕ
encoded [] = 0
encoded (q ∷ qs) = coded q + 256 * encoded qs

-- The pieces of a kind, and for 0 those of a root block, which has no braces.
unfoldable pub shape : ℕ → List Piece
shape k = cond (eqb k 0) (child 0 ∷ []) (cond (ltb k 47) (form k) [])

-- The word of a row that a piece is about, where it is a slot's; 0 where it is none.
unfoldable pub word_for : Piece → ℕ
word_for (sign w) = 0
word_for (payload w) = 0
word_for (by_mark table) = 0
word_for (flagged f w) = 0
word_for (where_some i w) = 0
word_for (child i) = 3 + i
word_for (children i w) = 3 + i

-- Which piece stands behind that for a word.
unfoldable pub behind : List Piece → ℕ → ℕ
behind [] k = 0
behind (q ∷ qs) k = cond (eqb (word_for q) k) 1 (suc (behind qs k))
