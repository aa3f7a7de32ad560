-- How the writer goes through a tree: from a row and one of its pieces to the next, with what is written there.
use Rattle.std.specs.Prelude.{ℕ, suc, ◌+◌, cond, ◌&&◌, List, [], ◌∷◌, eqb, ltb, drop}
use Rattle.grammar.specs.Words.{EOF, SComma, SDot}
use Rattle.rows.specs.Rows.{read}
use Rattle.tokens.specs.Tokens.{word}
use Rattle.written.specs.Written.{Token, Piece, piece}
use Rattle.writer.specs.Codes.{shape, word_for, behind}
use Rattle.writer.specs.declared.pieces.Act.{Act}
use Rattle.writer.specs.declared.pieces.Act.TheVariants as act
use Rattle.writer.specs.declared.moves.Move.{Move}
use Rattle.writer.specs.declared.moves.Move.TheVariants as to

-- The piece behind all others of a row: it and its list are written, and the way goes up.
abbrev pub upward : ℕ
upward = 9

-- The kind by whose form a row is written: 0 for a root block.
unfoldable pub shown : List ℕ → (root r : ℕ) → ℕ
shown pool root r = cond (eqb r root && eqb (read pool r 0) 46) 0 (read pool r 0)

-- Of the slots of a row, only which of them hold something.
unfoldable pub some_of : ℕ → List (List Token)
some_of c = cond (eqb c 0) [] ([] ∷ [])

unfoldable pub filled : List ℕ → ℕ → List (List (List Token))
filled pool r = some_of (read pool r 3) ∷ some_of (read pool r 4) ∷ some_of (read pool r 5) ∷ some_of (read pool r 6) ∷ []

-- What a piece that is no slot's gives.
unfoldable pub text : List ℕ → ℕ → Piece → List Token
text pool r q = piece q (read pool r 1) (read pool r 2) (filled pool r)

-- What is written, and the row and the piece that come then. With row 0 all is written.
abbrev pub Moved : Type 0
Moved = List Token × ℕ × ℕ

-- A slot: down to its first row, or on where it is empty.
unfoldable pub into : List ℕ → (r j k : ℕ) → Moved
into pool r j k = cond (eqb (read pool r k) 0) ([], r, j + 1) ([], read pool r k, 0)

-- The sign between two rows of a list, by the kind of the first.
unfoldable pub between : ℕ → List Token
between k = cond (eqb k 18) ((SDot, 0) ∷ []) (cond (ltb k 20) ((SComma, 0) ∷ []) [])

-- The end of a row: on to the next of its list, or up.
unfoldable pub along : List ℕ → ℕ → Moved
along pool r = cond (eqb (read pool r 7) 0) ([], r, upward) (between (read pool r 0), read pool r 7, 0)

-- Up from a row by its link: EOF behind the root, back in a list, or behind the slot in which its list stands.
unfoldable pub up : List ℕ → (root owner word : ℕ) → Moved
up pool root o w =
    cond (eqb w 1) ((EOF, 0) ∷ [], 0, 0) (cond (eqb w 7) ([], o, upward) ([], o, behind (shape (shown pool root o)) w))

-- On from the pieces that are left of a row.
unfoldable pub onward : List ℕ → (r j : ℕ) → List Piece → Moved
onward pool r j [] = along pool r
onward pool r j (q ∷ qs) = cond (eqb (word_for q) 0) (text pool r q, r, j + 1) (into pool r j (word_for q))

-- One step from a piece of a row, which a word of its owner leads to.
unfoldable pub move : List ℕ → (root r j owner word : ℕ) → Moved
move pool root r j o w = cond (eqb j upward) (up pool root o w) (onward pool r j (drop j (shape (shown pool root r))))

-- What a step in the code says.
abbrev pub moved : Move → Moved
moved (to.Put t p r j) = ((word t, p) ∷ [], r, j)
moved (to.Go r j) = ([], r, j)

-- What a piece does: it gives a text, with 0 behind it; or it is a slot's, with one more than the word of the row that it is about.
abbrev pub Done : Type 0
Done = List Token × ℕ

unfoldable pub does : List ℕ → ℕ → Piece → Done
does pool r q = cond (eqb (word_for q) 0) (text pool r q, 0) ([], suc (word_for q))

-- What it does in the code.
abbrev pub done : Act → Done
done (act.Put t p) = ((word t, p) ∷ [], 0)
done act.Skip = ([], 0)
done (act.Slot k) = ([], suc k)
