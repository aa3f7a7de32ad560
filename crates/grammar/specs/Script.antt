-- The three entries: from an array, a start place and a pool to the answer and every word of the pool.
use Rattle.std.specs.Prelude.{ℕ, suc, ◌+◌, ◌-◌, ◌*◌, ◌/◌, min, not, ◌&&◌, List, [], ◌∷◌, ◌++◌, length, get_or, replicate, eqb, ltb, leb}
use Rattle.grammar.specs.Words.{EOF, valid, Zero}
use Rattle.grammar.specs.Tree.{Trees, nil, ◌▸◌, sizes, lays, block, width}
use Rattle.grammar.specs.Parsed.{Parsed, refused, read, ◌>>=◌, Check, met, failed, need, ◌>>◌, build, turns, BadArray, BadStart}
use Rattle.grammar.specs.Rules.{Rules}
use Rattle.grammar.specs.Expressions.{expression}
use Rattle.grammar.specs.Statements.{statement, statements}

-- How many expressions and statements may be open at once.
unfoldable pub nesting : ℕ
nesting = 64

-- The most tokens of an array.
unfoldable pub longest : ℕ
longest = 32768

-- One condition and then another.
unfoldable pub both : Check → Check → Check
both met c = c
both (failed n p) c = failed n p

-- The words from a place on: valid ones, EOF last and nowhere else.
unfoldable pub words_good : (place : ℕ) → List ℕ → Check
words_good at [] = met
words_good at (w ∷ []) = need (eqb w EOF) BadArray at
words_good at (w ∷ v ∷ ws) = both (need (valid w && not (eqb w EOF)) BadArray at) (words_good (suc at) (v ∷ ws))

-- The check of an array: its length and then its words.
unfoldable pub array_good : List ℕ → Check
array_good ts = both (need (ltb 0 (length ts) && leb (length ts) longest) BadArray 0) (words_good 0 ts)

-- One expression from a start place.
unfoldable pub one_expression : Rules → List ℕ → (start room : ℕ) → Parsed Trees
one_expression rules ts start room = do
  array_good ts
  need (ltb start (length ts)) BadStart 0
  (t, at, room) ← expression rules ts nesting Zero start room
  read (t ▸ nil) at room

-- One statement from a start place.
unfoldable pub one_statement : Rules → List ℕ → (start room : ℕ) → Parsed Trees
one_statement rules ts start room = do
  array_good ts
  need (ltb start (length ts)) BadStart 0
  statement rules ts nesting start room

-- A whole script: statements up to EOF, in a block at place 0.
unfoldable pub whole_script : Rules → List ℕ → (room : ℕ) → Parsed Trees
whole_script rules ts room = do
  array_good ts
  (list, at, room) ← statements rules ts (expression rules ts nesting) (statement rules ts nesting) EOF turns nil 0 room
  (t, at, room) ← build (block 0 list) at room
  read (t ▸ nil) at room

-- The most rows of a pool, and the words that they take.
abbrev pub most_rows : ℕ
most_rows = 65535

abbrev pub largest : ℕ
largest = width * most_rows

-- The rows of a pool of so many words.
unfoldable pub rows : ℕ → ℕ
rows words = min (words / width) most_rows

-- The answer by number: 0, the root's reference, the rows used and the current place; or a refusal's number and place, and zeros.
unfoldable pub answer : Parsed Trees → List ℕ
answer (refused n p) = n ∷ p ∷ 0 ∷ 0 ∷ []
answer (read ts at room) = 0 ∷ sizes ts ∷ sizes ts ∷ at ∷ []

-- Every word of a pool of so many words: the rows of what was read and then zeros, or all zeros after a refusal.
unfoldable pub pool : (words : ℕ) → Parsed Trees → List ℕ
pool words (refused n p) = replicate words 0
pool words (read ts at room) = lays ts 0 ++ replicate (words - width * sizes ts) 0

-- Where in a pool a word of the row with a reference stands: word 0 is its kind, 1 its mark, 2 its place, 3 to 6 its children, 7 its next, 8 its end.
abbrev pub seat : (reference word : ℕ) → ℕ
seat r k = width * (r - 1) + k

-- That word.
abbrev pub word_of : List ℕ → (reference word : ℕ) → ℕ
word_of pool r k = get_or pool (seat r k) 0
