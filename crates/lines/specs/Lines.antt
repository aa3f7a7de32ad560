-- The text that `outline` prints, from an answer and its pool.
use Rattle.std.specs.Prelude.{ℕ, zero, suc, ◌+◌, ◌*◌, Ok, Err}
use Prim.Native.Char.{code}
use Prim.Native.String.{String, [] as empty, ◌∷◌ as ◌then◌}
use mathlib.Core.List.{List, [], ◌∷◌, ◌++◌, map, flatten}
use Rattle.grammar.specs.Tree.{Trees, width}
use Rattle.grammar.specs.Parsed.{Parsed}
use Rattle.grammar.specs.Script.{pool}
use Rattle.rows.specs.Rows.{read}
use Rattle.answer.specs.Answer.{Answer, answered}
use Rattle.lines.specs.Decimal.{decimal, most_digits}

-- The bytes of a quoted text.
abbrev pub letters : String → List ℕ
letters empty = []
letters (c then cs) = code c ∷ letters cs

-- The byte behind a number: a space if there are more numbers, and a newline behind the last.
abbrev pub behind : (more : List ℕ) → ℕ
behind [] = 10
behind (n ∷ ns) = 32

-- Numbers in decimal on a line.
unfoldable pub line : List ℕ → List ℕ
line [] = []
line (n ∷ ns) = decimal n ++ (behind ns ∷ line ns)

-- The first line: `ok`, root, rows and last place, or `no`, number and place.
abbrev pub first_line : Answer → List ℕ
first_line (Ok a) = letters "ok " ++ line (a.root ∷ a.rows ∷ a.place ∷ [])
first_line (Err e) = letters "no " ++ line (e.number ∷ e.place ∷ [])

-- So many numbers, counted from the first.
unfoldable pub from : (first count : ℕ) → List ℕ
from first zero = []
from first (suc count) = first ∷ from (suc first) count

-- The words of a row in the order of the layout, and their line.
abbrev pub row_words : (pool : List ℕ) (reference : ℕ) → List ℕ
row_words pool reference = map (read pool reference) (from 0 width)

abbrev pub row_line : (pool : List ℕ) (reference : ℕ) → List ℕ
row_line pool reference = line (row_words pool reference)

-- How many rows an answer uses: none after a refusal.
abbrev pub used : Answer → ℕ
used (Ok a) = a.rows
used (Err e) = 0

-- The lines: the first, and then that of each used row.
abbrev pub lines : Answer → (pool : List ℕ) → List (List ℕ)
lines answer pool = first_line answer ∷ map (row_line pool) (from 1 (used answer))

-- The whole text.
unfoldable pub text : Answer → (pool : List ℕ) → List ℕ
text answer pool = flatten (lines answer pool)

-- The text of what was read, with a pool of so many words.
abbrev pub printed : Parsed Trees → (words : ℕ) → List ℕ
printed p words = text (answered p) (pool words p)

-- The bytes that a number of 64 bits takes at most on a line, and those of the longest line: a word, a space, and as many numbers as a row has words.
abbrev pub places : ℕ
places = most_digits + 1

abbrev pub longest : ℕ
longest = 3 + places * width
