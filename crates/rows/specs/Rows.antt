-- The rows of a pool: what building, linking, marking and reading one does.
use Rattle.std.specs.Prelude.{ℕ, ◌+◌, ◌*◌, ◌/◌, ◌≡◌, Bool, ◌&&◌, cond, List, ◌++◌, leb, ltb, length, take, drop, set, Result, Ok, Err}
use Rattle.grammar.specs.Tree.{width, row, flag, Thread, Async, Grouped}
use Rattle.grammar.specs.Parsed.{NoRow}
use Rattle.grammar.specs.Script.{seat, word_of}
use Rattle.rows.specs.declared.Row.{Row}
use Rattle.refusals.specs.Refusal.{Numbered, refusal}
use Rattle.rows.specs.declared.Flag.{Flag}
use Rattle.rows.specs.declared.Flag.TheVariants as a

-- Where in its row the kind stands.
abbrev pub kind_word : ℕ
kind_word = 0

-- Where in its row the mark stands.
abbrev pub mark_word : ℕ
mark_word = 1

-- Where in its row the next row's reference stands.
abbrev pub next_word : ℕ
next_word = 7

-- The words of a row that is built: no row is next.
abbrev pub words : Row → List ℕ
words r = row r.kind r.mark r.place r.c0 r.c1 r.c2 r.c3 0 r.end

-- A pool with these words for the row behind the first `rows` rows.
abbrev pub placed : (xs : List ℕ) (rows : ℕ) (ws : List ℕ) → List ℕ
placed xs rows ws = take (width * rows) xs ++ (ws ++ drop (width * rows + width) xs)

-- What building a row behind the first `rows` rows answers and leaves: the row, or a refusal at `place` where no row is free.
unfoldable pub built : (xs : List ℕ) (rows : ℕ) (ws : List ℕ) (place : ℕ) → Result ℕ Numbered × List ℕ
built xs rows ws place = cond (ltb rows (length xs / width)) (Ok (rows + 1), placed xs rows ws) (Err (refusal NoRow place), xs)

-- The promise of building a row: the answer r, and the pool as it is then, ys.
pub record Builds (xs : List ℕ) (rows : ℕ) (ws : List ℕ) (place : ℕ) (r : Result ℕ Numbered) (ys : List ℕ) : Type 0 where
  pub met : ◌≡◌ {A = Result ℕ Numbered × List ℕ} (r, ys) (built xs rows ws place)

-- Whether a reference, a row's number plus one, is that of a row in so many words.
unfoldable pub is_row : (words reference : ℕ) → Bool
is_row n reference = ltb 0 reference && leb reference (n / width)

-- A pool with `next` for the next word of the row with this reference, where there is such a row.
unfoldable pub linked : (xs : List ℕ) (reference next : ℕ) → List ℕ
linked xs reference next = cond (is_row (length xs) reference) (set xs (seat reference next_word) next) xs

-- The number that stands for a flag in a mark.
abbrev pub bit : Flag → ℕ
bit a.Thread = Thread
bit a.Async = Async
bit a.Grouped = Grouped

-- A pool with a flag in the mark of the row with this reference, where there is such a row.
unfoldable pub marked : (xs : List ℕ) (reference : ℕ) (f : Flag) → List ℕ
marked xs reference f = cond (is_row (length xs) reference) (set xs (seat reference mark_word) (flag (bit f) (word_of xs reference mark_word))) xs

-- The k-th word of the row with this reference, 0 where there is no such row or word.
unfoldable pub read : (xs : List ℕ) (reference k : ℕ) → ℕ
read xs reference k = cond (is_row (length xs) reference && ltb k width) (word_of xs reference k) 0
