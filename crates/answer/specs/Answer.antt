-- What an entry answers to what was read, and what it does with the pool.
use Rattle.std.specs.Prelude.{ℕ, ◌≡◌, List, [], ◌∷◌, ltb, length, replicate, Result, Ok, Err}
use Rattle.grammar.specs.Tree.{Trees, sizes}
use Rattle.grammar.specs.Parsed.{Parsed, refused, read, Check, need, BadStart}
use Rattle.grammar.specs.Script.{both, array_good, pool}
use Rattle.refusals.specs.Refusal.{Numbered, refusal, checked}
use Rattle.answer.specs.declared.Piece.{Piece}
use Rattle.answer.specs.declared.Accepted.{Accepted}

-- What a reader read: so many rows, the reference of what was read, and the next place.
abbrev pub piece : (rows head next : ℕ) → Piece
piece rows head next = record { rows = rows; head = head; next = next }

-- What a reader answers.
abbrev pub Read : Type 0
Read = Result Piece Numbered

-- What an entry accepted: the root's reference, the rows used and the current place.
abbrev pub accepted : (root rows place : ℕ) → Accepted
accepted root rows place = record { root = root; rows = rows; place = place }

-- What an entry answers.
abbrev pub Answer : Type 0
Answer = Result Accepted Numbered

-- The answer to what the definition reads.
abbrev pub answered : Parsed Trees → Answer
answered (refused n p) = Err (refusal n p)
answered (read us at left) = Ok (accepted (sizes us) (sizes us) at)

-- The number and the values of an answer: 0, the root's reference, the rows used and the current place; or a refusal's number and place, and zeros.
abbrev pub numbers : Answer → List ℕ
numbers (Ok a) = 0 ∷ a.root ∷ a.rows ∷ a.place ∷ []
numbers (Err e) = e.number ∷ e.place ∷ 0 ∷ 0 ∷ []

-- The promise of an entry that is lent so many words: its answer, and every word of the pool as it is then.
pub record Entered (P : Parsed Trees) (r : Answer) (words : ℕ) (ys : List ℕ) : Type 0 where
  pub answer : r ≡ answered P
  pub left : ys ≡ pool words P

-- The check of an array and of a start place.
unfoldable pub checks : List ℕ → ℕ → Check
checks ts at = both (array_good ts) (need (ltb at (length ts)) BadStart 0)

-- Where reading starts.
abbrev pub start_of : Check → ℕ → Result ℕ Numbered
start_of = checked

-- The answer to what a reader answers, whatever its refusals are.
abbrev pub ended : {E : Type 0} → Result Piece E → Result Accepted E
ended (Ok t) = Ok (accepted t.head t.rows t.next)
ended (Err e) = Err e

-- The pool after what a reader answers: zero after a refusal.
abbrev pub ended_pool : {E : Type 0} → Result Piece E → List ℕ → List ℕ
ended_pool (Ok t) ys = ys
ended_pool (Err e) ys = replicate (length ys) 0
