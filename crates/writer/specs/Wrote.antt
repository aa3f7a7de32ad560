-- What the writer answers, and what it leaves in the two slices that it is lent.
use Rattle.std.specs.Prelude.{ℕ, zero, suc, ◌+◌, ◌≤◌, ◌≡◌, true, cond, ◌&&◌, List, [], ◌∷◌, leb, length, replicate, Result, Ok, Err}
use Rattle.std.proofs.lemmas.List.Edits.{sets}
use Rattle.grammar.specs.Tree.{Tree}
use Rattle.refusals.specs.Refusal.{Numbered, refusal, counted}
use Rattle.slots.specs.Slots.{any-root, fits}
use Rattle.trees.specs.Pool.{Holds}
use Rattle.trees.specs.Verdict.{Verdict}
use Rattle.written.specs.Written.{Token, written}
use Rattle.written.specs.Written as form
use Rattle.writer.specs.Walk.{move}
use Rattle.writer.specs.declared.walk.At.{At}

-- The refusal of an output that is too short.
abbrev pub TooShort : ℕ
TooShort = 32

-- The number and the values of an answer: 0 and the count of tokens, or a refusal's number and place; and zeros.
abbrev pub numbers : Result ℕ Numbered → List ℕ
numbers r = counted r

-- A slice of so many words with these in front, as far as it goes, and zeros behind.
unfoldable pub front : ℕ → List ℕ → List ℕ
front zero ws = []
front (suc n) [] = 0 ∷ front n []
front (suc n) (w ∷ ws) = w ∷ front n ws

-- The answer for a text, where the slices have so many words.
unfoldable pub answered : List Token → (words places : ℕ) → Result ℕ Numbered
answered ts w p = cond (leb (length ts) w && leb (length ts) p) (Ok (length ts)) (Err (refusal TooShort 0))

-- What is left in a slice: the words in front, or zeros after a refusal.
abbrev pub left : Result ℕ Numbered → (length : ℕ) → List ℕ → List ℕ
left (Ok count) n ws = front n ws
left (Err e) n ws = replicate n 0

-- The promise of the writer for a pool and a root, where the slices have `w` and `p` words: its answer r, and the slices as they are then.
pub data Writes (pool : List ℕ) (root w p : ℕ) (r : Result ℕ Numbered) (ws ps : List ℕ) : Type 0 where
  no_tree : (number place : ℕ) → Verdict pool root (Err (refusal number place)) → r ≡ Err (refusal number place) → ws ≡ replicate w 0 → ps ≡ replicate p 0
      → Writes pool root w p r ws ps
  a_text : (t : Tree) → Verdict pool root (Ok tt) → Holds pool root t → fits any-root t ≡ true → r ≡ answered (written t) w p
      → ws ≡ left r w (form.words (written t)) → ps ≡ left r p (form.places (written t)) → Writes pool root w p r ws ps

-- A step with its token put behind the others.
pub record Turned (pool : List ℕ) (root owner word : ℕ) (at next : At) (ws ps ws' ps' : List ℕ) : Type 0 where
  pub row : next.row ≡ (move pool root at.row at.piece owner word).1
  pub piece : next.piece ≡ (move pool root at.row at.piece owner word).2
  pub count : next.count ≡ at.count + length (move pool root at.row at.piece owner word).0
  pub short : length (move pool root at.row at.piece owner word).0 ≤ 1
  pub words : ws' ≡ sets ws at.count (form.words (move pool root at.row at.piece owner word).0)
  pub places : ps' ≡ sets ps at.count (form.places (move pool root at.row at.piece owner word).0)
