-- What is promised of results of the entries, the check and the writer together, each promise as a named type.
use Rattle.std.specs.Prelude.{ℕ, ◌+◌, ◌-◌, ◌*◌, ◌≤◌, ◌<◌, ◌≡◌, List, ◌++◌, ◌⊎◌, length, take, replicate, Result, Ok, Err}
use Rattle.grammar.specs.Tree.{Tree, size, lay, width}
use Rattle.grammar.specs.Parsed.{TooDeep}
use Rattle.grammar.specs.Script.{longest, nesting, rows, one_expression, one_statement, whole_script}
use Rattle.modes.specs.declared.Mode.{Mode}
use Rattle.modes.specs.Modes.{by}
use Rattle.refusals.specs.Refusal.{Numbered, refusal}
use Rattle.trees.specs.Pool.{Holds}
use Rattle.trees.specs.Verdict.{Verdict}
use Rattle.trees.specs.Exact.{IsTree}
use Rattle.written.specs.Written.{written, words, places}
use Rattle.written.specs.Claims.{plain, deep, entry_of, asked, back_from_end}
use Rattle.writer.specs.Wrote.{Writes}
use Rattle.answer.specs.Answer.{Answer, accepted, Entered}

-- The text of a tree: so many words and places, in front of two slices.
pub record Text (t : Tree) (n : ℕ) (ws ps : List ℕ) : Type 0 where
  pub long : n ≡ length (written t)
  pub in_words : take n ws ≡ words (written t)
  pub in_places : take n ps ≡ places (written t)

-- Where the writer answers with a count, it has written the text of a tree that the pool holds at the root; trees' `Exact` says that it is the one.
abbrev pub WritesText : Type 0
WritesText =
    (pool : List ℕ) (root w p n : ℕ) (ws ps : List ℕ) → Writes pool root w p (Ok n) ws ps → (t : Tree) × IsTree pool root t × Text t n ws ps

-- A tree has come back: an entry accepts its n tokens, and leaves a tree that is the same but for places, ends and grouped marks, with zeros behind it.
pub record CameBack (t : Tree) (n : ℕ) (r : Answer) (lent : ℕ) (ys : List ℕ) : Type 0 where
  pub tree : Tree
  pub at : ℕ
  pub answer : r ≡ Ok (accepted (size t) (size t) at)
  pub place : at + back_from_end (entry_of t) ≡ n
  pub same : plain tree ≡ plain t
  pub left : ys ≡ lay tree 0 0 ++ replicate (lent - width * size t) 0

-- It is refused as too deep, at a place of its n tokens.
pub record IsTooDeep (n : ℕ) (r : Answer) : Type 0 where
  pub place : ℕ
  pub answer : r ≡ Err (refusal TooDeep place)
  pub inside : place < n

-- What holds, in either mode, of every result of the entry for the root, given what the writer has written of a tree with P, if that is no longer than an
-- array may be, and a pool that has rows enough for the tree or is as long as the tree's own. P is what leaves trees out.
abbrev pub OfTexts : (Tree → Type 0) → ((t : Tree) (n : ℕ) (r : Answer) (lent : ℕ) (ys : List ℕ) → Type 0) → Type 0
OfTexts P Q =
    (pool : List ℕ) (root w p n : ℕ) (ws ps : List ℕ) (t : Tree) (mode : Mode) (lent : ℕ) (r : Answer) (ys : List ℕ) → Writes pool root w p (Ok n) ws ps
    → Holds pool root t → P t → n ≤ longest → (size t ≤ rows lent) ⊎ (length pool ≤ lent)
    → Entered (asked (by mode) (entry_of t) (take n ws) (rows lent)) r lent ys → Q t n r lent ys

-- The round trip: what the writer writes of a tree is read back, where no more are open at once than may be.
abbrev pub RoundTripAnswered : Type 0
RoundTripAnswered = OfTexts (λ t. deep t ≤ nesting) CameBack

-- Any tree is read back, or refused as too deep.
abbrev pub ReadBackAnswered : Type 0
ReadBackAnswered = OfTexts (λ t. Unit {0}) (λ t n r lent ys. CameBack t n r lent ys ⊎ IsTooDeep n r)

-- And it is refused so exactly where it is deeper than may be open.
abbrev pub DeepAnswered : Type 0
DeepAnswered = OfTexts (λ t. Unit {0}) (λ t n r lent ys. (IsTooDeep n r → nesting < deep t) × (nesting < deep t → IsTooDeep n r))

-- What holds of the root and the pool of every acceptance, by any entry and in either mode; of a statement, where it isn't an Empty token, which has no root.
abbrev pub OfAccepted : ((root : ℕ) (ys : List ℕ) → Type 0) → Type 0
OfAccepted Q =
    (mode : Mode) (ts : List ℕ) (start lent root used place : ℕ) (ys : List ℕ)
    → (Entered (one_expression (by mode) ts start (rows lent)) (Ok (accepted root used place)) lent ys → Q root ys)
    × (Entered (one_statement (by mode) ts start (rows lent)) (Ok (accepted root used place)) lent ys → ¬ (root ≡ 0) → Q root ys)
    × (Entered (whole_script (by mode) ts (rows lent)) (Ok (accepted root used place)) lent ys → Q root ys)

-- Every tree that an entry accepts passes the check.
abbrev pub ParserPasses : Type 0
ParserPasses = OfAccepted (λ root ys. (c : Result (Unit {0}) Numbered) → Verdict ys root c → c ≡ Ok tt)

-- So the writer writes it, into slices that are long enough.
abbrev pub ParserWritten : Type 0
ParserWritten =
    OfAccepted (λ root ys. (t : Tree) × IsTree ys root t
    × ((w p : ℕ) (r : Result ℕ Numbered) (ws ps : List ℕ) → length (written t) ≤ w → length (written t) ≤ p → Writes ys root w p r ws ps → r ≡ Ok (length (written t))))
