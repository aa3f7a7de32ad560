-- What the functions on trees leave in the slices that they are lent.
use Rattle.std.specs.Prelude.{ℕ, ◌≡◌, List, length, Result}
use Rattle.refusals.specs.Refusal.{Numbered}
use Rattle.trees.specs.Verdict as check
use Rattle.writer.specs.Wrote as writer
use Rattle.json_writer.specs.Tells as json
use Rattle.four.specs.Answers.{over}

module _ (pool : List ℕ) (root : ℕ) where
  -- The answer of the check is in front of the slice that is lent for it.
  pub record Checks (slice slice' : List ℕ) : Type 0 where
    pub answer : Result (Unit {0}) Numbered
    pub verdict : check.Verdict pool root answer
    pub four : slice' ≡ over (check.numbers answer) slice

  -- The answer of the writer is in front of the slice that is lent for it, and the other two are as the writer leaves them.
  pub record Puts (words places slice words' places' slice' : List ℕ) : Type 0 where
    pub answer : Result ℕ Numbered
    pub writes : writer.Writes pool root (length words) (length places) answer words' places'
    pub four : slice' ≡ over (writer.numbers answer) slice

  -- The answer of writing as JSON is in front of the slice that is lent for it, and the text is as the writer leaves it.
  pub record Tells (file text slice text' slice' : List ℕ) : Type 0 where
    pub answer : Result ℕ Numbered
    pub tells : json.Tells pool root file (length text) answer text'
    pub four : slice' ≡ over (json.numbers answer) slice
