-- Trees whose payloads are fields of a file: which rows are wrong, and what the check answers.
use Rattle.std.specs.Prelude.{ℕ, ◌<◌, ◌≡◌, true, false, List, Result, Ok, Err, length}
use Rattle.refusals.specs.Refusal.{Numbered, refusal, counted}
use Rattle.grammar.specs.Tree.{Tree}
use Rattle.grammar.specs.Script.{word_of}
use Rattle.slots.specs.Slots.{any-root, fits}
use Rattle.files.specs.File.{read, refused}
use Rattle.payloads.specs.Fields.{Field, fields_of}
use Rattle.payloads.specs.Needs.{placed}
use Rattle.payloads.specs.Index.{held}
use Rattle.trees.specs.Pool.{In, Reached, Bad, Holds}
use Rattle.trees.specs.Verdict.{NoTree}

-- The number and the values of an answer: 0, the count of fields and zeros, or a refusal's number and place, and zeros.
abbrev pub numbers : Result ℕ Numbered → List ℕ
numbers = counted

module _ (pool : List ℕ) (root : ℕ) where
  -- The lowest row that the root reaches of those that a condition holds of.
  pub record LowestOf (P : ℕ → Type 0) (p : ℕ) : Type 0 where
    pub inside : In pool p
    pub reached : Reached pool root p
    pub has : P p
    pub first : (q : ℕ) → q < p → Reached pool root q → P q → ⊥

  -- No row that the root reaches is such.
  abbrev pub NoneOf : (ℕ → Type 0) → Type 0
  NoneOf P = (q : ℕ) → Reached pool root q → P q → ⊥

  -- A wrong row: a bad one, or one whose place isn't the number of a field of the class that its kind needs.
  pub data Wrong (fs : List Field) (r : ℕ) : Type 0 where
    bad : Bad pool root r → Wrong fs r
    misplaced : placed fs (word_of pool r 0) (word_of pool r 2) ≡ false → Wrong fs r

  -- The answer: the file's refusal, no root, the lowest wrong row, or a tree over so many fields.
  pub data Over (bytes : List ℕ) : Result ℕ Numbered → Type 0 where
    bad_file : {number place : ℕ} → held bytes ≡ refused number place → Over bytes (Err (refusal number place))
    no_root : {words : List ℕ} → held bytes ≡ read words → (In pool root → ⊥) → Over bytes (Err (refusal NoTree 0))
    wrong_row : {words : List ℕ} {p : ℕ} → held bytes ≡ read words → In pool root → LowestOf (Wrong (fields_of bytes)) p → Over bytes (Err (refusal NoTree p))
    a_tree : {words : List ℕ} (t : Tree) → held bytes ≡ read words → In pool root → NoneOf (Wrong (fields_of bytes)) → Holds pool root t
        → fits any-root t ≡ true → Over bytes (Ok (length words))
