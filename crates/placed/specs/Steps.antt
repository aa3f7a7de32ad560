-- What the check's steps find out: whether a row is placed by the file's index, the first row that isn't, and the answer by it.
use Rattle.std.specs.Prelude.{ℕ, ◌<◌, ◌≡◌, Bool, false, cond, ◌||◌, List, Option, Some, None, Result, Ok, Err, eqb, ltb, get_or}
use Rattle.grammar.specs.Script.{word_of}
use Rattle.refusals.specs.Refusal.{Numbered, refusal}
use Rattle.payloads.specs.Needs.{needs}
use Rattle.payloads.specs.Index.{class_by}
use Rattle.trees.specs.Pool.{In}
use Rattle.trees.specs.Verdict.{NoTree}
use Rattle.trees.specs.Leaves.{Leaves}
use Rattle.placed.specs.Over.{Over}

module _ (pool : List ℕ) where
  -- Whether a row's place is the number of a field of the class that its kind needs, by an index of so many fields.
  unfoldable pub placed_by : (bytes starts : List ℕ) (count r : ℕ) → Bool
  placed_by bytes starts count r =
      eqb (needs (word_of pool r 0)) 0 || eqb (class_by bytes starts count (word_of pool r 2)) (needs (word_of pool r 0))

  module _ (words bytes starts : List ℕ) (count : ℕ) where
    -- A row with a link whose place isn't such a number.
    pub record Misplaced (r : ℕ) : Type 0 where
      pub inside : In pool r
      pub linked : get_or words r 0 ≡ 0 → ⊥
      pub wrong : placed_by bytes starts count r ≡ false

    -- The first such row.
    pub data FirstMisplaced : Option ℕ → Type 0 where
      none : ((q : ℕ) → Misplaced q → ⊥) → FirstMisplaced None
      lowest : {r : ℕ} → Misplaced r → ((q : ℕ) → q < r → Misplaced q → ⊥) → FirstMisplaced (Some r)

  -- An answer that is right for each root for which a survey answers c and leaves these words.
  abbrev pub Answers : (c : Result Unit Numbered) (words bytes : List ℕ) → Result ℕ Numbered → Type 0
  Answers c words bytes r = (root n : ℕ) (owners queue : List ℕ) → Leaves pool root n c owners words queue → Over pool root bytes r

-- The answer of so many fields by the trees' answer and the first misplaced row: of two rows the lower one decides.
unfoldable pub lower : Result Unit Numbered → (misplaced : Option ℕ) → (count : ℕ) → Result ℕ Numbered
lower (Ok tt) None count = Ok count
lower (Ok tt) (Some w) count = Err (refusal NoTree w)
lower (Err e) None count = Err e
lower (Err e) (Some w) count = cond (ltb e.place w) (Err e) (Err (refusal e.number w))
