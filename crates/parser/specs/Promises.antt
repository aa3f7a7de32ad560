-- What is promised of every result that meets an entry's contract, each promise as a named type.
use Rattle.std.specs.Prelude.{ℕ, ◌-◌, ◌*◌, ◌≤◌, ◌≡◌, List, [], ◌∷◌, ◌++◌, ◌⊎◌, replicate, Ok, Err}
use Rattle.grammar.specs.Tree.{Trees, sizes, lay, width}
use Rattle.grammar.specs.Parsed.{Parsed, read, NoRow, WrongSign}
use Rattle.grammar.specs.Rules.{Rules}
use Rattle.grammar.specs.Script.{one_expression, one_statement, whole_script, largest, rows, answer, word_of}
use Rattle.grammar.specs.Claims.{Grouping, Part, RowsRuled, RowsEnd, tokens_from, expression_rows, statement_rows, script_rows}
use Rattle.modes.specs.declared.Mode.TheVariants.{Old, Strict}
use Rattle.modes.specs.Modes.{by}
use Rattle.refusals.specs.Refusal.{refusal}
use Rattle.answer.specs.Answer.{Answer, accepted, Entered, numbers}

-- The number and the values of an entry's answer are those of the definition.
abbrev pub Numbered : Type 0
Numbered = (P : Parsed Trees) (r : Answer) (words : ℕ) (ys : List ℕ) → Entered P r words ys → numbers r ≡ answer P

-- After a refusal every word of the pool is zero.
abbrev pub ZeroAfter : Type 0
ZeroAfter = (P : Parsed Trees) (number place words : ℕ) (ys : List ℕ) → Entered P (Err (refusal number place)) words ys → ys ≡ replicate words 0

-- What an accepted answer says was read, so that what is claimed of the definition holds of it.
pub record Opened (P : Parsed Trees) (root used place : ℕ) : Type 0 where
  pub trees : Trees
  pub left : ℕ
  pub was_read : P ≡ read trees place left
  pub all_used : used ≡ sizes trees
  pub root_last : root ≡ used

abbrev pub Opens : Type 0
Opens = (P : Parsed Trees) (root used place words : ℕ) (ys : List ℕ) → Entered P (Ok (accepted root used place)) words ys → Opened P root used place

-- Where a chain is read as its one tree, the entry says so: 0, the root's reference and the rows used, the current place; the tree's rows and zeros.
abbrev pub ChainsAnswered : Type 0
ChainsAnswered =
    (rules : Rules) (ts : List ℕ) (deep s at used : ℕ) (parts : List Part) (g : Grouping rules ts deep s at used parts) (r : Answer) (words : ℕ) (ys : List ℕ) → used ≤ rows words
    → Entered (one_expression rules ts s (rows words)) r words ys
    → (numbers r ≡ 0 ∷ used ∷ used ∷ at ∷ []) × (ys ≡ lay g.tree 0 0 ++ replicate (words - width * used) 0)

-- Whatever an entry answers, every infix row in the pool that it leaves keeps the rule.
abbrev pub RuleAnswered : Type 0
RuleAnswered =
    (rules : Rules) (ts : List ℕ) (start room words : ℕ) (r : Answer) (ys : List ℕ)
    → (Entered (one_expression rules ts start room) r words ys → RowsRuled ts ys)
    × (Entered (one_statement rules ts start room) r words ys → RowsRuled ts ys)
    × (Entered (whole_script rules ts room) r words ys → RowsRuled ts ys)

-- In the pool of every acceptance no row's place is before the start or past its end, no end is past the answer's place, and ends never fall.
abbrev pub EndsAnswered : Type 0
EndsAnswered =
    (rules : Rules) (ts : List ℕ) (start room root used place words : ℕ) (ys : List ℕ)
    → (Entered (one_expression rules ts start room) (Ok (accepted root used place)) words ys → RowsEnd ys start used place)
    × (Entered (one_statement rules ts start room) (Ok (accepted root used place)) words ys → RowsEnd ys start used place)
    × (Entered (whole_script rules ts room) (Ok (accepted root used place)) words ys → RowsEnd ys 0 used place)

-- A row that an entry has left ends at a place exactly where every result of the same call, lent just the rows before it, is the refusal 3 at that place.
abbrev pub EndTells : ((room : ℕ) → Parsed Trees) → Type 0
EndTells entry =
    (root used place words fewer r n : ℕ) (ys zs : List ℕ) (a : Answer) → Entered (entry (rows words)) (Ok (accepted root used place)) words ys
    → Entered (entry (rows fewer)) a fewer zs → 1 ≤ r → r ≤ used → rows fewer ≡ r - 1
    → (word_of ys r 8 ≡ n → a ≡ Err (refusal NoRow n)) × (a ≡ Err (refusal NoRow n) → word_of ys r 8 ≡ n)

-- The same of all three entries.
abbrev pub EndsToldAnswered : Type 0
EndsToldAnswered =
    (rules : Rules) (ts : List ℕ) (start : ℕ)
    → EndTells (λ room. one_expression rules ts start room) × EndTells (λ room. one_statement rules ts start room) × EndTells (λ room. whole_script rules ts room)

-- An entry that is lent so many words has no result that refuses for want of a row.
abbrev pub NeverFull : ((room : ℕ) → Parsed Trees) → (words : ℕ) → Type 0
NeverFull entry words = (place : ℕ) (ys : List ℕ) → ¬ Entered (entry (rows words)) (Err (refusal NoRow place)) words ys

-- So it is with rows enough, and in the largest pool for every array.
abbrev pub EnoughAnswered : Type 0
EnoughAnswered =
    (rules : Rules) (ts : List ℕ) (start words : ℕ)
    → ((expression_rows (tokens_from ts start) ≤ rows words) ⊎ (largest ≤ words) → NeverFull (λ room. one_expression rules ts start room) words)
    × ((statement_rows (tokens_from ts start) ≤ rows words) ⊎ (largest ≤ words) → NeverFull (λ room. one_statement rules ts start room) words)
    × ((script_rows (tokens_from ts 0) ≤ rows words) ⊎ (largest ≤ words) → NeverFull (λ room. whole_script rules ts room) words)

-- Of two results the first refuses by this number, or both are the same: the answer and every word of the pool.
abbrev pub SameUnless : ℕ → (r r' : Answer) (ys ys' : List ℕ) → Type 0
SameUnless n r r' ys ys' = ((place : ℕ) × (r ≡ Err (refusal n place))) ⊎ ((r ≡ r') × (ys ≡ ys'))

-- So it is of what two entries give for the same input.
abbrev pub GiveUnless : ℕ → (P Q : Parsed Trees) → Type 0
GiveUnless n P Q = (r r' : Answer) (words : ℕ) (ys ys' : List ℕ) → Entered P r words ys → Entered Q r' words ys' → SameUnless n r r' ys ys'

-- In strict mode an entry refuses by 30, or gives what it gives in the old mode.
abbrev pub StrictAnswered : Type 0
StrictAnswered =
    (ts : List ℕ) (start room : ℕ)
    → GiveUnless WrongSign (one_expression (by Strict) ts start room) (one_expression (by Old) ts start room)
    × GiveUnless WrongSign (one_statement (by Strict) ts start room) (one_statement (by Old) ts start room)
    × GiveUnless WrongSign (whole_script (by Strict) ts room) (whole_script (by Old) ts room)

-- What the first entry accepts, the second accepts with the same answer and the same words of the pool.
abbrev pub AcceptsToo : (P Q : Parsed Trees) → Type 0
AcceptsToo P Q =
    (root used place words : ℕ) (ys ys' : List ℕ) (r : Answer) → Entered P (Ok (accepted root used place)) words ys → Entered Q r words ys'
    → (r ≡ Ok (accepted root used place)) × (ys' ≡ ys)

-- What strict mode accepts, the old mode accepts too.
abbrev pub StrictAccepted : Type 0
StrictAccepted =
    (ts : List ℕ) (start room : ℕ)
    → AcceptsToo (one_expression (by Strict) ts start room) (one_expression (by Old) ts start room)
    × AcceptsToo (one_statement (by Strict) ts start room) (one_statement (by Old) ts start room)
    × AcceptsToo (whole_script (by Strict) ts room) (whole_script (by Old) ts room)
