-- What a reader asks of its part of the pool, and what it ensures of its answer and of that part.
use Rattle.std.specs.Prelude.{ℕ, ◌+◌, ◌*◌, ◌-◌, ◌/◌, ◌≤◌, ◌<◌, ◌≡◌, true, List, [], ◌∷◌, ◌++◌, length, drop, Ok, Err}
use Rattle.grammar.specs.Words.{tok, valid, EOF}
use Rattle.grammar.specs.Tree.{Tree, infixed, node, Trees, nil, ◌▸◌, sizes, lays, head_ref, width}
use Rattle.grammar.specs.Parsed.{Parsed, refused, read}
use Rattle.grammar.specs.Script.{largest}
use Rattle.refusals.specs.Refusal.{refusal}
use Rattle.answer.specs.Answer.{Read, piece}

-- An array that was checked: not too long, every word valid, EOF last.
pub record Sound (ts : List ℕ) : Type 0 where
  pub few : length ts ≤ 32768
  pub good : (at : ℕ) → valid (tok ts at) ≡ true
  pub ends : tok ts (length ts - 1) ≡ EOF

-- What a reader asks: a checked array, a place in it, and a part of whole rows that with the rows before it is no larger than a pool.
pub record Ready (ts xs : List ℕ) (first at : ℕ) : Type 0 where
  pub sound : Sound ts
  pub within : at < length ts
  pub whole : length xs ≡ width * (length xs / width)
  pub fits : width * first + length xs ≤ largest

-- The words of slots one behind the other, from behind `first` rows on.
abbrev pub lay_slots : List Trees → ℕ → List ℕ
lay_slots [] first = []
lay_slots (a ∷ rest) first = lays a first ++ lay_slots rest (first + sizes a)

-- How many rows there are behind the slots.
abbrev pub after : List Trees → ℕ → ℕ
after [] first = first
after (a ∷ rest) first = after rest (first + sizes a)

-- The first k rows of a part are p, and what comes behind is as it was.
pub record Front (p : List ℕ) (k : ℕ) (xs ys : List ℕ) : Type 0 where
  pub laid : ys ≡ p ++ drop (width * k) xs
  pub long : length p ≡ width * k
  pub fit : width * k ≤ length xs

-- Slots were read from a place on into the first k rows of the part xs, which is now ys; `left` rows are left, and the cursor stands at `at`.
pub record Stands (ts : List ℕ) (from : ℕ) (slots : List Trees) (first k left : ℕ) (xs ys : List ℕ) (at : ℕ) : Type 0 where
  pub front : Front (lay_slots slots first) k xs ys
  pub ends : first + k ≡ after slots first
  pub spent : k + left ≡ length xs / width
  pub on : from ≤ at
  pub within : at < length ts

-- One more slot was read, and the answer says so.
pub record Got (ts : List ℕ) (from : ℕ) (slot : Trees) (at left : ℕ) (slots : List Trees) (first : ℕ) (r : Read) (xs ys : List ℕ) : Type 0 where
  pub rows : ℕ
  pub is : r ≡ Ok (piece rows (head_ref slot (after slots first)) at)
  pub stands : Stands ts from (slots ++ (slot ∷ [])) first rows left xs ys at

-- What is read stands in a slot: a list as it is, one tree alone.
abbrev pub many : Trees → Trees
many ts = ts

abbrev pub one : Tree → Trees
one t = t ▸ nil

-- By cases on what the definition gives: the same refusal, or one more slot.
abbrev pub Case : {A : Type 0} → (A → Trees) → List ℕ → ℕ → Parsed A → List Trees → ℕ → Read → List ℕ → List ℕ → Type 0
Case slot ts from (refused n q) slots first r xs ys = r ≡ Err (refusal n q)
Case slot ts from (read a at left) slots first r xs ys = Got ts from (slot a) at left slots first r xs ys

-- The answer of a reader that began behind slots, and its part, are as the definition has them.
pub record Meets {A : Type 0} (slot : A → Trees) (ts : List ℕ) (from : ℕ) (P : Parsed A) (slots : List Trees) (first : ℕ) (r : Read) (xs ys : List ℕ) : Type 0 where
  pub met : Case slot ts from P slots first r xs ys

-- Four slots: those that are there, and empty ones.
abbrev pub four : List Trees → List Trees
four [] = nil ∷ nil ∷ nil ∷ nil ∷ []
four (a ∷ []) = a ∷ nil ∷ nil ∷ nil ∷ []
four (a ∷ b ∷ []) = a ∷ b ∷ nil ∷ nil ∷ []
four (a ∷ b ∷ c ∷ []) = a ∷ b ∷ c ∷ nil ∷ []
four (a ∷ b ∷ c ∷ d ∷ rest) = a ∷ b ∷ c ∷ d ∷ []

-- A tree's root: its kind, its mark, its place, its end and its slots.
pub data Root : Tree → ℕ → ℕ → ℕ → ℕ → List Trees → Type 0 where
  of_node : {k m p z : ℕ} {a b c d : Trees} → Root (node k m p a b c d z) k m p z (a ∷ b ∷ c ∷ d ∷ [])
  of_infix : {m p z : ℕ} {l r : Tree} → Root (infixed m p l r z) 12 m p z ((l ▸ nil) ∷ (r ▸ nil) ∷ nil ∷ nil ∷ [])

-- References to four slots that begin behind `first` rows.
abbrev pub Refs : List Trees → ℕ → ℕ → ℕ → ℕ → ℕ → Type 0
Refs [] first c0 c1 c2 c3 = ⊥
Refs (a ∷ []) first c0 c1 c2 c3 = ⊥
Refs (a ∷ b ∷ []) first c0 c1 c2 c3 = ⊥
Refs (a ∷ b ∷ c ∷ []) first c0 c1 c2 c3 = ⊥
Refs (a ∷ b ∷ c ∷ d ∷ rest) first c0 c1 c2 c3 =
    (c0 ≡ head_ref a first) × (c1 ≡ head_ref b (first + sizes a)) × (c2 ≡ head_ref c (first + sizes a + sizes b)) × (c3 ≡ head_ref d (first + sizes a + sizes b + sizes c))

-- No more than four slots.
abbrev pub Few : List Trees → Type 0
Few [] = Unit {0}
Few (a ∷ []) = Unit {0}
Few (a ∷ b ∷ []) = Unit {0}
Few (a ∷ b ∷ c ∷ []) = Unit {0}
Few (a ∷ b ∷ c ∷ d ∷ []) = Unit {0}
Few (a ∷ b ∷ c ∷ d ∷ e ∷ rest) = ⊥

-- A row of these words ends a tree whose slots are laid, once it is built.
pub record Ending (t : Tree) (kind mark place : ℕ) (slots : List Trees) (first c0 c1 c2 c3 : ℕ) : Type 0 where
  pub few : Few slots
  pub root : Root t kind mark place 0 (four slots)
  pub refs : Refs (four slots) first c0 c1 c2 c3

-- The numbers of an answer fit: its rows are in the part, and its cursor is not before the place and in the array.
abbrev pub BoundedCase : List ℕ → List ℕ → ℕ → Read → Type 0
BoundedCase ts xs at (Ok t) = (width * t.rows ≤ length xs) × (at ≤ t.next) × (t.next < length ts)
BoundedCase ts xs at (Err e) = Unit {0}

pub record Bounded (ts xs : List ℕ) (at : ℕ) (r : Read) : Type 0 where
  pub bounded : BoundedCase ts xs at r
