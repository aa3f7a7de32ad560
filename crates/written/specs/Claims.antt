-- What is claimed of written trees: they are read back.
use Rattle.std.specs.Prelude.{ℕ, suc, ◌+◌, ◌-◌, ◌/◌, ◌%◌, ◌≤◌, ◌<◌, max, ◌≡◌, true, cond, ◌||◌, List, ◌⊎◌, eqb, length, get_or}
use Rattle.grammar.specs.Words.{EOF, infix_of}
use Rattle.grammar.specs.Tree.{Tree, infixed, node, Trees, nil, ◌▸◌, size, Grouped}
use Rattle.grammar.specs.Parsed.{Parsed, refused, read, met, TooDeep}
use Rattle.grammar.specs.Rules.{Rules}
use Rattle.grammar.specs.Examples.{Entry, X, S, W}
use Rattle.grammar.specs.Claims.{OfEntries}
use Rattle.grammar.specs.Script.{longest, nesting, array_good, one_expression, one_statement, whole_script}
use Rattle.slots.specs.Slots.{expressions, statements, blocks, any-root, one, at_most_one, Slot, ◌of◌, counts, how_many, fits, all_fit, is_expression}
use Rattle.written.specs.Written.{infix_signs, written, words}

unfoldable mutual
  -- A tree without its places, ends and grouped marks.
  pub plain : Tree → Tree
  plain (infixed m p l r z) = infixed (m % Grouped) 0 (plain l) (plain r) 0
  plain (node k m p a b c d z) = node k (m % Grouped) 0 (plains a) (plains b) (plains c) (plains d) 0

  -- The same of the trees of a slot.
  pub plains : Trees → Trees
  plains nil = nil
  plains (t ▸ ts) = plain t ▸ plains ts

-- How many expressions and statements a row opens above its slots, where what is written of it is read.
unfoldable pub above : (kind mark : ℕ) → ℕ
above k m =
    cond (eqb k 17 || eqb k 19 || eqb k 46) 0
    (cond (eqb k 13 || eqb k 15 || eqb k 16) 2
    (cond (eqb k 11) (1 + m % 2 + m / 2 % 2) 1))

-- How many it opens besides above its second slot: one, for an index or a call.
unfoldable pub beside : (kind : ℕ) → ℕ
beside k = cond (eqb k 10 || eqb k 11) 1 0

unfoldable mutual
  -- How many are open at once, at most, where what is written of a tree is read.
  pub deep : Tree → ℕ
  deep (infixed m p l r z) = 1 + max (deep l) (1 + deep r)
  deep (node k m p a b c d z) = above k m + max (deeps a) (max (beside k + deeps b) (max (deeps c) (deeps d)))

  -- The same of the trees of a slot.
  pub deeps : Trees → ℕ
  deeps nil = 0
  deeps (t ▸ ts) = max (deep t) (deeps ts)

-- The entry that reads what is written of a root: an expression, a statement, or a block as a whole script.
unfoldable pub entry_of : Tree → Entry
entry_of (infixed m p l r z) = X
entry_of (node k m p a b c d z) = cond (is_expression k) X (cond (eqb k 46) W S)

-- What an entry reads from place 0.
unfoldable pub asked : Rules → Entry → List ℕ → (room : ℕ) → Parsed Trees
asked rules X ts room = one_expression rules ts 0 room
asked rules S ts room = one_statement rules ts 0 room
asked rules W ts room = whole_script rules ts room

-- What the entry for a tree's root reads of what is written of it.
abbrev pub reread : Rules → Tree → (room : ℕ) → Parsed Trees
reread rules t room = asked rules (entry_of t) (words (written t)) room

-- How far before the end the reader stands then: on the last token before EOF, a whole script on EOF.
unfoldable pub back_from_end : Entry → ℕ
back_from_end X = 2
back_from_end S = 2
back_from_end W = 1

-- What is written of a tree is read as the same tree, but for places, ends and grouped marks, and so many rows are left.
pub record Back (rules : Rules) (t : Tree) (room left : ℕ) : Type 0 where
  pub trees : Trees
  pub at : ℕ
  pub reads : reread rules t room ≡ read trees at left
  pub same : plains trees ≡ plain t ▸ nil
  pub place : at + back_from_end (entry_of t) ≡ length (written t)

-- What is written of a tree is refused as too deep, at a place in it.
pub record Deeper (rules : Rules) (t : Tree) (room : ℕ) : Type 0 where
  pub place : ℕ
  pub refuses : reread rules t room ≡ refused TooDeep place
  pub inside : place < length (written t)

-- What is written of any tree is a good array, if it is no longer than one may be.
abbrev pub GoodArray : Type 0
GoodArray = (t : Tree) → length (written t) ≤ longest → array_good (words (written t)) ≡ met

-- It has a token, and the last is EOF.
abbrev pub LastEOF : Type 0
LastEOF = (t : Tree) → (1 ≤ length (written t)) × (get_or (words (written t)) (length (written t) - 1) 0 ≡ EOF)

-- An infix row is written with the operator of its mark.
abbrev pub SignsByMark : Type 0
SignsByMark = (mark : ℕ) → mark < 23 → infix_of (get_or infix_signs mark 0) ≡ suc mark

-- A tree that fits as a root.
abbrev pub Rooted : Tree → Type 0
Rooted t = fits any-root t ≡ true

-- What holds, by any rules, of each tree with P whose written form is no longer than an array may be, where there are rows enough for it.
-- P is what leaves trees out: a form that is no longer read, once there is one.
abbrev pub OfTrees : (Tree → Type 0) → ((rules : Rules) (t : Tree) (room left : ℕ) → Type 0) → Type 0
OfTrees P Q = (rules : Rules) (t : Tree) (room left : ℕ) → P t → length (written t) ≤ longest → size t + left ≡ room → Q rules t room left

-- The round trip: every tree that fits comes back, where no more are open at once than may be.
abbrev pub RoundTrip : Type 0
RoundTrip = OfTrees Rooted (λ rules t room left. deep t ≤ nesting → Back rules t room left)

-- A tree that is deeper than may be open is refused as too deep.
abbrev pub DeepRefused : Type 0
DeepRefused = OfTrees Rooted (λ rules t room left. nesting < deep t → Deeper rules t room)

-- So every tree that fits comes back, or is refused as too deep.
abbrev pub ReadBack : Type 0
ReadBack = OfTrees Rooted (λ rules t room left. Back rules t room left ⊎ Deeper rules t room)

-- And it is refused so exactly where it is deeper than may be open.
abbrev pub DeepExactly : Type 0
DeepExactly = OfTrees Rooted (λ rules t room left. (Deeper rules t room → nesting < deep t) × (nesting < deep t → Deeper rules t room))

-- What stands in a slot: as many trees as it takes, of its kinds, that fit.
abbrev pub InSlot : Slot → Trees → Type 0
InSlot s us = (counts s.many (how_many us) ≡ true) × (all_fit s.kinds us ≡ true)

-- Every tree that an entry accepts fits: one expression; one statement, or none at an Empty token; one block.
abbrev pub ParserFits : Type 0
ParserFits =
    (rules : Rules) (ts : List ℕ) (start room : ℕ) (us : Trees) (at left : ℕ)
    → (one_expression rules ts start room ≡ read us at left → InSlot (one of expressions) us)
    × (one_statement rules ts start room ≡ read us at left → InSlot (at_most_one of statements) us)
    × (whole_script rules ts room ≡ read us at left → InSlot (one of blocks) us)

-- So each fits as a root.
abbrev pub ParserRoots : Type 0
ParserRoots = OfEntries (λ ts start room us at left. InSlot (at_most_one of any-root) us)
