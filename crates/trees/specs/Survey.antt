-- What the survey of a pool finds out: of each row, how it is reached.
use Rattle.std.specs.Prelude.{ℕ, ◌+◌, ◌-◌, ◌≤◌, ◌<◌, ◌≡◌, true, false, List, get_or, set}
use Rattle.grammar.specs.Script.{word_of}
use Rattle.slots.specs.Slots.{one, ◌of◌, any-root, slot}
use Rattle.slots.specs.Fine.{is_list}
use Rattle.slots.specs.Codes.{slot_of}
use Rattle.trees.specs.Pool.{In, Reached, Twice}

module _ (pool : List ℕ) where
  -- The link of a row t, two numbers that say how the root reaches it: 0 and 0 not at all, 0 and 1 as the root alone, 0 and 2 in two ways,
  -- a row and a word of it: by that word alone.
  pub data Told (root t owner word : ℕ) : Type 0 where
    unreached : owner ≡ 0 → word ≡ 0 → (Reached pool root t → ⊥) → Told root t owner word
    the_root : owner ≡ 0 → word ≡ 1 → root ≡ t → ((r k : ℕ) → Reached pool root r → 3 ≤ k → k ≤ 7 → word_of pool r k ≡ t → ⊥) → Told root t owner word
    by_two : owner ≡ 0 → word ≡ 2 → Twice pool root t → Told root t owner word
    by_one : Reached pool root owner → In pool owner → 3 ≤ word → word ≤ 7 → word_of pool owner word ≡ t → (root ≡ t → ⊥)
        → ((r k : ℕ) → Reached pool root r → 3 ≤ k → k ≤ 7 → word_of pool r k ≡ t → (r ≡ owner) × (k ≡ word)) → Told root t owner word

  -- The links of all rows, by their owners and words; there are no others.
  pub record Surveyed (root : ℕ) (owners words : List ℕ) : Type 0 where
    pub each : (t : ℕ) → In pool t → Told root t (get_or owners t 0) (get_or words t 0)
    pub outside : (t : ℕ) → (In pool t → ⊥) → (get_or owners t 0 ≡ 0) × (get_or words t 0 ≡ 0)

  -- Looking at word k of row r, with the links and the queue so far: it is no row's reference, that of a new row, or that of one met before.
  pub data Looked (owners words queue : List ℕ) (found r k : ℕ) (owners' words' queue' : List ℕ) (found' : ℕ) : Type 0 where
    astray : (In pool (word_of pool r k) → ⊥) → owners' ≡ owners → words' ≡ words → queue' ≡ queue → found' ≡ found
        → Looked owners words queue found r k owners' words' queue' found'
    first_time : In pool (word_of pool r k) → get_or words (word_of pool r k) 0 ≡ 0 → owners' ≡ set owners (word_of pool r k) r → words' ≡ set words (word_of pool r k) k
        → queue' ≡ set queue found (word_of pool r k) → found' ≡ found + 1 → Looked owners words queue found r k owners' words' queue' found'
    again : In pool (word_of pool r k) → (get_or words (word_of pool r k) 0 ≡ 0 → ⊥) → owners' ≡ set owners (word_of pool r k) 0 → words' ≡ set words (word_of pool r k) 2
        → queue' ≡ queue → found' ≡ found → Looked owners words queue found r k owners' words' queue' found'

  -- The link of the root, or of a row that one word refers to.
  abbrev pub Linked : (owner word : ℕ) → Type 0
  Linked owner word = (word ≡ 1 → ⊥) → In pool owner × (3 ≤ word) × (word ≤ 7)

  -- The number s of the slot of a row r with one link, where the row that the link is a word of stands in the slot with the number `before`.
  pub data SlotBy (r owner word before s : ℕ) : Type 0 where
    of_root : word ≡ 1 → slot_of s ≡ one of any-root → SlotBy r owner word before s
    of_child : 3 ≤ word → word < 7 → slot_of s ≡ slot (word_of pool owner 0) (word - 3) → SlotBy r owner word before s
    of_list : 7 ≤ word → owner < r → is_list (slot_of before).many ≡ true → s ≡ before → SlotBy r owner word before s
    nowhere : 7 ≤ word → (owner < r → is_list (slot_of before).many ≡ false) → s ≡ 0 → SlotBy r owner word before s
