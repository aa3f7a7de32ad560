-- The turns of the loop that clears a list.
use Prim.Native.Nat.{ℕ, suc, ◌-◌, ◌≤◌, ◌<◌}
use native.Mathlib.Omega.{arith}
use mathlib.Core.Path.{◌≡◌, refl, ◌∙◌}
use mathlib.Core.Bool.{cond}
use mathlib.Core.Logic.{⊎_elim}
use mathlib.Core.List.{List}
use lib.Dec.{eqb}
use lib.ListN.{length, set, length-set}
use borrow.Author.Tests.{ne_eqb}
use Rattle.grammar.specs.Tree.{width}
use Rattle.grammar.specs.Script.{word_of}
use Rattle.slots.proofs.Either.{same_or}
use Rattle.rows.specs.Rows.{read}
use Rattle.trees.specs.Pool.{count, In}
use Rattle.trees.proofs.Words.{read_in}
use Rattle.json_writer.specs.Deep.{At, top, child, next, Begins, Within, Clears}
use Rattle.json_writer.proofs.DeepClears.{clears_none, own_first, own_more, own_list, Own, begins_next, behind}

-- what holds at each turn: clearing the list from row r on clears the whole list
pub record Turn (pool : List ℕ) (c left : ℕ) (links₀ links : List ℕ) (r : ℕ) : Type 0 where
  pub row : Begins pool r
  pub long : length links ≡ length links₀
  pub turns : (ys : List ℕ) → Clears (Within pool r left) links ys → Clears (Within pool c left) links₀ ys

-- a row is at least one level down, so with no level left there is nothing to clear
one_level : {pool : List ℕ} {c t n : ℕ} → At pool c t n → 1 ≤ n
one_level top = omega arith
one_level (child a l u e i) = omega arith
one_level (next a e i) = one_level a

pub clears_no_levels : {pool : List ℕ} {c left : ℕ} (links : List ℕ) → left ≡ 0 → Clears (Within pool c left) links links
clears_no_levels links z = clears_none links (λ t w. omega (arith, one_level w.path, w.near, z))

-- clearing leaves the length
pub still_wide : {n : ℕ} {P : ℕ → Type 0} {xs ys : List ℕ} → Clears P xs ys → n < length xs → n < length ys
still_wide d h = omega (arith, d.long, h)

-- the rows that may still come
abbrev pub to_come : List ℕ → (r : ℕ) → ℕ
to_come pool r = cond (eqb r 0) 0 (suc (count pool) - r)

to_come_none : (pool : List ℕ) (r : ℕ) → r ≡ 0 → to_come pool r ≡ 0
to_come_none pool r z = rw z

to_come_some : (pool : List ℕ) (r : ℕ) → (r ≡ 0 → ⊥) → to_come pool r ≡ suc (count pool) - r
to_come_some pool r n = rw (ne_eqb r 0 n)

-- they are fewer behind a row
pub fewer : (pool : List ℕ) {r v : ℕ} → Begins pool r → (r ≡ 0 → ⊥) → v ≡ read pool r 7 → to_come pool v < to_come pool r
fewer pool {r} {v} b n e =
    let i = (b n).0 in
    let u = e ∙ read_in pool r 7 i (omega arith) in
    let s = to_come_some pool r n in
    ⊎_elim (λ (z : v ≡ 0). omega (arith, to_come_none pool v z, s, i))
    (λ (z : v ≡ 0 → ⊥). omega (arith, to_come_some pool v z, s, i, u, behind pool i (b n).1 (λ y. z (u ∙ y))))
    (same_or v 0)

module _ {pool : List ℕ} {c left : ℕ} where
  -- the first turn, and what the last one leaves
  pub turn_first : (links : List ℕ) → Begins pool c → Turn pool c left links links c
  turn_first links b = record { row = b; long = refl; turns = λ ys w. w }

  pub turn_last : {links₀ links : List ℕ} {r : ℕ} → Turn pool c left links₀ links r → r ≡ 0 → Clears (Within pool c left) links₀ links
  turn_last {links₀} {links} w z = w.turns links (clears_none links (λ t v. omega (arith, v.inside, z)))

  module _ {links₀ links : List ℕ} {r : ℕ} (w : Turn pool c left links₀ links r) (n : r ≡ 0 → ⊥) where
    inside : In pool r
    inside = (w.row n).0

    -- clearing the row's own link leaves the length
    pub wide_set : count pool < length links₀ → count pool < length (set links r 0)
    wide_set h = omega (arith, length-set links r 0, w.long, h)

    -- a word of the row, as it is read
    pub word_is : {k v : ℕ} → k < width → v ≡ read pool r k → v ≡ word_of pool r k
    word_is {k} h e = e ∙ read_in pool r k inside h

    within : {k v m : ℕ} {xs ys : List ℕ} → k < width → v ≡ read pool r k → Clears (Within pool v m) xs ys → Clears (Within pool (word_of pool r k) m) xs ys
    within h e d = rw (← (word_is h e)) d

    -- the rows that may come are fewer behind the row
    pub turn_less : {v : ℕ} → v ≡ read pool r 7 → to_come pool v < to_come pool r
    turn_less e = fewer pool w.row n e

    -- the next turn
    pub turn_on : {less v₀ v₁ v₂ v₃ v : ℕ} {x₀ x₁ x₂ x₃ : List ℕ} → left ≡ suc less → count pool < length links
        → v₀ ≡ read pool r 3 → Clears (Within pool v₀ less) (set links r 0) x₀ → v₁ ≡ read pool r 4 → Clears (Within pool v₁ less) x₀ x₁
        → v₂ ≡ read pool r 5 → Clears (Within pool v₂ less) x₁ x₂ → v₃ ≡ read pool r 6 → Clears (Within pool v₃ less) x₂ x₃
        → v ≡ read pool r 7 → Turn pool c left links₀ x₃ v
    turn_on {less} {x₃} l h e₀ d₀ e₁ d₁ e₂ d₂ e₃ d₃ e = record {
      row = rw (word_is {k = 7} (omega arith) e) (begins_next pool inside (w.row n).1);
      long = d₃.long ∙ d₂.long ∙ d₁.long ∙ d₀.long ∙ length-set links r 0 ∙ w.long;
      turns = λ ys d. w.turns ys (rw l (own_list pool r less inside own (rw (← l, ← (word_is {k = 7} (omega arith) e)) d)));
    }
      where
        own : Clears (Own pool r less 7) links x₃
        own =
            own_more pool r less (omega arith)
            (own_more pool r less (omega arith)
            (own_more pool r less (omega arith)
            (own_more pool r less (omega arith) (own_first pool r less links (omega (arith, inside, h))) (within {k = 3} (omega arith) e₀ d₀))
            (within {k = 4} (omega arith) e₁ d₁)) (within {k = 5} (omega arith) e₂ d₂)) (within {k = 6} (omega arith) e₃ d₃)
