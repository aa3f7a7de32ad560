-- The tests of a row, one after the other.
use Prim.Native.Nat.{ℕ}
use native.Mathlib.Omega.{arith}
use mathlib.Core.Path.{◌≡◌, ◌∙◌}
use mathlib.Core.Bool.{Bool, true, false, ◌&&◌}
use mathlib.Core.List.{List}
use Rattle.grammar.specs.Script.{word_of}
use Rattle.slots.specs.Slots.{slot, marked}
use Rattle.slots.specs.Fine.{child_fine, next_fine, taken}
use Rattle.slots.specs.Codes.{slot_of}
use Rattle.rows.specs.Rows.{read}
use Rattle.trees.specs.Pool.{count, In, row_fine}
use Rattle.trees.proofs.Words.{read_in}

-- one more test of a chain: it is made, or one before it failed
pub and_then : {before after test said : Bool} → before ≡ true → after ≡ test → test ≡ said → after ≡ before && said
and_then b e t = rw (b, e, t)

pub and_not : {before after : Bool} (said : Bool) → before ≡ false → after ≡ before → after ≡ before && said
and_not said b e = rw (e, b)

-- the tests of a row's own words
pub tests : (pool : List ℕ) (r : ℕ) {kind mark next n : ℕ} {a v₀ v₁ v₂ v₃ v : Bool} → In pool r → kind ≡ read pool r 0 → mark ≡ read pool r 1 → next ≡ read pool r 7
    → n ≡ count pool → a ≡ marked kind mark → v₀ ≡ a && child_fine (slot kind 0).many r (word_of pool r 3) → v₁ ≡ v₀ && child_fine (slot kind 1).many r (word_of pool r 4)
    → v₂ ≡ v₁ && child_fine (slot kind 2).many r (word_of pool r 5) → v₃ ≡ v₂ && child_fine (slot kind 3).many r (word_of pool r 6)
    → v ≡ v₃ && next_fine n r next → v ≡ row_fine pool r
unfolding row_fine
tests pool r i ek em en ec ea e₀ e₁ e₂ e₃ ev =
    rw (
      ev,
      e₃,
      e₂,
      e₁,
      e₀,
      ea,
      ek ∙ read_in pool r 0 i (omega arith),
      em ∙ read_in pool r 1 i (omega arith),
      en ∙ read_in pool r 7 i (omega arith),
      ec,
    )

-- and of the slot that it stands in
pub takes_row : (pool : List ℕ) (r : ℕ) (s : ℕ) {kind mark next : ℕ} → In pool r → kind ≡ read pool r 0 → mark ≡ read pool r 1 → next ≡ read pool r 7
    → taken (slot_of s) kind mark next ≡ taken (slot_of s) (word_of pool r 0) (word_of pool r 1) (word_of pool r 7)
takes_row pool r s i ek em en =
    rw (ek ∙ read_in pool r 0 i (omega arith), em ∙ read_in pool r 1 i (omega arith), en ∙ read_in pool r 7 i (omega arith))
