-- Whether a row is placed, by the words that are read of it.
use Prim.Native.Nat.{ℕ}
use native.Mathlib.Omega.{arith}
use mathlib.Core.Path.{◌≡◌, ap, sym, ◌∙◌}
use mathlib.Core.Bool.{Bool, true, false, not}
use mathlib.Core.List.{List}
use lib.Dec.{eqb}
use lib.ListN.{get_or}
use borrow.Author.Tests.{eq-eqb, ne_eqb, not-false}
use Rattle.grammar.specs.Script.{word_of}
use Rattle.rows.specs.Rows.{read}
use Rattle.std.specs.Prelude.{Some, None}
use Rattle.fields.specs.declared.classes.Class.{Class}
use Rattle.fields.specs.Classes.{tag}
use Rattle.payloads.specs.Needs.{needs, needed}
use Rattle.payloads.proofs.Needed.{none_needed, some_needed}
use Rattle.payloads.specs.Index.{class_by}
use Rattle.slots.proofs.Either.{no_both}
use Rattle.trees.specs.Pool.{In}
use Rattle.trees.proofs.Words.{read_in}
use Rattle.placed.specs.Steps.{placed_by, Misplaced}

module _ (pool bytes starts : List ℕ) (count r : ℕ) (i : In pool r) {kind : ℕ} (k : kind ≡ read pool r 0) where
  its_kind : kind ≡ word_of pool r 0
  its_kind = k ∙ read_in pool r 0 i (omega arith)

  -- a kind without a payload
  pub unasked : needed kind ≡ None → true ≡ placed_by pool bytes starts count r
  unfolding placed_by
  unasked n = rw (eq-eqb _ 0 (ap needs (sym its_kind) ∙ none_needed kind n))

  -- and one with a payload
  pub asked : {c : Class} → needed kind ≡ Some c → {place found : ℕ} → place ≡ read pool r 2 → found ≡ class_by bytes starts count place
      → eqb found (tag c) ≡ placed_by pool bytes starts count r
  unfolding placed_by
  asked n {place} {found} p f =
      let q : place ≡ word_of pool r 2 = p ∙ read_in pool r 2 i (omega arith) in
      let s = some_needed kind n in
      rw (f, q, s.0, ← its_kind, ne_eqb (needs kind) 0 s.1)

module _ {pool words bytes starts : List ℕ} {count r : ℕ} where
  -- a row that isn't misplaced: it has no link, or is placed
  pub unlinked : get_or words r 0 ≡ 0 → Misplaced pool words bytes starts count r → ⊥
  unlinked z m = m.linked z

  pub well : {b : Bool} → b ≡ placed_by pool bytes starts count r → not b ≡ false → Misplaced pool words bytes starts count r → ⊥
  well {b} e f m = no_both (sym (not-false b f) ∙ e ∙ m.wrong)
