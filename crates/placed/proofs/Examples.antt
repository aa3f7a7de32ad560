-- Pools of one row over a file of two fields, the identifier ab and then EOF, worked out by computing the definitions.
use Prim.Native.Nat.{ℕ}
use native.Mathlib.Omega.{arith}
use mathlib.Core.Path.{◌≡◌, refl, sym, ◌∙◌}
use mathlib.Core.Bool.{true, false}
use mathlib.Core.List.{List, [], ◌∷◌}
use Rattle.grammar.specs.Tree.{Tree, node, nil, lay, lays}
use Rattle.grammar.specs.Script.{rows}
use Rattle.slots.specs.Slots.{slot, kind_of, of_expressions, of_statements, is_expression, marked, takes, counts, fits, all_fit}
use Rattle.slots.proofs.Either.{no_both}
use Rattle.payloads.specs.Fields.{cut, fields_of, class_at}
use Rattle.payloads.specs.Needs.{needs, placed}
use Rattle.payloads.proofs.Examples.{two, two_held, bad, bad_held}
use Rattle.trees.specs.Pool.{In, start}
use Rattle.trees.specs.Exact.{IsTree}
use Rattle.trees.proofs.Linked.{reached_in}
use Rattle.trees.proofs.Exact.{none_bad}
use Rattle.trees.proofs.Laid.{laid}
use Rattle.std.specs.Prelude.{Ok, Err}
use Rattle.refusals.specs.Refusal.{refusal}
use Rattle.placed.specs.Over.{LowestOf, Wrong, misplaced, Over, bad_file, no_root, wrong_row, a_tree}
use Rattle.placed.specs.Over as over

-- the identifier whose place is p, and its row
abbrev name : ℕ → Tree
name p = node 2 0 p nil nil nil nil 1

abbrev pool : ℕ → List ℕ
pool p = 2 ∷ 0 ∷ p ∷ 0 ∷ 0 ∷ 0 ∷ 0 ∷ 0 ∷ 1 ∷ []

one_row : (p : ℕ) → In (pool p) 1
unfolding rows
one_row p = (omega arith, omega arith)

no_more : (p q : ℕ) → In (pool p) q → q ≡ 1
unfolding rows
no_more p q i = omega (arith, i)

is_tree : (p : ℕ) → IsTree (pool p) 1 (name p)
unfolding lay lays slot kind_of of_expressions of_statements is_expression marked takes counts fits all_fit
is_tree p = laid (name p) [] refl (omega arith)

-- the first field is an identifier, the second is not, and there is no third
first_placed : placed (fields_of two) 2 0 ≡ true
unfolding placed needs class_at fields_of cut
first_placed = refl

second_not : placed (fields_of two) 2 1 ≡ false
unfolding placed needs class_at fields_of cut
second_not = refl

third_not : placed (fields_of two) 2 2 ≡ false
unfolding placed needs class_at fields_of cut
third_not = refl

-- so the row with the first is a tree over the file
pub good : Over (pool 0) 1 two (Ok 2)
good =
    let w = is_tree 0 in
    a_tree (name 0) two_held (one_row 0)
    (λ q x.
    let e = no_more 0 q (reached_in (one_row 0) x) in
    λ v. none_wrong (rw e at v))
    w.holds w.fitting
  where
    none_wrong : Wrong (pool 0) 1 (fields_of two) 1 → ⊥
    none_wrong (over.bad b) = none_bad (pool 0) 1 (is_tree 0) 1 start b
    none_wrong (misplaced o) = no_both (sym first_placed ∙ o)

-- and the rows with the others are none
off_place : (p : ℕ) → placed (fields_of two) 2 p ≡ false → Over (pool p) 1 two (Err (refusal 38 1))
off_place p o =
    wrong_row two_held (one_row p)
    (record { inside = one_row p; reached = start; has = misplaced o; first = λ q h x v. omega (arith, reached_in (one_row p) x) })

pub other_class : Over (pool 1) 1 two (Err (refusal 38 1))
other_class = off_place 1 second_not

pub no_field : Over (pool 2) 1 two (Err (refusal 38 1))
no_field = off_place 2 third_not

-- a root that is no row, and then a file that is refused, which decides alone
pub rootless : Over (pool 0) 2 two (Err (refusal 38 0))
rootless = no_root two_held (λ i. let e = no_more 0 2 i in omega arith)

pub refused_file : Over (pool 0) 2 bad (Err (refusal 5 1))
refused_file = bad_file bad_held
