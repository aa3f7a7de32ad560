-- The check says that rows are a tree where they are one, and only there.
use Prim.Native.Nat.{ℕ}
use native.Mathlib.Omega.{arith}
use mathlib.Core.Path.{◌≡◌, refl}
use mathlib.Core.Bool.{true}
use mathlib.Core.List.{List}
use Rattle.std.specs.Prelude.{Result, Ok}
use Rattle.grammar.specs.Tree.{Tree}
use Rattle.refusals.specs.Refusal.{Numbered}
use Rattle.slots.specs.Slots.{any-root, fits}
use Rattle.trees.specs.Pool.{In, Holds}
use Rattle.trees.specs.Verdict.{NoneBad, Verdict, no_root, bad_row, a_tree}
use Rattle.trees.specs.Exact.{IsTree, Exact, Bounded}
use Rattle.trees.proofs.Sound.{inside}
use Rattle.trees.proofs.Unique.{one_tree, one_answer}
use Rattle.trees.proofs.Complete.{complete}
use Rattle.trees.proofs.Different.{different, ref_reached, orderly, root_alone}
use Rattle.trees.proofs.Size.{no_larger}

module _ (pool : List ℕ) (root : ℕ) where
  pub is_tree : {t : Tree} → In pool root → NoneBad pool root → Holds pool root t → fits any-root t ≡ true → IsTree pool root t
  is_tree i good h f =
      record {
        inside = i;
        in_no_list = root_alone pool root good i;
        holds = h;
        fitting = f;
        different = different pool root good i h;
        in_order = λ r m. let g = ref_reached pool root good i h r m in orderly pool root good i g (inside pool root good i g).0;
      }

  pub none_bad : {t : Tree} → IsTree pool root t → NoneBad pool root
  none_bad {t} w = complete pool root t w.holds w.inside w.fitting w.in_no_list w.different w.in_order

  a_tree_is : {c : Result Unit Numbered} → Verdict pool root c → c ≡ Ok tt → (t : Tree) × IsTree pool root t
  a_tree_is (no_root n) e = absurd (let z : ◌≡◌ {A = ℕ} 0 1 = cc in omega arith)
  a_tree_is (bad_row i l) e = absurd (let z : ◌≡◌ {A = ℕ} 0 1 = cc in omega arith)
  a_tree_is (a_tree t i g h f) e = (t, is_tree i g h f)

pub exact : Exact
exact pool root = (
  λ v. a_tree_is pool root v refl,
  λ t c w v. one_answer pool root v (a_tree t w.inside (none_bad pool root w) w.holds w.fitting),
  λ t u v w. one_tree pool v.holds w.holds,
)

pub bounded : Bounded
bounded pool root t w = no_larger pool root w.inside (none_bad pool root w) w.holds
