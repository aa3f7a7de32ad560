-- The lowest row that is too deep is the lowest that keeps its link.
use Prim.Native.Nat.{ℕ}
use native.Mathlib.Omega.{arith}
use mathlib.Core.Path.{◌≡◌, sym, ◌∙◌}
use mathlib.Core.Logic.{⊎_elim}
use mathlib.Core.List.{List}
use lib.ListN.{get_or}
use Rattle.std.specs.Prelude.{Option}
use Rattle.slots.proofs.Either.{less_or}
use Rattle.trees.specs.Pool.{In, Reached}
use Rattle.trees.specs.Verdict.{NoneBad}
use Rattle.trees.proofs.Linked.{linked_reached, reached_linked}
use Rattle.trees.proofs.Sound.{inside}
use Rattle.json_writer.specs.Deep.{most_deep, TooDeep, FirstDeep, none_deep, lowest_deep, Tied, Within, FirstLinked, none_linked, lowest_linked, Clears}
use Rattle.json_writer.proofs.DeepPaths.{reached_at, one_depth}

module _ (pool : List ℕ) (root : ℕ) {xs ys : List ℕ} (i : In pool root) (good : NoneBad pool root) (tied : Tied pool root xs)
    (clears : Clears (Within pool root most_deep) xs ys) where
  -- a row whose link is gone is not too deep
  gone_near : (q : ℕ) → Reached pool root q → get_or ys q 0 ≡ 0 → TooDeep pool root q → ⊥
  gone_near q h z d =
      ⊎_elim (λ e. reached_linked (tied.told.each q (inside pool root good i h)) h (sym e ∙ z))
      (λ w. omega (arith, one_depth pool root good i w.path d.path, w.near, d.more)) (clears.rest q)

  -- a row that keeps its link is reached, and too deep
  kept_reached : (p : ℕ) → In pool p → (get_or ys p 0 ≡ 0 → ⊥) → Reached pool root p
  kept_reached p o n =
      ⊎_elim (λ e. linked_reached o (tied.told.each p o) (λ z. n (e ∙ z))) (λ w. absurd (n (clears.gone p w))) (clears.rest p)

  kept_deep : (p : ℕ) → In pool p → (get_or ys p 0 ≡ 0 → ⊥) → TooDeep pool root p
  kept_deep p o n =
      let w = reached_at (kept_reached p o n) in
      ⊎_elim (λ m. record { depth = w.0; path = w.1; more = m })
      (λ m. absurd (n (clears.gone p (record { inside = i; depth = w.0; path = w.1; near = m })))) (less_or most_deep w.0)

  pub first_kept : {p : Option ℕ} → FirstLinked pool ys p → FirstDeep pool root p
  first_kept (none_linked z) = none_deep (λ q h d. gone_near q h (z q (inside pool root good i h)) d)
  first_kept (lowest_linked {p} o n z) =
      lowest_deep (record {
        inside = o;
        reached = kept_reached p o n;
        has = kept_deep p o n;
        first = λ q l h d. gone_near q h (z q (inside pool root good i h).0 l) d;
      })
