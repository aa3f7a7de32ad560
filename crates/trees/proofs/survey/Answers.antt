-- `survey` meets its contract: the walk, the first bad row, and the tree where there is none.
use Rattle.std.proofs.Common.{arith}
use Rattle.trees.specs.Pool.{In}
use Rattle.trees.specs.Verdict.{bad_row, a_tree}
use Rattle.trees.proofs.Firsts.{no_bad, some_bad}
use Rattle.trees.proofs.Answers.{all_zero, rootless, found}
use Rattle.trees.proofs.Sound.{sound}
use Rattle.trees.proofs.survey.Goals as goal
use Rattle.trees.proofs.survey.Goals.{then-root-eq0-via-then-root-eq0, then-root-eq0-via-else-root-eq0+then-count-root}

pub returns-then-root-eq0 : goal.returns-then-root-eq0
returns-then-root-eq0 g c =
    rw c.new.ensures
    (elim c.then-root-eq0.branch [
      | then-root-eq0-via-then-root-eq0 w ↦ rootless (λ i. omega (arith, i)) c.clear.ensures
      | then-root-eq0-via-else-root-eq0+then-count-root w ↦ rootless (λ i. omega (arith, i)) c.clear.ensures
    ])

pub returns-in-None : goal.returns-in-None
returns-in-None g c =
    let root_in : In c.args.pool.now c.args.root = (omega arith, omega arith) in
    let good = no_bad _ _ (rw c.in-None.is at c.first_bad-bad.ensures) in
    let t = sound _ _ good root_in in
    found root_in (a_tree t.tree root_in good t.holds t.fit) c.walk.ensures (omega arith) (omega arith) (all_zero (c.fill.ensures.after (λ y e. e)) (omega arith))

pub returns-in-Some : goal.returns-in-Some
returns-in-Some g c =
    let root_in : In c.args.pool.now c.args.root = (omega arith, omega arith) in
    let low = some_bad _ _ (rw c.in-Some.is at c.first_bad-bad.ensures) in
    rw c.new-in-Some.ensures
    (found root_in (bad_row root_in low) c.walk.ensures (omega arith) (omega arith) (all_zero (c.fill.ensures.after (λ y e. e)) (omega arith)))
