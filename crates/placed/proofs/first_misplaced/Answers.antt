-- `first_misplaced` meets its contract: no row below the one that is looked at is misplaced.
use Rattle.std.proofs.Common.{rules, sym, ◌∙◌, arith}
use Rattle.placed.specs.Steps.{none, lowest}
use Rattle.placed.proofs.first_misplaced.Goals as goal

pub returns-then-not-is_placed : goal.returns-then-not-is_placed
returns-then-not-is_placed c =
    lowest (record { inside = (c.loop-r.auto.r, omega (arith, c.count-n.ensures)); linked = search rules; wrong = sym c.is_placed.ensures ∙ c.if-not-is_placed.true }) c.loop-r.invariant

pub returns : goal.returns
returns c = none (λ q m. c.loop-r.invariant q (omega (arith, m.inside, c.count-n.ensures)) m)
