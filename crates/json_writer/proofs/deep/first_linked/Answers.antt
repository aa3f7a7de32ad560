-- `first_linked` meets its contract: no row below r has a link.
use Rattle.std.proofs.Common.{◌≡◌, ⊎_elim, arith}
use Rattle.slots.proofs.Either.{less_or}
use Rattle.json_writer.specs.Deep.{none_linked, lowest_linked}
use Rattle.json_writer.proofs.deep.first_linked.Goals as goal

pub returns : goal.returns
returns c = none_linked (λ q i. c.loop-r.invariant q i.0 (omega (arith, i.1)))

pub returns-then-links-r-ne0 : goal.returns-then-links-r-ne0
returns-then-links-r-ne0 c = lowest_linked (c.loop-r.auto.r, omega arith) c.if-links-r-ne0.true c.loop-r.invariant

pub returns-else-links-r-ne0 : goal.returns-else-links-r-ne0
returns-else-links-r-ne0 c =
    none_linked (λ q i. ⊎_elim (c.loop-r.invariant q i.0) (λ l. let e : q ≡ c.loop-r.r = omega (arith, i.1) in rw e c.if-links-r-ne0.false) (less_or q c.loop-r.r))
