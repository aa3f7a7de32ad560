-- `sequence`: the bytes from the third on are tails.
use Rattle.std.proofs.Common.{◌≡◌, ◌-◌, true, drop, replicate}
use Rattle.unicode_text.specs.Unicode.{tail, begins}
use Rattle.unicode_text.proofs.sequence.Given as goal

abbrev pub invariant-loop-at : goal.invariant-loop-at
invariant-loop-at g l = begins (replicate (l.at - 2) tail) (drop 2 l.part) ≡ true
