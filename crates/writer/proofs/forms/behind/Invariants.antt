-- No piece before j is for the word.
use mathlib.Core.Path.{◌≡◌}
use Prim.Native.Nat.{◌+◌}
use lib.ListN.{drop}
use Rattle.writer.specs.Codes as codes
use Rattle.writer.proofs.forms.behind.Given as goal

abbrev pub invariant-loop-j : goal.invariant-loop-j
invariant-loop-j l = codes.behind (codes.shape l.kind) l.k ≡ l.j + codes.behind (drop l.j (codes.shape l.kind)) l.k
