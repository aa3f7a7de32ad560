-- `front` meets its contract: a shorter pool is its own front.
use Rattle.std.proofs.Common.{suc, ◌*◌, ◌-◌}
use Rattle.std.proofs.lemmas.List.{take_min}
use Rattle.grammar.specs.Tree.{width}
use Rattle.trees.specs.Leaves.{few_rows, front}
use Rattle.trees.proofs.front.Goals as goal

pub returns : goal.returns
unfolding front
returns c = rw (c.min.ensures, c.end-end.ensures) (take_min (width * suc few_rows - 1) c.args.pool.now)
