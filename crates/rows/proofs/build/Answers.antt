-- `build` meets its contract: the part that `fill` wrote goes back behind the first rows.
use Rattle.std.proofs.Common.{ℕ, ◌+◌, ◌*◌, List, length, sym, ap, ◌∙◌}
use native.Mathlib.Nat.{le_trans, le-add_right}
use Rattle.grammar.specs.Tree.{width}
use Rattle.rows.specs.Rows.{words}
use Rattle.std.specs.Prelude.{Ok, Err}
use Rattle.rows.proofs.Laws.{free, none_free, built_fits, built_full}
use Rattle.rows.proofs.Parts.{given_back}
use Rattle.rows.proofs.build.Goals as goal

pub returns-then-rows-pool : goal.returns-then-rows-pool
returns-then-rows-pool c =
    let a = c.args in
    let fit = free a.rows (length a.pool.now) c.if-rows-pool.true in
    let back = given_back a.pool.now a.rows (words a.row) _ (le_trans (le-add_right (width * a.rows) width) fit) c.fill.ensures in
    record { met = ap (λ (ys : List ℕ). (Ok (a.rows + 1), ys)) back ∙ sym (built_fits a.pool.now a.rows (words a.row) a.place fit) }

pub returns : goal.returns
returns c =
    let a = c.args in
    rw c.new.ensures (record { met = sym (built_full a.pool.now a.rows (words a.row) a.place (none_free a.rows (length a.pool.now) c.if-rows-pool.false)) })
