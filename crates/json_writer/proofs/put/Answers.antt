-- `put` meets its contract: a row that is too deep is refused, a text that fits is left, and one that doesn't is refused.
use Rattle.std.proofs.Common.{◌∙◌, arith}
use Rattle.json_writer.proofs.Checked.{tree_of, indexes, ready, none_bad, some_deep, none_deeper}
use Rattle.json_writer.proofs.Outcomes.{refuses_deep, told, refuses_short}
use Rattle.json_writer.proofs.put.Goals as goal

pub first_deep-requires : goal.first_deep-requires
first_deep-requires c = record {
  fact = (tree_of c.requires).inside;
  none_bad = none_bad (tree_of c.requires).right;
  pool_in_bounds = c.requires.wide;
  tied = c.requires.tied;
}

pub returns-in-Some : goal.returns-in-Some
returns-in-Some c = rw c.new.ensures (refuses_deep c.requires.over (some_deep c.in-Some.ensures) (omega arith))

pub put_row-requires : goal.put_row-requires
put_row-requires c = record { indexes = indexes c.requires; ready = ready c.requires (none_deeper c.in_default.ensures) }

pub returns-in-Ok : goal.returns-in-Ok
returns-in-Ok c =
    let tree = tree_of c.requires in
    let text = c.new-text.ensures in
    let puts = c.in-Ok.ensures tree.tree tree.holds in
    rw c.place.ensures
    (told tree.tree c.requires.over (none_deeper c.in_default.ensures) tree.holds (text.bytes ∙ c.fill.ensures.after (λ y e. e)) text.place puts
    (grind (arith, puts.same_slice, text.same_slice)))

pub returns-in-Err : goal.returns-in-Err
returns-in-Err c =
    let tree = tree_of c.requires in
    let text = c.new-text.ensures in
    rw c.new-in-Err.ensures
    (refuses_short tree.tree c.requires.over (none_deeper c.in_default.ensures) tree.holds (text.bytes ∙ c.fill.ensures.after (λ y e. e)) text.place
    (c.in-Err.ensures tree.tree tree.holds) (grind (arith, c.fill.ensures.len)))
