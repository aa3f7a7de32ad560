-- `is_placed` meets its contract: by the class that the kind needs, and then the class of the field.
use Rattle.std.proofs.Common.{sym, ◌∙◌}
use Rattle.placed.proofs.Rows.{unasked, asked}
use Rattle.placed.proofs.is_placed.Goals as goal

pub returns-in-Some : goal.returns-in-Some
returns-in-Some c = rw c.from.ensures (asked c.args.pool.now c.args.indexed.file.now c.args.indexed.starts.now c.args.indexed.count c.args.r c.requires c.word.ensures (sym c.needs.ensures ∙ c.in-Some.is) c.word-place.ensures c.class_at.ensures)

pub returns-in-None : goal.returns-in-None
returns-in-None c = unasked c.args.pool.now c.args.indexed.file.now c.args.indexed.starts.now c.args.indexed.count c.args.r c.requires c.word.ensures (sym c.needs.ensures ∙ c.in-None.is)
