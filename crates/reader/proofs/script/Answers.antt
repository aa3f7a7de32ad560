-- `script` meets its contract: the statements up to EOF, and their block.
use Rattle.std.proofs.Common.{[], refl}
use Rattle.reader.specs.Entries.{script}
use Rattle.reader.specs.Meets.{of_node}
use Rattle.reader.proofs.Answers.{no_list, taken, pass, by_eq, then_read, exit}
use Rattle.reader.proofs.script.Goals as goal

pub returns-in_err-list : goal.returns-in_err-list
unfolding script
returns-in_err-list c = pass _ (rw c.nesting-less.ensures at ((rw c.nothing.ensures at c.statements.ensures).1 _ _ _ _ (no_list _ _ c.requires.within) refl)) c.in_err-list.was (exit c.from_residual.ensures.1)

pub returns : goal.returns
unfolding script
returns c =
    let read_1 = taken (rw c.nesting-less.ensures at ((rw c.nothing.ensures at c.statements.ensures).1 _ _ _ _ (no_list _ _ c.requires.within) refl)) c.in_ok-list.was in
    by_eq (then_read _ read_1.eq)
    ((c.put_row.ensures c.args.source.now.tokens.now read_1.stands.within).1 _ [] _ _ _ _ read_1.stands (record { few = tt; root = of_node; refs = (read_1.head, refl, refl, refl) }))
