-- `over` meets its contract: a refused file decides, and otherwise both answers do.
use Rattle.std.proofs.Common.{sym, ◌∙◌}
use Rattle.std.proofs.lemmas.Result.{err_from_is_err_and}
use Rattle.payloads.proofs.Held.{counted}
use Rattle.placed.proofs.Answers.{over_both, over_refused}
use Rattle.placed.proofs.over.Goals as goal

pub returns-in_err-count-clause-answer : goal.returns-in_err-count-clause-answer
returns-in_err-count-clause-answer c =
    let p = err_from_is_err_and c.from_residual.result c.from_residual.ensures.1 in
    rw (p.1, p.2) (over_refused (sym c.index.ensures.answer ∙ c.in_err-count.was))

pub returns-clause-answer : goal.returns-clause-answer
returns-clause-answer c =
    rw c.verdict.ensures (over_both _ _ (counted c.args.file.now (sym c.index.ensures.answer ∙ c.in_ok-count.was)) c.index.ensures.starts c.first_misplaced.ensures)
