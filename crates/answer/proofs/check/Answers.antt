-- `check` meets its contract: the array's check, and then that of the start place.
use Rattle.std.proofs.Common.{sym, ◌∙◌}
use Rattle.std.proofs.lemmas.Result.{err_from_is_err_and}
use Rattle.answer.specs.Answer.{checks}
use Rattle.answer.proofs.Starts.{first_says, second_says}
use Rattle.answer.proofs.check.Goals as goal

pub returns-in_err-check : goal.returns-in_err-check
unfolding checks
returns-in_err-check c =
    let p = err_from_is_err_and c.from_residual.result c.from_residual.ensures.1 in
    rw (p.1, p.2) (first_says _ _ tt _ (sym c.check.ensures ∙ c.in_err-check.was))

pub returns : goal.returns
unfolding checks
returns c = c.of_place.ensures ∙ second_says _ _ tt _ (sym c.check.ensures ∙ c.in_ok-check.was)
