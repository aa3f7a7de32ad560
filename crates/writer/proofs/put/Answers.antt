-- `put` meets its contract: a text that fits is left, and any other and a refusal of the check leave zeros.
use native.Mathlib.Omega.{arith}
use mathlib.Core.Path.{◌≡◌, ap, ◌∙◌}
use lib.ListN.{length, replicate}
use Rattle.std.proofs.lemmas.Result.{err_from_is_err_and}
use Rattle.writer.proofs.Fronts.{cleared}
use Rattle.writer.proofs.Outcomes.{ready_of, refuses, fits_in, too_short}
use Rattle.writer.proofs.put.Goals as goal

pub returns-in_err-checked : goal.returns-in_err-checked
returns-in_err-checked g c =
    let e = err_from_is_err_and c.from_residual.result c.from_residual.ensures.1 in
    rw (e.1, e.2) (refuses (rw c.in_err-checked.was at c.requires.left) c.clear.ensures.words c.clear.ensures.places)

pub walk-count-requires : goal.walk-count-requires
walk-count-requires g c = (
  omega arith,
  (
    ready_of (rw c.in_ok-checked.was at c.requires.left),
    (c.requires.wide, (cleared (length c.args.words.now) c.clear.ensures.words, cleared (length c.args.places.now) c.clear.ensures.places)),
  ),
)

pub returns-then-words-count : goal.returns-then-words-count
returns-then-words-count g c =
    let long : length c.walk-count.new.words ≡ length c.args.words.now = c.walk-count.auto.words ∙ c.clear.auto.words in
    let wide : length c.walk-count.new.places ≡ length c.args.places.now = c.walk-count.auto.places ∙ c.clear.auto.places in
    let ready = ready_of (rw c.in_ok-checked.was at c.requires.left) in
    rw c.new.ensures
    (too_short ready c.walk-count.result _ _ _ _ c.walk-count.ensures _ _ (rw (long, wide) at c.then-words-count.either)
    (c.clear-then-words-count.ensures.words ∙ ap (λ k. replicate k 0) long) (c.clear-then-words-count.ensures.places ∙ ap (λ k. replicate k 0) wide))

pub returns : goal.returns
returns g c =
    let ready = ready_of (rw c.in_ok-checked.was at c.requires.left) in
    fits_in ready c.walk-count.result _ _ _ _ c.walk-count.ensures _ _ c.clear.auto.words c.clear.auto.places (omega arith) (omega arith)
