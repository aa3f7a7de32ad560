-- `exports::shigthapul_check` meets its contract: four words are the whole answer, and where the pool has few rows, its front is the pool.
use native.Mathlib.Omega.{arith}
use lib.Seq.{length-take-le}
use Rattle.trees.proofs.Words.{whole_front}
use mathlib.Core.Path.{ap, ◌∙◌}
use mathlib.Core.List.{List}
use Prim.Native.Nat.{ℕ}
use Rattle.four.specs.Answers.{over}
use Rattle.exports.proofs.Fours.{checks_whole, same_words}
use Rattle.exports.proofs.+shigthapul_check.Goals as goal

pub shigthapul_check-requires : goal.shigthapul_check-requires
shigthapul_check-requires t c = omega (arith, length-take-le 4 c.args.answer.now (omega (arith, c.if-answer-gt4.true)))

pub returns-then-answer-gt4 : goal.returns-then-answer-gt4
returns-then-answer-gt4 t c = checks_whole c.shigthapul_check.ensures

pub returns-then-pool-end : goal.returns-then-pool-end
returns-then-pool-end t c = rw (whole_front c.args.pool.now (omega (arith, c.if-pool-end.true, c.end.ensures))) at c.shigthapul_check_small.ensures

pub returns : goal.returns
returns t c = record { answer = _; verdict = c.check_large-checked.ensures; four = (rw c.by_number.ensures at c.put_checked.ensures) ∙ ap (λ (ws : List ℕ). over ws c.args.answer.now) (same_words _) }
