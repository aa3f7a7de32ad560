-- `survey_small` meets its contract: the front has few rows.
use Rattle.std.proofs.Common.{arith}
use Rattle.trees.proofs.Words.{few_front}
use Rattle.placed.proofs.Answers.{left_by}
use Rattle.placed.proofs.survey_small.Goals as goal

pub over-requires : goal.over-requires
over-requires c = rw c.front.ensures (omega (arith, few_front c.args.pool.now, c.survey_small-checked.ensures.words_long))

pub returns : goal.returns
returns c = left_by c.survey_small-checked.ensures (rw c.front.ensures at c.over.ensures.answer) c.over.ensures.index
