-- `survey_large` meets its contract: no pool has more rows.
use Rattle.std.proofs.Common.{arith, length}
use Rattle.trees.proofs.Words.{most}
use Rattle.placed.proofs.Answers.{left_by}
use Rattle.placed.proofs.survey_large.Goals as goal

pub over-requires : goal.over-requires
over-requires c = omega (arith, most (length c.args.pool.now), c.survey_large-checked.ensures.words_long)

pub returns : goal.returns
returns c = left_by c.survey_large-checked.ensures c.over.ensures.answer c.over.ensures.index
