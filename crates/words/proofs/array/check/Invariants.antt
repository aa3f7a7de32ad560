-- The loop of `words::check`: the check of the whole is that of the words from a place on.
use Rattle.std.proofs.Common.{◌≡◌, drop}
use Rattle.grammar.specs.Script.{words_good}
use Rattle.words.proofs.array.check.Given as goal

abbrev pub invariant-loop-at : goal.invariant-loop-at
invariant-loop-at l = words_good 0 l.tokens ≡ words_good l.at (drop l.at l.tokens)
