-- `of_place` meets its contract: the test is that of the definition.
use borrow.Author.Tests.{le-ltb, lt-ltb}
use Rattle.grammar.specs.Parsed.{need}
use Rattle.answer.proofs.of_place.Goals as goal

pub returns-then-tokens-start : goal.returns-then-tokens-start
unfolding need
returns-then-tokens-start c = rw (le-ltb _ _ c.if-tokens-start.true, c.new.ensures)

pub returns : goal.returns
unfolding need
returns c = rw (lt-ltb _ _ c.if-tokens-start.false)
