-- `digit` meets its contract: ten and above are letters.
use Rattle.std.proofs.Common.{arith}
use borrow.Author.Tests.{lt-ltb, le-ltb}
use Rattle.json_text.specs.Values.{hex}
use Rattle.json_values.proofs.escapes.digit.Goals as goal

pub returns-in-0-to-9 : goal.returns-in-0-to-9
unfolding hex
returns-in-0-to-9 c = rw (lt-ltb c.args.d 10 (omega arith))

pub returns-in_default : goal.returns-in_default
unfolding hex
returns-in_default c = rw (le-ltb c.args.d 10 (omega arith))
