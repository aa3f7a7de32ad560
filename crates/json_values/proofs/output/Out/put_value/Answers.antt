-- `put_value` meets its contract: by the class.
use Rattle.std.proofs.Common.{arith}
use Rattle.grammar.specs.Words.{class}
use Rattle.json_values.specs.Valued.{valued}
use Rattle.json_values.proofs.Valued.{text_value}
use Rattle.json_values.proofs.output.Out.put_value.Goals as goal

pub returns-in-3 : goal.returns-in-3
unfolding valued class
returns-in-3 c = rw (c.in-3.is, ← c.number_of.ensures) c.put_signed.ensures

pub returns-in-5 : goal.returns-in-5
unfolding valued class
returns-in-5 c = rw c.in-5.is c.put_hexes.ensures

pub returns-in-6 : goal.returns-in-6
unfolding valued class
returns-in-6 c = rw (c.in-6.is, ← c.number_of-in-6.ensures) c.put_character.ensures

pub returns-in-4 : goal.returns-in-4
unfolding valued class
returns-in-4 c = rw c.in-4.is c.put_folded.ensures

pub returns-in_default : goal.returns-in_default
returns-in_default c = rw (text_value c.args.class c.args.payload.now (λ e. omega arith) (λ e. omega arith) (λ e. omega arith) (λ e. omega arith)) c.put_quoted.ensures
