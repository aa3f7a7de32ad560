-- `digits_before` meets its contract: the library writes the same digits, of which there are twenty at the most.
use Rattle.std.proofs.Common.{arith}
use Rattle.lines.proofs.Decimal.{is_decimal, twenty}
use Rattle.lines.proofs.digits_before.Goals as goal

pub write_digits-requires : goal.write_digits-requires
write_digits-requires c = (rw (is_decimal c.args.n (omega arith)) (omega (arith, twenty c.args.n (omega arith), c.requires.0)), c.requires.1)

pub returns : goal.returns
returns c = let e = is_decimal c.args.n (omega arith) in rw (← e) (c.write_digits.ensures.start, c.write_digits.ensures.written)
