-- `put_byte` meets its contract: the byte is stored where there is room, and else there is an error.
use Rattle.std.proofs.Common.{refl, sym, arith}
use Rattle.std.proofs.lemmas.List.{set_past}
use Rattle.json_values.specs.Puts.{whole, cut}
use Rattle.json_values.proofs.output.Out.put_byte.Goals as goal

pub returns-then-self : goal.returns-then-self
returns-then-self c = record { same_slice = refl; bytes = sym (set_past _ _ _ c.if-self.true); place = omega arith; told = cut (omega arith) }

pub returns : goal.returns
returns c = record { same_slice = refl; bytes = refl; place = omega arith; told = whole (omega arith) }
