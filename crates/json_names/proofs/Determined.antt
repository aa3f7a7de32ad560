-- The contract of `put_name` determines the answer, every lent byte and the place behind the name.
use Rattle.std.specs.Prelude.{ℕ, List, Result, ⊤}
use Rattle.refusals.specs.declared.Reason.{Reason}
use Rattle.grammar.specs.Once.{Determines}
use Rattle.json_values.proofs.Puts.{one_puts}
use Rattle.json_names.proofs.put_name.Reads as put-name

pub put_name_determined : Determines {A = List ℕ × ℕ × Result ⊤ Reason} put-name.Post (λ κs r left. (left.0.now.bytes.now, left.0.now.at, r))
put_name_determined κs args r r' left left' p q = let e = one_puts p q in cc
