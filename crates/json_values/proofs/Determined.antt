-- For each public function: its contract determines what it answers, every lent byte that it leaves, and the place behind what is put.
use Rattle.std.specs.Prelude.{ℕ, List, Result, ⊤}
use Rattle.refusals.specs.declared.Reason.{Reason}
use Rattle.grammar.specs.Once.{Determines}
use Rattle.json_values.specs.declared.output.Out.{Out}
use Rattle.json_values.proofs.Puts.{one_puts}
use Rattle.json_values.proofs.output.Out.new.Reads as new
use Rattle.json_values.proofs.output.Out.begin_at.Reads as begin-at
use Rattle.json_values.proofs.output.Out.place.Reads as place
use Rattle.json_values.proofs.output.Out.put_byte.Reads as put-byte
use Rattle.json_values.proofs.output.Out.put_bytes.Reads as put-bytes
use Rattle.json_values.proofs.output.Out.put_decimal.Reads as put-decimal
use Rattle.json_values.proofs.output.Out.put_quoted.Reads as put-quoted
use Rattle.json_values.proofs.output.Out.put_value.Reads as put-value

abbrev is : Out → List ℕ × ℕ
is o = (o.bytes.now, o.at)

pub new_determined : Determines {A = List ℕ × ℕ} new.Post (λ κs r left. is r)
new_determined κs args r r' left left' p q = cc

pub begin_at_determined : Determines {A = List ℕ × ℕ} begin-at.Post (λ κs r left. is r)
begin_at_determined κs args r r' left left' p q = cc

pub place_determined : Determines place.Post (λ κs r left. r)
place_determined κs args r r' left left' p q = cc

pub put_byte_determined : Determines {A = (List ℕ × ℕ) × Result ⊤ Reason} put-byte.Post (λ κs r left. (is left.0.now, r))
put_byte_determined κs args r r' left left' p q = let e = one_puts p q in cc

pub put_bytes_determined : Determines {A = (List ℕ × ℕ) × Result ⊤ Reason} put-bytes.Post (λ κs r left. (is left.0.now, r))
put_bytes_determined κs args r r' left left' p q = let e = one_puts p q in cc

pub put_decimal_determined : Determines {A = (List ℕ × ℕ) × Result ⊤ Reason} put-decimal.Post (λ κs r left. (is left.0.now, r))
put_decimal_determined κs args r r' left left' p q = let e = one_puts p q in cc

pub put_quoted_determined : Determines {A = (List ℕ × ℕ) × Result ⊤ Reason} put-quoted.Post (λ κs r left. (is left.0.now, r))
put_quoted_determined κs args r r' left left' p q = let e = one_puts p q in cc

pub put_value_determined : Determines {A = (List ℕ × ℕ) × Result ⊤ Reason} put-value.Post (λ κs r left. (is left.0.now, r))
put_value_determined κs args r r' left left' p q = let e = one_puts p q in cc
