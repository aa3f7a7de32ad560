-- Of a file that is accepted, the words are those of its fields, and each field's payload goes with its class.
use mathlib.Core.List.{List, [], ◌∷◌, ◌++◌}
use Prim.Native.Nat.{ℕ, zero, suc, ◌<◌}
use native.Mathlib.Omega.{arith}
use lib.ListN.{length}
use Rattle.payloads.specs.Fields.{Field, class_at, payload_at}
use Rattle.payloads.specs.Claims.{Bytes, Proper, SameFields}
use Rattle.payloads.proofs.Lined.{Lined, end, then, accepted, fields_few}

-- bytes in front of others, and behind them
parts : (front rest : List ℕ) → Bytes (front ++ rest) → Bytes front × Bytes rest
parts [] rest b = (tt, b)
parts (x ∷ front) rest b =
    let more = parts front rest b.1 in
    ((b.0, more.0), more.1)

-- fields that are lined up have such payloads
proper : {bytes : List ℕ} {fs : List Field} → Lined bytes fs → Bytes bytes → (p : ℕ) → p < length fs → Proper (class_at fs p) (payload_at fs p)
unfolding class_at payload_at
proper end b p h = absurd (omega arith)
proper (then tag high low payload rest fs e a u k) b zero h = record { are_bytes = (parts payload rest b.1.1.1).0; right = a; text = u }
proper (then tag high low payload rest fs e a u k) b (suc p) h = proper k (parts payload rest b.1.1.1).1 p (omega arith)

pub same_fields : SameFields
same_fields bytes words e b =
    let a = accepted bytes words e in
    (a.theirs, fields_few bytes words e, proper a.lined b)
