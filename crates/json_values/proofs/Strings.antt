-- A JSON string from its parts: the first quotation mark, what is escaped, and the other quotation mark.
use mathlib.Core.Path.{◌≡◌}
use mathlib.Core.List.{List, [], ◌∷◌, ◌++◌}
use Prim.Native.Nat.{ℕ}
use Rattle.std.specs.Prelude.{Result, Ok, Err, ⊤}
use Rattle.refusals.specs.declared.Reason.{Reason}
use Rattle.json_text.specs.Values.{escaped, quoted}
use Rattle.json_values.specs.declared.output.Out.{Out}
use Rattle.json_values.specs.Puts.{Puts}
use Rattle.json_values.proofs.Puts.{puts_append, puts_stop}

module _ (t : List ℕ) {o p : Out} where
  -- there is no room for the first quotation mark
  pub no_quote : {e : Reason} → Puts (0x22 ∷ []) o p (Err e) → Puts (quoted t) o p (Err e)
  unfolding quoted
  no_quote x = puts_stop _ x

  module _ {u : ⊤} (x : Puts (0x22 ∷ []) o p (Ok u)) where
    -- there is none for more than a front of what is escaped
    pub no_more : {a : List ℕ} (b : List ℕ) {q : Out} {e : Reason} → Puts a p q (Err e) → a ++ b ≡ escaped t → Puts (quoted t) o q (Err e)
    unfolding quoted
    no_more b y whole = puts_append x (rw (← whole) (puts_stop _ (puts_stop b y)))

    -- all of it is put
    pub all_quoted : {v : ⊤} {q r : Out} {s : Result ⊤ Reason} → Puts (escaped t) p q (Ok v) → Puts (0x22 ∷ []) q r s → Puts (quoted t) o r s
    unfolding quoted
    all_quoted y z = puts_append x (puts_append y z)
