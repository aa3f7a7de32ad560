-- Bytes that are put into a lent slice, one behind the other.
use Rattle.std.specs.Prelude.{ℕ, ◌+◌, ◌-◌, ◌≤◌, ◌<◌, ◌≡◌, min, List, length, Result, Ok, Err, ⊤}
use Rattle.std.proofs.Math.Seq.{sets}
use Rattle.std.specs.Borrow.{MutBor}
use Rattle.refusals.specs.declared.Reason.{Reason}
use Rattle.refusals.specs.declared.Reason.TheVariants.{TooShort}
use Rattle.json_values.specs.declared.output.Out.{Out}

-- How many bytes there is room for.
abbrev pub room : Out → ℕ
room o = length o.bytes.now - o.at

-- Whether there is room for all of a text, or an error.
pub data Told (text : List ℕ) (room : ℕ) : Result ⊤ Reason → Type 0 where
  whole : length text ≤ room → Told text room (Ok tt)
  cut : room < length text → Told text room (Err TooShort)

-- The promise of putting a text: it stands at the place, as far as there is room for it, and the rest of the slice is as it was.
pub record Puts (text : List ℕ) (old new : Out) (result : Result ⊤ Reason) : Type 0 where
  pub same_slice : new.bytes.ghost_name ≡ old.bytes.ghost_name
  pub bytes : new.bytes.now ≡ sets old.bytes.now old.at text
  pub place : new.at ≡ old.at + min (length text) (room old)
  pub told : Told text (room old) result

-- A place of a slice that is lent.
pub record BeginsAt (lent : MutBor (List ℕ)) (at : ℕ) (new : Out) : Type 0 where
  pub same_slice : new.bytes.ghost_name ≡ lent.ghost_name
  pub bytes : new.bytes.now ≡ lent.now
  pub place : new.at ≡ at

-- The front of a slice that is lent.
abbrev pub Begins : (lent : MutBor (List ℕ)) (new : Out) → Type 0
Begins lent new = BeginsAt lent 0 new
