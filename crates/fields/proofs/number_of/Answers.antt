-- `number_of` meets its contract: four bytes, the high one first.
use Rattle.std.proofs.Common.{◌≡◌, ℕ, List, [], ◌∷◌, length, get_or, w32, arith}
use Rattle.std.specs.Int.{from_be_bytes}
use Rattle.fields.specs.Field.{number}
use Rattle.fields.proofs.number_of.Goals as goal

-- the number of four bytes
of_four : (payload : List ℕ) → length payload ≡ 4 → from_be_bytes w32 (get_or payload 0 0 ∷ get_or payload 1 0 ∷ get_or payload 2 0 ∷ get_or payload 3 0 ∷ []) ≡ number 0 payload
unfolding number
of_four [] h = absurd (omega arith)
of_four (a ∷ []) h = absurd (omega arith)
of_four (a ∷ b ∷ []) h = absurd (omega arith)
of_four (a ∷ b ∷ c ∷ []) h = absurd (omega arith)
of_four (a ∷ b ∷ c ∷ d ∷ []) h = omega arith
of_four (a ∷ b ∷ c ∷ d ∷ e ∷ more) h = absurd (omega arith)

pub returns : goal.returns
returns c = let e = c.from_be_bytes.ensures in rw e (of_four c.args.payload.now c.requires)
