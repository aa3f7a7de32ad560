-- A refusal as callers see it, and the four words of an answer that counts something.
use Rattle.std.specs.Prelude.{ℕ, List, [], ◌∷◌, Result, Ok, Err}
use Rattle.grammar.specs.Parsed.{Check, met, failed}

-- The number and the place.
pub record Numbered : Type 0 where
  pub number : ℕ
  pub place : ℕ

abbrev pub refusal : (number place : ℕ) → Numbered
refusal number place = record { number = number; place = place }

-- A condition that was met gives a value, and one that failed its refusal.
abbrev pub checked : {A : Type 0} → Check → A → Result A Numbered
checked met value = Ok value
checked (failed n p) value = Err (refusal n p)

-- The number and the values of an answer with a count: 0 and the count, or a refusal's number and place; and zeros.
abbrev pub counted : Result ℕ Numbered → List ℕ
counted (Ok count) = 0 ∷ count ∷ 0 ∷ 0 ∷ []
counted (Err e) = e.number ∷ e.place ∷ 0 ∷ 0 ∷ []
