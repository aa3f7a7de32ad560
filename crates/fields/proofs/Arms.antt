-- What the arms of a match leave over.
use mathlib.Core.Logic.{◌⊎◌, inl, inr}

-- what is not one of two is neither
pub neither : {P Q : Type 0} → (P ⊎ Q → ⊥) → (P → ⊥) × (Q → ⊥)
neither f = (λ p. f (inl p), λ q. f (inr q))
