-- What is claimed of well-formed UTF-8.
use Rattle.std.specs.Prelude.{ℕ, ◌≡◌, true, List, [], ◌∷◌}
use Rattle.unicode_text.specs.Unicode.{scalar, well_formed, encoded}

-- Every one of these is a scalar value.
abbrev pub Scalars : List ℕ → Type 0
Scalars [] = Unit {0}
Scalars (c ∷ cs) = (scalar c ≡ true) × Scalars cs

-- A text that has these bytes.
pub record Text (bytes : List ℕ) : Type 0 where
  pub values : List ℕ
  pub scalars : Scalars values
  pub bytes_of : encoded values ≡ bytes

-- Bytes are well-formed exactly where they are those of a text.
abbrev pub WellFormed : Type 0
WellFormed = (bytes : List ℕ) → (well_formed bytes ≡ true → Text bytes) × (Text bytes → well_formed bytes ≡ true)

-- A text has its bytes alone: two texts with the same bytes are the same.
abbrev pub OneText : Type 0
OneText = (cs ds : List ℕ) → Scalars cs → Scalars ds → encoded cs ≡ encoded ds → cs ≡ ds
