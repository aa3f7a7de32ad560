-- The four words of each answer, and a slice with words at its front.
use Rattle.std.specs.Prelude.{ℕ, cond, List, [], ◌∷◌, length, Result, Ok, Err}
use Rattle.refusals.specs.Refusal.{Numbered, counted}
use Rattle.text.specs.Fold.{has_pair}
use Rattle.text.specs.Entries.{text_of}

-- The words in front as far as the slice goes, and behind them what it held.
unfoldable pub over : List ℕ → List ℕ → List ℕ
over [] slice = slice
over (w ∷ words) [] = []
over (w ∷ words) (x ∷ slice) = w ∷ over words slice

-- What a check answers: 0, or a refusal's number and place; and zeros.
abbrev pub checked_words : Result (Unit {0}) Numbered → List ℕ
checked_words (Ok _) = 0 ∷ 0 ∷ 0 ∷ 0 ∷ []
checked_words (Err e) = e.number ∷ e.place ∷ 0 ∷ 0 ∷ []

-- What reading a file answers: 0 and the field count, or a refusal's number and place.
abbrev pub file_words : Result ℕ Numbered → List ℕ
file_words = counted

-- What folding answers: 0 and the length, or a refusal's number and place.
abbrev pub fold_words : Result ℕ Numbered → List ℕ
fold_words = counted

-- What handing back the text answers: 0, its length, and 1 where it is the front of the work buffer or 0 where it is the payload.
abbrev pub text_words : (payload work : List ℕ) → List ℕ
text_words payload work = 0 ∷ length (text_of payload work) ∷ cond (has_pair payload) 1 0 ∷ 0 ∷ []
