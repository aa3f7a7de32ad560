-- Writing a text to a lent buffer.
use Rattle.std.specs.Prelude.{ℕ, ◌≡◌, cond, List, ◌++◌, leb, length, drop}

-- What it answers and leaves: the text's length, and the text in front of what was there; or 0, and the buffer as it was, where the text doesn't fit.
unfoldable pub written : (text out : List ℕ) → ℕ × List ℕ
written text out = cond (leb (length text) (length out)) (length text, text ++ drop (length text) out) (0, out)

-- The promise of writing a text: the answer r, and the buffer as it is then.
pub record Writes (text out : List ℕ) (r : ℕ) (left : List ℕ) : Type 0 where
  pub met : ◌≡◌ {A = ℕ × List ℕ} (r, left) (written text out)
