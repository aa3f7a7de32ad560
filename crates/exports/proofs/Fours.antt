-- An answer of four words: in front of a slice where it is in front of its first four.
use Prim.Native.Nat.{ℕ}
use mathlib.Core.Path.{◌≡◌, refl, ap, ◌∙◌}
use mathlib.Core.List.{List, [], ◌∷◌, ◌++◌}
use lib.ListN.{take, drop}
use Rattle.std.specs.Prelude.{Result, Ok, Err}
use Rattle.refusals.specs.Refusal.{Numbered, counted}
use Rattle.trees.specs.Verdict.{numbers}
use Rattle.four.specs.Answers.{over, checked_words}
use Rattle.exports.specs.Trees.{Checks, Puts, Tells}

four : (a b c d : ℕ) (s : List ℕ) → over (a ∷ b ∷ c ∷ d ∷ []) (take 4 s) ++ drop 4 s ≡ over (a ∷ b ∷ c ∷ d ∷ []) s
unfolding over
four a b c d [] = refl
four a b c d (x ∷ []) = refl
four a b c d (x ∷ y ∷ []) = refl
four a b c d (x ∷ y ∷ z ∷ []) = refl
four a b c d (x ∷ y ∷ z ∷ w ∷ s) = refl

four_checked : (r : Result (Unit {0}) Numbered) (s : List ℕ) → over (numbers r) (take 4 s) ++ drop 4 s ≡ over (numbers r) s
four_checked (Ok _) s = four 0 0 0 0 s
four_checked (Err e) s = four e.number e.place 0 0 s

four_counted : (r : Result ℕ Numbered) (s : List ℕ) → over (counted r) (take 4 s) ++ drop 4 s ≡ over (counted r) s
four_counted (Ok n) s = four 0 n 0 0 s
four_counted (Err e) s = four e.number e.place 0 0 s

-- the words of the check are those that `four` puts
pub same_words : (r : Result (Unit {0}) Numbered) → checked_words r ≡ numbers r
same_words (Ok _) = refl
same_words (Err e) = refl

module _ {pool : List ℕ} {root : ℕ} where
  pub checks_whole : {s l : List ℕ} → Checks pool root (take 4 s) l → Checks pool root s (l ++ drop 4 s)
  checks_whole {s} {l} c = record { answer = _; verdict = c.verdict; four = ap (λ (k : List ℕ). k ++ drop 4 s) c.four ∙ four_checked c.answer s }

  pub puts_whole : {ws ps s ws' ps' l : List ℕ} → Puts pool root ws ps (take 4 s) ws' ps' l → Puts pool root ws ps s ws' ps' (l ++ drop 4 s)
  puts_whole {s = s} p = record { answer = _; writes = p.writes; four = ap (λ (k : List ℕ). k ++ drop 4 s) p.four ∙ four_counted p.answer s }

  pub tells_whole : {file text s text' l : List ℕ} → Tells pool root file text (take 4 s) text' l → Tells pool root file text s text' (l ++ drop 4 s)
  tells_whole {s = s} t = record { answer = _; tells = t.tells; four = ap (λ (k : List ℕ). k ++ drop 4 s) t.four ∙ four_counted t.answer s }
