-- Valid arrays and the cursor in them: it goes on with each turn of a loop, so that no loop comes to the end of its turns.
use Prim.Native.Nat.{ℕ, zero, suc, ◌+◌, ◌≤◌, ◌<◌}
use native.Mathlib.Omega.{arith}
use mathlib.Core.Path.{◌≡◌, refl, sym, ap, ◌∙◌}
use mathlib.Core.Bool.{Bool, true, false, cond, not, ◌&&◌, and-eq-true_iff}
use mathlib.Core.List.{List, [], ◌∷◌}
use mathlib.Core.Logic.{◌⊎◌, inl, inr}
use lib.Dec.{eqb, ltb, leb}
use lib.ListN.{length, get_or}
use borrow.Author.Tests.{ltb-true, ltb-false, leb-true, eqb-true, eqb-false}
use Rattle.grammar.specs.Words.{valid as good, Zero, EOF, tok, step, is, next_is, class, order, goes_on}
use Rattle.grammar.specs.Parsed.{Parsed, refused, read, ◌>>=◌, ◌>>◌, Check, met, failed, need, choose, match, turns, BadArray, TooDeep, InvalidToken}
use Rattle.grammar.specs.Rules.{Rules}
use Rattle.grammar.specs.Expressions as e
use Rattle.grammar.specs.Statements as s
use Rattle.grammar.specs.Script.{longest, both, words_good, array_good}
use Rattle.grammar.proofs.Checks.{both_met, need_met}
use Rattle.grammar.proofs.Post.{Fact, Ends, Post, post_then}
use Rattle.grammar.proofs.Steps.{others, step_on, zero_stops}

-- What a valid array gives: it has words, no more than a loop has turns, and the last one is EOF.
pub record Valid (ts : List ℕ) : Type 0 where
  pub some : 0 < length ts
  pub short : length ts ≤ turns
  pub ends : (k : ℕ) → suc k ≡ length ts → tok ts k ≡ EOF

last_word : (ws : List ℕ) (at k : ℕ) → words_good at ws ≡ met → suc k ≡ length ws → get_or ws k EOF ≡ EOF
unfolding words_good
last_word [] at k h e = refl
last_word (w ∷ []) at zero h e = eqb-true w EOF (need_met (eqb w EOF) BadArray at h)
last_word (w ∷ []) at (suc k) h e = absurd (omega arith)
last_word (w ∷ v ∷ ws) at zero h e = absurd (omega arith)
last_word (w ∷ v ∷ ws) at (suc k) h e =
    last_word (v ∷ ws) (suc at) k (both_met (need (good w && not (eqb w EOF)) BadArray at) (words_good (suc at) (v ∷ ws)) h).1 (omega arith)

-- A loop has as many turns as the longest array has words.
long_enough : longest ≤ turns
unfolding longest turns
long_enough = omega arith

pub valid : (ts : List ℕ) → array_good ts ≡ met → Valid ts
unfolding array_good tok
valid ts e =
    let (a, b) = both_met (need (ltb 0 (length ts) && leb (length ts) longest) BadArray 0) (words_good 0 ts) e in
    let (x, y) = (and-eq-true_iff (ltb 0 (length ts)) (leb (length ts) longest)).0 (need_met _ BadArray 0 a) in
    record { some = ltb-true 0 (length ts) x; short = omega (arith, leb-true (length ts) longest y, long_enough); ends = λ k q. last_word ts 0 k b q }

-- The loop of parse_expression stops at EOF.
pub no_end : (pre w : ℕ) → goes_on pre w ≡ true → ¬ (w ≡ EOF)
no_end pre w g q = let f : true ≡ false = sym g ∙ zero_stops pre w (ap order q ∙ others.end) in let z : ◌≡◌ {A = ℕ} 0 1 = cc in omega arith

-- Nothing is read at EOF: what is refused there is refused with one of two numbers.
module _ (ts : List ℕ) (at : ℕ) where
  module _ (B : ℕ → Type 0) (deep : B TooDeep) (token : B InvalidToken) (rules : Rules) where
    pub expression_eof : (d pre room : ℕ) → tok ts at ≡ EOF → Ends B (λ t c m. ⊥) (e.expression rules ts d pre at room)
    unfolding e.expression e.level e.prefix_part match choose e.no_prefix class ◌>>=◌
    expression_eof zero pre room q = deep
    expression_eof (suc d) pre room q = rw q token

    pub statement_eof : (d room : ℕ) → tok ts at ≡ EOF → Ends B (λ us c m. ⊥) (s.statement rules ts d at room)
    unfolding s.statement s.level s.kept match choose is s.expression_statement
    statement_eof zero room q = deep
    statement_eof (suc d) room q = rw q (post_then _ _ _ _ _ (post_then _ _ _ _ _ (expression_eof d Zero room q) (λ t c m z. absurd z)) (λ t c m z. absurd z))

  pub not_at_eof : {A : Type 0} (Q : Fact A) (x : Parsed A) → Post Q x → (tok ts at ≡ EOF → Post (λ a c m. ⊥) x)
      → Post (λ a c m. Q a c m × ¬ (tok ts at ≡ EOF)) x
  not_at_eof Q (refused n p) h k = h
  not_at_eof Q (read a c m) h k = (h, k)

pub in_step : (ts : List ℕ) (at : ℕ) → at < length ts → step ts at < length ts
unfolding step
in_step ts at h = go (ltb (at + 1) (length ts)) refl
  where
    go : (b : Bool) → ltb (at + 1) (length ts) ≡ b → cond b (at + 1) at < length ts
    go true e = ltb-true (at + 1) (length ts) e
    go false e = h

module _ (ts : List ℕ) (v : Valid ts) where
  -- Where a word comes next that is not EOF, and behind a word that is not EOF, the step goes on.
  pub goes_forward : (at : ℕ) → at < length ts → (tok ts at ≡ EOF → ⊥) ⊎ (tok ts (step ts at) ≡ EOF → ⊥) → at < step ts at
  unfolding step
  goes_forward at h = go (ltb (at + 1) (length ts)) refl
    where
      go : (b : Bool) → ltb (at + 1) (length ts) ≡ b → (tok ts at ≡ EOF → ⊥) ⊎ (tok ts (cond b (at + 1) at) ≡ EOF → ⊥) → at < cond b (at + 1) at
      go true e n = omega arith
      go false e (inl n) = absurd (n (v.ends at (omega (arith, ltb-false (at + 1) (length ts) e))))
      go false e (inr n) = absurd (n (v.ends at (omega (arith, ltb-false (at + 1) (length ts) e))))

  pub behind : (at w : ℕ) → at < length ts → eqb w EOF ≡ false → next_is ts at w ≡ true → at < step ts (step ts at)
  unfolding next_is is
  behind at w k n e =
      let h : at < step ts at = goes_forward at k (inr (λ q. eqb-false w EOF n (sym (eqb-true _ _ e) ∙ q))) in
      omega (arith, step_on ts (step ts at))

  pub enough : (at : ℕ) → length ts ≤ turns + at
  enough at = omega (arith, v.short)

-- A bad array is refused with one number.
module _ (B : ℕ → Type 0) (bad : B BadArray) where
  abbrev Checked : Check → Type 0
  Checked met = Unit {0}
  Checked (failed n p) = B n

  need_checked : (b : Bool) (p : ℕ) → Checked (need b BadArray p)
  unfolding need
  need_checked true p = tt
  need_checked false p = bad

  both_checked : (c c' : Check) → Checked c → Checked c' → Checked (both c c')
  unfolding both
  both_checked met c' h k = k
  both_checked (failed n p) c' h k = h

  words_checked : (at : ℕ) (ws : List ℕ) → Checked (words_good at ws)
  unfolding words_good
  words_checked at [] = tt
  words_checked at (w ∷ []) = need_checked (eqb w EOF) at
  words_checked at (w ∷ v ∷ ws) =
      both_checked _ (words_good (suc at) (v ∷ ws)) (need_checked (good w && not (eqb w EOF)) at) (words_checked (suc at) (v ∷ ws))

  pub post_entry : {A : Type 0} (ts : List ℕ) (R : Fact A) (x : Parsed A) → (Valid ts → Ends B R x) → Ends B R (array_good ts >> x)
  unfolding array_good ◌>>◌
  post_entry ts R x h =
      go (array_good ts) refl (both_checked _ (words_good 0 ts) (need_checked (ltb 0 (length ts) && leb (length ts) longest) 0) (words_checked 0 ts))
    where
      go : (c : Check) → array_good ts ≡ c → Checked c → Ends B R (c >> x)
      go met e k = h (valid ts e)
      go (failed n p) e k = k
