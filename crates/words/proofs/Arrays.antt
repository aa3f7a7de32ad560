-- What a good array has, and how its check goes word by word.
use Prim.Native.Nat.{ℕ, zero, suc, ◌+◌, ◌-◌, ◌≤◌, ◌<◌}
use native.Mathlib.Nat.{le_of_suc-le-suc, not-suc-le-zero}
use native.Mathlib.Numerals.{add-one}
use native.Mathlib.Omega.{arith}
use mathlib.Core.Path.{◌≡◌, refl, sym, ap, ◌∙◌}
use mathlib.Core.Bool.{Bool, true, false, not, ◌&&◌, and-eq-true_iff}
use mathlib.Core.List.{List, [], ◌∷◌}
use lib.ListN.{length, get_or, drop, drop_of_length-le, get_or-eq_default}
use lib.Seq.{drop-cons}
use lib.Dec.{eqb, ltb, leb, eqb-suc-suc, eqb-zero-suc}
use borrow.Author.Tests.{eqb-true, ltb-true, ltb-false, leb-true, not-true, eq-eqb, lt-ltb, le-leb}
use Rattle.grammar.specs.Words.{EOF, class, code, codes, valid, tok, step}
use Rattle.grammar.specs.Parsed.{Check, met, failed, need, BadArray}
use Rattle.grammar.specs.Script.{both, words_good, array_good, longest}
use Rattle.grammar.proofs.Checks.{both_met, need_met}
use Rattle.words.proofs.Steps.{step_one}

-- Whether a word may stand before the last.
abbrev pub inner : ℕ → Bool
inner w = valid w && not (eqb w EOF)

-- The check of an array of a good length is that of its words.
pub sized : (ts : List ℕ) → 0 < length ts → length ts ≤ 32768 → array_good ts ≡ words_good 0 ts
unfolding array_good longest both need
sized ts some few = rw (lt-ltb _ _ some, le-leb _ _ few)

-- A word that another follows.
good_step : (ts : List ℕ) (at : ℕ) → at + 1 < length ts
    → words_good at (drop at ts) ≡ both (need (inner (get_or ts at 0)) BadArray at) (words_good (at + 1) (drop (at + 1) ts))
unfolding words_good
good_step ts at h =
    let here : at < length ts = omega arith in
    let next : suc at < length ts = omega arith in
    rw (add-one at, drop-cons ts at 0 here, drop-cons ts (suc at) 0 next)

-- A word that may stand there, and the words after it.
pub good_on : (ts : List ℕ) (at : ℕ) → at + 1 < length ts → inner (get_or ts at 0) ≡ true → words_good at (drop at ts) ≡ words_good (at + 1) (drop (at + 1) ts)
unfolding both need
good_on ts at h i = good_step ts at h ∙ rw i

-- A word that may not stand there.
pub bad_here : (ts : List ℕ) (at : ℕ) → at + 1 < length ts → inner (get_or ts at 0) ≡ false → words_good at (drop at ts) ≡ failed BadArray at
unfolding both need
bad_here ts at h i = good_step ts at h ∙ rw i

-- The last word.
pub good_last : (ts : List ℕ) (at : ℕ) → at + 1 ≡ length ts → words_good at (drop at ts) ≡ need (eqb (get_or ts at 0) EOF) BadArray at
unfolding words_good
good_last ts at h =
    let here : at < length ts = omega arith in
    let past : length ts ≤ suc at = omega arith in
    rw (drop-cons ts at 0 here, drop_of_length-le ts past)

-- A word of a good list is valid, and is EOF where it is the last.
pub each_good : (at : ℕ) (xs : List ℕ) → words_good at xs ≡ met → (i : ℕ) → i < length xs
    → (valid (get_or xs i EOF) ≡ true) × (eqb (get_or xs i EOF) EOF ≡ eqb (suc i) (length xs))
unfolding words_good valid class code codes
each_good at [] h i l = absurd (not-suc-le-zero l)
each_good at (w ∷ []) h zero l =
    let e = need_met (eqb w EOF) BadArray at h in
    (rw (eqb-true w EOF e), e)
each_good at (w ∷ []) h (suc i) l = absurd (not-suc-le-zero (le_of_suc-le-suc l))
each_good at (w ∷ v ∷ ws) h zero l =
    let b = (both_met (need (inner w) BadArray at) (words_good (suc at) (v ∷ ws)) h).0 in
    let k = (and-eq-true_iff (valid w) (not (eqb w EOF))).0 (need_met (inner w) BadArray at b) in
    (k.0, not-true (eqb w EOF) k.1 ∙ sym (eqb-suc-suc 0 (suc (length ws)) ∙ eqb-zero-suc (length ws)))
each_good at (w ∷ v ∷ ws) h (suc i) l =
    let rest = each_good (suc at) (v ∷ ws) (both_met (need (inner w) BadArray at) (words_good (suc at) (v ∷ ws)) h).1 i (le_of_suc-le-suc l) in
    (rest.0, rest.1 ∙ sym (eqb-suc-suc (suc i) (length (v ∷ ws))))

-- Every refusal of a check has the number of a bad array.
bad_only : Check → Type 0
bad_only met = Unit {0}
bad_only (failed n p) = n ≡ BadArray

need_bad : (b : Bool) (p : ℕ) → bad_only (need b BadArray p)
unfolding need bad_only
need_bad true p = tt
need_bad false p = refl

both_bad : (a b : Check) → bad_only a → bad_only b → bad_only (both a b)
unfolding both bad_only
both_bad met b h k = k
both_bad (failed n p) b h k = h

words_bad : (at : ℕ) (ws : List ℕ) → bad_only (words_good at ws)
unfolding words_good bad_only
words_bad at [] = tt
words_bad at (w ∷ []) = need_bad _ at
words_bad at (w ∷ v ∷ ws) = both_bad _ _ (need_bad _ at) (words_bad (suc at) (v ∷ ws))

-- A bad array is refused by one number.
pub array_number : (ts : List ℕ) {n p : ℕ} → array_good ts ≡ failed n p → n ≡ BadArray
unfolding array_good bad_only
array_number ts {n} {p} e =
    let a : bad_only (array_good ts) = both_bad _ _ (need_bad _ 0) (words_bad 0 ts) in
    let h : bad_only (failed n p) = rw e at a in
    h

-- What a good array has.
pub record Sound (ts : List ℕ) : Type 0 where
  pub few : length ts ≤ 32768
  pub some : 0 < length ts
  pub all_valid : (i : ℕ) → valid (tok ts i) ≡ true
  pub last : tok ts (length ts - 1) ≡ EOF
  pub only : (at : ℕ) → at < length ts → tok ts at ≡ EOF → at ≡ length ts - 1
  pub one_on : (at : ℕ) → at < length ts → (tok ts at ≡ EOF → ⊥) → step ts at ≡ at + 1

pub sound : {ts : List ℕ} → array_good ts ≡ met → Sound ts
unfolding array_good longest tok valid class code codes
sound {ts} h = record { few = leb-true _ _ size.1; some = some; all_valid = all_valid; last = last; only = only; one_on = one_on }
  where
    parts : (need (ltb 0 (length ts) && leb (length ts) longest) BadArray 0 ≡ met) × (words_good 0 ts ≡ met)
    parts = both_met (need (ltb 0 (length ts) && leb (length ts) longest) BadArray 0) (words_good 0 ts) h

    size : (ltb 0 (length ts) ≡ true) × (leb (length ts) longest ≡ true)
    size = (and-eq-true_iff (ltb 0 (length ts)) (leb (length ts) longest)).0 (need_met (ltb 0 (length ts) && leb (length ts) longest) BadArray 0 parts.0)

    some : 0 < length ts
    some = ltb-true 0 (length ts) size.0

    all_valid : (i : ℕ) → valid (get_or ts i EOF) ≡ true
    all_valid i = go (ltb i (length ts)) refl
      where
        go : (b : Bool) → ltb i (length ts) ≡ b → valid (get_or ts i EOF) ≡ true
        go true e = (each_good 0 ts parts.1 i (ltb-true _ _ e)).0
        go false e = rw (get_or-eq_default ts EOF (ltb-false _ _ e))

    last : get_or ts (length ts - 1) EOF ≡ EOF
    last =
        let l : length ts - 1 < length ts = omega (arith, some) in
        let q : suc (length ts - 1) ≡ length ts = omega (arith, some) in
        eqb-true _ _ ((each_good 0 ts parts.1 (length ts - 1) l).1 ∙ eq-eqb _ _ q)

    only : (at : ℕ) → at < length ts → get_or ts at EOF ≡ EOF → at ≡ length ts - 1
    only at l e =
        let q : suc at ≡ length ts = eqb-true _ _ (sym (each_good 0 ts parts.1 at l).1 ∙ eq-eqb _ _ e) in
        omega arith

    one_on : (at : ℕ) → at < length ts → (get_or ts at EOF ≡ EOF → ⊥) → step ts at ≡ at + 1
    one_on at l n = go (ltb (at + 1) (length ts)) refl
      where
        go : (b : Bool) → ltb (at + 1) (length ts) ≡ b → step ts at ≡ at + 1
        go true e = step_one ts at (ltb-true _ _ e)
        go false e =
            let past : length ts ≤ at + 1 = ltb-false _ _ e in
            let q : at ≡ length ts - 1 = omega arith in
            absurd (n (ap (λ k. get_or ts k EOF) q ∙ last))
