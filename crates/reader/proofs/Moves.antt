-- Steps of the cursor, and what a reader that is ready can ask for.
use mathlib.Core.Path.{◌≡◌, refl, sym, ap, ◌∙◌}
use mathlib.Core.List.{List}
use Prim.Native.Nat.{ℕ, ◌+◌, ◌*◌, ◌-◌, ◌≤◌, ◌<◌}
use native.Mathlib.Omega.{arith}
use lib.ListN.{length}
use lib.Dec.{eqb, ltb}
use mathlib.Core.Bool.{Bool, true, false, not, ◌&&◌, and-false, and-eq-true_iff, false≢true}
use borrow.Author.Tests.{ltb-false, eqb-true, eqb-false}
use Rattle.grammar.specs.Words.{tok, step, is, next_is, EOF, SSemiColon, goes_on, operates, order, infix_of, by_code, class, infixes, orders}
use Rattle.grammar.specs.Tree.{Trees, width}
use Rattle.words.proofs.Steps.{step_on, step_within}
use Rattle.reader.specs.Meets.{Sound, Ready, Front, Stands}
use Rattle.reader.proofs.Answers.{onward}
use Rattle.reader.proofs.Fronts.{front_same}
use Rattle.grammar.specs.Script.{largest}

module _ (ts : List ℕ) (at : ℕ) {b : ℕ} (e : b ≡ step ts at) where
  pub on_step : at ≤ b
  on_step = rw e (step_on ts at)

  pub within_step : at < length ts → b < length ts
  within_step h = rw e (step_within ts at h)

  pub ready_step : {xs : List ℕ} {f : ℕ} → Ready ts xs f at → Ready ts xs f b
  ready_step h = record { sound = h.sound; within = within_step h.within; whole = h.whole; fits = h.fits }

  pub stands_step : {from : ℕ} {ss : List Trees} {first k left : ℕ} {xs ys : List ℕ} → Stands ts from ss first k left xs ys at → Stands ts from ss first k left xs ys b
  stands_step s = onward s on_step (within_step s.within)

pub ready_same : {ts xs ys : List ℕ} {f at b : ℕ} → Ready ts xs f at → length ys ≡ length xs → b < length ts → Ready ts ys f b
ready_same h s w = let a = h.fits in let z = h.whole in record { sound = h.sound; within = w; whole = omega arith; fits = omega arith }

-- A place in the array is small, and so is the reader's own.
pub small_in : {ts xs : List ℕ} {f at b : ℕ} → Ready ts xs f at → b < length ts → b < 65536
small_in h w = omega (arith, h.sound.few)

pub small : {ts xs : List ℕ} {f at : ℕ} → Ready ts xs f at → at < 65536
small h = small_in h h.within

-- A step from a token that is not EOF goes on.
pub moves : {ts : List ℕ} {at : ℕ} → Sound ts → at < length ts → ((tok ts at ≡ EOF) → ⊥) → at < step ts at
unfolding step
moves {ts} {at} s w n = go (ltb (at + 1) (length ts)) refl
  where
    go : (b : Bool) → ltb (at + 1) (length ts) ≡ b → at < step ts at
    go true e = rw e (omega arith)
    go false e =
        let q : at ≡ length ts - 1 = omega (arith, ltb-false (at + 1) (length ts) e) in
        absurd (n (ap (tok ts) q ∙ s.ends))

-- A step onto a token that is not EOF goes on.
pub moves_onto : {ts : List ℕ} {at : ℕ} → Sound ts → at < length ts → ((tok ts (step ts at) ≡ EOF) → ⊥) → at < step ts at
unfolding step
moves_onto {ts} {at} s w n = go (ltb (at + 1) (length ts)) refl
  where
    go : (b : Bool) → ltb (at + 1) (length ts) ≡ b → at < step ts at
    go true e = rw e (omega arith)
    go false e =
        let q : at ≡ length ts - 1 = omega (arith, ltb-false (at + 1) (length ts) e) in
        absurd (n (rw e (ap (tok ts) q ∙ s.ends)))

-- A token that is another word is not EOF.
pub is_not_end : (ts : List ℕ) (at w : ℕ) → is ts at w ≡ true → (eqb w EOF ≡ false) → (tok ts at ≡ EOF) → ⊥
unfolding is
is_not_end ts at w e n q = eqb-false w EOF n (sym (eqb-true (tok ts at) w e) ∙ q)

-- A step onto a word that is not EOF goes on.
pub moves_next : {ts : List ℕ} {at : ℕ} (w : ℕ) → Sound ts → at < length ts → next_is ts at w ≡ true → (eqb w EOF ≡ false) → at < step ts at
unfolding next_is
moves_next {ts} {at} w s lt e n = moves_onto s lt (is_not_end ts (step ts at) w e n)

pub le_trans : {a b c : ℕ} → a ≤ b → b ≤ c → a ≤ c
le_trans h k = omega arith

-- EOF has no operation.
no_more : (pre : ℕ) → goes_on pre EOF ≡ true → ⊥
unfolding goes_on operates order infix_of by_code class infixes orders
no_more pre e = false≢true (sym (and-false (ltb pre 0)) ∙ e)

pub goes_onward : {ts : List ℕ} {at : ℕ} (pre : ℕ) → Sound ts → at < length ts → goes_on pre (tok ts (step ts at)) ≡ true → at < step ts at
goes_onward pre s lt e = moves_onto s lt (λ q. no_more pre (ap (goes_on pre) (sym q) ∙ e))

-- What an expression goes on with operates.
pub operates_on : (pre w : ℕ) → goes_on pre w ≡ true → operates w ≡ true
unfolding goes_on
operates_on pre w e = ((and-eq-true_iff (not (eqb w SSemiColon) && ltb pre (order w)) (operates w)).0 e).1

-- ---- numbers that many calls ask for

-- The measure falls where the rank does and the cursor does not go back.
pub falls : (l n a b r s t : ℕ) → 16 * (l + (n - a)) + r ≡ t → a ≤ b → s < r → 16 * (l + (n - b)) + s < t
falls l n a b r s t e le lt = omega arith

-- Rows in the part fit a pool as long.
pub front_le : {p : List ℕ} {k : ℕ} {xs ys : List ℕ} → Front p k xs ys → width * k ≤ length ys
front_le h = omega (arith, h.fit, front_same h)

-- So does a part as long as another.
pub fits_same : (f m n : ℕ) → width * f + m ≤ largest → n ≡ m → width * f + n ≤ largest
fits_same f m n h e = omega arith

pub le_refl : (a : ℕ) → a ≤ a
le_refl a = omega arith
