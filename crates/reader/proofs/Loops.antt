-- The turns of a loop: what has been read so far, and how far the definition's loop has come.
use mathlib.Core.Path.{◌≡◌, refl, ap, ◌∙◌}
use mathlib.Core.List.{List, [], ◌∷◌}
use Prim.Native.Nat.{ℕ, zero, suc, ◌+◌, ◌≤◌, ◌<◌}
use native.Mathlib.Omega.{arith}
use native.Mathlib.Nat.{add-zero}
use mathlib.Core.Bool.{cond}
use lib.ListN.{length}
use lib.Dec.{eqb}
use borrow.Author.Tests.{eq-eqb, ne_eqb}
use Rattle.grammar.specs.Tree.{Trees, nil, ◌▸◌, sizes, head_ref, join}
use Rattle.rows.specs.Rows.{linked}
use Rattle.grammar.specs.Parsed.{read, Reader, turns}
use Rattle.std.specs.Prelude.{Ok}
use Rattle.answer.specs.Answer.{piece}
use Rattle.reader.specs.Meets.{Stands, Meets, many}
use Rattle.reader.proofs.Answers.{by_eq, onward}
use Rattle.reader.proofs.Slots.{some_rows}
use Rattle.reader.proofs.Roots.{stands_linked}

-- A loop from a₀ on has come to a value that stands in the first k rows, with the reference h.
pub record Turning {A : Type 0} (slot : A → Trees) (loop : ℕ → A → Reader A) (ts : List ℕ) (from : ℕ) (a₀ : A) (at₀ room₀ first k h : ℕ) (xs ys : List ℕ) (at : ℕ) : Type 0 where
  pub value : A
  pub left : ℕ
  pub fuel : ℕ
  pub eq : loop turns a₀ at₀ room₀ ≡ loop (suc fuel) value at left
  pub enough : length ts ≤ suc fuel + at
  pub head : h ≡ head_ref (slot value) first
  pub stands : Stands ts from (slot value ∷ []) first k left xs ys at

-- It starts.
pub starts : {A : Type 0} {slot : A → Trees} {ts : List ℕ} {from first k h room : ℕ} {xs ys : List ℕ} {at : ℕ} (loop : ℕ → A → Reader A) (a : A) → length ts ≤ 32768
    → Stands ts from (slot a ∷ []) first k room xs ys at → h ≡ head_ref (slot a) first → Turning slot loop ts from a at room first k h xs ys at
unfolding turns
starts loop a few s e = record { value = a; left = _; fuel = 32767; eq = refl; enough = omega arith; head = e; stands = s }

module _ {A : Type 0} {slot : A → Trees} {loop : ℕ → A → Reader A} {ts : List ℕ} {from : ℕ} {a₀ : A} {at₀ room₀ first k h : ℕ} {xs ys : List ℕ} {at : ℕ}
    (s : Turning slot loop ts from a₀ at₀ room₀ first k h xs ys at) where
  -- It stops, and what was read is the answer.
  pub stops : (d : ℕ) → d ≡ at → loop (suc s.fuel) s.value at s.left ≡ read s.value at s.left
      → Meets slot ts from (loop turns a₀ at₀ room₀) [] first (Ok (piece k h d)) xs ys
  stops d e q =
      by_eq (s.eq ∙ q)
      (record {
        met = record {
          rows = k;
          is = ap (λ (i : ℕ). Ok (piece k i d)) s.head ∙ ap (λ (i : ℕ). Ok (piece k (head_ref (slot s.value) first) i)) e;
          stands = s.stands;
        };
      })

  -- It goes on.
  pub turns_on : {k' h' : ℕ} {ys' : List ℕ} {at' : ℕ} (a : A) (left : ℕ) → loop (suc s.fuel) s.value at s.left ≡ loop s.fuel a at' left → at < at'
      → h' ≡ head_ref (slot a) first → Stands ts from (slot a ∷ []) first k' left xs ys' at' → Turning slot loop ts from a₀ at₀ room₀ first k' h' xs ys' at'
  turns_on {k'} {h'} {ys'} {at'} a left q lt e st =
      let few = s.enough in
      let w = st.within in
      go s.fuel refl
    where
      go : (n : ℕ) → s.fuel ≡ n → Turning slot loop ts from a₀ at₀ room₀ first k' h' xs ys' at'
      go zero z =
          let y : ⊥ = omega (arith, s.enough, st.within) in
          absurd y
      go (suc n) z =
          record {
            value = a;
            left = left;
            fuel = n;
            eq = s.eq ∙ q ∙ ap (λ (i : ℕ). loop i a at' left) z;
            enough = omega (arith, s.enough);
            head = e;
            stands = st;
          }

-- The reference of a list with another behind it.
head_joined : (us vs : Trees) (first k h g : ℕ) → first + k ≡ first + sizes us → h ≡ head_ref us first → g ≡ head_ref vs (first + sizes us)
    → cond (eqb k 0) g h ≡ head_ref (join us vs) first
unfolding join
head_joined nil vs first k h g e eh eg =
    let z : k ≡ 0 = omega arith in
    rw (eq-eqb k 0 z) (eg ∙ ap (head_ref vs) (add-zero first))
head_joined (t ▸ us) vs first k h g e eh eg = rw (ne_eqb k 0 (λ z. omega (arith, some_rows t))) eh

-- A loop over a list goes on with what was read behind it, linked to it.
pub lengthens : {loop : ℕ → Trees → Reader Trees} {ts : List ℕ} {from : ℕ} {a₀ : Trees} {at₀ room₀ first k h : ℕ} {xs ys : List ℕ} {at : ℕ}
    {m g left : ℕ} {ys' : List ℕ} {at' b : ℕ} (s : Turning many loop ts from a₀ at₀ room₀ first k h xs ys at) (vs : Trees)
    → Stands ts from (s.value ∷ vs ∷ []) first m left xs ys' at' → g ≡ head_ref vs (first + sizes s.value)
    → loop (suc s.fuel) s.value at s.left ≡ loop s.fuel (join s.value vs) b left → at < b → at' ≤ b → b < length ts
    → Turning many loop ts from a₀ at₀ room₀ first m (cond (eqb k 0) g h) xs (linked ys' k g) b
lengthens s vs st eg q lt le w =
    let e = s.stands.ends in
    turns_on s (join s.value vs) _ q lt (head_joined s.value vs _ _ _ _ e s.head eg) (onward (stands_linked s.value vs _ _ st e eg) le w)
