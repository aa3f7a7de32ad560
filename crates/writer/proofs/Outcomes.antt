-- The answers of the writer: a text that fits, one that doesn't, and no tree.
use Prim.Native.Nat.{ℕ, ◌≤◌, ◌<◌}
use mathlib.Core.Path.{◌≡◌, refl, ap, sym, ◌∙◌}
use mathlib.Core.List.{List}
use mathlib.Core.Logic.{◌⊎◌, ⊎_elim}
use native.Mathlib.Omega.{arith}
use lib.ListN.{length, replicate}
use borrow.Author.Tests.{le-leb, lt-leb}
use Rattle.std.specs.Prelude.{Result, Ok, Err}
use Rattle.refusals.specs.Refusal.{Numbered, refusal}
use Rattle.trees.specs.Leaves.{Leaves}
use Rattle.trees.specs.Verdict.{Verdict, a_tree}
use Rattle.trees.proofs.Exact.{is_tree}
use Rattle.trees.proofs.Size.{no_larger}
use Rattle.trees.proofs.Unique.{one_tree, one_answer}
use Rattle.written.specs.Written.{Token, written}
use Rattle.written.specs.Written as form
use Rattle.writer.specs.Wrote.{front, answered, TooShort, Writes, no_tree, a_text}
use Rattle.writer.specs.Ready.{Ready, Walked}

-- the answer for a text
pub fitting : (ts : List Token) (w p : ℕ) → length ts ≤ w → length ts ≤ p → answered ts w p ≡ Ok (length ts)
unfolding answered
fitting ts w p a b = rw (le-leb _ _ a, le-leb _ _ b)

too_many : (ts : List Token) (w p : ℕ) → (w < length ts) ⊎ ((length ts ≤ w) × (p < length ts)) → answered ts w p ≡ Err (refusal TooShort 0)
unfolding answered
too_many ts w p o = ⊎_elim (λ a. rw (lt-leb (length ts) w a)) (λ a. rw (le-leb (length ts) w a.0, lt-leb (length ts) p a.1)) o

module _ {pool : List ℕ} {root : ℕ} {owners links : List ℕ} (ready : Ready pool root owners links) (n : ℕ) (ws₀ ps₀ ws ps : List ℕ) (walked : Walked pool root n ws₀ ps₀ ws ps)
    (w p : ℕ) where
  verdict : Verdict pool root (Ok tt)
  verdict = a_tree ready.tree ready.inside ready.good ready.holds ready.fit

  abbrev text : List Token
  text = written ready.tree

  known : (n ≡ length text) × (ws ≡ front (length ws₀) (form.words text)) × (ps ≡ front (length ps₀) (form.places text))
  known = walked.each ready.tree ready.holds

  pub fits_in : length ws₀ ≡ w → length ps₀ ≡ p → n ≤ w → n ≤ p → Writes pool root w p (Ok n) ws ps
  fits_in a b c d =
      let (e, x, y) = known in
      let r : Ok n ≡ answered text w p = ap (λ k. Ok k) e ∙ sym (fitting text w p (rw e at c) (rw e at d)) in
      a_text ready.tree verdict ready.holds ready.fit r (x ∙ ap (λ k. front k (form.words text)) a) (y ∙ ap (λ k. front k (form.places text)) b)

  pub too_short : {ws' ps' : List ℕ} → (w < n) ⊎ ((n ≤ w) × (p < n)) → ws' ≡ replicate w 0 → ps' ≡ replicate p 0 → Writes pool root w p (Err (refusal TooShort 0)) ws' ps'
  too_short o x y =
      a_text ready.tree verdict ready.holds ready.fit (sym (too_many text w p (rw known.0 at o))) x y

-- what a survey that finds a tree leaves is what the walk needs
pub ready_of : {pool : List ℕ} {root n : ℕ} {owners words queue : List ℕ} → Leaves pool root n (Ok tt) owners words queue → Ready pool root owners words
ready_of {pool} {root} {n} {owners} {words} {queue} l = go l.verdict
  where
    go : Verdict pool root (Ok tt) → Ready pool root owners words
    go (a_tree t i g o f) =
        let x = is_tree pool root i g o f in
        record {
          inside = i;
          good = g;
          tree = t;
          holds = o;
          fit = f;
          last = x.in_no_list;
          small = no_larger pool root i g o;
          told = (l.links i).each;
        }

-- a refusal of the check
pub refuses : {pool : List ℕ} {root n w p : ℕ} {owners words queue ws ps : List ℕ} {e : Numbered}
    → Leaves pool root n (Err e) owners words queue → ws ≡ replicate w 0 → ps ≡ replicate p 0 → Writes pool root w p (Err e) ws ps
refuses {e = e} l a b = no_tree e.number e.place l.verdict refl a b

-- the writer has one answer, and leaves the slices in one way
not_both : {pool : List ℕ} {root n p : ℕ} {A : Type 0} → Verdict pool root (Err (refusal n p)) → Verdict pool root (Ok tt) → A
not_both {pool} {root} {n} {p} v u = let e : ◌≡◌ {A = Result Unit Numbered} (Err (refusal n p)) (Ok tt) = one_answer pool root v u in let z : ◌≡◌ {A = ℕ} 0 1 = cc in absurd (omega arith)

pub one_outcome : {pool : List ℕ} {root w p : ℕ} {r r' : Result ℕ Numbered} {ws ps ws' ps' : List ℕ} → Writes pool root w p r ws ps → Writes pool root w p r' ws' ps'
    → ◌≡◌ {A = Result ℕ Numbered × List ℕ × List ℕ} (r, ws, ps) (r', ws', ps')
one_outcome {pool} {root} (no_tree n p v e a b) (no_tree n' p' v' e' a' b') =
    let x : ◌≡◌ {A = Result Unit Numbered} (Err (refusal n p)) (Err (refusal n' p')) = one_answer pool root v v' in cc
one_outcome (no_tree n p v e a b) (a_text t v' h f e' a' b') = not_both v v'
one_outcome (a_text t v h f e a b) (no_tree n' p' v' e' a' b') = not_both v' v
one_outcome {pool} {root} (a_text t v h f e a b) (a_text t' v' h' f' e' a' b') =
    let x : t ≡ t' = one_tree pool h h' in cc
