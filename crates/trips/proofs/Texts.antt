-- What the writer answers with a count, and leaves, is the text of the tree that the pool holds.
use Prim.Native.Nat.{ℕ, zero, suc, ◌≤◌}
use native.Mathlib.Omega.{arith}
use mathlib.Core.Path.{◌≡◌, refl, ap, sym, subst, ◌∙◌}
use mathlib.Core.Bool.{Bool, true, false, cond, ◌&&◌, and-eq-true_iff}
use mathlib.Core.List.{List, [], ◌∷◌, map}
use lib.Dec.{leb}
use lib.ListN.{length, take}
use borrow.Author.Tests.{leb-true}
use Rattle.grammar.specs.Tree.{Tree}
use Rattle.trees.specs.Pool.{Holds}
use Rattle.trees.specs.Exact.{IsTree}
use Rattle.trees.proofs.Exact.{exact}
use Rattle.trees.proofs.Unique.{one_tree}
use Rattle.written.specs.Written.{Token, written, words, places}
use Rattle.std.specs.Prelude.{Result, Ok, Err}
use Rattle.refusals.specs.Refusal.{Numbered, refusal}
use Rattle.refusals.proofs.Laws.{not_both}
use Rattle.writer.specs.Wrote.{front, answered, TooShort, Writes, no_tree, a_text}
use Rattle.trips.specs.Promises.{Text, WritesText}

-- The words in front.
in_front : (n : ℕ) (f : Token → ℕ) (ts : List Token) → length ts ≤ n → take (length ts) (front n (map f ts)) ≡ map f ts
unfolding front
in_front n f [] h = refl
in_front zero f (t ∷ ts) h = absurd (omega arith)
in_front (suc n) f (t ∷ ts) h = ap (λ xs. f t ∷ xs) (in_front n f ts (omega arith))

-- A count is that of a text for which there is room, and with room there is a count.
counted : (ts : List Token) (w p n : ℕ) → ◌≡◌ {A = Result ℕ Numbered} (Ok n) (answered ts w p) → (n ≡ length ts) × (length ts ≤ w) × (length ts ≤ p)
unfolding answered
counted ts w p n = go (leb (length ts) w && leb (length ts) p) refl
  where
    go : (b : Bool) → leb (length ts) w && leb (length ts) p ≡ b → ◌≡◌ {A = Result ℕ Numbered} (Ok n) (cond b (Ok (length ts)) (Err (refusal TooShort 0)))
        → (n ≡ length ts) × (length ts ≤ w) × (length ts ≤ p)
    go true e q =
        let (a, b) = (and-eq-true_iff (leb (length ts) w) (leb (length ts) p)).0 e in
        (cc, leb-true (length ts) w a, leb-true (length ts) p b)
    go false e q = not_both refl q

text : (t : Tree) (w p n : ℕ) (ws ps : List ℕ) → ◌≡◌ {A = Result ℕ Numbered} (Ok n) (answered (written t) w p) → ws ≡ front w (words (written t)) → ps ≡ front p (places (written t))
    → Text t n ws ps
text t w p n ws ps e a b =
    let (l, x, y) = counted (written t) w p n e in
    record { long = l; in_words = rw (l, a, in_front w _ (written t) x); in_places = rw (l, b, in_front p _ (written t) y) }

pub writes_text : WritesText
writes_text pool root w p n ws ps h = go h refl
  where
    go : {r : Result ℕ Numbered} → Writes pool root w p r ws ps → r ≡ Ok n → (t : Tree) × IsTree pool root t × Text t n ws ps
    go (no_tree number place v e a b) q = not_both q e
    go (a_text t v o f e a b) q =
        let (u, i) = (exact pool root).0 v in
        let x : u ≡ t = one_tree pool i.holds o in
        (t, subst (λ k. IsTree pool root k) x i, text t w p n ws ps (sym q ∙ e) (rw q at a) (rw q at b))

-- So it is of any tree that the pool holds there.
pub of_tree : (pool : List ℕ) (root w p n : ℕ) (ws ps : List ℕ) (t : Tree) → Writes pool root w p (Ok n) ws ps → Holds pool root t → IsTree pool root t × Text t n ws ps
of_tree pool root w p n ws ps t h o =
    let (u, i, x) = writes_text pool root w p n ws ps h in
    subst (λ k. IsTree pool root k × Text k n ws ps) (one_tree pool i.holds o) (i, x)
