-- A row holds one tree, and the check has one answer.
use Prim.Native.Nat.{ℕ}
use native.Mathlib.Omega.{arith}
use mathlib.Core.Path.{◌≡◌, refl, ap, sym, ◌∙◌}
use mathlib.Core.Logic.{⊎_elim}
use mathlib.Core.List.{List}
use lib.Seq.{ext_get_or}
use Rattle.std.specs.Prelude.{Result, Err}
use Rattle.grammar.specs.Tree.{Tree, Trees, nil, ◌▸◌}
use Rattle.refusals.specs.Refusal.{Numbered, refusal}
use Rattle.trees.specs.Pool.{In, Holds, infix_row, row, HoldsAll, none, more}
use Rattle.trees.specs.Verdict.{Lowest, Verdict, no_root, bad_row, a_tree}
use Rattle.trees.specs.Leaves.{Zero, Leaves}
use Rattle.slots.proofs.Either.{less_or}
use Rattle.trees.proofs.Linked.{one_survey}

module _ (pool : List ℕ) where
  first_of : {a b : Tree} → a ▸ nil ≡ b ▸ nil → a ≡ b
  first_of e = cc

  mutual
    pub one_tree : {r : ℕ} {t u : Tree} → Holds pool r t → Holds pool r u → t ≡ u
    one_tree (infix_row a b e ha hb hc hd q) (infix_row a' b' e' ha' hb' hc' hd' q') =
        let x : a ≡ a' = first_of (one_list ha ha') in
        let y : b ≡ b' = first_of (one_list hb hb') in
        cc
    one_tree (infix_row a b e ha hb hc hd q) (row a' b' c' d' n ha' hb' hc' hd' q') = absurd (n e)
    one_tree (row a b c d n ha hb hc hd q) (infix_row a' b' e' ha' hb' hc' hd' q') = absurd (n e')
    one_tree (row a b c d n ha hb hc hd q) (row a' b' c' d' n' ha' hb' hc' hd' q') =
        let x : a ≡ a' = one_list ha ha' in
        let y : b ≡ b' = one_list hb hb' in
        let z : c ≡ c' = one_list hc hc' in
        let w : d ≡ d' = one_list hd hd' in
        cc

    pub one_list : {r : ℕ} {ts us : Trees} → HoldsAll pool r ts → HoldsAll pool r us → ts ≡ us
    one_list (none z q) (none z' q') = cc
    one_list (none z q) (more t ts i h hs q') = absurd (omega (arith, i))
    one_list (more t ts i h hs q) (none z q') = absurd (omega (arith, i))
    one_list (more t ts i h hs q) (more t' ts' i' h' hs' q') =
        let x : t ≡ t' = one_tree h h' in
        let y : ts ≡ ts' = one_list hs hs' in
        cc

  module _ (root : ℕ) where
    one_lowest : {p q : ℕ} → Lowest pool root p → Lowest pool root q → p ≡ q
    one_lowest {p} {q} l m =
        ⊎_elim (λ x. absurd (m.first p x l.reached l.bad))
        (λ x. ⊎_elim (λ y. absurd (l.first q y m.reached m.bad)) (λ y. omega arith) (less_or q p))
        (less_or p q)

    pub one_answer : {a b : Result Unit Numbered} → Verdict pool root a → Verdict pool root b → a ≡ b
    one_answer (no_root n) (no_root n') = refl
    one_answer (no_root n) (bad_row i l) = absurd (n i)
    one_answer (no_root n) (a_tree t i g h f) = absurd (n i)
    one_answer (bad_row i l) (no_root n) = absurd (n i)
    one_answer (bad_row i l) (bad_row i' l') = ap (λ p. Err (refusal 38 p)) (one_lowest l l')
    one_answer (bad_row {p} i l) (a_tree t i' g h f) = absurd (g p l.reached l.bad)
    one_answer (a_tree t i g h f) (no_root n) = absurd (n i)
    one_answer (a_tree t i g h f) (bad_row {p} i' l) = absurd (g p l.reached l.bad)
    one_answer (a_tree t i g h f) (a_tree t' i' g' h' f') = refl

-- so many zeros
pub one_zero : {n : ℕ} {xs ys : List ℕ} → Zero n xs → Zero n ys → xs ≡ ys
one_zero {n} {xs} {ys} a b = ext_get_or 0 xs ys (a.long ∙ sym b.long) (λ i h. a.each i ∙ sym (b.each i))

-- a survey has one answer, and leaves one thing
module _ {pool : List ℕ} {root n : ℕ} where
  same_links : {c c' : Result Unit Numbered} {a b q a' b' q' : List ℕ} → Leaves pool root n c a b q → Leaves pool root n c' a' b' q' → (a ≡ a') × (b ≡ b')
  same_links {c} {c'} {a} {b} {q} {a'} {b'} {q'} l m = go l.verdict
    where
      rooted : In pool root → (a ≡ a') × (b ≡ b')
      rooted i = one_survey (l.links i) (m.links i) (l.owners_long ∙ sym m.owners_long) (l.words_long ∙ sym m.words_long)

      go : {d : Result Unit Numbered} → Verdict pool root d → (a ≡ a') × (b ≡ b')
      go (no_root out) =
          let y = l.none out in
          let z = m.none out in
          (one_zero y.0 z.0, one_zero y.1 z.1)
      go (bad_row i p) = rooted i
      go (a_tree t i g h f) = rooted i

  pub one_leaving : {c c' : Result Unit Numbered} {a b q a' b' q' : List ℕ} → Leaves pool root n c a b q → Leaves pool root n c' a' b' q'
      → ◌≡◌ {A = Result Unit Numbered × List ℕ × List ℕ × List ℕ} (c, a, b, q) (c', a', b', q')
  one_leaving {c} {c'} {a} {b} {q} {a'} {b'} {q'} l m =
      let e : c ≡ c' = one_answer pool root l.verdict m.verdict in
      let s = same_links l m in
      let x = s.0 in
      let y = s.1 in
      let z = one_zero l.queue_none m.queue_none in
      cc
