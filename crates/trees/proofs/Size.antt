-- A tree's rows are different rows of its pool, so they are no more than the pool's.
use Prim.Native.Nat.{ℕ, zero, suc, ◌+◌, ◌≤◌, ◌<◌}
use native.Mathlib.Omega.{arith}
use mathlib.Core.Path.{◌≡◌, refl, ap, sym, subst, ◌∙◌}
use mathlib.Core.Logic.{inl, inr}
use mathlib.Core.List.{List, [], ◌∷◌}
use lib.ListN.{length, get_or, set, length-set, length-append, length-map, replicate, length-replicate}
use lib.Seq.{get_or-set_other}
use Rattle.grammar.specs.Tree.{Tree, Trees, size, sizes}
use Rattle.grammar.specs.Script.{word_of}
use Rattle.slots.specs.Slots.{Slot, slot}
use Rattle.trees.specs.Pool.{count, In, Holds, infix_row, row, HoldsAll, none, more}
use Rattle.trees.specs.Verdict.{NoneBad}
use Rattle.trees.specs.Complete.{Has, Distinct, entries, below, refs}
use Rattle.trees.proofs.Zeros.{zeros, zeros_set, zeros_replicate, zero_there}
use Rattle.trees.proofs.Sound.{inside}
use Rattle.trees.proofs.Different.{different, ref_reached}

-- different numbers, at each of which a list has a 0
distinct_zeros : (xs v : List ℕ) → Distinct xs → ((x : ℕ) → Has x xs → (x < length v) × (get_or v x 0 ≡ 0)) → length xs ≤ zeros v
distinct_zeros [] v d f = omega arith
distinct_zeros (x ∷ xs) v d f =
    let o = f x (inl refl) in
    let e = zeros_set v x 1 o.0 o.1 (omega arith) in
    let l =
    distinct_zeros xs (set v x 1) d.1
    (λ y m. let p = f y (inr m) in (simp length-set p.0, get_or-set_other v x y 1 0 (λ q. d.0 (subst (λ (n : ℕ). Has n xs) q m)) ∙ p.1)) in
    omega (arith, e, l)

zero_at : (n x : ℕ) → (1 ≤ x) × (x ≤ n) → (x < length (1 ∷ replicate {A = ℕ} n 0)) × (get_or (1 ∷ replicate {A = ℕ} n 0) x 0 ≡ 0)
zero_at n zero o = absurd (omega (arith, o))
zero_at n (suc x) o = (let l : length (replicate {A = ℕ} n 0) ≡ n = length-replicate n 0 in omega (arith, o, l), zero_there n x)

-- different numbers from 1 to n
pub pigeonhole : (n : ℕ) (xs : List ℕ) → Distinct xs → ((x : ℕ) → Has x xs → (1 ≤ x) × (x ≤ n)) → length xs ≤ n
pigeonhole n xs d f =
    let l = distinct_zeros xs (1 ∷ replicate {A = ℕ} n 0) d (λ x m. zero_at n x (f x m)) in
    omega (arith, l, zeros_replicate n)

module _ (pool : List ℕ) where
  abbrev sl : (r j : ℕ) → Slot
  sl r j = slot (word_of pool r 0) j

  mutual
    unfolding entries below

    length_entries : {c : ℕ} {us : Trees} (p k : ℕ) (s : Slot) (h : HoldsAll pool c us) → length (entries pool p k s h) ≡ sizes us
    length_entries p k s (none z q) = sym (ap sizes q)
    length_entries {c} {us} p k s (more t ts i h hs q) =
        let e : sizes us ≡ size t + sizes ts = ap sizes q in
        simp length-append (omega (arith, e, length_below h, length_entries c 7 s hs))

    length_below : {r : ℕ} {t : Tree} (h : Holds pool r t) → length (below pool h) + 1 ≡ size t
    length_below {r} {t} (infix_row a b e ha hb hc hd q) =
        let z : size t ≡ size a + size b + 1 = ap size q in
        simp length-append (omega (arith, z, length_entries r 3 (sl r 0) ha, length_entries r 4 (sl r 1) hb, length_entries r 5 (sl r 2) hc, length_entries r 6 (sl r 3) hd))
    length_below {r} {t} (row a b c d e ha hb hc hd q) =
        let z : size t ≡ sizes a + sizes b + sizes c + sizes d + 1 = ap size q in
        simp length-append (omega (arith, z, length_entries r 3 (sl r 0) ha, length_entries r 4 (sl r 1) hb, length_entries r 5 (sl r 2) hc, length_entries r 6 (sl r 3) hd))

  length_refs : {r : ℕ} {t : Tree} (h : Holds pool r t) → length (refs pool h) ≡ size t
  length_refs h = let e = length_below h in let l = length-map (below pool h) (λ e. e.row) in omega (arith, e, l)

-- the tree of a root that reaches no bad row
pub no_larger : (pool : List ℕ) (root : ℕ) {t : Tree} → In pool root → NoneBad pool root → Holds pool root t → size t ≤ count pool
no_larger pool root i good h =
    let l = pigeonhole (count pool) (refs pool h) (different pool root good i h) (λ x m. inside pool root good i (ref_reached pool root good i h x m)) in
    omega (arith, l, length_refs pool h)
