-- The places and ends of rows, in the order of the rows: places that are not past their ends, and ends that never fall.
use Prim.Native.Nat.{ℕ, ◌+◌, ◌≤◌}
use native.Mathlib.Omega.{arith}
use mathlib.Core.Path.{◌≡◌, refl}
use mathlib.Core.List.{List, [], ◌∷◌, ◌++◌, append_assoc}
use lib.ListN.{length, length-append}
use Rattle.grammar.specs.Tree.{Tree, infixed, node, Trees, nil, ◌▸◌, size, sizes, join, flagged}

-- A row's place and its end.
abbrev pub Span : Type 0
Span = ℕ × ℕ

unfoldable mutual
  -- Those of a tree's rows.
  pub spans : Tree → List Span
  spans (infixed m p l r z) = spans l ++ (spans r ++ ((p, z) ∷ []))
  spans (node k m p a b c d z) = spans_of a ++ (spans_of b ++ (spans_of c ++ (spans_of d ++ ((p, z) ∷ []))))

  -- Those of the trees of a slot.
  pub spans_of : Trees → List Span
  spans_of nil = []
  spans_of (t ▸ ts) = spans t ++ spans_of ts

pub spans_join : (us vs : Trees) → spans_of (join us vs) ≡ spans_of us ++ spans_of vs
unfolding join spans
spans_join nil vs = refl
spans_join (t ▸ us) vs = rw (spans_join us vs, append_assoc)

-- A row stands behind what is in its slots.
pub spans_row : (k m p z : ℕ) (a b c d : Trees) → spans (node k m p a b c d z) ≡ spans_of (join a (join b (join c d))) ++ ((p, z) ∷ [])
unfolding spans
spans_row k m p z a b c d = rw (spans_join a (join b (join c d)), spans_join b (join c d), spans_join c d) (simp append_assoc)

pub spans_flagged : (f : ℕ) (t : Tree) → spans (flagged f t) ≡ spans t
unfolding spans flagged
spans_flagged f (infixed m p l r z) = refl
spans_flagged f (node k m p a b c d z) = refl

mutual
  unfolding spans

  pub spans_long : (t : Tree) → length (spans t) ≡ size t
  spans_long (infixed m p l r z) = simp length-append (omega (arith, spans_long l, spans_long r))
  spans_long (node k m p a b c d z) = simp length-append (omega (arith, spans_of_long a, spans_of_long b, spans_of_long c, spans_of_long d))

  pub spans_of_long : (ts : Trees) → length (spans_of ts) ≡ sizes ts
  spans_of_long nil = refl
  spans_of_long (t ▸ ts) = simp length-append (omega (arith, spans_long t, spans_of_long ts))

-- No place is before `start`, none is past its row's end, and the ends never fall, from `low` up to `high`.
pub data Rising (start : ℕ) : (low high : ℕ) → List Span → Type 0 where
  done : {low high : ℕ} → low ≤ high → Rising start low high []
  on : {low high place end : ℕ} {rest : List Span} → start ≤ place → place ≤ end → low ≤ end → Rising start end high rest
      → Rising start low high ((place, end) ∷ rest)

-- The same said from an earlier place, and up to a later one.
pub rising_from : {s s' lo lo' hi : ℕ} {xs : List Span} → s ≤ s' → lo ≤ lo' → Rising s' lo' hi xs → Rising s lo hi xs
rising_from {lo} {hi} h k (done r) = let e : lo ≤ hi = omega arith in done e
rising_from {s} {lo} h k (on {place} {end} a b c r) =
    let x : s ≤ place = omega arith in
    let y : lo ≤ end = omega arith in
    let z : end ≤ end = omega arith in
    on x b y (rising_from h z r)

pub rising_up : {s lo hi hi' : ℕ} {xs : List Span} → hi ≤ hi' → Rising s lo hi xs → Rising s lo hi' xs
rising_up {lo} {hi'} h (done r) = let e : lo ≤ hi' = omega arith in done e
rising_up h (on a b c r) = on a b c (rising_up h r)

pub rising_both : {s lo mid hi : ℕ} {xs ys : List Span} → Rising s lo mid xs → Rising s mid hi ys → Rising s lo hi (xs ++ ys)
rising_both {s} (done r) y = let e : s ≤ s = omega arith in rising_from e r y
rising_both (on a b c r) y = on a b c (rising_both r y)

pub rising_one : {s lo p z : ℕ} → s ≤ p → p ≤ z → lo ≤ z → Rising s lo z ((p, z) ∷ [])
rising_one {z} a b c = let e : z ≤ z = omega arith in on a b c (done e)
