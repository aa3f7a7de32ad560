-- A tree as it is read back: without its places and ends, and with a grouped mark just where it is written in brackets.
use Prim.Native.Nat.{ℕ, ◌+◌, ◌/◌, ◌%◌}
use native.Mathlib.Omega.{arith}
use mathlib.Core.Path.{◌≡◌, refl, sym, ap, ◌∙◌}
use mathlib.Core.Bool.{Bool, true, false, cond, ◌&&◌}
use lib.Dec.{ltb, leb}
use Rattle.grammar.specs.Tree.{Tree, infixed, node, Trees, nil, ◌▸◌, flag, flagged, Grouped}
use Rattle.written.specs.Claims.{plain, plains}

-- The kinds that are written in brackets.
abbrev pub brackets : ℕ → Bool
brackets k = leb 10 k && ltb k 17

unfoldable mutual
  pub seen : Tree → Tree
  seen (infixed m p l r n) = infixed m 0 (seen l) (seen r) 0
  seen (node k m p a b c d n) = node k m 0 (seens a) (seens b) (seens c) (seens d) 0

  pub seens : Trees → Trees
  seens nil = nil
  seens (t ▸ ts) = seen t ▸ seens ts

unfoldable mutual
  pub dressed : Tree → Tree
  dressed (infixed m p l r n) = infixed (m % 256 + 256) 0 (dressed l) (dressed r) 0
  dressed (node k m p a b c d n) = node k (cond (brackets k) (m % 256 + 256) (m % 256)) 0 (dresseds a) (dresseds b) (dresseds c) (dresseds d) 0

  pub dresseds : Trees → Trees
  dresseds nil = nil
  dresseds (t ▸ ts) = dressed t ▸ dresseds ts

-- The same before its own brackets are closed.
unfoldable pub inner : Tree → Tree
inner (infixed m p l r n) = infixed (m % 256) 0 (dressed l) (dressed r) 0
inner (node k m p a b c d n) = node k (m % 256) 0 (dresseds a) (dresseds b) (dresseds c) (dresseds d) 0

unfoldable pub wrapped : Tree → Bool
wrapped (infixed m p l r n) = true
wrapped (node k m p a b c d n) = brackets k

group_mark : (m : ℕ) → flag Grouped (m % 256) ≡ m % 256 + 256
unfolding flag
group_mark m = let z : m % 256 / 256 % 2 ≡ 0 = omega arith in rw z

pub regroup : (u t : Tree) → wrapped t ≡ true → seen u ≡ inner t → seen (flagged Grouped u) ≡ dressed t
unfolding seen inner dressed flagged wrapped
regroup (infixed m q l r n) (infixed m' p l' r' n') z e =
    let a : m ≡ m' % 256 = cc in
    let b : seen l ≡ dressed l' = cc in
    let c : seen r ≡ dressed r' = cc in
    rw (a, b, c, group_mark m')
regroup (infixed m q l r n) (node k m' p x y z w n') h e = let z : ◌≡◌ {A = ℕ} 0 1 = cc in absurd (omega arith)
regroup (node k m q x y z w n) (infixed m' p l r n') h e = let z : ◌≡◌ {A = ℕ} 0 1 = cc in absurd (omega arith)
regroup (node k m q x y z w n) (node k' m' p x' y' z' w' n') h e =
    let i : k ≡ k' = cc in
    let a : m ≡ m' % 256 = cc in
    let b : seens x ≡ dresseds x' = cc in
    let c : seens y ≡ dresseds y' = cc in
    let d : seens z ≡ dresseds z' = cc in
    let f : seens w ≡ dresseds w' = cc in
    rw (i, a, b, c, d, f, group_mark m', h)

mutual
  unfolding plain seen

  plain_seen : (t : Tree) → plain (seen t) ≡ plain t
  plain_seen (infixed m p l r n) = rw (plain_seen l, plain_seen r)
  plain_seen (node k m p a b c d n) = rw (plains_seen a, plains_seen b, plains_seen c, plains_seen d)

  plains_seen : (us : Trees) → plains (seens us) ≡ plains us
  plains_seen nil = refl
  plains_seen (t ▸ us) = rw (plain_seen t, plains_seen us)

mark_same : (c : Bool) (m : ℕ) → cond c (m % 256 + 256) (m % 256) % 256 ≡ m % 256
mark_same true m = omega arith
mark_same false m = omega arith

mutual
  unfolding plain dressed

  plain_dressed : (t : Tree) → plain (dressed t) ≡ plain t
  plain_dressed (infixed m p l r n) = rw (plain_dressed l, plain_dressed r, mark_same true m)
  plain_dressed (node k m p a b c d n) = rw (plains_dressed a, plains_dressed b, plains_dressed c, plains_dressed d, mark_same (brackets k) m)

  plains_dressed : (us : Trees) → plains (dresseds us) ≡ plains us
  plains_dressed nil = refl
  plains_dressed (t ▸ us) = rw (plain_dressed t, plains_dressed us)

pub plain_of : (u t : Tree) → seen u ≡ dressed t → plain u ≡ plain t
plain_of u t e = sym (plain_seen u) ∙ ap plain e ∙ plain_dressed t

pub plains_of : (us ts : Trees) → seens us ≡ dresseds ts → plains us ≡ plains ts
plains_of us ts e = sym (plains_seen us) ∙ ap plains e ∙ plains_dressed ts
