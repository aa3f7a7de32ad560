-- How many must be open at once where a tree is read, by the marks of its brackets; and that what is written opens as many as it is deep.
use Prim.Native.Nat.{ℕ, suc, ◌+◌, ◌-◌, ◌*◌, ◌/◌, ◌%◌, ◌≤◌, ◌<◌, max}
use native.Mathlib.Omega.{arith}
use mathlib.Core.Path.{◌≡◌, refl, sym, ◌∙◌}
use mathlib.Core.Bool.{Bool, true, false, cond, ◌||◌, and-eq-true_iff}
use lib.Dec.{eqb, ltb, leb}
use borrow.Author.Tests.{ltb-true, leb-true, eqb-true, lt-ltb, le-ltb, ne_eqb}
use Rattle.grammar.specs.Tree.{Tree, infixed, node, Trees, nil, ◌▸◌, join, flag, flagged, Thread, Async, Grouped, is_call}
use Rattle.written.specs.Claims.{above, beside, deep, deeps}
use Rattle.written.proofs.Dress.{brackets, seen, seens, dressed, dresseds}
use Rattle.written.proofs.Shapes.{never}

-- How many a row opens: one for its brackets, where its mark says that it is in brackets.
unfoldable pub grouped : ℕ → ℕ
grouped m = cond (ltb m 256) 0 1

unfoldable pub base : (kind mark : ℕ) → ℕ
base k m = cond (brackets k) (above k m - 1) (above k m)

unfoldable mutual
  -- How many must be open at once, at least, where a tree is read.
  pub opens : Tree → ℕ
  opens (infixed m p l r z) = grouped m + max (opens l) (1 + opens r)
  opens (node k m p a b c d z) = base k m + grouped m + max (opens_of a) (max (beside k + opens_of b) (max (opens_of c) (opens_of d)))

  pub opens_of : Trees → ℕ
  opens_of nil = 0
  opens_of (t ▸ ts) = max (opens t) (opens_of ts)

-- Places and ends don't count.
mutual
  unfolding opens seen

  pub opens_seen : (t : Tree) → opens (seen t) ≡ opens t
  opens_seen (infixed m p l r z) = rw (opens_seen l, opens_seen r)
  opens_seen (node k m p a b c d z) = rw (opens_of_seen a, opens_of_seen b, opens_of_seen c, opens_of_seen d)

  pub opens_of_seen : (us : Trees) → opens_of (seens us) ≡ opens_of us
  opens_of_seen nil = refl
  opens_of_seen (t ▸ us) = rw (opens_seen t, opens_of_seen us)

-- What is in brackets where it is written so is as deep as what is written.
mod_two : (m : ℕ) → m % 256 % 2 ≡ m % 2
mod_two m = omega arith

half_two : (m : ℕ) → m % 256 / 2 % 2 ≡ m / 2 % 2
half_two m = let a : m % 256 / 2 + 128 * (m / 256) ≡ m / 2 = omega arith in omega arith

above_mark : (k m n : ℕ) → n % 2 ≡ m % 2 → n / 2 % 2 ≡ m / 2 % 2 → above k n ≡ above k m
unfolding above
above_mark k m n e f = rw (e, f)

above_some : (k m : ℕ) → brackets k ≡ true → 1 ≤ above k m
unfolding above
above_some k m h =
    let (x, y) = (and-eq-true_iff (leb 10 k) (ltb k 17)).0 h in
    let i = leb-true 10 k x in
    let j = ltb-true k 17 y in
    rw (ne_eqb k 17 (λ q. omega arith), ne_eqb k 19 (λ q. omega arith), ne_eqb k 46 (λ q. omega arith)) (go (eqb k 13 || eqb k 15 || eqb k 16) (eqb k 11))
  where
    go : (c d : Bool) → 1 ≤ cond c 2 (cond d (1 + m % 2 + m / 2 % 2) 1)
    go true d = omega arith
    go false true = omega arith
    go false false = omega arith

row_deep : (k m : ℕ) (c : Bool) → brackets k ≡ c → cond c (above k (cond c (m % 256 + 256) (m % 256)) - 1) (above k (cond c (m % 256 + 256) (m % 256))) + grouped (cond c (m % 256 + 256) (m % 256)) ≡ above k m
unfolding grouped
row_deep k m true h =
    let z : above k (m % 256 + 256) ≡ above k m = above_mark k m (m % 256 + 256) (omega (arith, mod_two m)) (omega (arith, half_two m)) in
    let l = above_some k m h in
    let g : ltb (m % 256 + 256) 256 ≡ false = le-ltb (m % 256 + 256) 256 (omega arith) in
    rw (z, g) (omega arith)
row_deep k m false h =
    let z : above k (m % 256) ≡ above k m = above_mark k m (m % 256) (mod_two m) (half_two m) in
    let g : ltb (m % 256) 256 ≡ true = lt-ltb (m % 256) 256 (omega arith) in
    rw (z, g) (omega arith)

infix_deep : (m : ℕ) → grouped (m % 256 + 256) ≡ 1
unfolding grouped
infix_deep m = let g : ltb (m % 256 + 256) 256 ≡ false = le-ltb (m % 256 + 256) 256 (omega arith) in rw g

mutual
  unfolding opens dressed deep base

  pub opens_dressed : (t : Tree) → opens (dressed t) ≡ deep t
  opens_dressed (infixed m p l r z) = rw (opens_dressed l, opens_dressed r, infix_deep m)
  opens_dressed (node k m p a b c d z) = rw (opens_of_dressed a, opens_of_dressed b, opens_of_dressed c, opens_of_dressed d, row_deep k m (brackets k) refl)

  pub opens_of_dressed : (us : Trees) → opens_of (dresseds us) ≡ deeps us
  opens_of_dressed nil = refl
  opens_of_dressed (t ▸ us) = rw (opens_dressed t, opens_of_dressed us)

-- What is low.
pub record Low (n : ℕ) (t : Tree) : Type 0 where
  pub low : opens t ≤ n

pub record Lows (n : ℕ) (us : Trees) : Type 0 where
  pub low : opens_of us ≤ n

pub lows_nil : {n : ℕ} → Lows n nil
unfolding opens_of
lows_nil = record { low = omega arith }

pub lows_one : {n : ℕ} {t : Tree} → Low n t → Lows n (t ▸ nil)
unfolding opens_of
lows_one h = record { low = omega (arith, h.low) }

pub lows_join : {n : ℕ} (us vs : Trees) → Lows n us → Lows n vs → Lows n (join us vs)
unfolding opens_of join
lows_join nil vs h k = k
lows_join (t ▸ us) vs h k = let z = lows_join us vs (record { low = omega (arith, h.low) }) k in record { low = omega (arith, h.low, z.low) }

four : (e j a b c d n : ℕ) → e ≤ j → j + a ≤ n → j + b ≤ n → j + c ≤ n → j + d ≤ n → e + max a (max b (max c d)) ≤ n
four e j a b c d n h p q r s = omega arith

pub made_low : {end : ℕ} (k m p j i n : ℕ) (x y z w : Trees) → base k m + grouped m ≡ j → beside k ≡ i → j + opens_of x ≤ n → j + (i + opens_of y) ≤ n → j + opens_of z ≤ n
    → j + opens_of w ≤ n → Low n (node k m p x y z w end)
unfolding opens
made_low k m p j i n x y z w e f a b c d =
    record { low = four (base k m + grouped m) j (opens_of x) (beside k + opens_of y) (opens_of z) (opens_of w) n (omega arith) a (omega arith) c d }

-- A flag opens one more at most.
group_count : (m : ℕ) → grouped (flag Grouped m) ≤ 1 + grouped m
unfolding grouped
group_count m = go (ltb (flag Grouped m) 256) (ltb m 256)
  where
    go : (c d : Bool) → cond c 0 1 ≤ 1 + cond d 0 1
    go true d = omega arith
    go false d = omega arith

group_base : (k m : ℕ) → base k (flag Grouped m) ≡ base k m
unfolding base flag
group_base k m = go (eqb (m / 256 % 2) 0)
  where
    go : (c : Bool) → cond (brackets k) (above k (cond c (m + 256) m) - 1) (above k (cond c (m + 256) m)) ≡ cond (brackets k) (above k m - 1) (above k m)
    go true =
        let a : (m + 256) / 2 ≡ m / 2 + 128 = omega arith in
        let z : above k (m + 256) ≡ above k m = above_mark k m (m + 256) (omega arith) (omega arith) in
        rw z
    go false = refl

grouped_below : (m n : ℕ) → (m < 256 → n < 256) → grouped n ≤ grouped m
unfolding grouped
grouped_below m n h = go (ltb m 256) refl (ltb n 256) refl
  where
    go : (c : Bool) → ltb m 256 ≡ c → (d : Bool) → ltb n 256 ≡ d → cond d 0 1 ≤ cond c 0 1
    go true e true f = omega arith
    go false e true f = omega arith
    go false e false f = omega arith
    go true e false f = let z : true ≡ false = sym (lt-ltb n 256 (h (ltb-true m 256 e))) ∙ f in let q : ◌≡◌ {A = ℕ} 0 1 = cc in absurd (omega arith)

lift : (x y r n : ℕ) → x ≤ 1 + y → y + r ≤ n → x + r ≤ suc n
lift x y r n h k = omega arith

pub group_low : (n : ℕ) (t : Tree) → Low n t → Low (suc n) (flagged Grouped t)
unfolding opens flagged
group_low n (infixed m p l r z) h = record { low = lift (grouped (flag Grouped m)) (grouped m) (max (opens l) (1 + opens r)) n (group_count m) h.low }
group_low n (node k m p x y z w end) h = record {
  low = lift (base k (flag Grouped m) + grouped (flag Grouped m)) (base k m + grouped m) (max (opens_of x) (max (beside k + opens_of y) (max (opens_of z) (opens_of w)))) n
      (omega (arith, group_base k m, group_count m)) h.low;
}

abbrev pub Start : ℕ → Type 0
Start f = (m : ℕ) → base 11 (flag f m) + grouped (flag f m) ≤ 1 + (base 11 m + grouped m)

pub thread_count : Start Thread
unfolding base above flag
thread_count m = go (eqb (m / 1 % 2) 0) refl
  where
    go : (c : Bool) → eqb (m / 1 % 2) 0 ≡ c → base 11 (cond c (m + 1) m) + grouped (cond c (m + 1) m) ≤ 1 + (base 11 m + grouped m)
    go true e =
        let z = eqb-true (m / 1 % 2) 0 e in
        let g = grouped_below m (m + 1) (λ l. omega arith) in
        let a : (m + 1) / 2 ≡ m / 2 = omega arith in
        let b : (m + 1) % 2 ≡ 1 = omega arith in
        rw (a, b) (omega arith)
    go false e = omega arith

pub async_count : Start Async
unfolding base above flag
async_count m = go (eqb (m / 2 % 2) 0) refl
  where
    go : (c : Bool) → eqb (m / 2 % 2) 0 ≡ c → base 11 (cond c (m + 2) m) + grouped (cond c (m + 2) m) ≤ 1 + (base 11 m + grouped m)
    go true e =
        let z = eqb-true (m / 2 % 2) 0 e in
        let g = grouped_below m (m + 2) (λ l. omega arith) in
        let a : (m + 2) / 2 % 2 ≡ 1 = omega arith in
        let b : (m + 2) % 2 ≡ m % 2 = omega arith in
        rw (a, b) (omega arith)
    go false e = omega arith

pub start_low : (f n : ℕ) (t : Tree) → Start f → is_call t ≡ true → Low n t → Low (suc n) (flagged f t)
unfolding opens flagged is_call
start_low f n (infixed m p l r z) s c h = never c
start_low f n (node k m p x y z w end) s c h = record {
  low = lift (base k (flag f m) + grouped (flag f m)) (base k m + grouped m) (max (opens_of x) (max (beside k + opens_of y) (max (opens_of z) (opens_of w)))) n
      (go k (eqb-true k 11 c)) h.low;
}
  where
    go : (k : ℕ) → k ≡ 11 → base k (flag f m) + grouped (flag f m) ≤ 1 + (base k m + grouped m)
    go k q = rw q (s m)

pub joined_low : {n z : ℕ} (m p : ℕ) (l r : Tree) → m < 256 → opens l ≤ suc n → opens r ≤ n → Low (suc n) (infixed m p l r z)
unfolding opens grouped
joined_low {n} m p l r h x y = record { low = go (ltb m 256) (lt-ltb m 256 h) }
  where
    go : (c : Bool) → c ≡ true → cond c 0 1 + max (opens l) (1 + opens r) ≤ suc n
    go c q = rw q (omega arith)
