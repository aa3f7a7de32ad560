-- Rows at the front of a part.
use mathlib.Core.Path.{◌≡◌, sym, ap, ◌∙◌}
use mathlib.Core.List.{List, ◌++◌, append_assoc}
use Prim.Native.Nat.{ℕ, ◌+◌, ◌*◌, ◌≤◌, ◌<◌}
use native.Mathlib.Omega.{arith}
use lib.ListN.{length, take, drop, set, length-append, length-drop, length-set}
use lib.Seq.{set-append_left, take_at, drop-drop, drop-append-add}
use Rattle.reader.specs.Meets.{Front}
use Rattle.grammar.specs.Tree.{width}

pub front_same : {p : List ℕ} {k : ℕ} {xs ys : List ℕ} → Front p k xs ys → length ys ≡ length xs
front_same h = let a = h.fit in let b = h.long in rw h.laid (simp (length-append, length-drop) (omega arith))

-- What stands behind the front is what stood there.
pub front_drop : {p : List ℕ} {k : ℕ} {xs ys : List ℕ} → Front p k xs ys → (j : ℕ) → drop (width * k + j) ys ≡ drop (width * k + j) xs
front_drop {p} {k} {xs} {ys} h j =
    rw h.laid (rw (← h.long) (drop-append-add p (drop (length p) xs) j ∙ drop-drop j (length p) xs))

pub front_take : {p : List ℕ} {k : ℕ} {xs ys : List ℕ} → Front p k xs ys → take (width * k) ys ≡ p
front_take {p} {k} {xs} {ys} h = rw h.laid (take_at p (drop (width * k) xs) (width * k) h.long)

-- More rows behind the front.
pub front_more : {p : List ℕ} {k : ℕ} {xs ys zs : List ℕ} (q : List ℕ) (j : ℕ) → Front p k xs ys → length q ≡ width * j → width * k + width * j ≤ length ys
    → zs ≡ take (width * k) ys ++ (q ++ drop (width * k + width * j) ys) → Front (p ++ q) (k + j) xs zs
front_more {p} {k} {xs} {ys} {zs} q j h l le e =
    let s = front_same h in
    let a = h.long in
    let d : width * (k + j) ≡ width * k + width * j = omega arith in
    record {
      laid = e ∙ ap (λ (w : List ℕ). w ++ (q ++ drop (width * k + width * j) ys)) (front_take h) ∙ ap (λ (w : List ℕ). p ++ (q ++ w)) (front_drop h (width * j)) ∙ sym (append_assoc p q (drop (width * k + width * j) xs)) ∙ ap (λ (n : ℕ). (p ++ q) ++ drop n xs) (sym d);
      long = simp length-append (omega arith);
      fit = omega arith;
    }

-- The front may be put as another.
pub front_eq : {p q : List ℕ} {k : ℕ} {xs ys : List ℕ} → p ≡ q → Front p k xs ys → Front q k xs ys
front_eq e h = rw e at h

-- A store into the front.
pub front_set : {p : List ℕ} {k : ℕ} {xs ys : List ℕ} (i v : ℕ) → Front p k xs ys → i < width * k → Front (set p i v) k xs (set ys i v)
front_set {p} {k} {xs} {ys} i v h lt =
    record {
      laid = ap (λ (w : List ℕ). set w i v) h.laid ∙ set-append_left p (drop (width * k) xs) i v (omega (arith, h.long));
      long = length-set p i v ∙ h.long;
      fit = h.fit;
    }
