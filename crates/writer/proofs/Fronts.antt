-- Slices with words in front: one more is put behind them.
use Prim.Native.Nat.{ℕ, zero, suc, ◌+◌, ◌-◌, ◌≤◌, ◌<◌}
use native.Mathlib.Omega.{arith}
use mathlib.Core.Path.{◌≡◌, refl, ap, sym, ◌∙◌}
use mathlib.Core.List.{List, [], ◌∷◌, ◌++◌, append_assoc, append-nil}
use lib.ListN.{length, set, replicate, length-append, length-replicate, get_or-replicate}
use lib.Seq.{sets, ext_get_or}
use Rattle.trees.specs.Leaves.{Zero}
use Rattle.writer.specs.Wrote.{front}

pub front_none : (n : ℕ) → front n [] ≡ replicate n 0
unfolding front
front_none zero = refl
front_none (suc n) = ap (λ l. 0 ∷ l) (front_none n)

pub front_length : (n : ℕ) (ws : List ℕ) → length (front n ws) ≡ n
unfolding front
front_length zero ws = refl
front_length (suc n) [] = ap suc (front_length n [])
front_length (suc n) (w ∷ ws) = ap suc (front_length n ws)

front_put : (n : ℕ) (ws : List ℕ) (w : ℕ) → set (front n ws) (length ws) w ≡ front n (ws ++ (w ∷ []))
unfolding front
front_put zero ws w = refl
front_put (suc n) [] w = refl
front_put (suc n) (x ∷ ws) w = ap (λ l. x ∷ l) (front_put n ws w)

pub front_puts : (n : ℕ) (ws vs : List ℕ) → sets (front n ws) (length ws) vs ≡ front n (ws ++ vs)
front_puts n ws [] = rw append-nil
front_puts n ws (v ∷ vs) =
    let l : suc (length ws) ≡ length (ws ++ (v ∷ [])) = rw length-append (omega arith) in
    ap (λ f. sets f (suc (length ws)) vs) (front_put n ws v)
    ∙ ap (λ k. sets (front n (ws ++ (v ∷ []))) k vs) l
    ∙ front_puts n (ws ++ (v ∷ [])) vs
    ∙ ap (front n) (append_assoc ws (v ∷ []) vs)

pub cleared : (n : ℕ) {xs : List ℕ} → xs ≡ replicate n 0 → xs ≡ replicate (length xs) 0
cleared n {xs} e = let l : length xs ≡ n = ap length e ∙ simp length-replicate in e ∙ ap (λ k. replicate k 0) (sym l)

-- so many zeros
pub zero_list : (n : ℕ) (xs : List ℕ) → Zero n xs → xs ≡ replicate n 0
zero_list n xs z =
    ext_get_or 0 xs (replicate n 0) (z.long ∙ simp length-replicate)
    (λ i h. z.each i ∙ sym (get_or-replicate n i 0 0 (omega (arith, z.long))))
