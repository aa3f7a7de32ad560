-- What the length of the folded text tells: whether the payload has a pair.
use mathlib.Core.Path.{◌≡◌, refl, ap, ◌∙◌}
use mathlib.Core.Bool.{Bool, true, false, ◌||◌}
use mathlib.Core.List.{List, [], ◌∷◌}
use Prim.Native.Nat.{ℕ, ◌≤◌, ◌<◌}
use native.Mathlib.Omega.{arith}
use lib.ListN.{length}
use Rattle.text.specs.Fold.{choose, pair, has_pair, folded}

-- without a pair folding changes nothing, and with one it shortens
pub data Told (payload text : List ℕ) (paired : Bool) : Type 0 where
  same : paired ≡ false → text ≡ payload → Told payload text paired
  less : paired ≡ true → length text < length payload → Told payload text paired

-- a text is at most as long as its payload
no_longer : {payload text : List ℕ} {paired : Bool} → Told payload text paired → length text ≤ length payload
no_longer (same h e) = omega (arith, ap length e)
no_longer (less h l) = omega arith

-- so is it of every payload
pub told : (payload : List ℕ) → Told payload (folded payload) (has_pair payload)
unfolding folded has_pair
told [] = same refl refl
told (x ∷ []) = same refl refl
told (x ∷ y ∷ rest) = go (pair x y) (told rest) (told (y ∷ rest))
  where
    go : (t : Bool) → Told rest (folded rest) (has_pair rest) → Told (y ∷ rest) (folded (y ∷ rest)) (has_pair (y ∷ rest)) → Told (x ∷ y ∷ rest) (x ∷ choose t (folded rest) (folded (y ∷ rest))) (t || has_pair (y ∷ rest))
    go true r s = less refl (omega (arith, no_longer r))
    go false r (same h e) = same h (ap (λ (l : List ℕ). x ∷ l) e)
    go false r (less h l) = less h (omega arith)

-- a count of the folded bytes that is the payload's length tells that there is no pair
pub unpaired : (payload : List ℕ) {count : ℕ} → count ≡ length (folded payload) → count ≡ length payload → has_pair payload ≡ false
unpaired payload counted e = go (told payload)
  where
    go : Told payload (folded payload) (has_pair payload) → has_pair payload ≡ false
    go (same h _) = h
    go (less h l) = absurd (omega arith)

-- and any other count that there is one
pub paired : (payload : List ℕ) {count : ℕ} → count ≡ length (folded payload) → (count ≡ length payload → ⊥) → has_pair payload ≡ true
paired payload counted n = go (told payload)
  where
    go : Told payload (folded payload) (has_pair payload) → has_pair payload ≡ true
    go (same h e) = absurd (n (counted ∙ ap length e))
    go (less h _) = h
