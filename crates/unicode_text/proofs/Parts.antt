-- A row in parts: what it asks of the bytes from a place on, one test behind the other.
use mathlib.Core.Path.{◌≡◌, refl, ◌∙◌}
use Rattle.std.proofs.lemmas.List.{length-replicate, replicate-append-replicate, replicate_more}
use native.Mathlib.Omega.{arith}
use mathlib.Core.Bool.{true, false, ◌&&◌, and-true, and-false, and_assoc}
use mathlib.Core.List.{List, [], ◌∷◌, ◌++◌}
use Prim.Native.Nat.{ℕ, suc, ◌+◌, ◌-◌, ◌≤◌, ◌<◌}
use lib.Dec.{leb}
use lib.ListN.{length, get_or, drop, replicate, drop_of_length-le}
use lib.Seq.{drop-cons, drop-drop}
use Rattle.unicode_text.specs.Unicode.{Range, ◌to◌, tail, within, begins}

apart : (rs ss : List Range) (bytes : List ℕ) → begins (rs ++ ss) bytes ≡ begins rs bytes && begins ss (drop (length rs) bytes)
unfolding begins
apart [] ss bytes = refl
apart (r ∷ rs) ss [] = refl
apart (r ∷ rs) ss (b ∷ bytes) = rw (apart rs ss bytes, and_assoc (within b r) (begins rs bytes) (begins ss (drop (length rs) bytes)))

module _ (part : List ℕ) (at : ℕ) where
  -- one part from the place on, and the other from behind it
  pub parts : (rs ss : List Range) → begins (rs ++ ss) (drop at part) ≡ begins rs (drop at part) && begins ss (drop (at + length rs) part)
  parts rs ss = apart rs ss (drop at part) ∙ rw (drop-drop (length rs) at part)

  -- one byte that isn't there, and one that is
  pub missing : (r : Range) → length part ≤ at → begins (r ∷ []) (drop at part) ≡ false
  unfolding begins
  missing r end = rw (drop_of_length-le part {i = at} end)

  pub there : (low high : ℕ) → at < length part → begins (low to high ∷ []) (drop at part) ≡ leb low (get_or part at 0) && leb (get_or part at 0) high
  unfolding begins
  there low high more = rw (drop-cons part at 0 more) (and-true (leb low (get_or part at 0) && leb (get_or part at 0) high))

module _ (part : List ℕ) where
  -- so many tails from the third byte on and one more, and a byte that is none
  pub tail_on : (at : ℕ) → 2 ≤ at → begins (replicate (at - 2) tail) (drop 2 part) ≡ true → begins (tail ∷ []) (drop at part) ≡ true
      → begins (replicate (at + 1 - 2) tail) (drop 2 part) ≡ true
  tail_on at h e f =
      let n : at + 1 - 2 ≡ at - 2 + 1 = omega arith in
      let b : 2 + (at - 2) ≡ at = omega arith in
      rw (n, ← replicate_more (at - 2) tail, parts part 2 (replicate (at - 2) tail) (tail ∷ []), length-replicate (at - 2) tail, b, e, f)

  pub tail_ends : (r : Range) (at n : ℕ) → 2 ≤ at → at < n → begins (tail ∷ []) (drop at part) ≡ false → begins (r ∷ replicate (n - 2) tail) (drop 1 part) ≡ false
  tail_ends r at n h l e =
      let c : n - 2 ≡ at - 2 + suc (n - at - 1) = omega arith in
      let b : 1 + suc (at - 2) ≡ at = omega arith in
      rw (c, ← replicate-append-replicate (at - 2) (suc (n - at - 1)) tail, parts part 1 (r ∷ replicate (at - 2) tail) (replicate (suc (n - at - 1)) tail), length-replicate (at - 2) tail, b, parts part at (tail ∷ []) (replicate (n - at - 1) tail), e)
      (and-false _)

  -- the byte behind the first, and the tails behind it
  pub second_wrong : (r : Range) (n : ℕ) → begins (r ∷ []) (drop 1 part) ≡ false → begins (r ∷ replicate n tail) (drop 1 part) ≡ false
  second_wrong r n e = rw (parts part 1 (r ∷ []) (replicate n tail), e)

  pub all_there : (r : Range) (n : ℕ) → begins (r ∷ []) (drop 1 part) ≡ true → begins (replicate n tail) (drop 2 part) ≡ true → begins (r ∷ replicate n tail) (drop 1 part) ≡ true
  all_there r n e f = rw (parts part 1 (r ∷ []) (replicate n tail), e, f)

pub no_tails : (bytes : List ℕ) → begins [] bytes ≡ true
unfolding begins
no_tails bytes = refl

pub ruleset behind = (no_tails, tail_on, tail_ends, second_wrong, all_there)
