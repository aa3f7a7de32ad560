-- One pass over a payload: how far it is, and what it takes for the next byte of the folded text.
use mathlib.Core.Path.{◌≡◌, refl, sym, ap, ◌∙◌}
use mathlib.Core.Bool.{Bool, true, false}
use mathlib.Core.List.{List, [], ◌∷◌}
use Prim.Native.Nat.{ℕ, suc, ◌+◌, ◌-◌, ◌≤◌, ◌<◌}
use native.Mathlib.Nat.{add-zero}
use native.Mathlib.Omega.{arith}
use lib.ListN.{length, get_or, drop, length-drop, drop_of_length-le}
use lib.Seq.{drop-cons, drop-drop, get_or-drop}
use Rattle.text.specs.Fold.{choose, pair, folded, width_of}

-- the first folded byte x is made of the first n of the bytes, and the rest of the text is folded from behind them
record First (n x : ℕ) (rest text : List ℕ) : Type 0 where
  some : 1 ≤ n
  held : n ≤ length (x ∷ rest)
  folds : text ≡ x ∷ folded (drop n (x ∷ rest))

first : (x : ℕ) (rest : List ℕ) → First (width_of (x ∷ rest)) x rest (folded (x ∷ rest))
unfolding folded width_of
first x [] = record { some = omega arith; held = omega arith; folds = refl }
first x (y ∷ rest) = go (pair x y)
  where
    go : (t : Bool) → First (choose t 2 1) x (y ∷ rest) (x ∷ choose t (folded rest) (folded (y ∷ rest)))
    go true = record { some = omega arith; held = omega arith; folds = refl }
    go false = record { some = omega arith; held = omega arith; folds = refl }

-- a pass stands at a byte, with `count` bytes of the folded text behind it
pub record Pass (payload : List ℕ) (at count : ℕ) : Type 0 where
  pub within : at ≤ length payload
  pub behind : count ≤ at
  pub done : count ≤ length (folded payload)
  pub left : drop count (folded payload) ≡ folded (drop at payload)

-- a pass begins with nothing behind it
pub begun : (payload : List ℕ) → Pass payload 0 0
begun payload = record { within = omega arith; behind = omega arith; done = omega arith; left = refl }

-- at the payload's end, the whole folded text is behind
pub ended : (payload : List ℕ) (at count : ℕ) → Pass payload at count → length payload ≤ at → count ≡ length (folded payload)
unfolding folded
ended payload at count pass end =
    let none : drop count (folded payload) ≡ [] = pass.left ∙ ap folded (drop_of_length-le payload end) in
    omega (arith, pass.done, simp length-drop at (ap length none))

-- a turn: the next byte of the folded text is the payload's at `at`, and the pass goes on behind its width
pub record Turn (payload : List ℕ) (at count width : ℕ) : Type 0 where
  pub byte : get_or (folded payload) count 0 ≡ get_or payload at 0
  pub more : count < length (folded payload)
  pub on : at < at + width
  pub pass : Pass payload (at + width) (count + 1)

pub turned : (payload : List ℕ) (at count width : ℕ) → Pass payload at count → at < length payload → width ≡ width_of (drop at payload) → Turn payload at count width
turned payload at count width pass more e =
    let x = get_or payload at 0 in
    let here : drop at payload ≡ x ∷ drop (suc at) payload = drop-cons payload at 0 more in
    let made : First width x (drop (suc at) payload) (folded (drop at payload)) = rw (e, here) (first x (drop (suc at) payload)) in
    let rest : drop count (folded payload) ≡ x ∷ folded (drop (at + width) payload) =
    pass.left ∙ rw (← drop-drop width at payload, here) (rw here at made.folds) in
    let held : width ≤ length payload - at = rw (← length-drop at payload, here) made.held in
    let longer : length (folded payload) - count ≡ suc (length (folded (drop (at + width) payload))) = simp length-drop at (ap length rest) in
    record {
      byte = simp add-zero at (sym (get_or-drop count (folded payload) 0 0) ∙ ap (λ (l : List ℕ). get_or l 0 0) rest);
      more = omega arith;
      on = omega arith;
      pass = record {
        within = omega arith;
        behind = omega arith;
        done = omega arith;
        left = rw (← drop-drop 1 count (folded payload)) (ap (drop 1) rest);
      };
    }
