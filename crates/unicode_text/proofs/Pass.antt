-- One pass over bytes: how far it is, and what it takes for the next sequence.
use mathlib.Core.Path.{◌≡◌, refl, ◌∙◌}
use mathlib.Core.Bool.{Bool, true, false, cond, and-eq-true_iff}
use mathlib.Core.List.{List, [], ◌∷◌}
use Prim.Native.Nat.{ℕ, zero, suc, ◌+◌, ◌-◌, ◌≤◌, ◌<◌}
use native.Mathlib.Omega.{arith}
use lib.ListN.{length, get_or, drop, length-drop, drop_of_length-le}
use lib.Seq.{drop-cons, drop-drop}
use Rattle.unicode_text.specs.Unicode.{Range, within, table, begins, first, sequences, well_formed}
use Rattle.unicode_text.proofs.Turns.{turned, stopped, none_left}

-- the first sequence is no longer than the bytes
held : (rs : List Range) (bytes : List ℕ) → begins rs bytes ≡ true → length rs ≤ length bytes
unfolding begins
held [] bytes e = omega arith
held (r ∷ rs) [] e = let z : ◌≡◌ {A = ℕ} 0 1 = cc in absurd (omega arith)
held (r ∷ rs) (b ∷ bytes) e = omega (arith, held rs bytes ((and-eq-true_iff (within b r) (begins rs bytes)).0 e).1)

first_held : (rows : List (List Range)) (bytes : List ℕ) → first rows bytes ≤ length bytes
unfolding first
first_held [] bytes = omega arith
first_held (row ∷ rows) bytes = go (begins row bytes) refl (first_held rows bytes)
  where
    go : (t : Bool) → begins row bytes ≡ t → first rows bytes ≤ length bytes → cond t (length row) (first rows bytes) ≤ length bytes
    go true e h = held row bytes e
    go false e h = h

-- a pass stands at a byte; the bytes are well-formed where those from there on are sequences of the table
pub record Pass (bytes : List ℕ) (at : ℕ) : Type 0 where
  pub bound : ℕ
  pub enough : length bytes - at ≤ bound
  pub inside : at ≤ length bytes
  pub left : well_formed bytes ≡ sequences bound (drop at bytes)

-- a pass begins at the first
pub begun : (bytes : List ℕ) → Pass bytes 0
unfolding well_formed
begun bytes = record { bound = length bytes; enough = omega arith; inside = omega arith; left = refl }

module _ {bytes : List ℕ} {at : ℕ} (pass : Pass bytes at) where
  -- at the end nothing is left to be told
  pub ended : length bytes ≤ at → well_formed bytes ≡ true
  ended end = pass.left ∙ rw (drop_of_length-le bytes {i = at} end) (none_left pass.bound)

  module _ (more : at < length bytes) where
    here : drop at bytes ≡ get_or bytes at 0 ∷ drop (suc at) bytes
    here = drop-cons bytes at 0 more

    -- no sequence stops it
    pub fails : first table (drop at bytes) ≡ 0 → well_formed bytes ≡ false
    fails e = go pass.bound pass.enough pass.left
      where
        go : (k : ℕ) → length bytes - at ≤ k → well_formed bytes ≡ sequences k (drop at bytes) → well_formed bytes ≡ false
        go zero h f = absurd (omega arith)
        go (suc k) h f = f ∙ rw here (stopped k (get_or bytes at 0) (drop (suc at) bytes) (rw here at e))

    -- a sequence takes it on, and ends within the bytes
    pub on : first table (drop at bytes) ≤ length bytes - at
    on = rw (← length-drop at bytes) (first_held table (drop at bytes))

    pub goes : {n : ℕ} → first table (drop at bytes) ≡ suc n → Pass bytes (at + suc n)
    goes {n} e = go pass.bound pass.enough pass.left
      where
        go : (k : ℕ) → length bytes - at ≤ k → well_formed bytes ≡ sequences k (drop at bytes) → Pass bytes (at + suc n)
        go zero h f = absurd (omega arith)
        go (suc k) h f =
            let step : suc at + n ≡ at + suc n = omega arith in
            record {
              bound = k;
              enough = omega arith;
              inside = omega (arith, on);
              left = f ∙ rw here (turned k (get_or bytes at 0) (drop (suc at) bytes) (rw here at e) ∙ rw (drop-drop n (suc at) bytes, step));
            }
