-- A buffer that is filled from its end.
use mathlib.Core.Path.{◌≡◌, refl, sym, ap, ◌∙◌}
use mathlib.Core.List.{List, [], ◌∷◌, ◌++◌, append_assoc, append-nil}
use Prim.Native.Nat.{ℕ, zero, suc, ◌+◌, ◌*◌, ◌-◌, ◌^◌, ◌≤◌, ◌<◌}
use native.Mathlib.Omega.{arith}
use borrow.Author.Tests.{le-leb, lt-leb}
use lib.ListN.{length, get_or, drop, set, length-append}
use lib.Seq.{drop-length}
use Rattle.std.proofs.lemmas.List.{get_or_at}
use Rattle.lines.specs.Decimal.{decimal}
use Rattle.lines.specs.Lines.{line, behind, places}
use Rattle.lines.specs.Writes.{written}
use Rattle.lines.proofs.Decimal.{twenty}

-- a byte stored at a place stands before what was behind it
stored : (l : List ℕ) (i v : ℕ) → i < length l → drop i (set l i v) ≡ v ∷ drop (suc i) l
stored [] i v h = absurd (omega arith)
stored (x ∷ l) zero v h = refl
stored (x ∷ l) (suc i) v h = stored l i v (omega arith)

pub before : (l : List ℕ) (at v : ℕ) → 0 < at → at ≤ length l → drop (at - 1) (set l (at - 1) v) ≡ v ∷ drop at l
before l at v h k = let e : suc (at - 1) ≡ at = omega arith in stored l (at - 1) v (omega arith) ∙ ap (λ i. v ∷ drop i l) e

-- writing a text that fits, and one that doesn't
pub fits : (text out : List ℕ) → length text ≤ length out → written text out ≡ (length text, text ++ drop (length text) out)
unfolding written
fits text out h = rw (le-leb (length text) (length out) h)

pub denied : (text out : List ℕ) → length out < length text → written text out ≡ (0, out)
unfolding written
denied text out h = rw (lt-leb (length text) (length out) h)

-- the numbers behind those that are left stand on their line from `at` to the buffer's end, and this byte belongs before them
pub record Line (numbers buf₀ buf : List ℕ) (at : ℕ) (left : List ℕ) (next : ℕ) : Type 0 where
  pub there : List ℕ
  pub all : left ++ there ≡ numbers
  pub long : length buf ≡ length buf₀
  pub end : at ≤ length buf
  pub room : length buf ≤ at + places * length there
  pub whole : drop at buf ≡ line there
  pub separator : next ≡ behind there

-- no number is there yet
pub none : (numbers buf : List ℕ) → Line numbers buf buf (length buf) numbers 10
unfolding line
none numbers buf = record { there = []; all = append-nil numbers; long = refl; end = omega arith; room = omega arith; whole = drop-length buf; separator = refl }

-- one more, before the others
module _ (numbers buf₀ buf : List ℕ) (at : ℕ) (left fewer : List ℕ) (n next : ℕ) (w : Line numbers buf₀ buf at left next) (last : left ≡ fewer ++ n ∷ []) (large : places * length numbers ≤ length buf₀) where
  all : fewer ++ (n ∷ w.there) ≡ numbers
  all = sym (append_assoc fewer (n ∷ []) w.there) ∙ rw (← last) w.all

  pub more_room : places ≤ at
  more_room = omega (arith, simp length-append at (ap length all), w.long, w.room)

  pub one_more : (buf' : List ℕ) (r : ℕ) → ((i : ℕ) → get_or numbers i 0 < 2 ^ 64) → length buf' ≡ length buf → r + length (decimal n) ≡ at - 1
      → drop r buf' ≡ decimal n ++ drop (at - 1) (set buf (at - 1) next) → Line numbers buf₀ buf' r fewer 32
  unfolding line
  one_more buf' r small long here e =
      let this : n < 2 ^ 64 = rw (← all, get_or_at fewer n w.there 0 (length fewer) refl) at (small (length fewer)) in
      record {
        there = n ∷ w.there;
        all = all;
        long = long ∙ w.long;
        end = omega (arith, w.end, more_room);
        room = omega (arith, w.room, twenty n this, more_room);
        whole = e ∙ rw (before buf at next (omega (arith, more_room)) w.end, w.whole, w.separator);
        separator = refl;
      }
