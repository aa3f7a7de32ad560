-- For callers: a text that fits stands in front of its buffer, and the lines of a text by their numbers.
use mathlib.Core.Path.{◌≡◌, ap, ◌∙◌}
use mathlib.Core.List.{List, [], map}
use Prim.Native.Nat.{ℕ, zero, suc, ◌+◌, ◌≤◌, ◌<◌}
use native.Mathlib.Omega.{arith}
use lib.ListN.{length, take, get_or}
use lib.Seq.{take-append_seam}
use Rattle.answer.specs.Answer.{Answer}
use Rattle.lines.specs.Lines.{from, row_line, used, lines}
use Rattle.lines.specs.Writes.{Writes}
use Rattle.lines.proofs.Buffers.{fits}

-- writing a text that fits answers its length, and the text is as many bytes in front
pub written_whole : {text out left : List ℕ} {r : ℕ} → Writes text out r left → length text ≤ length out → (r ≡ length text) × (take r left ≡ text)
written_whole {text} {out} {left} {r} w h =
    let e = w.met ∙ fits text out h in
    let count : r ≡ length text = ap (λ (o : ℕ × List ℕ). o.0) e in
    (count, rw (count, ap (λ (o : ℕ × List ℕ). o.1) e) (take-append_seam text _))

-- an element by its number
at : {A : Type 0} (f : ℕ → A) (first count k : ℕ) (d : A) → k < count → get_or (map f (from first count)) k d ≡ f (first + k)
unfolding from
at f first zero k d h = absurd (omega arith)
at f first (suc count) zero d h = let e : first ≡ first + 0 = omega arith in ap f e
at f first (suc count) (suc k) d h = let e : suc first + k ≡ first + suc k = omega arith in at f (suc first) count k d (omega arith) ∙ ap f e

-- behind the first line, the line with the number i is that of the row with the reference i
pub row_at : (answer : Answer) (pool : List ℕ) (i : ℕ) → 0 < i → i ≤ used answer → get_or (lines answer pool) i [] ≡ row_line pool i
row_at answer pool zero some h = absurd (omega arith)
row_at answer pool (suc i) some h = let e : 1 + i ≡ suc i = omega arith in at (row_line pool) 1 (used answer) i [] h ∙ ap (row_line pool) e
