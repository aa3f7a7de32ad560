-- The answer over a file, put together from the trees' answer, the first misplaced row and the file's index.
use Prim.Native.Nat.{ℕ, ◌<◌}
use native.Mathlib.Omega.{arith}
use mathlib.Core.Path.{◌≡◌, sym, ◌∙◌}
use mathlib.Core.Bool.{false}
use mathlib.Core.Logic.{⊎_elim}
use mathlib.Core.List.{List}
use borrow.Author.Tests.{lt-ltb, le-ltb}
use Rattle.grammar.specs.Script.{word_of}
use Rattle.std.specs.Prelude.{Option, Some, None, Result, Err}
use Rattle.refusals.specs.Refusal.{Numbered}
use Rattle.files.specs.Entry.{answered}
use Rattle.payloads.specs.Fields.{fields_of}
use Rattle.payloads.specs.Needs.{placed}
use Rattle.payloads.specs.Index.{held, laid}
use Rattle.payloads.proofs.Held.{Counted, turned_down}
use Rattle.payloads.proofs.LooksUp.{looks_up}
use Rattle.slots.proofs.Either.{less_or}
use Rattle.trees.specs.Pool.{In, Reached, Bad}
use Rattle.trees.specs.Survey.{Surveyed}
use Rattle.trees.specs.Verdict.{Lowest, Verdict, no_root, bad_row, a_tree}
use Rattle.trees.specs.Leaves.{Leaves}
use Rattle.trees.proofs.Linked.{reached_in, linked_reached, reached_linked}
use Rattle.placed.specs.Over.{LowestOf, Wrong, bad, misplaced, Over}
use Rattle.placed.specs.Over as over
use Rattle.placed.specs.Steps.{placed_by, Misplaced, FirstMisplaced, none, lowest, lower, Answers}
use Rattle.placed.specs.Left.{Left}

module _ (pool bytes : List ℕ) where
  -- a row that is off its place
  abbrev Off : ℕ → Type 0
  Off q = placed (fields_of bytes) (word_of pool q 0) (word_of pool q 2) ≡ false

  -- the lower of two lowest rows is the lowest wrong one
  module _ {root : ℕ} where
    neither : {q : ℕ} → (Bad pool root q → ⊥) → (Off q → ⊥) → Wrong pool root (fields_of bytes) q → ⊥
    neither n m (bad b) = n b
    neither n m (misplaced o) = m o

    by_bad : {p : ℕ} → Lowest pool root p → ((q : ℕ) → q < p → Reached pool root q → Off q → ⊥) → LowestOf pool root (Wrong pool root (fields_of bytes)) p
    by_bad l f = record { inside = l.inside; reached = l.reached; has = bad l.bad; first = λ q h x. neither (l.first q h x) (f q h x) }

    by_place : {p : ℕ} → LowestOf pool root Off p → ((q : ℕ) → q < p → Reached pool root q → Bad pool root q → ⊥)
        → LowestOf pool root (Wrong pool root (fields_of bytes)) p
    by_place l f = record { inside = l.inside; reached = l.reached; has = misplaced l.has; first = λ q h x. neither (f q h x) (l.first q h x) }

  -- a row that is misplaced is no 0
  some_row : {starts links : List ℕ} {count w : ℕ} → FirstMisplaced pool links bytes starts count (Some w) → 0 < w
  some_row (lowest m n) = omega (arith, m.inside)

  module _ {starts : List ℕ} {count : ℕ} (k : Counted bytes count) (e : starts ≡ laid bytes (held bytes)) where
    -- by the index a row is placed as by the fields
    as_placed : (r : ℕ) → placed_by pool bytes starts count r ≡ placed (fields_of bytes) (word_of pool r 0) (word_of pool r 2)
    unfolding placed_by placed
    as_placed r = rw (e, k.given, ← k.counted, (looks_up bytes k.words (word_of pool r 2) k.given).0)

    module _ {root : ℕ} {owners links : List ℕ} (i : In pool root) (s : Surveyed pool root owners links) where
      -- a row that is reached and off its place is misplaced
      off : (q : ℕ) → Reached pool root q → Off q → Misplaced pool links bytes starts count q
      off q x o =
          let j = reached_in i x in
          record { inside = j; linked = reached_linked (s.each q j) x; wrong = as_placed q ∙ o }

      -- so the first misplaced row is the lowest of them
      none_off : FirstMisplaced pool links bytes starts count None → (q : ℕ) → Reached pool root q → Off q → ⊥
      none_off (none n) q x o = n q (off q x o)

      lowest_off : {w : ℕ} → FirstMisplaced pool links bytes starts count (Some w) → LowestOf pool root Off w
      lowest_off (lowest {r} m n) =
          record {
            inside = m.inside;
            reached = linked_reached m.inside (s.each r m.inside) m.linked;
            has = sym (as_placed r) ∙ m.wrong;
            first = λ q h x o. n q h (off q x o);
          }

    -- the answer by both
    module _ {root : ℕ} {owners links : List ℕ} (s : In pool root → Surveyed pool root owners links) where
      judged : {w : Option ℕ} → FirstMisplaced pool links bytes starts count w → {c : Result Unit Numbered} → Verdict pool root c → Over pool root bytes (lower c w count)
      unfolding lower
      judged {w = None} f (no_root n) = over.no_root k.given n
      judged {w = Some w} f (no_root n) = rw (lt-ltb 0 w (some_row f)) (over.no_root k.given n)
      judged {w = None} f (bad_row i l) = over.wrong_row k.given i (by_bad l (λ q h. none_off i (s i) f q))
      judged {w = Some w} f (bad_row {p} i l) =
          let m = lowest_off i (s i) f in
          ⊎_elim (λ h. rw (lt-ltb p w h) (over.wrong_row k.given i (by_bad l (λ q g. m.first q (omega arith)))))
          (λ h. rw (le-ltb p w h) (over.wrong_row k.given i (by_place m (λ q g. l.first q (omega arith)))))
          (less_or p w)
      judged {w = None} f (a_tree t i g h r) = rw (← k.counted) (over.a_tree t k.given i (λ q x. neither (g q x) (none_off i (s i) f q x)) h r)
      judged {w = Some w} f (a_tree t i g h r) = over.wrong_row k.given i (by_place (lowest_off i (s i) f) (λ q h x. g q x))

    pub over_both : {w : Option ℕ} {c : Result Unit Numbered} {links : List ℕ} → FirstMisplaced pool links bytes starts count w → Answers pool c links bytes (lower c w count)
    over_both f root n owners queue l = judged l.links f l.verdict

-- a refused file decides alone
pub over_refused : {pool links bytes : List ℕ} {c : Result Unit Numbered} {e : Numbered} → answered (held bytes) ≡ Err e → Answers pool c links bytes (Err e)
over_refused {pool} {links} {bytes} e root n owners queue l = over.bad_file (turned_down bytes e)

-- what is left by the survey and the answer
pub left_by : {pool bytes starts owners links queue : List ℕ} {root n : ℕ} {c : Result Unit Numbered} {r : Result ℕ Numbered} → Leaves pool root n c owners links queue
    → Answers pool c links bytes r → starts ≡ laid bytes (held bytes) → Left pool root bytes n r starts owners links queue
left_by {pool} {bytes} {starts} {owners} {links} {queue} {root} {n} l a e =
    record {
      verdict = a root n owners queue l;
      index = e;
      owners_long = l.owners_long;
      words_long = l.words_long;
      links = l.links;
      none = l.none;
      queue_none = l.queue_none;
    }
