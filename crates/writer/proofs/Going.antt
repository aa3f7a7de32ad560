-- The walk as it goes on: what is written and what is still to be.
use Prim.Native.Nat.{ℕ, ◌+◌, ◌*◌, ◌≤◌, ◌<◌}
use native.Mathlib.Omega.{arith}
use mathlib.Core.Path.{◌≡◌, refl, ap, sym, ◌∙◌}
use mathlib.Core.Logic.{⊎_elim}
use mathlib.Core.List.{List, [], ◌++◌, append_assoc, append-nil, map-append}
use lib.ListN.{length, get_or, replicate, length-append, length-map}
use lib.Seq.{sets}
use Rattle.grammar.specs.Tree.{size}
use Rattle.trees.specs.Pool.{count, In}
use Rattle.written.specs.Written.{Token, written}
use Rattle.written.specs.Written as form
use Rattle.writer.specs.Walk.{Moved, move}
use Rattle.writer.specs.Wrote.{front, Turned}
use Rattle.writer.specs.Ready.{Ready, Walked}
use Rattle.trees.proofs.Unique.{one_tree}
use Rattle.grammar.specs.Script.{rows}
use Rattle.writer.specs.declared.walk.At.{At}
use Rattle.slots.proofs.Either.{same_or}
use Rattle.writer.proofs.Fronts.{front_none, front_puts}
use Rattle.writer.proofs.Rest.{Stage, over, at_row, upwards, Right, step, first, steps}

-- a step, by what the code says of it
pub turned : {pool : List ℕ} {root owner word : ℕ} {at to : At} {ws ps ws' ps' : List ℕ} (m : Moved) → m ≡ move pool root at.row at.piece owner word → to.row ≡ m.1 → to.piece ≡ m.2
    → to.count ≡ at.count + length m.0 → length m.0 ≤ 1 → ws' ≡ sets ws at.count (form.words m.0) → ps' ≡ sets ps at.count (form.places m.0)
    → Turned pool root owner word at to ws ps ws' ps'
turned m e r j c s w p = record { row = rw (← e) r; piece = rw (← e) j; count = rw (← e) c; short = rw (← e) s; words = rw (← e) w; places = rw (← e) p }

module _ (pool : List ℕ) (root : ℕ) (owners links : List ℕ) (ready : Ready pool root owners links) where
  pub record Going (w p : ℕ) (at : At) (left : ℕ) (ws ps : List ℕ) : Type 0 where
    pub done : List Token
    pub todo : List Token
    pub n : ℕ
    pub all : written ready.tree ≡ done ++ todo
    pub stage : Stage pool root at.row at.piece todo n
    pub enough : n ≤ left
    pub counted : at.count ≡ length done
    pub few : length done + left ≤ steps * count pool
    pub words : ws ≡ front w (form.words done)
    pub places : ps ≡ front p (form.places done)

  -- it begins
  pub begun : (w p left : ℕ) (at : At) (ws ps : List ℕ) → at.row ≡ root → at.piece ≡ 0 → at.count ≡ 0 → left ≡ steps * count pool → ws ≡ replicate w 0 → ps ≡ replicate p 0 → Going w p at left ws ps
  begun w p left at ws ps r j c l a b =
      record {
        done = [];
        todo = written ready.tree;
        n = steps * size ready.tree;
        all = refl;
        stage = rw (r, j) (first pool root ready.good ready.inside ready.holds ready.fit ready.last);
        enough = omega (arith, ready.small);
        counted = c;
        few = omega arith;
        words = a ∙ sym (front_none w);
        places = b ∙ sym (front_none p);
      }

  abbrev pub owner_of : ℕ → ℕ
  owner_of t = get_or owners t 0

  abbrev pub word_to : ℕ → ℕ
  word_to t = get_or links t 0

  -- the row and the piece
  pub placed : {w p left : ℕ} {at : At} {ws ps : List ℕ} → Going w p at left ws ps → (at.row ≡ 0 → ⊥) → In pool at.row × (at.piece < 100)
  placed g nz = go g.stage nz
    where
      go : {r j n : ℕ} {ts : List Token} → Stage pool root r j ts n → (r ≡ 0 → ⊥) → In pool r × (j < 100)
      go (over z e) nz = absurd (nz z)
      go (at_row a i l) nz = (i, omega arith)
      go (upwards z a i) nz = (i, omega arith)

  next : {w p left : ℕ} {at : At} {ws ps : List ℕ} (g : Going w p at left ws ps) → (at.row ≡ 0 → ⊥)
      → Right pool root (move pool root at.row at.piece (owner_of at.row) (word_to at.row)) g.todo g.n
  next g nz = step pool root ready.good ready.inside owner_of word_to ready.told g.stage nz

  -- there is a step left while not all is written
  pub no_more : {w p left : ℕ} {at : At} {ws ps : List ℕ} → Going w p at left ws ps → left ≡ 0 → at.row ≡ 0
  no_more {at = at} g z = ⊎_elim (λ e. e) (λ nz. absurd (omega (arith, (next g nz).less, g.enough))) (same_or at.row 0)

  -- one more step
  pub gone : {w p left left' : ℕ} {at : At} {ws ps : List ℕ} (to : At) (ws' ps' : List ℕ) → left ≡ left' + 1 → Going w p at left ws ps → (at.row ≡ 0 → ⊥)
      → Turned pool root (owner_of at.row) (word_to at.row) at to ws ps ws' ps' → Going w p to left' ws' ps'
  gone {w} {p} {at = at} {ws} {ps} to ws' ps' one g nz t =
      let r = next g nz in
      let e = (move pool root at.row at.piece (owner_of at.row) (word_to at.row)).0 in
      let l : length (g.done ++ e) ≡ length g.done + length e = length-append g.done e in
      record {
        done = g.done ++ e;
        todo = r.later;
        n = r.fewer;
        all = g.all ∙ ap (λ x. g.done ++ x) r.split ∙ sym (append_assoc g.done e r.later);
        stage = rw (t.row, t.piece) r.stage;
        enough = omega (arith, r.less, g.enough);
        counted = t.count ∙ rw (g.counted, l);
        few = omega (arith, t.short, g.few, r.less, g.enough);
        words = t.words ∙ put w g.done e g.words g.counted;
        places = t.places ∙ put_places p g.done e g.places g.counted;
      }
    where
      put : (w : ℕ) (d e : List Token) {ws : List ℕ} {n : ℕ} → ws ≡ front w (form.words d) → n ≡ length d → sets ws n (form.words e) ≡ front w (form.words (d ++ e))
      put w d e a b = rw (a, b, ← (length-map d (λ t. t.0)), front_puts w (form.words d) (form.words e), map-append)

      put_places : (w : ℕ) (d e : List Token) {ws : List ℕ} {n : ℕ} → ws ≡ front w (form.places d) → n ≡ length d → sets ws n (form.places e) ≡ front w (form.places (d ++ e))
      put_places w d e a b = rw (a, b, ← (length-map d (λ t. t.1)), front_puts w (form.places d) (form.places e), map-append)

  -- all is written
  pub ended : {w p left : ℕ} {at : At} {ws ps : List ℕ} (g : Going w p at left ws ps) → at.row ≡ 0 → written ready.tree ≡ g.done
  ended g z = g.all ∙ ap (λ x. g.done ++ x) (go g.stage z) ∙ append-nil g.done
    where
      go : {r j n : ℕ} {ts : List Token} → Stage pool root r j ts n → r ≡ 0 → ts ≡ []
      go (over z e) y = e
      go (at_row a i l) y = absurd (omega (arith, i))
      go (upwards z a i) y = absurd (omega (arith, i))

  -- the count and the slices at the end
  pub arrived : {w p left : ℕ} {at : At} {ws ps : List ℕ} (ws₀ ps₀ : List ℕ) → Going w p at left ws ps → at.row ≡ 0 → w ≡ length ws₀ → p ≡ length ps₀
      → Walked pool root at.count ws₀ ps₀ ws ps
  arrived {w} {p} {left} {at} {ws} {ps} ws₀ ps₀ g z a b =
      record {
        each = λ t h.
            let same : written t ≡ g.done = ap written (one_tree pool h ready.holds) ∙ ended g z in
            (g.counted ∙ ap length (sym same), g.words ∙ rw (a, same), g.places ∙ rw (b, same));
      }

  -- the numbers stay small
  pub few_so_far : {w p left : ℕ} {at : At} {ws ps : List ℕ} → Going w p at left ws ps → at.count < 1000000
  unfolding rows
  few_so_far g = omega (arith, g.few, g.counted)
