-- What an entry accepts is a tree of the pool that it leaves: it passes the check, and the writer writes it.
use Prim.Native.Nat.{ℕ, ◌+◌, ◌≤◌}
use native.Mathlib.Omega.{arith}
use mathlib.Core.Path.{◌≡◌, refl, ap, sym, subst₂, ◌∙◌}
use mathlib.Core.Bool.{true, and-eq-true_iff}
use mathlib.Core.List.{List}
use lib.ListN.{length}
use borrow.Author.Tests.{eqb-true, ltb-true}
use Rattle.grammar.specs.Tree.{Tree, Trees, nil, ◌▸◌, sizes}
use Rattle.grammar.specs.Parsed.{Parsed, refused, read}
use Rattle.grammar.specs.Rules.{Rules}
use Rattle.grammar.specs.Script.{rows, pool, one_expression, one_statement, whole_script}
use Rattle.grammar.proofs.Laws.{rows as spends}
use Rattle.modes.specs.Modes.{by}
use Rattle.slots.specs.Slots.{any-root, one, at_most_one, how_many, counts, fits, all_fit}
use Rattle.trees.specs.Exact.{IsTree}
use Rattle.trees.proofs.Exact.{exact}
use Rattle.trees.proofs.Unique.{one_tree}
use Rattle.trees.proofs.Laid.{filled}
use Rattle.written.specs.Written.{written}
use Rattle.written.proofs.Fits.{parser_fits, parser_roots}
use Rattle.writer.specs.Wrote.{answered, Writes, no_tree, a_text}
use Rattle.std.specs.Prelude.{Result, Ok, Err}
use Rattle.refusals.specs.Refusal.{Numbered}
use Rattle.refusals.proofs.Laws.{not_both}
use Rattle.answer.specs.Answer.{Entered, accepted}
use Rattle.answer.proofs.Laws.{same_root, same_place}
use Rattle.trips.specs.Promises.{OfAccepted, ParserPasses, ParserWritten}
use Rattle.writer.proofs.Outcomes.{fitting}

-- A pool holds a tree at a root.
abbrev Some : (root : ℕ) (ys : List ℕ) → Type 0
Some root ys = (t : Tree) × IsTree ys root t

-- One tree that fits, for which there was room.
one_laid : (lent at left : ℕ) (us : Trees) → how_many us ≡ 1 → all_fit any-root us ≡ true → sizes us + left ≡ rows lent → Some (sizes us) (pool lent (read us at left))
unfolding all_fit
one_laid lent at left nil n f l = absurd (omega (arith, n))
one_laid lent at left (t ▸ nil) n f l = (t, filled lent at left t ((and-eq-true_iff (fits any-root t) true).0 f).0 (omega arith))
one_laid lent at left (t ▸ u ▸ us) n f l = absurd (omega (arith, n))

only : (us : Trees) → counts one (how_many us) ≡ true → how_many us ≡ 1
unfolding counts
only us h = eqb-true (how_many us) 1 h

not_none : (us : Trees) → counts at_most_one (how_many us) ≡ true → ¬ (sizes us ≡ 0) → how_many us ≡ 1
unfolding counts
not_none nil h n = absurd (n refl)
not_none (t ▸ us) h n = omega (arith, ltb-true (how_many (t ▸ us)) 2 h)

-- What an acceptance leaves is what was read.
has_some : (P : Parsed Trees) (root used place lent : ℕ) (ys : List ℕ)
    → ((us : Trees) (left : ℕ) → P ≡ read us place left → root ≡ sizes us → Some (sizes us) (pool lent (read us place left)))
    → Entered P (Ok (accepted root used place)) lent ys → Some root ys
has_some (refused n p) root used place lent ys f h = not_both refl h.answer
has_some (read us at left) root used place lent ys f h =
    let e : root ≡ sizes us = same_root h.answer in
    let q : read us at left ≡ read us place left = ap (λ (p : ℕ). read us p left) (sym (same_place h.answer)) in
    subst₂ (λ k zs. Some k zs) (sym e) (sym (h.left ∙ ap (pool lent) q)) (f us left q e)

-- The three entries.
module _ (rules : Rules) (ts : List ℕ) (start lent : ℕ) (us : Trees) (at left : ℕ) where
  abbrev Laid : Type 0
  Laid = Some (sizes us) (pool lent (read us at left))

  laid : (one_expression rules ts start (rows lent) ≡ read us at left → Laid)
      × (one_statement rules ts start (rows lent) ≡ read us at left → ¬ (sizes us ≡ 0) → Laid)
      × (whole_script rules ts (rows lent) ≡ read us at left → Laid)
  laid =
      let f = parser_fits rules ts start (rows lent) us at left in
      let g = parser_roots rules ts start (rows lent) us at left in
      let s = spends rules ts start (rows lent) us at left in (
        λ e. one_laid lent at left us (only us (f.0 e).0) (g.0 e).1 (s.0 e),
        λ e n. one_laid lent at left us (not_none us (f.1 e).0 n) (g.1 e).1 (s.1 e),
        λ e. one_laid lent at left us (only us (f.2 e).0) (g.2 e).1 (s.2 e),
      )

trees : OfAccepted Some
trees mode ts start lent root used place ys = (
  λ h. has_some _ root used place lent ys (λ us left e q. (laid (by mode) ts start lent us place left).0 e) h,
  λ h n. has_some _ root used place lent ys (λ us left e q. (laid (by mode) ts start lent us place left).1 e (λ z. n (q ∙ z))) h,
  λ h. has_some _ root used place lent ys (λ us left e q. (laid (by mode) ts start lent us place left).2 e) h,
)

-- What holds of every tree in a pool holds of these.
carry : {Q : (root : ℕ) (ys : List ℕ) → Type 0} → ((root : ℕ) (ys : List ℕ) (t : Tree) → IsTree ys root t → Q root ys) → OfAccepted Q
carry f mode ts start lent root used place ys =
    let (x, s, w) = trees mode ts start lent root used place ys in
    (λ h. let (t, i) = x h in f root ys t i, λ h n. let (t, i) = s h n in f root ys t i, λ h. let (t, i) = w h in f root ys t i)

pub parser_passes : ParserPasses
parser_passes = carry (λ root ys t i c v. (exact ys root).1 t c i v)

-- The writer's answer for a tree, where there is room.
writes : (ys : List ℕ) (root w p : ℕ) (r : Result ℕ Numbered) (ws ps : List ℕ) (t : Tree) → IsTree ys root t → length (written t) ≤ w → length (written t) ≤ p → Writes ys root w p r ws ps
    → r ≡ Ok (length (written t))
writes ys root w p r ws ps t i x y (no_tree number place v e a b) =
    not_both ((exact ys root).1 t _ i v) refl
writes ys root w p r ws ps t i x y (a_text u v o f e a b) = e ∙ ap (λ k. answered (written k) w p) (one_tree ys o i.holds) ∙ fitting (written t) w p x y

pub parser_written : ParserWritten
parser_written = carry (λ root ys t i. (t, i, λ w p r ws ps x y h. writes ys root w p r ws ps t i x y h))
