-- The round trip of results: what the writer has written is read back by the entry for the root, or refused as too deep.
use Prim.Native.Nat.{ℕ, ◌+◌, ◌-◌, ◌≤◌, ◌<◌}
use native.Mathlib.Omega.{arith}
use native.Mathlib.Decide.{dec_lt}
use mathlib.Core.Path.{◌≡◌}
use mathlib.Core.List.{List, append-nil}
use mathlib.Core.Logic.{◌⊎◌, inl, inr}
use lib.ListN.{length}
use Rattle.grammar.specs.Tree.{Tree, Trees, nil, ◌▸◌, size, sizes, lays}
use Rattle.grammar.specs.Parsed.{read}
use Rattle.grammar.specs.Rules.{Rules}
use Rattle.grammar.specs.Examples.{Entry, X, S, W}
use Rattle.grammar.specs.Script.{longest, nesting, rows, pool}
use Rattle.grammar.proofs.Laws.{rows as spends}
use Rattle.modes.specs.Modes.{by}
use Rattle.trees.specs.Exact.{IsTree}
use Rattle.trees.proofs.Exact.{bounded}
use Rattle.written.specs.Written.{written}
use Rattle.written.specs.Claims.{plain, plains, deep, entry_of, asked, reread, back_from_end, Back, Deeper}
use Rattle.written.proofs.Trip.{round_trip}
use Rattle.written.proofs.Deep.{deep_refused}
use Rattle.refusals.proofs.Laws.{not_both}
use Rattle.answer.specs.Answer.{Answer, Entered}
use Rattle.trips.specs.Promises.{CameBack, IsTooDeep, OfTexts, RoundTripAnswered, ReadBackAnswered, DeepAnswered}
use Rattle.trips.proofs.Texts.{of_tree}

-- A pool as long as that of a tree has rows enough for it.
enough : (pool : List ℕ) (root lent : ℕ) (t : Tree) → IsTree pool root t → (size t ≤ rows lent) ⊎ (length pool ≤ lent) → size t ≤ rows lent
unfolding rows
enough pool root lent t i (inl h) = h
enough pool root lent t i (inr h) = omega (arith, bounded pool root t i)

-- The rows that are read are those that are no longer left.
spent : (rules : Rules) (e : Entry) (ts : List ℕ) (room : ℕ) (us : Trees) (at left : ℕ) → asked rules e ts room ≡ read us at left → sizes us + left ≡ room
unfolding asked
spent rules X ts room us at left q = (spends rules ts 0 room us at left).0 q
spent rules S ts room us at left q = (spends rules ts 0 room us at left).1 q
spent rules W ts room us at left q = (spends rules ts 0 room us at left).2 q

-- What an entry leaves of a tree that is read back.
came_back : (t : Tree) (us : Trees) (at left lent : ℕ) {r : Answer} {ys : List ℕ} → plains us ≡ plain t ▸ nil → sizes us ≡ size t → at + back_from_end (entry_of t) ≡ length (written t)
    → Entered (read us at left) r lent ys → CameBack t (length (written t)) r lent ys
unfolding plains pool lays
came_back t nil at left lent e n q h = let z : ◌≡◌ {A = ℕ} 0 1 = cc in absurd (omega arith)
came_back t (u ▸ nil) at left lent e n q h =
    record { tree = u; at = at; answer = rw n at h.answer; place = q; same = cc; left = rw (n, append-nil) at h.left }
came_back t (u ▸ v ▸ us) at left lent e n q h = let z : ◌≡◌ {A = ℕ} 0 1 = cc in absurd (omega arith)

-- The two answers to the text of a tree.
module _ (rules : Rules) (t : Tree) (lent : ℕ) {r : Answer} {ys : List ℕ} (h : Entered (reread rules t (rows lent)) r lent ys) where
  back : (left : ℕ) → size t + left ≡ rows lent → Back rules t (rows lent) left → CameBack t (length (written t)) r lent ys
  back left q b =
      let s = spent rules (entry_of t) _ (rows lent) b.trees b.at left b.reads in
      came_back t b.trees b.at left lent b.same (omega arith) b.place (rw b.reads at h)

  deeper : Deeper rules t (rows lent) → IsTooDeep (length (written t)) r
  deeper d = record { place = d.place; answer = (rw d.refuses at h).answer; inside = d.inside }

-- Which of them it is.
abbrev ByDepth : (t : Tree) (n : ℕ) (r : Answer) (lent : ℕ) (ys : List ℕ) → Type 0
ByDepth t n r lent ys = (deep t ≤ nesting → CameBack t n r lent ys) × (nesting < deep t → IsTooDeep n r)

by_depth : OfTexts (λ t. Unit {0}) ByDepth
by_depth pool root w p n ws ps t mode lent r ys h o any short room e =
    let (i, x) = of_tree pool root w p n ws ps t h o in
    let l : length (written t) ≤ longest = omega (arith, x.long) in
    let q : size t + (rows lent - size t) ≡ rows lent = omega (arith, enough pool root lent t i room) in
    let f : Entered (reread (by mode) t (rows lent)) r lent ys = rw x.in_words at e in (
      λ d. rw x.long (back (by mode) t lent f _ q (round_trip (by mode) t (rows lent) _ i.fitting l q d)),
      λ d. rw x.long (deeper (by mode) t lent f (deep_refused (by mode) t (rows lent) _ i.fitting l q d)),
    )

-- No answer is both.
apart : {t : Tree} {n lent : ℕ} {r : Answer} {ys : List ℕ} → CameBack t n r lent ys → IsTooDeep n r → ⊥
apart b d = not_both b.answer d.answer

module _ (t : Tree) (n : ℕ) (r : Answer) (lent : ℕ) (ys : List ℕ) (f : ByDepth t n r lent ys) where
  either : Dec (nesting < deep t) → CameBack t n r lent ys ⊎ IsTooDeep n r
  either (yes d) = inr (f.1 d)
  either (no d) = inl (f.0 (omega arith))

  is_deep : Dec (nesting < deep t) → IsTooDeep n r → nesting < deep t
  is_deep (yes d) z = d
  is_deep (no d) z = absurd (apart (f.0 (omega arith)) z)

-- What it being by depth says.
carry : {P : Tree → Type 0} {Q : (t : Tree) (n : ℕ) (r : Answer) (lent : ℕ) (ys : List ℕ) → Type 0}
    → ((t : Tree) (n : ℕ) (r : Answer) (lent : ℕ) (ys : List ℕ) → P t → ByDepth t n r lent ys → Q t n r lent ys) → OfTexts P Q
carry g pool root w p n ws ps t mode lent r ys h o a short room e = g t n r lent ys a (by_depth pool root w p n ws ps t mode lent r ys h o tt short room e)

pub round_trip_answered : RoundTripAnswered
round_trip_answered = carry (λ t n r lent ys d f. f.0 d)

pub read_back_answered : ReadBackAnswered
read_back_answered = carry (λ t n r lent ys a f. either t n r lent ys f (dec_lt nesting (deep t)))

pub deep_answered : DeepAnswered
deep_answered = carry (λ t n r lent ys a f. (is_deep t n r lent ys f (dec_lt nesting (deep t)), f.1))
