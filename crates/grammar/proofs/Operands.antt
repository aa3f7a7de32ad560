-- Operands joined by infix operators are accepted, and grouped as the rule says and in no other way.
use Prim.Native.Nat.{ℕ, zero, suc, ◌+◌, ◌-◌, ◌≤◌, ◌<◌}
use native.Mathlib.Nat.{zero-add}
use native.Mathlib.Omega.{arith}
use native.Mathlib.Decide.{dec_lt}
use mathlib.Core.Path.{◌≡◌, refl, sym, ap, ◌∙◌}
use mathlib.Core.Bool.{Bool, true, false, cond}
use mathlib.Core.List.{List, [], ◌∷◌, ◌++◌, append_assoc, append-nil}
use mathlib.Core.Logic.{inl, inr}
use lib.Dec.{ltb}
use lib.ListN.{length}
use borrow.Author.Tests.{lt-ltb, le-ltb, ltb-true}
use Rattle.grammar.specs.Words.{SSemiColon, SIncr, SDecr, SLParen, SLBox, tok, step, Zero, order, infix_of, goes_on}
use Rattle.grammar.specs.Tree.{Tree, infixed, node, nil, ◌▸◌, size}
use Rattle.grammar.specs.Parsed.{read, ◌>>=◌, ◌>>◌, met, need, build, choose, match, turns}
use Rattle.grammar.specs.Rules.{Rules}
use Rattle.grammar.specs.Expressions.{Rec, infix_expression, operation, climb, level, expression}
use Rattle.grammar.specs.Script.{nesting, array_good, one_expression}
use Rattle.grammar.specs.Claims.{Grouping, GroupsOperands, Binds, EveryOf, KeepsBut, Keeps, Part, operand, sign, reading, Joins, DivMulMod}
use Rattle.grammar.specs.Claims.{Operands, final, further, rows_of, Joined, same, joint, Ends}
use Rattle.grammar.proofs.Steps.{step_on, step_most, others, no_infix, infix_goes_on, infix_facts, goes_on_up}
use Rattle.grammar.proofs.Turns.{Valid, valid, goes_forward}
use Rattle.grammar.proofs.Runs.{expression_runs, placed}
use Rattle.grammar.proofs.More.{nesting_more}
use Rattle.grammar.proofs.Prefix.{Begins, level_begins}

-- A tree that is an operand: no infix row, or one in brackets.
abbrev Whole : Tree → Type 0
Whole (infixed m p l r z) = 256 ≤ m
Whole (node k m p a b c d z) = Unit {0}

module _ (ts : List ℕ) where
  above_all : (t : Tree) → Binds ts (suc DivMulMod) t → EveryOf (KeepsBut ts) (t ▸ nil) → Whole t
  above_all (infixed m p l r z) b k = go (dec_lt m 256)
    where
      go : Dec (m < 256) → 256 ≤ m
      go (yes lt) = let i : 0 < infix_of (tok ts p) = omega (arith, k.0.0.sign) in absurd (omega (arith, b lt, (infix_facts _ i).most))
      go (no ge) = omega arith
  above_all (node k m p c0 c1 c2 c3 z) b h = tt

  binds_whole : (t : Tree) → Whole t → (n : ℕ) → Binds ts n t
  binds_whole (infixed m p l r z) w n = λ lt. absurd (omega arith)
  binds_whole (node k m p c0 c1 c2 c3 z) w n = tt

  joins_whole : (t : Tree) → Whole t → Joins (Keeps ts) t
  joins_whole (infixed m p l r z) w = λ lt. absurd (omega arith)
  joins_whole (node k m p c0 c1 c2 c3 z) w = tt

whole : (rules : Rules) (ts : List ℕ) (v : Valid ts) (d s n : ℕ) (t : Tree) (c m : ℕ) → expression rules ts d DivMulMod s n ≡ read t c m → Whole t
whole rules ts v d s n t c m e = let a = placed ts v rules d DivMulMod s n t c m e in above_all ts t a.2.root a.2.run.kept

-- The reading of a tree in front of other parts.
abbrev onto : Tree → List Part → List Part
onto (infixed m p l r z) ws = cond (ltb m 256) (onto l (sign m p ∷ onto r ws)) (operand (infixed m p l r z) ∷ ws)
onto (node k m p c0 c1 c2 c3 z) ws = operand (node k m p c0 c1 c2 c3 z) ∷ ws

onto_whole : (t : Tree) (ws : List Part) → Whole t → onto t ws ≡ operand t ∷ ws
onto_whole (infixed m p l r z) ws w = rw (le-ltb m 256 w)
onto_whole (node k m p c0 c1 c2 c3 z) ws w = refl

reading_onto : (t : Tree) (ws : List Part) → reading t ++ ws ≡ onto t ws
unfolding reading
reading_onto (infixed m p l r z) ws = go (ltb m 256) (rw append_assoc (rw (reading_onto r ws) (reading_onto l (sign m p ∷ onto r ws))))
  where
    go : (b : Bool) → (reading l ++ (sign m p ∷ reading r)) ++ ws ≡ onto l (sign m p ∷ onto r ws)
        → cond b (reading l ++ (sign m p ∷ reading r)) (operand (infixed m p l r z) ∷ []) ++ ws ≡ cond b (onto l (sign m p ∷ onto r ws)) (operand (infixed m p l r z) ∷ ws)
    go true h = h
    go false h = refl
reading_onto (node k m p c0 c1 c2 c3 z) ws = refl

rows_onto : (t : Tree) (ws : List Part) → rows_of (onto t ws) ≡ size t + rows_of ws
unfolding rows_of
rows_onto (infixed m p l r z) ws = go (ltb m 256) (rows_onto l (sign m p ∷ onto r ws)) (rows_onto r ws)
  where
    go : (b : Bool) → rows_of (onto l (sign m p ∷ onto r ws)) ≡ size l + suc (rows_of (onto r ws)) → rows_of (onto r ws) ≡ size r + rows_of ws
        → rows_of (cond b (onto l (sign m p ∷ onto r ws)) (operand (infixed m p l r z) ∷ ws)) ≡ size l + size r + 1 + rows_of ws
    go true h k = omega arith
    go false h k = refl
rows_onto (node k m p c0 c1 c2 c3 z) ws = refl

-- t stands in ts from s on, and the reader stands at e behind it; it keeps the rule, and its order is at least lo.
data Good (rules : Rules) (ts : List ℕ) (d : ℕ) : ℕ → Tree → ℕ → ℕ → Type 0 where
  g_one : {lo s e : ℕ} {t : Tree} → expression rules ts d DivMulMod s (size t) ≡ read t e 0 → Good rules ts d lo t s e
  g_two : {lo mark s c p e : ℕ} {l r : Tree} → Good rules ts d (order (tok ts p)) l s c → ¬ (tok ts c ≡ SSemiColon) → step ts c ≡ p → infix_of (tok ts p) ≡ suc mark
      → lo ≤ order (tok ts p) → Good rules ts d (suc (order (tok ts p))) r (step ts p) e → Good rules ts d lo (infixed mark p l r e) s e

module _ {rules : Rules} {ts : List ℕ} {d : ℕ} where
  raise : {lo s e : ℕ} {t : Tree} → Good rules ts d lo t s e → Good rules ts d 1 t s e
  raise (g_one v) = g_one v
  raise (g_two {p} l n q i a r) = let h : 1 ≤ order (tok ts p) = (infix_facts (tok ts p) (omega arith)).least in g_two l n q i h r

  binds_good : (v : Valid ts) {lo s e : ℕ} {t : Tree} → Good rules ts d lo t s e → Binds ts lo t
  binds_good v {lo} {s} {e} {t} (g_one x) = binds_whole ts t (whole rules ts v d s (size t) t e 0 x) lo
  binds_good v (g_two l n q i a r) = λ lt. a

  joins_good : (v : Valid ts) {lo s e : ℕ} {t : Tree} → Good rules ts d lo t s e → Joins (Keeps ts) t
  joins_good v {s} {e} {t} (g_one x) = joins_whole ts t (whole rules ts v d s (size t) t e 0 x)
  joins_good v (g_two l n q i a r) = λ lt. ((binds_good v l, binds_good v r), joins_good v l, joins_good v r)

-- Above its own order an operator stops the loop.
self : (ts : List ℕ) (c : ℕ) {p mark : ℕ} → step ts c ≡ p → infix_of (tok ts p) ≡ suc mark → goes_on (order (tok ts p)) (tok ts (step ts c)) ≡ false
self ts c {p} q i =
    let some : ltb 0 (infix_of (tok ts p)) ≡ true = lt-ltb 0 (infix_of (tok ts p)) (omega arith) in
    let o : ℕ = order (tok ts p) in
    rw (q, infix_goes_on o (tok ts p) some) (le-ltb o o (omega arith))

-- One turn of the loop at an infix operator, and its end.
module _ (rules : Rules) (ts : List ℕ) (rec : Rec) (pre : ℕ) where
  turned : (turn : ℕ) (l r : Tree) (c p room mark e left : ℕ) → step ts c ≡ p → infix_of (tok ts p) ≡ suc mark → pre < order (tok ts p)
      → rec (order (tok ts p)) (step ts p) room ≡ read r e (suc left)
      → climb rules ts rec pre (suc turn) l c room ≡ climb rules ts rec pre turn (infixed mark p l r e) e left
  unfolding climb choose ◌>>=◌ operation match infix_expression build
  turned turn l r c p room mark e left q i lt x =
      let w : ℕ = tok ts p in
      let some : ltb 0 (infix_of w) ≡ true = lt-ltb 0 (infix_of w) (omega arith) in
      let m : infix_of w - 1 ≡ mark = omega arith in
      rw (
        q,
        infix_goes_on pre w some,
        lt-ltb pre (order w) lt,
        no_infix SIncr w others.incr some,
        no_infix SDecr w others.decr some,
        no_infix SLParen w others.call some,
        no_infix SLBox w others.index some,
        x,
        m,
      )

  pub stopped : (turn : ℕ) (t : Tree) (at room : ℕ) → goes_on pre (tok ts (step ts at)) ≡ false → climb rules ts rec pre (suc turn) t at room ≡ read t at room
  unfolding climb choose
  stopped turn t at room h = rw h

-- A step onto an operator goes on.
onto_operator : (ts : List ℕ) (v : Valid ts) {c p mark : ℕ} → c < length ts → step ts c ≡ p → infix_of (tok ts p) ≡ suc mark → c < step ts c
onto_operator ts v {c} h q i = goes_forward ts v c h (inr (λ z. omega (arith, others.eof, ap infix_of (ap (tok ts) (sym q) ∙ z))))

record Placed (ts : List ℕ) (d s c : ℕ) : Type 0 where
  some : 1 ≤ d
  start : s < length ts
  on : s ≤ c
  end : c < length ts

module _ (rules : Rules) (ts : List ℕ) (v : Valid ts) (d : ℕ) where
  -- Where such a tree stands, and how its left side stands to it.
  good_placed : {lo s e : ℕ} {t : Tree} → Good rules ts d lo t s e → Placed ts d s e
  good_placed {s} {e} {t} (g_one x) =
      let (some, start, a) = placed ts v rules d DivMulMod s (size t) t e 0 x in
      record { some = some; start = start; on = a.run.on; end = a.run.within }
  good_placed (g_two {c} {p} l n q i a r) =
      let x = good_placed l in
      let y = good_placed r in
      record { some = x.some; start = x.start; on = omega (arith, x.on, y.on, step_on ts c, step_on ts p); end = y.end }

  left_of : {lo lo' s c p e mark : ℕ} {l r : Tree} → Good rules ts d lo l s c → step ts c ≡ p → infix_of (tok ts p) ≡ suc mark
      → Good rules ts d lo' r (step ts p) e → (c < e) × (e < length ts)
  left_of {c} {p} gl q i gr =
      let y = good_placed gr in
      let lt = onto_operator ts v (good_placed gl).end q i in
      (omega (arith, y.on, step_on ts p), y.end)

  -- Where its infix rows end.
  ends_whole : (t : Tree) → Whole t → (n : ℕ) → Ends n t
  ends_whole (infixed m p l r z) w n = λ lt. absurd (omega arith)
  ends_whole (node k m p c0 c1 c2 c3 z) w n = tt

  ends_good : {lo s e : ℕ} {t : Tree} → Good rules ts d lo t s e → Ends e t
  ends_good {s} {e} {t} (g_one x) = ends_whole t (whole rules ts v d s (size t) t e 0 x) e
  ends_good (g_two {c} {p} l n q i a r) =
      let lt = onto_operator ts v (good_placed l).end q i in
      let before : c ≡ p - 1 = omega (arith, step_most ts c) in
      λ lt. (refl, rw before at (ends_good l), ends_good r)

-- An operand, read above a lower order with more nesting and more rows.
operand_begins : (rules : Rules) (ts : List ℕ) (v : Valid ts) (d D pre s left e : ℕ) (t : Tree) → pre ≤ DivMulMod → d ≤ suc D
    → expression rules ts d DivMulMod s (size t) ≡ read t e 0
    → Begins rules ts (expression rules ts D) pre s (read t e left) (level rules ts (expression rules ts D) pre s (size t + left))
unfolding expression
operand_begins rules ts v d D pre s left e t small h q =
    let nine : level rules ts (expression rules ts D) DivMulMod s (size t + left) ≡ read t e left =
    rw (zero-add left) at ((nesting_more rules ts d (suc D) left s (size t) e 0 h).0 DivMulMod t q) in
    rw nine at (level_begins rules ts v (expression rules ts D) (expression_runs ts v rules D) pre small s (size t + left) (placed ts v rules d DivMulMod s (size t) t e 0 q).1)

-- What was read so far is in the loop's hand, and of its turns no more are spent than places were passed.
record Ran (rules : Rules) (ts : List ℕ) (rec : Rec) (pre s room : ℕ) (t : Tree) (e left : ℕ) : Type 0 where
  turn : ℕ
  same : level rules ts rec pre s room ≡ climb rules ts rec pre (suc turn) t e left
  enough : turns + s ≤ suc turn + e

module _ (rules : Rules) (ts : List ℕ) (v : Valid ts) (d D pre : ℕ) (small : pre ≤ DivMulMod) (deep : d ≤ suc D)
    (ok : (o s e : ℕ) (t : Tree) → Good rules ts d (suc o) t s e → pre < o → o ≤ DivMulMod → goes_on o (tok ts (step ts e)) ≡ false
    → (room left : ℕ) → room ≡ size t + left → expression rules ts D o s room ≡ read t e left)
  where
    ran_one : (s e room left : ℕ) (t : Tree) → ¬ (tok ts e ≡ SSemiColon)
        → Begins rules ts (expression rules ts D) pre s (read t e left) (level rules ts (expression rules ts D) pre s room) → Ran rules ts (expression rules ts D) pre s room t e left
    ran_one s e room left t n (inl h) = absurd (n h.1)
    ran_one s e room left t n (inr h) = record { turn = h.turn; same = h.same; enough = h.enough }

    ends_one : (s e room left : ℕ) (t : Tree) → goes_on pre (tok ts (step ts e)) ≡ false
        → Begins rules ts (expression rules ts D) pre s (read t e left) (level rules ts (expression rules ts D) pre s room) → level rules ts (expression rules ts D) pre s room ≡ read t e left
    ends_one s e room left t low (inl h) = h.0
    ends_one s e room left t low (inr h) = h.same ∙ stopped rules ts (expression rules ts D) pre h.turn t e left low

    ran_two : {lo s c p e mark : ℕ} {l r : Tree} (room left : ℕ) → Good rules ts d lo l s c → Ran rules ts (expression rules ts D) pre s room l c (size r + suc left)
        → step ts c ≡ p
        → infix_of (tok ts p) ≡ suc mark → pre < order (tok ts p) → Good rules ts d (suc (order (tok ts p))) r (step ts p) e
        → goes_on (order (tok ts p)) (tok ts (step ts e)) ≡ false → Ran rules ts (expression rules ts D) pre s room (infixed mark p l r e) e left
    ran_two {c} {p} {e} {mark} {l} {r} room left gl x q i lt gr low =
        let top : order (tok ts p) ≤ DivMulMod = (infix_facts (tok ts p) (omega arith)).most in
        let (on, end) = left_of rules ts v d gl q i gr in
        let f : x.turn ≡ suc (x.turn - 1) = omega (arith, x.enough, v.short) in
        record {
          turn = x.turn - 1;
          same = x.same
              ∙ turned rules ts (expression rules ts D) pre x.turn l r c p (size r + suc left) mark e left q i lt (ok (order (tok ts p)) (step ts p) e r gr lt top low _ _ refl)
              ∙ rw (← f);
          enough = omega (arith, x.enough);
        }

    run : {lo s e : ℕ} {t : Tree} → Good rules ts d lo t s e → pre < lo → ¬ (tok ts e ≡ SSemiColon) → goes_on lo (tok ts (step ts e)) ≡ false
        → (room left : ℕ) → room ≡ size t + left → Ran rules ts (expression rules ts D) pre s room t e left
    run {s} {e} {t} (g_one x) lt n low room left re = ran_one s e room left t n (rw re (operand_begins rules ts v d D pre s left e t small deep x))
    run {lo} {e} (g_two {c} {p} {l} {r} gl n' q i a gr) lt n low room left re =
        ran_two room left gl (run gl (omega arith) n' (self ts c q i) room (size r + suc left) (omega arith)) q i (omega arith) gr
        (goes_on_up lo (order (tok ts p)) (tok ts (step ts e)) a low)

    parse : {lo s e : ℕ} {t : Tree} → Good rules ts d lo t s e → pre < lo → goes_on pre (tok ts (step ts e)) ≡ false
        → (room left : ℕ) → room ≡ size t + left → level rules ts (expression rules ts D) pre s room ≡ read t e left
    parse {s} {e} {t} (g_one x) lt low room left re = ends_one s e room left t low (rw re (operand_begins rules ts v d D pre s left e t small deep x))
    parse {lo} {e} (g_two {mark} {c} {p} {l} {r} gl n q i a gr) lt low room left re =
        let le : pre ≤ order (tok ts p) = omega arith in
        let x = ran_two room left gl (run gl (omega arith) n (self ts c q i) room (size r + suc left) (omega arith)) q i (omega arith) gr
        (goes_on_up pre (order (tok ts p)) (tok ts (step ts e)) le low) in
        x.same ∙ stopped rules ts (expression rules ts D) pre x.turn (infixed mark p l r e) e left low

parses : (rules : Rules) (ts : List ℕ) (v : Valid ts) (d D pre : ℕ) {lo s e : ℕ} {t : Tree} → Good rules ts d lo t s e → pre < lo → 9 + d ≤ D + pre → pre ≤ DivMulMod
    → goes_on pre (tok ts (step ts e)) ≡ false → (room left : ℕ) → room ≡ size t + left → expression rules ts D pre s room ≡ read t e left
unfolding expression
parses rules ts v d zero pre g lt deep small low room left re = absurd (omega (arith, (good_placed rules ts v d g).some))
parses rules ts v d (suc D) pre g lt deep small low room left re =
    parse rules ts v d D pre small (omega arith)
    (λ o s' e' t' g' lt' small' low' room' left' re'. parses rules ts v d D o g' (omega arith) (omega arith) small' low' room' left' re')
    g lt low room left re

-- Every chain has a tree that keeps the rule: one more operand and operator in front of such a tree.
record Front (rules : Rules) (ts : List ℕ) (d lo mark p s e : ℕ) (u t : Tree) : Type 0 where
  tree : Tree
  good : Good rules ts d lo tree s e
  reads : (ws : List Part) → onto tree ws ≡ operand u ∷ sign mark p ∷ onto t ws

small_mark : (w mark : ℕ) → infix_of w ≡ suc mark → mark < 256
small_mark w mark i = omega (arith, (infix_facts w (omega arith)).mark)

onto_two : (w mark p z : ℕ) (l r : Tree) (ws : List Part) → infix_of w ≡ suc mark → onto (infixed mark p l r z) ws ≡ onto l (sign mark p ∷ onto r ws)
onto_two w mark p z l r ws i = rw (lt-ltb mark 256 (small_mark w mark i))

module _ (rules : Rules) (ts : List ℕ) (valid : Valid ts) (d mark s c p : ℕ) (u : Tree) (v : expression rules ts d DivMulMod s (size u) ≡ read u c 0) (n : ¬ (tok ts c ≡ SSemiColon))
    (q : step ts c ≡ p) (i : infix_of (tok ts p) ≡ suc mark)
  where
    hang : (lo e : ℕ) (t : Tree) → lo ≤ order (tok ts p) → Good rules ts d (suc (order (tok ts p))) t (step ts p) e → Front rules ts d lo mark p s e u t
    hang lo e t a g = record {
      tree = infixed mark p u t e;
      good = g_two (g_one v) n q i a g;
      reads = λ ws. onto_two (tok ts p) mark p e u t ws i ∙ onto_whole u (sign mark p ∷ onto t ws) (whole rules ts valid d s (size u) u c 0 v);
    }

    under : {lo mark' c' p' e : ℕ} {l r : Tree} → Front rules ts d (order (tok ts p')) mark p s c' u l → ¬ (tok ts c' ≡ SSemiColon) → step ts c' ≡ p'
        → infix_of (tok ts p') ≡ suc mark'
        → lo ≤ order (tok ts p') → Good rules ts d (suc (order (tok ts p'))) r (step ts p') e → Front rules ts d lo mark p s e u (infixed mark' p' l r e)
    under {mark'} {p'} {e} {l} {r} f n' q' i' a g = record {
      tree = infixed mark' p' f.tree r e;
      good = g_two f.good n' q' i' a g;
      reads = λ ws. onto_two (tok ts p') mark' p' e f.tree r ws i' ∙ f.reads (sign mark' p' ∷ onto r ws)
          ∙ ap (λ (ps : List Part). operand u ∷ sign mark p ∷ ps) (sym (onto_two (tok ts p') mark' p' e l r ws i'));
    }

    front : {lo₀ e : ℕ} {t : Tree} (lo : ℕ) → Good rules ts d lo₀ t (step ts p) e → lo ≤ lo₀ → lo ≤ order (tok ts p) → Front rules ts d lo mark p s e u t
    front {e} {t} lo (g_one v') a a' = hang lo e t a' (g_one v')
    front {e} lo (g_two {mark = mark'} {c = c'} {p = p'} {l} {r} gl n' q' i' a₀ gr) a a' =
        choice (dec_lt (order (tok ts p)) (order (tok ts p'))) (λ h. front (order (tok ts p')) gl (omega arith) h)
      where
        choice : Dec (order (tok ts p) < order (tok ts p')) → (order (tok ts p') ≤ order (tok ts p) → Front rules ts d (order (tok ts p')) mark p s c' u l)
            → Front rules ts d lo mark p s e u (infixed mark' p' l r e)
        choice (yes lt) f = hang lo e (infixed mark' p' l r e) a' (g_two gl n' q' i' lt gr)
        choice (no ge) f =
            let h : order (tok ts p') ≤ order (tok ts p) = omega arith in
            let a₁ : lo ≤ order (tok ts p') = omega arith in
            under (f h) n' q' i' a₁ gr

record Made (rules : Rules) (ts : List ℕ) (d s e : ℕ) (ws : List Part) : Type 0 where
  tree : Tree
  good : Good rules ts d 1 tree s e
  reads : onto tree [] ≡ ws

made : {rules : Rules} {ts : List ℕ} (valid : Valid ts) {d s e : ℕ} {ws : List Part} → Operands rules ts d s e ws → Made rules ts d s e ws
made {rules} {ts} valid {d} {s} {e} (final {t} v) = record { tree = t; good = g_one v; reads = onto_whole t [] (whole rules ts valid d s (size t) t e 0 v) }
made {rules} {ts} valid {d} {s} (further {c} {p} {mark} {t} v n q i o) =
    let m = made valid o in
    let f = front rules ts valid d mark s c p t v n q i 1 m.good (omega arith) (infix_facts (tok ts p) (omega arith)).least in
    record { tree = f.tree; good = f.good; reads = f.reads [] ∙ ap (λ (ws : List Part). operand t ∷ sign mark p ∷ ws) m.reads }

-- A tree that keeps the rule and reads as the chain stands there, with the parts ws behind it.
data Rest (rules : Rules) (ts : List ℕ) (d : ℕ) : ℕ → ℕ → List Part → Type 0 where
  no_more : {e : ℕ} → Rest rules ts d e e []
  some_more : {c p e mark : ℕ} {ws : List Part} → ¬ (tok ts c ≡ SSemiColon) → step ts c ≡ p → infix_of (tok ts p) ≡ suc mark → Operands rules ts d (step ts p) e ws
      → Rest rules ts d c e (sign mark p ∷ ws)

record Split (rules : Rules) (ts : List ℕ) (d lo : ℕ) (t : Tree) (s e : ℕ) (ws : List Part) : Type 0 where
  end : ℕ
  tree : Tree
  joined : Joined t tree
  good : Good rules ts d lo tree s end
  rest : Rest rules ts d end e ws

split_one : {rules : Rules} {ts : List ℕ} {d s e : ℕ} {vs : List Part} (lo : ℕ) (t : Tree) (ws : List Part) → Operands rules ts d s e vs → operand t ∷ ws ≡ vs
    → Split rules ts d lo t s e ws
split_one {e} lo t ws (final {t = t'} v) h =
    let et : t ≡ t' = cc in
    let ew : ws ≡ [] = cc in
    record { end = e; tree = t; joined = same; good = rw et (g_one v); rest = rw ew no_more }
split_one lo t ws (further {c} {p} {mark} {t = t'} {parts} v n q i o) h =
    let et : t ≡ t' = cc in
    let ew : ws ≡ sign mark p ∷ parts = cc in
    record { end = c; tree = t; joined = same; good = rw et (g_one v); rest = rw ew (some_more n q i o) }

module _ (rules : Rules) (ts : List ℕ) (d lo m p : ℕ) (l r : Tree) (z s e : ℕ) (ws : List Part) (small : m < 256) (a : lo ≤ order (tok ts p))
    (right : (s' : ℕ) (vs : List Part) → Operands rules ts d s' e vs → onto r ws ≡ vs → Split rules ts d (suc (order (tok ts p))) r s' e ws)
  where
    split_two : {c : ℕ} {vs : List Part} {l' : Tree} → Joined l l' → Good rules ts d (order (tok ts p)) l' s c → Rest rules ts d c e vs → sign m p ∷ onto r ws ≡ vs
        → Split rules ts d lo (infixed m p l r z) s e ws
    split_two jl gl no_more h = let z : ◌≡◌ {A = ℕ} 0 1 = cc in absurd (omega arith)
    split_two {c} jl gl (some_more {p = p'} {mark} {ws = vs} n q i o) h =
        let em : m ≡ mark = cc in
        let ep : p ≡ p' = cc in
        let er : onto r ws ≡ vs = cc in
        let o' : Operands rules ts d (step ts p) e vs = rw ep o in
        let x = right (step ts p) vs o' er in
        let q' : step ts c ≡ p = cc in
        let i' : infix_of (tok ts p) ≡ suc m = cc in
        record { end = x.end; tree = infixed m p _ x.tree x.end; joined = joint small jl x.joined; good = g_two gl n q' i' a x.good; rest = x.rest }

split : (rules : Rules) (ts : List ℕ) (d lo : ℕ) (t : Tree) (s e : ℕ) (vs ws : List Part) → Joins (Keeps ts) t → Binds ts lo t → Operands rules ts d s e vs → onto t ws ≡ vs
    → Split rules ts d lo t s e ws
split rules ts d lo (node k m p c0 c1 c2 c3 z) s e vs ws j b o q = split_one lo _ ws o q
split rules ts d lo (infixed m p l r z) s e vs ws j b o q =
    go (ltb m 256) refl q
    (λ lt h. split rules ts d (order (tok ts p)) l s e vs (sign m p ∷ onto r ws) (j lt).1 (j lt).0.0 o h)
    (λ lt s' us o' h. split rules ts d (suc (order (tok ts p))) r s' e us ws (j lt).2 (j lt).0.1 o' h)
  where
    go : (t : Bool) → ltb m 256 ≡ t → cond t (onto l (sign m p ∷ onto r ws)) (operand (infixed m p l r z) ∷ ws) ≡ vs
        → (m < 256 → onto l (sign m p ∷ onto r ws) ≡ vs → Split rules ts d (order (tok ts p)) l s e (sign m p ∷ onto r ws))
        → (m < 256 → (s' : ℕ) (us : List Part) → Operands rules ts d s' e us → onto r ws ≡ us → Split rules ts d (suc (order (tok ts p))) r s' e ws)
        → Split rules ts d lo (infixed m p l r z) s e ws
    go true h q left right =
        let lt : m < 256 = ltb-true m 256 h in
        let x = left lt q in
        split_two rules ts d lo m p l r z s e ws lt (b lt) (right lt) x.joined x.good x.rest refl
    go false h q left right = split_one lo (infixed m p l r z) ws o q

binds_any : (ts : List ℕ) (t : Tree) → Binds ts 0 t
binds_any ts (infixed m p l r z) = λ lt. omega arith
binds_any ts (node k m p c0 c1 c2 c3 z) = tt

at_end : {rules : Rules} {ts : List ℕ} {d c e : ℕ} {ws : List Part} → Rest rules ts d c e ws → ws ≡ [] → c ≡ e
at_end no_more h = refl
at_end (some_more n q i o) h = cc

-- The tree of that reading that stands there.
record Standing (rules : Rules) (ts : List ℕ) (d : ℕ) (t : Tree) (s e : ℕ) (ws : List Part) : Type 0 where
  tree : Tree
  joined : Joined t tree
  good : Good rules ts d 1 tree s e
  reads : onto tree [] ≡ ws

onto_joined : {t u : Tree} (ws : List Part) → Joined t u → onto t ws ≡ onto u ws
onto_joined ws same = refl
onto_joined ws (joint {m} {p} {r'} lt hl hr) = rw (lt-ltb m 256 lt, onto_joined ws hr) (onto_joined (sign m p ∷ onto r' ws) hl)

stands : (rules : Rules) (ts : List ℕ) (d : ℕ) (t : Tree) (s e : ℕ) (ws : List Part) → Joins (Keeps ts) t → onto t [] ≡ ws → Operands rules ts d s e ws → Standing rules ts d t s e ws
stands rules ts d t s e ws j q o =
    let x = split rules ts d 0 t s e ws [] j (binds_any ts t) o q in
    record { tree = x.tree; joined = x.joined; good = rw (at_end x.rest refl) at (raise x.good); reads = sym (onto_joined [] x.joined) ∙ q }

-- Trees that are joined in the same way, and whose joints end where they must, are the same.
one_end : {t u : Tree} (at : ℕ) → Joined t u → Ends at t → Ends at u → t ≡ u
one_end at same x y = refl
one_end at (joint {p} lt hl hr) x y =
    let (a, b, c) = x lt in
    let (d, e, f) = y lt in
    rw (one_end (p - 1) hl b e, one_end at hr c f, a, d)

module _ (rules : Rules) (ts : List ℕ) (d s e : ℕ) (parts : List Part) (good : array_good ts ≡ met) (chain : Operands rules ts d s e parts)
    (end : goes_on Zero (tok ts (step ts e)) ≡ false) (deep : 9 + d ≤ nesting)
  where
    onto_reading : (t : Tree) → onto t [] ≡ reading t
    onto_reading t = sym (reading_onto t []) ∙ append-nil (reading t)

    rows_good : (t : Tree) → onto t [] ≡ parts → size t ≡ rows_of parts
    unfolding rows_of
    rows_good t q = let w : rows_of parts ≡ size t + 0 = rw (← q) (rows_onto t []) in omega arith

    reads_good : (t : Tree) → onto t [] ≡ parts → Good rules ts d 1 t s e → (D room left : ℕ) → 9 + d ≤ D → rows_of parts + left ≡ room
        → expression rules ts D Zero s room ≡ read t e left
    reads_good t q g D room left h re =
        let n : size t ≡ rows_of parts = rows_good t q in
        parses rules ts (valid ts good) d D Zero g (omega arith) (omega arith) (omega arith) end room left (omega arith)

    abbrev found : Made rules ts d s e parts
    found = made (valid ts good) chain

    all : (D room left : ℕ) → 9 + d ≤ D → rows_of parts + left ≡ room → expression rules ts D Zero s room ≡ read found.tree e left
    all = reads_good found.tree found.reads found.good

    one_joining : (t : Tree) → reading t ≡ parts → Joins (Keeps ts) t → Joined t found.tree
    one_joining t w j =
        let u = stands rules ts d t s e parts j (onto_reading t ∙ w) chain in
        let x : expression rules ts (9 + d) Zero s (rows_of parts + 0) ≡ read found.tree e 0 = all (9 + d) (rows_of parts + 0) 0 (omega arith) refl in
        let y : expression rules ts (9 + d) Zero s (rows_of parts + 0) ≡ read u.tree e 0 =
        reads_good u.tree u.reads u.good (9 + d) (rows_of parts + 0) 0 (omega arith) refl in
        let z : u.tree ≡ found.tree = cc in
        rw z at u.joined

    grouping : Grouping rules ts (9 + d) s e (rows_of parts) parts
    unfolding one_expression ◌>>◌ ◌>>=◌ need
    grouping =
        let ends = ends_good rules ts (valid ts good) d found.good in
        record {
          tree = found.tree;
          reads = sym (onto_reading found.tree) ∙ found.reads;
          kept = joins_good (valid ts good) found.good;
          only = one_joining;
          ends = ends;
          fixed = λ t w j x. one_end e (one_joining t w j) x ends;
          rows_used = rows_good found.tree found.reads;
          accepted = λ room left re. rw (good, lt-ltb s (length ts) (good_placed rules ts (valid ts good) d found.good).start, all nesting room left deep re);
          shallow = all;
        }

pub operands : GroupsOperands
operands = grouping
