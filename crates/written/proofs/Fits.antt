-- The trees that the parser gives fit: a walk along the readers that keeps this of all that was read.
use Prim.Native.Nat.{ℕ, zero, suc, ◌+◌, ◌-◌, ◌/◌, ◌%◌, ◌≤◌, ◌<◌}
use native.Mathlib.Omega.{arith}
use mathlib.Core.Path.{◌≡◌, refl, sym, ◌∙◌}
use mathlib.Core.Bool.{Bool, true, false, cond, not, ◌&&◌, ◌||◌, and-eq-true_iff}
use mathlib.Core.List.{List, [], ◌∷◌}
use mathlib.Core.Logic.{◌⊎◌, inl, inr}
use lib.Dec.{eqb, ltb, leb}
use lib.ListN.{get_or}
use borrow.Author.Tests.{ltb-true, leb-true, eqb-true, lt-ltb, le-leb}
use Rattle.grammar.specs.Words.{EOF, SImpl, SDot, Zero, tok, step, next_is, infix_of}
use Rattle.grammar.specs.Tree.{Tree, infixed, node, Trees, nil, ◌▸◌, join, leaf, ended, flag, flagged, Thread, Async, Grouped, is_call}
use Rattle.grammar.specs.Tree as tree
use Rattle.grammar.specs.Parsed.{Parsed, Reader, ◌>>=◌, build, Arm, match, turns}
use Rattle.grammar.specs.Parsed.{BreakWithoutSemicolon, ContinueWithoutSemicolon}
use Rattle.grammar.specs.Rules.{Rules}
use Rattle.grammar.specs.Expressions as e
use Rattle.grammar.specs.Statements as s
use Rattle.grammar.specs.Script.{nesting, one_expression, one_statement, whole_script}
use Rattle.slots.specs.Slots.{Takes, expressions, statements, blocks, pairs, names, plain-identifier, any-root, no, one, at_most_one, any, some, Slot, Kind, ◌of◌}
use Rattle.slots.specs.Slots.{of_expressions, of_statements, kind_of, slot, is_expression, is_statement, takes, counts, marked, how_many, fits, all_fit}
use Rattle.written.specs.Claims.{InSlot, ParserFits, ParserRoots}
use Rattle.written.proofs.Shapes.{never, or_true, Fit, AllFit, fit_head, fit_tail}
use Rattle.written.proofs.Signs.{infix_low}
use Rattle.written.proofs.Accepts.{Fact, Gives, gives_then, gives_map, gives_refused, gives_need, gives_check, gives_choose, gives_build, Arms, end, ◌▹◌}

-- What is low in all of a list is so at any place.
unfoldable all_low : {A : Type 0} → (A → ℕ) → ℕ → List A → Bool
all_low f n [] = true
all_low f n (x ∷ xs) = ltb (f x) n && all_low f n xs

low_at : {A : Type 0} (f : A → ℕ) (n : ℕ) (xs : List A) (i : ℕ) (u : A) → f u < n → all_low f n xs ≡ true → f (get_or xs i u) < n
unfolding all_low
low_at f n [] i u h e = h
low_at f n (x ∷ xs) zero u h e = ltb-true (f x) n ((and-eq-true_iff (ltb (f x) n) (all_low f n xs)).0 e).0
low_at f n (x ∷ xs) (suc i) u h e = low_at f n xs i u h ((and-eq-true_iff (ltb (f x) n) (all_low f n xs)).0 e).1

marks_low : (k : ℕ) → (kind_of k).marks < 24
unfolding kind_of of_expressions of_statements all_low
marks_low k = go (ltb k 32)
  where
    go : (c : Bool) → (cond c (get_or of_expressions k (record { marks = 0; slots = [] })) (get_or of_statements (k - 32) (record { marks = 0; slots = [] }))).marks < 24
    go true = low_at {A = Kind} (λ x. x.marks) 24 of_expressions k (record { marks = 0; slots = [] }) (omega arith) refl
    go false = low_at {A = Kind} (λ x. x.marks) 24 of_statements (k - 32) (record { marks = 0; slots = [] }) (omega arith) refl

or_right : (a b : Bool) → b ≡ true → a || b ≡ true
or_right true b h = refl
or_right false b h = h

-- A mark with no flag of brackets, and one with it.
bare : (k m : ℕ) → m < (kind_of k).marks → marked k m ≡ true
unfolding marked
bare k m h = rw (lt-ltb m (kind_of k).marks h)

in_brackets : (k m : ℕ) → is_expression k ≡ true → 256 ≤ m → m < 256 + (kind_of k).marks → marked k m ≡ true
unfolding marked
in_brackets k m x l h = or_right (ltb m (kind_of k).marks) (is_expression k && leb Grouped m && ltb m (Grouped + (kind_of k).marks)) (rw (x, le-leb 256 m l, lt-ltb m (256 + (kind_of k).marks) h))

-- What a mark is.
marks : (k m : ℕ) → marked k m ≡ true → (m < (kind_of k).marks) ⊎ ((256 ≤ m) × (m < 256 + (kind_of k).marks))
unfolding marked
marks k m h = go (or_true (ltb m (kind_of k).marks) (is_expression k && leb Grouped m && ltb m (Grouped + (kind_of k).marks)) h)
  where
    go : (ltb m (kind_of k).marks ≡ true) ⊎ (is_expression k && leb Grouped m && ltb m (Grouped + (kind_of k).marks) ≡ true) → (m < (kind_of k).marks) ⊎ ((256 ≤ m) × (m < 256 + (kind_of k).marks))
    go (inl q) = inl (ltb-true m (kind_of k).marks q)
    go (inr q) =
        let (x, y) = (and-eq-true_iff (is_expression k && leb Grouped m) (ltb m (Grouped + (kind_of k).marks))).0 q in
        let (u, v) = (and-eq-true_iff (is_expression k) (leb Grouped m)).0 x in
        inr (leb-true Grouped m v, ltb-true m (Grouped + (kind_of k).marks) y)

set : (f m : ℕ) → m / f % 2 ≡ 0 → flag f m ≡ m + f
unfolding flag
set f m e = rw e

already : (f m : ℕ) → m / f % 2 ≡ 1 → flag f m ≡ m
unfolding flag
already f m e = rw e

grouped_mark : (k m : ℕ) → is_expression k ≡ true → marked k m ≡ true → marked k (flag Grouped m) ≡ true
grouped_mark k m x h = go (marks k m h)
  where
    go : (m < (kind_of k).marks) ⊎ ((256 ≤ m) × (m < 256 + (kind_of k).marks)) → marked k (flag Grouped m) ≡ true
    go (inl l) =
        let lo = marks_low k in
        let z : m / 256 % 2 ≡ 0 = omega arith in
        rw (set 256 m z) (in_brackets k (m + 256) x (omega arith) (omega arith))
    go (inr l) =
        let lo = marks_low k in
        let z : m / 256 % 2 ≡ 1 = omega (arith, l.0, l.1) in
        rw (already 256 m z) h

-- A call's flags.
abbrev Start : ℕ → Type 0
Start f = (m : ℕ) → m < 4 → flag f m < 4 × flag f (256 + m) < 260 × 256 ≤ flag f (256 + m)

thread_marks : Start Thread
unfolding flag
thread_marks zero h = (omega arith, omega arith, omega arith)
thread_marks (suc zero) h = (omega arith, omega arith, omega arith)
thread_marks (suc (suc zero)) h = (omega arith, omega arith, omega arith)
thread_marks (suc (suc (suc zero))) h = (omega arith, omega arith, omega arith)
thread_marks (suc (suc (suc (suc m)))) h = absurd (omega arith)

async_marks : Start Async
unfolding flag
async_marks zero h = (omega arith, omega arith, omega arith)
async_marks (suc zero) h = (omega arith, omega arith, omega arith)
async_marks (suc (suc zero)) h = (omega arith, omega arith, omega arith)
async_marks (suc (suc (suc zero))) h = (omega arith, omega arith, omega arith)
async_marks (suc (suc (suc (suc m)))) h = absurd (omega arith)

started_mark : (f m : ℕ) → Start f → marked 11 m ≡ true → marked 11 (flag f m) ≡ true
unfolding kind_of of_expressions is_expression
started_mark f m s h = go (marks 11 m h)
  where
    go : (m < 4) ⊎ ((256 ≤ m) × (m < 260)) → marked 11 (flag f m) ≡ true
    go (inl l) = bare 11 (flag f m) (s m l).0
    go (inr l) =
        let e : 256 + (m - 256) ≡ m = omega (arith, l.0) in
        let q = s (m - 256) (omega (arith, l.0, l.1)) in
        in_brackets 11 (flag f m) refl (rw e at q.2) (rw e at q.1)

-- A row of which all is known fits.
node_fits : (s : Takes) (k m p : ℕ) (x y z w : Trees) (n : ℕ) → takes s k m ≡ true → not (eqb k 12) ≡ true → marked k m ≡ true
    → counts (slot k 0).many (how_many x) ≡ true → all_fit (slot k 0).kinds x ≡ true → counts (slot k 1).many (how_many y) ≡ true → all_fit (slot k 1).kinds y ≡ true
    → counts (slot k 2).many (how_many z) ≡ true → all_fit (slot k 2).kinds z ≡ true → counts (slot k 3).many (how_many w) ≡ true → all_fit (slot k 3).kinds w ≡ true
    → fits s (node k m p x y z w n) ≡ true
unfolding fits
node_fits s k m p x y z w n a b c d e f g h i j l = rw (a, b, c, d, e, f, g, h, i, j, l)

-- A row with another mark, in a slot that takes it.
refit : (s s' : Takes) (k m m' p : ℕ) (x y z w : Trees) (n : ℕ) → fits s (node k m p x y z w n) ≡ true → (takes s k m ≡ true → takes s' k m' ≡ true)
    → (takes s k m ≡ true → marked k m ≡ true → marked k m' ≡ true) → fits s' (node k m' p x y z w n) ≡ true
unfolding fits
refit s s' k m m' p x y z w n h tk mk =
    let (e, f3) = (and-eq-true_iff _ (all_fit (slot k 3).kinds w)).0 h in
    let (e, c3) = (and-eq-true_iff _ (counts (slot k 3).many (how_many w))).0 e in
    let (e, f2) = (and-eq-true_iff _ (all_fit (slot k 2).kinds z)).0 e in
    let (e, c2) = (and-eq-true_iff _ (counts (slot k 2).many (how_many z))).0 e in
    let (e, f1) = (and-eq-true_iff _ (all_fit (slot k 1).kinds y)).0 e in
    let (e, c1) = (and-eq-true_iff _ (counts (slot k 1).many (how_many y))).0 e in
    let (e, f0) = (and-eq-true_iff _ (all_fit (slot k 0).kinds x)).0 e in
    let (e, c0) = (and-eq-true_iff _ (counts (slot k 0).many (how_many x))).0 e in
    let (e, mark) = (and-eq-true_iff _ (marked k m)).0 e in
    let (taken, other) = (and-eq-true_iff (takes s k m) (not (eqb k 12))).0 e in
    node_fits s' k m' p x y z w n (tk taken) other (mk taken mark) c0 f0 c1 f1 c2 f2 c3 f3

infix_fits : (s : Takes) (m p : ℕ) (l r : Tree) (n : ℕ) → takes s 12 m ≡ true → marked 12 m ≡ true → fits expressions l ≡ true → fits expressions r ≡ true
    → fits s (infixed m p l r n) ≡ true
unfolding fits
infix_fits s m p l r n a b c d = rw (a, b, c, d)

refit_infix : (s s' : Takes) (m m' p : ℕ) (l r : Tree) (n : ℕ) → fits s (infixed m p l r n) ≡ true → (takes s 12 m ≡ true → takes s' 12 m' ≡ true)
    → (marked 12 m ≡ true → marked 12 m' ≡ true) → fits s' (infixed m' p l r n) ≡ true
unfolding fits
refit_infix s s' m m' p l r n h tk mk =
    let (e, d) = (and-eq-true_iff (takes s 12 m && marked 12 m && fits expressions l) (fits expressions r)).0 h in
    let (e, c) = (and-eq-true_iff (takes s 12 m && marked 12 m) (fits expressions l)).0 e in
    let (a, b) = (and-eq-true_iff (takes s 12 m) (marked 12 m)).0 e in
    infix_fits s' m' p l r n (tk a) (mk b) c d

-- What fits in a slot of one kind fits as a root.
root : (s : Takes) → ((k m : ℕ) → takes s k m ≡ true → takes any-root k m ≡ true) → (t : Tree) → fits s t ≡ true → fits any-root t ≡ true
root s h (infixed m p l r n) f = refit_infix s any-root m m p l r n f (h 12 m) (λ q. q)
root s h (node k m p x y z w n) f = refit s any-root k m m p x y z w n f (h k m) (λ u q. q)

roots : (s : Takes) → ((k m : ℕ) → takes s k m ≡ true → takes any-root k m ≡ true) → (us : Trees) → all_fit s us ≡ true → all_fit any-root us ≡ true
unfolding all_fit
roots s h nil f = refl
roots s h (t ▸ us) f = let (a, b) = (and-eq-true_iff (fits s t) (all_fit s us)).0 f in rw (root s h t a, roots s h us b)

expression_root : (k m : ℕ) → takes expressions k m ≡ true → takes any-root k m ≡ true
unfolding takes
expression_root k m h = rw h

statement_root : (k m : ℕ) → takes statements k m ≡ true → takes any-root k m ≡ true
unfolding takes
statement_root k m h = go (is_expression k)
  where
    go : (c : Bool) → c || is_statement k || eqb k 46 ≡ true
    go true = refl
    go false = rw h

block_root : (k m : ℕ) → takes blocks k m ≡ true → takes any-root k m ≡ true
unfolding takes
block_root k m h = or_right (is_expression k || is_statement k) (eqb k 46) h

group_infix : (m p : ℕ) (l r : Tree) (n : ℕ) → fits expressions (infixed m p l r n) ≡ true → fits expressions (flagged Grouped (infixed m p l r n)) ≡ true
unfolding flagged takes is_expression
group_infix m p l r n f = refit_infix expressions expressions m (flag Grouped m) p l r n f (λ q. refl) (grouped_mark 12 m refl)

group_node : (k m p : ℕ) (x y z w : Trees) (n : ℕ) → fits expressions (node k m p x y z w n) ≡ true → fits expressions (flagged Grouped (node k m p x y z w n)) ≡ true
unfolding flagged takes
group_node k m p x y z w n f = refit expressions expressions k m (flag Grouped m) p x y z w n f (λ q. q) (λ q. grouped_mark k m q)

start_fits : (f : ℕ) (t : Tree) → Start f → is_call t ≡ true → fits expressions t ≡ true → fits expressions (flagged f t) ≡ true
unfolding flagged takes is_call
start_fits f (infixed m p l r n) s c h = never c
start_fits f (node k m p x y z w n) s c h =
    let e : k ≡ 11 = eqb-true k 11 c in
    refit expressions expressions k m (flag f m) p x y z w n h (λ q. q) (λ q u. go k e u)
  where
    go : (k : ℕ) → k ≡ 11 → marked k m ≡ true → marked k (flag f m) ≡ true
    go k e u = let v : marked 11 m ≡ true = rw e at u in rw e (started_mark f m s v)

-- What was read of one tree, of a list, and of a slot.
abbrev TreeOk : Takes → Fact Tree
TreeOk s t at = Fit s t

record In (s : Slot) (us : Trees) : Type 0 where
  count : counts s.many (how_many us) ≡ true
  every : AllFit s.kinds us

abbrev SlotOk : Slot → Fact Trees
SlotOk s us at = In s us

no_one : {s : Takes} → AllFit s nil
unfolding all_fit
no_one = record { fit = refl }

alone : {s : Takes} {t : Tree} → Fit s t → AllFit s (t ▸ nil)
unfolding all_fit
alone h = record { fit = rw h.fit }

in_none : In (no of names) nil
unfolding counts
in_none = record { count = refl; every = no_one }

in_one : {s : Takes} {t : Tree} → Fit s t → In (one of s) (t ▸ nil)
unfolding counts
in_one h = record { count = refl; every = alone h }

in_any : {s : Takes} {us : Trees} → AllFit s us → In (any of s) us
unfolding counts
in_any h = record { count = refl; every = h }

in_absent : {s : Takes} → In (at_most_one of s) nil
unfolding counts
in_absent = record { count = refl; every = no_one }

in_present : {s : Takes} {t : Tree} → Fit s t → In (at_most_one of s) (t ▸ nil)
unfolding counts
in_present h = record { count = refl; every = alone h }

in_some : {s : Takes} {us : Trees} → AllFit s us → 0 < how_many us → In (some of s) us
unfolding counts
in_some {s} {us} h l = record { count = lt-ltb 0 (how_many us) l; every = h }

joined : {s : Takes} (us vs : Trees) → AllFit s us → AllFit s vs → AllFit s (join us vs)
unfolding join all_fit
joined nil vs h k = k
joined (t ▸ us) vs h k = record { fit = rw ((fit_head h).fit, (joined us vs (fit_tail h) k).fit) }

some_joined : (us : Trees) (t : Tree) → 0 < how_many (join us (t ▸ nil))
unfolding join
some_joined nil t = omega arith
some_joined (u ▸ us) t = omega arith

made : (s : Takes) (k m p : ℕ) (x y z w : Trees) (n : ℕ) → takes s k m ≡ true → not (eqb k 12) ≡ true → marked k m ≡ true
    → In (slot k 0) x → In (slot k 1) y → In (slot k 2) z → In (slot k 3) w → Fit s (node k m p x y z w n)
made s k m p x y z w n tk ot mk i0 i1 i2 i3 =
    record { fit = node_fits s k m p x y z w n tk ot mk i0.count i0.every.fit i1.count i1.every.fit i2.count i2.every.fit i3.count i3.every.fit }

-- The rule for a reader that ends in a row.
row_of : (s : Takes) (k m p at room : ℕ) (x y z w : Trees) → takes s k m ≡ true → not (eqb k 12) ≡ true → marked k m ≡ true
    → In (slot k 0) x → In (slot k 1) y → In (slot k 2) z → In (slot k 3) w → Gives (TreeOk s) (build (node k m p x y z w 0) at room)
row_of s k m p at room x y z w tk ot mk i0 i1 i2 i3 = gives_build (TreeOk s) (node k m p x y z w 0) at room (made s k m p x y z w at tk ot mk i0 i1 i2 i3)

-- A tree in brackets, and a call that is started.
group_ok : (t : Tree) → Fit expressions t → Fit expressions (flagged Grouped t)
group_ok (infixed m p l r n) h = record { fit = group_infix m p l r n h.fit }
group_ok (node k m p x y z w n) h = record { fit = group_node k m p x y z w n h.fit }

infix_ok : (m p : ℕ) (l r : Tree) (n : ℕ) → m < 23 → Fit expressions l → Fit expressions r → Fit expressions (infixed m p l r n)
unfolding takes is_expression kind_of of_expressions
infix_ok m p l r n h x y = record { fit = infix_fits expressions m p l r n refl (bare 12 m h) x.fit y.fit }

-- A reader of one tree.
abbrev Reads : Takes → Reader Tree → Type 0
Reads s f = (at room : ℕ) → Gives (TreeOk s) (f at room)

match_reads : (s : Takes) {arms : List (Arm Tree)} (w : ℕ) (other : Reader Tree) → Arms (Reads s) arms → Reads s other → Reads s (match w arms other)
unfolding match
match_reads s w other end h at room = h at room
match_reads s w other (r ▹ rs) h at room = gives_choose _ _ _ _ (λ q. r at room) (λ q. match_reads s w other rs h at room)

leaf_reads : (s : Takes) (k m : ℕ) → ((p : ℕ) → fits s (leaf k m p) ≡ true) → Reads s (λ at. build (leaf k m at) at)
unfolding fits
leaf_reads s k m h at room = gives_build (TreeOk s) (leaf k m at) at room (record { fit = h at })

module _ (rules : Rules) (ts : List ℕ) where
  identified : (made : ℕ → Tree) (at room : ℕ) → Gives (λ t c. t ≡ ended at (made at)) (e.get_identifier ts made at room)
  unfolding e.get_identifier
  identified made at room = gives_need _ _ _ _ _ (λ q. gives_build _ (made at) at room refl)

  a_name : (p : ℕ) → Fit names (ended p (tree.name p))
  unfolding fits all_fit takes counts marked kind_of of_expressions slot
  a_name p = record { fit = refl }

  an_identifier : (p : ℕ) → Fit expressions (ended p (tree.identifier p))
  unfolding fits all_fit takes counts marked kind_of of_expressions slot is_expression
  an_identifier p = record { fit = refl }

  plain_identified : (p : ℕ) → Fit plain-identifier (ended p (tree.identifier p))
  unfolding fits all_fit takes counts marked kind_of of_expressions slot
  plain_identified p = record { fit = refl }

  dots_fit : (i : ℕ) (us : Trees) (at room : ℕ) → AllFit names us → (0 < how_many us) ⊎ (next_is ts at SDot ≡ true) → Gives (SlotOk (some of names)) (e.dots ts i us at room)
  unfolding e.dots
  dots_fit zero us at room h k = tt
  dots_fit (suc i) us at room h k = gives_choose _ _ _ _
      (λ q. gives_then _ _ _ _ (identified tree.name (step ts (step ts at)) room) (λ t c m z.
      dots_fit i (join us (t ▸ nil)) c m (joined us (t ▸ nil) h (alone (rw z (a_name (step ts (step ts at)))))) (inl (some_joined us t))))
      (λ q. in_some h (go k q))
    where
      go : (0 < how_many us) ⊎ (next_is ts at SDot ≡ true) → next_is ts at SDot ≡ false → 0 < how_many us
      go (inl l) q = l
      go (inr l) q = never (sym q ∙ l)

  dot_reads : Reads expressions (e.dot_expression ts)
  unfolding e.dot_expression takes marked kind_of of_expressions slot is_expression
  dot_reads at room = gives_then _ _ _ _ (identified tree.identifier at room) (λ t c m z. gives_choose _ _ _ _
      (λ q. gives_then _ _ _ _ (dots_fit turns nil c m no_one (inr q)) (λ us c m h. row_of expressions 17 0 at c m (t ▸ nil) us nil nil refl refl refl
      (in_one (rw z (plain_identified at))) h in_none in_none))
      (λ q. rw z (an_identifier at)))

  no_prefix_reads : Reads expressions (e.no_prefix ts)
  unfolding e.no_prefix
  no_prefix_reads at room = search (gives_choose, gives_refused)

  module _ (rec : e.Rec) (ih : (pre : ℕ) → Reads expressions (rec pre)) where
    rec_then : {A : Type 0} (R : Fact A) (pre at room : ℕ) (f : Tree × ℕ × ℕ → Parsed A) → ((t : Tree) (c m : ℕ) → Fit expressions t → Gives R (f (t, c, m)))
        → Gives R (rec pre at room >>= f)
    rec_then R pre at room f h = gives_then _ R _ f (ih pre at room) h

    entries_fit : (s : Takes) (entry : Reader Tree) → Reads s entry → (i : ℕ) (us : Trees) (at room : ℕ) → AllFit s us → 0 < how_many us
        → Gives (λ all c. AllFit s all × 0 < how_many all) (e.entries rules ts rec entry i us at room)
    unfolding e.entries
    entries_fit s entry r zero us at room h l = tt
    entries_fit s entry r (suc i) us at room h l = gives_choose _ _ _ _
        (λ q. gives_then _ _ _ _ (r (step ts (step ts at)) room) (λ t c m z. entries_fit s entry r i (join us (t ▸ nil)) c m (joined us (t ▸ nil) h (alone z)) (some_joined us t)))
        (λ q. (h, l))

    -- A list is empty only where nothing was read.
    list_fit : (at room : ℕ) → Gives (λ us c. AllFit expressions us × ((0 < how_many us) ⊎ (c ≡ at))) (e.list_expr rules ts rec at room)
    unfolding e.list_expr
    list_fit at room = gives_choose _ _ _ _ (λ q. (no_one, inr refl)) (λ q. rec_then _ Zero (step ts at) room _ (λ t c m z.
        gives_map _ _ (e.entries rules ts rec (rec Zero) turns (t ▸ nil) c m) (entries_fit expressions (rec Zero) (ih Zero) turns (t ▸ nil) c m (alone z) (omega arith)) (λ us c w. (w.0, inl w.1))))

    list_then : {A : Type 0} (R : Fact A) (at room : ℕ) (f : Trees × ℕ × ℕ → Parsed A) → ((us : Trees) (c m : ℕ) → AllFit expressions us → Gives R (f (us, c, m)))
        → Gives R (e.list_expr rules ts rec at room >>= f)
    list_then R at room f h = gives_then _ R _ f (list_fit at room) (λ us c m q. h us c m q.0)

    ruleset parts = (gives_need, gives_choose, gives_refused, row_of, rec_then, list_then, in_none, in_one, in_any, in_absent, in_present, no_one)

    pair_reads : Reads pairs (e.pair rules ts rec)
    unfolding e.pair takes marked kind_of of_expressions slot
    pair_reads at room = search parts depth 9

    hash_reads : Reads expressions (e.hash_literal rules ts rec)
    unfolding e.hash_literal takes marked kind_of of_expressions slot is_expression
    hash_reads at room = gives_choose _ _ _ _ (λ q. search parts depth 9) (λ q. gives_then _ _ _ _ (pair_reads (step ts at) room) (λ t c m z.
        gives_then _ _ _ _ (entries_fit pairs (e.pair rules ts rec) pair_reads turns (t ▸ nil) c m (alone z) (omega arith)) (λ us c m w. let w0 = w.0 in search parts depth 9)))

    array_reads : Reads expressions (e.array rules ts rec)
    unfolding e.array takes marked kind_of of_expressions slot is_expression
    array_reads at room = search parts depth 9

    started_reads : (f : ℕ) → Start f → Reads expressions (e.started rules ts rec f)
    unfolding e.started
    started_reads f s at room = rec_then _ Zero (step ts at) room _ (λ t c m z. gives_need _ _ _ _ _ (λ q. record { fit = start_fits f t s q z.fit }))

    prefix_reads : (mark : ℕ) → mark < 4 → Reads expressions (e.prefix rules ts rec mark)
    unfolding e.prefix takes kind_of of_expressions slot is_expression
    prefix_reads mark l at room = let mk : marked 13 mark ≡ true = bare 13 mark l in search parts depth 9

    suffix_reads : (left : Tree) → Fit expressions left → (mark : ℕ) → mark < 2 → Reads expressions (e.suffix_expression rules ts rec left mark)
    unfolding e.suffix_expression takes kind_of of_expressions slot is_expression
    suffix_reads left h mark l at room = let mk : marked 14 mark ≡ true = bare 14 mark l in search parts depth 9

    shell_reads : Reads expressions (e.shell rules ts rec)
    unfolding e.shell e.command takes marked kind_of of_expressions slot is_expression
    shell_reads at room = search parts depth 9

    infix_reads : (left : Tree) → Fit expressions left → Reads expressions (e.infix_expression rules ts rec left)
    unfolding e.infix_expression
    infix_reads left h at room = rec_then _ _ _ _ _ (λ t c m z.
        gives_build (TreeOk expressions) _ c m (infix_ok (infix_of (tok ts at) - 1) at left t c (infix_low (tok ts at)) h z))

    lambda_reads : Reads expressions (e.lambda rules ts rec)
    unfolding e.lambda takes marked kind_of of_expressions slot is_expression
    lambda_reads at room = gives_need _ _ _ _ _ (λ q. gives_need _ _ _ _ _ (λ q₁. gives_then _ _ _ _ (list_fit at room) (λ us c m h.
        gives_need _ _ _ _ _ (λ q₂. rec_then _ Zero _ _ _ (λ t c₂ m₂ z.
        row_of expressions 15 0 at c₂ m₂ us (t ▸ nil) nil nil refl refl refl (in_some h.0 (go us c q₁ q₂ h.1)) (in_one z) in_none in_none)))))
      where
        both : (x : Bool) → not x ≡ true → x ≡ true → false ≡ true
        both true u v = u
        both false u v = v

        go : (us : Trees) (c : ℕ) → not (next_is ts at SImpl) ≡ true → next_is ts c SImpl ≡ true → (0 < how_many us) ⊎ (c ≡ at) → 0 < how_many us
        go us c u v (inl l) = l
        go us c u v (inr r) = never (both (next_is ts at SImpl) u (rw r at v))

    sub_reads : Reads expressions (e.sub_expression rules ts rec)
    unfolding e.sub_expression
    sub_reads at room = gives_need _ _ _ _ _ (λ q. rec_then _ Zero _ _ _ (λ t c m z. gives_need _ _ _ _ _ (λ q₁. group_ok t z)))

    prefix_part_reads : Reads expressions (e.prefix_part rules ts rec)
    unfolding e.prefix_part fits all_fit takes counts marked kind_of of_expressions slot is_expression
    prefix_part_reads at room = match_reads expressions (tok ts at) (e.no_prefix ts)
        (dot_reads ▹ leaf_reads expressions 3 0 (λ p. refl) ▹ leaf_reads expressions 4 0 (λ p. refl) ▹ leaf_reads expressions 5 0 (λ p. refl)
        ▹ leaf_reads expressions 6 0 (λ p. refl) ▹ leaf_reads expressions 7 1 (λ p. refl) ▹ leaf_reads expressions 7 0 (λ p. refl) ▹ lambda_reads
        ▹ leaf_reads expressions 1 0 (λ p. refl) ▹ started_reads Thread thread_marks ▹ started_reads Async async_marks ▹ array_reads ▹ hash_reads
        ▹ prefix_reads 0 (omega arith) ▹ prefix_reads 1 (omega arith) ▹ prefix_reads 2 (omega arith) ▹ prefix_reads 3 (omega arith) ▹ sub_reads ▹ shell_reads ▹ end)
        no_prefix_reads at room

    call_reads : (left : Tree) → Fit expressions left → Reads expressions (e.call rules ts rec left)
    unfolding e.call takes marked kind_of of_expressions slot is_expression
    call_reads left h at room = search parts depth 9

    index_reads : (left : Tree) → Fit expressions left → Reads expressions (e.index rules ts rec left)
    unfolding e.index takes marked kind_of of_expressions slot is_expression
    index_reads left h at room = search parts depth 9

    operation_reads : (left : Tree) → Fit expressions left → Reads expressions (e.operation rules ts rec left)
    unfolding e.operation
    operation_reads left h at room = match_reads expressions (tok ts at) (e.infix_expression rules ts rec left)
        (suffix_reads left h 0 (omega arith) ▹ suffix_reads left h 1 (omega arith) ▹ call_reads left h ▹ index_reads left h ▹ end) (infix_reads left h) at room

    climb_reads : (pre i : ℕ) (left : Tree) → Fit expressions left → Reads expressions (e.climb rules ts rec pre i left)
    unfolding e.climb
    climb_reads pre zero left h at room = tt
    climb_reads pre (suc i) left h at room = gives_choose _ _ _ _ (λ q. gives_then _ _ _ _ (operation_reads left h (step ts at) room) (λ t c m z. climb_reads pre i t z c m)) (λ q. h)

    level_reads : (pre : ℕ) → Reads expressions (e.level rules ts rec pre)
    unfolding e.level
    level_reads pre at room = gives_then _ _ _ _ (prefix_part_reads at room) (λ t c m z. gives_choose _ _ _ _ (λ q. z) (λ q. climb_reads pre turns t z c m))

expression_reads : (rules : Rules) (ts : List ℕ) (d pre : ℕ) → Reads expressions (e.expression rules ts d pre)
unfolding e.expression
expression_reads rules ts zero pre at room = tt
expression_reads rules ts (suc d) pre at room = level_reads rules ts (e.expression rules ts d) (expression_reads rules ts d) pre at room

module _ (rules : Rules) (ts : List ℕ) (expr : e.Rec) (ih : (pre : ℕ) → Reads expressions (expr pre)) (stmt : Reader Trees)
    (is : (at room : ℕ) → Gives (SlotOk (at_most_one of statements)) (stmt at room))
  where
    expr_then : {A : Type 0} (R : Fact A) (pre at room : ℕ) (f : Tree × ℕ × ℕ → Parsed A) → ((t : Tree) (c m : ℕ) → Fit expressions t → Gives R (f (t, c, m)))
        → Gives R (expr pre at room >>= f)
    expr_then R pre at room f h = gives_then _ R _ f (ih pre at room) h

    exprs_then : {A : Type 0} (R : Fact A) (at room : ℕ) (f : Trees × ℕ × ℕ → Parsed A) → ((us : Trees) (c m : ℕ) → AllFit expressions us → Gives R (f (us, c, m)))
        → Gives R (e.list_expr rules ts expr at room >>= f)
    exprs_then R at room f h = list_then rules ts expr ih R at room f h

    statements_fit : (close i : ℕ) (us : Trees) (at room : ℕ) → AllFit statements us → Gives (λ all c. AllFit statements all) (s.statements rules ts expr stmt close i us at room)
    unfolding s.statements
    statements_fit close zero us at room h = tt
    statements_fit close (suc i) us at room h = gives_choose _ _ _ _ (λ q. h) (λ q. gives_choose _ _ _ _ (λ q₁. statements_fit close i us (step ts at) room h)
        (λ q₁. gives_then _ _ _ _ (is at room) (λ vs c m z. statements_fit close i (join us vs) (step ts c) m (joined us vs h z.every))))

    block_reads : Reads blocks (s.block rules ts expr stmt)
    unfolding s.block s.opened takes marked kind_of of_statements slot
    block_reads at room = gives_choose _ _ _ _ (λ q. row_of blocks 46 0 _ _ room nil nil nil nil refl refl refl (in_any no_one) in_none in_none in_none)
        (λ q. gives_then _ _ _ _ (is _ room) (λ us c m z. gives_then _ _ _ _ (statements_fit _ turns us (step ts c) m z.every)
        (λ all c m w. row_of blocks 46 0 _ c m all nil nil nil refl refl refl (in_any w) in_none in_none in_none)))

    block_then : {A : Type 0} (R : Fact A) (at room : ℕ) (f : Tree × ℕ × ℕ → Parsed A) → ((t : Tree) (c m : ℕ) → Fit blocks t → Gives R (f (t, c, m)))
        → Gives R (s.block rules ts expr stmt at room >>= f)
    block_then R at room f h = gives_then _ R _ f (block_reads at room) h

    else_fit : (at room : ℕ) → Gives (SlotOk (at_most_one of blocks)) (s.else rules ts expr stmt at room)
    unfolding s.else
    else_fit at room = gives_choose _ _ _ _ (λ q. gives_need _ _ _ _ _ (λ q₁. block_then _ _ room _ (λ t c m z. in_present z))) (λ q. in_absent)

    else_then : {A : Type 0} (R : Fact A) (at room : ℕ) (f : Trees × ℕ × ℕ → Parsed A) → ((us : Trees) (c m : ℕ) → In (at_most_one of blocks) us → Gives R (f (us, c, m)))
        → Gives R (s.else rules ts expr stmt at room >>= f)
    else_then R at room f h = gives_then _ R _ f (else_fit at room) h

    finally_fit : (at room : ℕ) → Gives (SlotOk (at_most_one of blocks)) (s.finally rules ts expr stmt at room)
    unfolding s.finally
    finally_fit at room = gives_choose _ _ _ _ (λ q. gives_need _ _ _ _ _ (λ q₁. block_then _ _ room _ (λ t c m z. in_present z))) (λ q. in_absent)

    finally_then : {A : Type 0} (R : Fact A) (at room : ℕ) (f : Trees × ℕ × ℕ → Parsed A)
        → ((us : Trees) (c m : ℕ) → In (at_most_one of blocks) us → Gives R (f (us, c, m))) → Gives R (s.finally rules ts expr stmt at room >>= f)
    finally_then R at room f h = gives_then _ R _ f (finally_fit at room) h

    ruleset bodies = (gives_need, gives_choose, gives_refused, row_of, expr_then, exprs_then, block_then, else_then, finally_then, in_none, in_one, in_any, in_absent, in_present, no_one)

    assert_reads : Reads statements (s.assert rules ts expr stmt)
    unfolding s.assert takes marked kind_of of_statements slot is_statement
    assert_reads at room = search bodies depth 15

    var_reads : Reads statements (s.var rules ts expr stmt)
    unfolding s.var s.value takes marked kind_of of_statements slot is_statement
    var_reads at room = search bodies depth 15

    const_reads : Reads statements (s.const rules ts expr stmt)
    unfolding s.const s.value takes marked kind_of of_statements slot is_statement
    const_reads at room = search bodies depth 15

    return_reads : Reads statements (s.return rules ts expr stmt)
    unfolding s.return takes marked kind_of of_statements slot is_statement
    return_reads at room = search bodies depth 15

    throw_reads : Reads statements (s.throw rules ts expr stmt)
    unfolding s.throw takes marked kind_of of_statements slot is_statement
    throw_reads at room = search bodies depth 15

    expression_statement_reads : Reads statements (s.expression_statement rules ts expr stmt)
    unfolding s.expression_statement takes marked kind_of of_statements slot is_statement
    expression_statement_reads at room = search bodies depth 15

    alone_reads : (k number : ℕ) → ((p : ℕ) → fits statements (leaf k 0 p) ≡ true) → Reads statements (s.alone rules ts expr stmt (leaf k 0) number)
    unfolding s.alone fits
    alone_reads k number h at room = gives_need _ _ _ _ _ (λ q. gives_build (TreeOk statements) (leaf k 0 at) _ room (record { fit = h at }))

    function_reads : Reads statements (s.function rules ts expr stmt)
    unfolding s.function takes marked kind_of of_statements slot is_statement
    function_reads at room = search bodies depth 15

    if_reads : Reads statements (s.if rules ts expr stmt)
    unfolding s.if takes marked kind_of of_statements slot is_statement
    if_reads at room = search bodies depth 15

    while_reads : Reads statements (s.while rules ts expr stmt)
    unfolding s.while takes marked kind_of of_statements slot is_statement
    while_reads at room = search bodies depth 15

    foreach_reads : Reads statements (s.foreach rules ts expr stmt)
    unfolding s.foreach takes marked kind_of of_statements slot is_statement
    foreach_reads at room = search bodies depth 15

    for_reads : Reads statements (s.for rules ts expr stmt)
    unfolding s.for takes marked kind_of of_statements slot is_statement
    for_reads at room = search bodies depth 15

    try_reads : Reads statements (s.try rules ts expr stmt)
    unfolding s.try takes marked kind_of of_statements slot is_statement
    try_reads at room = search bodies depth 15

    begun_reads : (f : Reader Tree) → Reads statements f → Reads statements (s.begun rules ts expr stmt f)
    unfolding s.begun
    begun_reads f h at room = gives_need _ _ _ _ _ (λ q. h at room)

    kept_reads : Reads statements (s.kept rules ts expr stmt)
    unfolding s.kept fits all_fit takes counts marked kind_of of_statements slot is_statement
    kept_reads at room = match_reads statements (tok ts at) (s.expression_statement rules ts expr stmt)
        (alone_reads 32 BreakWithoutSemicolon (λ p. refl)
        ▹ alone_reads 33 ContinueWithoutSemicolon (λ p. refl) ▹ begun_reads _ (λ at. var_reads (step ts at))
        ▹ begun_reads _ (λ at. const_reads (step ts at)) ▹ begun_reads _ if_reads ▹ begun_reads _ assert_reads ▹ begun_reads _ while_reads ▹ return_reads
        ▹ begun_reads _ (λ at. function_reads (step ts at)) ▹ begun_reads _ for_reads ▹ begun_reads _ throw_reads ▹ begun_reads _ try_reads ▹ begun_reads _ foreach_reads ▹ end)
        expression_statement_reads at room

    statement_level : (at room : ℕ) → Gives (SlotOk (at_most_one of statements)) (s.level rules ts expr stmt at room)
    unfolding s.level
    statement_level at room = gives_choose _ _ _ _ (λ q. in_absent) (λ q. gives_then _ _ _ _ (kept_reads at room) (λ t c m z. in_present z))

statement_fits : (rules : Rules) (ts : List ℕ) (d at room : ℕ) → Gives (SlotOk (at_most_one of statements)) (s.statement rules ts d at room)
unfolding s.statement
statement_fits rules ts zero at room = tt
statement_fits rules ts (suc d) at room =
    statement_level rules ts (e.expression rules ts d) (expression_reads rules ts d) (s.statement rules ts d) (statement_fits rules ts d) at room

-- The three entries.
module _ (rules : Rules) (ts : List ℕ) where
  expression_entry : (at room : ℕ) → Gives (SlotOk (one of expressions)) (one_expression rules ts at room)
  unfolding one_expression
  expression_entry at room = gives_check _ _ _ (gives_need _ _ _ _ _ (λ q. gives_then _ _ _ _ (expression_reads rules ts nesting Zero at room)
      (λ t c m z. in_one z)))

  statement_entry : (at room : ℕ) → Gives (SlotOk (at_most_one of statements)) (one_statement rules ts at room)
  unfolding one_statement
  statement_entry at room = gives_check _ _ _ (gives_need _ _ _ _ _ (λ q. statement_fits rules ts nesting at room))

  script_entry : (room : ℕ) → Gives (SlotOk (one of blocks)) (whole_script rules ts room)
  unfolding whole_script takes marked kind_of of_statements slot
  script_entry room = gives_check _ _ _ (gives_then _ _ _ _
      (statements_fit rules ts (e.expression rules ts nesting) (expression_reads rules ts nesting) (s.statement rules ts nesting)
      (statement_fits rules ts nesting) EOF turns nil 0 room no_one)
      (λ us c m z. gives_then _ _ _ _ (row_of blocks 46 0 0 c m us nil nil nil refl refl refl (in_any z) in_none
      in_none in_none) (λ t c m w. in_one w)))

in_slot : (s : Slot) (us : Trees) → In s us → InSlot s us
in_slot s us h = (h.count, h.every.fit)

pub parser_fits : ParserFits
parser_fits rules ts start room us at left = (
  λ q. in_slot (one of expressions) us (rw q at (expression_entry rules ts start room)),
  λ q. in_slot (at_most_one of statements) us (rw q at (statement_entry rules ts start room)),
  λ q. in_slot (one of blocks) us (rw q at (script_entry rules ts room)),
)

few : (us : Trees) → counts one (how_many us) ≡ true → counts at_most_one (how_many us) ≡ true
unfolding counts
few us h = lt-ltb (how_many us) 2 (omega (arith, eqb-true (how_many us) 1 h))

pub parser_roots : ParserRoots
parser_roots rules ts start room us at left =
    let f = parser_fits rules ts start room us at left in (
      λ q. let (c, h) = f.0 q in (few us c, roots expressions expression_root us h),
      λ q. let (c, h) = f.1 q in (c, roots statements statement_root us h),
      λ q. let (c, h) = f.2 q in (few us c, roots blocks block_root us h),
    )
