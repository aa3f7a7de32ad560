-- Rows enough for expressions: each row that is taken can be put down to a token of its own, so that none is lacking.
use Prim.Native.Nat.{ℕ, zero, suc, ◌+◌, ◌≤◌, ◌<◌}
use mathlib.Core.Path.{◌≡◌, refl, sym, ◌∙◌}
use mathlib.Core.Bool.{Bool, true, false}
use mathlib.Core.List.{List}
use mathlib.Core.Logic.{inl}
use native.Mathlib.Omega.{arith}
use lib.Dec.{eqb}
use lib.ListN.{length}
use borrow.Author.Tests.{eqb-true, eqb-false}
use Rattle.grammar.specs.Words.{Identifier, SColon, SDot, EOF, Zero, tok, step, is, next_is}
use Rattle.grammar.specs.Tree.{Tree, Trees, nil, ◌▸◌, join, leaf, Thread, Async}
use Rattle.grammar.specs.Parsed.{Parsed, Reader, ◌>>=◌, build, match, turns, NoRow}
use Rattle.grammar.specs.Rules.{Rules}
use Rattle.grammar.specs.Expressions.{Rec, get_identifier, dots, dot_expression, no_prefix, entries, list_expr, pair, hash_literal, array}
use Rattle.grammar.specs.Expressions.{lambda, started, prefix, sub_expression, command, shell, prefix_part, infix_expression, suffix_expression}
use Rattle.grammar.specs.Expressions.{call, index, operation, climb, level, expression}
use Rattle.grammar.proofs.Post.{Fact, Ends, post_then, post_map, post_refused, post_need, post_choose, post_build, Each, match_each, end, ◌▹◌}
use Rattle.grammar.proofs.Steps.{step_on, step_up}
use Rattle.grammar.proofs.Turns.{Valid, no_end, expression_eof, in_step, goes_forward}
use Rattle.grammar.proofs.Runs.{Ahead, up₀, up}

-- A fact of what was read, where no refusal is for want of a row.
abbrev pub Spared : ℕ → Type 0
Spared n = eqb n NoRow ≡ false

abbrev pub Spares : {A : Type 0} → Fact A → Parsed A → Type 0
Spares Q x = Ends Spared Q x

-- From the place s on n rows were enough; now c is current and m rows are left. Each row taken has a token of its own up to c, and k tokens
-- more have none.
pub record Paid (ts : List ℕ) (s n k c m : ℕ) : Type 0 where
  pub within : c < length ts
  pub given : length ts ≤ n + s + 1
  pub fewer : m ≤ n
  pub fits : n + s + k ≤ m + step ts c

-- The same of an expression, which takes a row.
pub record Took (ts : List ℕ) (s n : ℕ) (t : Tree) (c m : ℕ) : Type 0 where
  pub paid : Paid ts s n 0 c m
  pub some : m < n

-- Where nothing is read at EOF, it is enough to look at other places.
pub but_at_eof : {A : Type 0} (ts : List ℕ) (Q : Fact A) (at : ℕ) (x : Parsed A) → (tok ts at ≡ EOF → Spares (λ a c m. ⊥) x)
    → (¬ (tok ts at ≡ EOF) → Spares Q x) → Spares Q x
but_at_eof ts Q at x h k = go (eqb (tok ts at) EOF) refl
  where
    go : (b : Bool) → eqb (tok ts at) EOF ≡ b → Spares Q x
    go true e = post_map _ _ Q x (h (eqb-true _ _ e)) (λ a c m z. absurd z)
    go false e = k (eqb-false _ _ e)

module _ (ts : List ℕ) (v : Valid ts) where
  -- A word that isn't EOF has a place behind it.
  pub past : (c w : ℕ) → c < length ts → eqb w EOF ≡ false → is ts c w ≡ true → c < step ts c
  unfolding is
  past c w h n e = goes_forward ts v c h (inl (λ q. eqb-false w EOF n (sym (eqb-true _ _ e) ∙ q)))

  pub begin : (at room : ℕ) → at < length ts → length ts ≤ room + at + 1 → ¬ (tok ts at ≡ EOF) → Paid ts at room 1 at room
  begin at room h g n = record { within = h; given = g; fewer = omega arith; fits = omega (arith, goes_forward ts v at h (inl n)) }

  pub later : {s n k c c' m : ℕ} → Paid ts s n k c m → Ahead ts c c' → Paid ts s n k c' m
  later {c} {c'} x h = record { within = h.stays x.within; given = x.given; fewer = x.fewer; fits = omega (arith, x.fits, step_up ts c c' h.on) }

  -- A sign that comes next is one more token.
  pub signed : {s n c m : ℕ} (k w : ℕ) → Paid ts s n k c m → eqb w EOF ≡ false → next_is ts c w ≡ true → Paid ts s n (suc k) (step ts c) m
  unfolding next_is
  signed {c} k w x n e = record {
    within = in_step ts c x.within;
    given = x.given;
    fewer = x.fewer;
    fits = omega (arith, x.fits, past (step ts c) w (in_step ts c x.within) n e);
  }

  -- The rule for a reader that ends in a row.
  pub row : {s n c room : ℕ} (t : Tree) (at : ℕ) → Paid ts s n 1 c room → Ahead ts c at → Spares (Took ts s n) (build t at room)
  row {c} {room} t at x h =
      let b = in_step ts at (h.stays x.within) in
      let up = step_up ts c at h.on in
      post_build _ _ t at room (λ z. absurd (omega (arith, x, b, up))) (λ m e. record {
        paid = record { within = h.stays x.within; given = x.given; fewer = omega (arith, x.fewer); fits = omega (arith, x.fits, up) };
        some = omega (arith, x.fewer);
      })

  -- The rule for a reader that begins with another.
  abbrev pub Then : {B : Type 0} (A : Type 0) (at room : ℕ) (x : Parsed B) → Type 1
  Then {B} A at room x = (R : Fact A) (f : B × ℕ × ℕ → Parsed A) (s n k c : ℕ) → Paid ts s n k c room → Ahead ts (step ts c) at
      → ((b : B) (c m : ℕ) → Paid ts s n k c m → Spares R (f (b, c, m))) → Spares R (x >>= f)

  -- A reader of one tree from a place that isn't EOF's.
  abbrev pub Takes : Reader Tree → Type 0
  Takes f = Each Spared (λ at room. Paid ts at room 1 at room) (Took ts) f

  leaf_takes : (k mark : ℕ) → Takes (λ at. build (leaf k mark at) at)
  leaf_takes k mark at room r = row _ at r (up₀ ts at)

  no_prefix_takes : Takes (no_prefix ts)
  unfolding no_prefix
  no_prefix_takes at room r = search post_choose

  -- Behind an identifier: a first dot has no row of its own, or else it was there.
  dots_paid : (i s n : ℕ) (names : Trees) (at room : ℕ) → Paid ts s n 0 at room → (next_is ts at SDot ≡ false → Paid ts s n 1 at room)
      → Spares (λ us. Paid ts s n 1) (dots ts i names at room)
  unfolding dots get_identifier
  dots_paid zero s n names at room x y = refl
  dots_paid (suc i) s n names at room x y = post_choose _ _ _ _ _
      (λ e. post_then _ _ _ _ _ (post_need _ _ _ _ _ _ refl (λ e'.
      let z = signed 0 SDot x refl e in
      let w = in_step ts _ z.within in
      let lt = past (step ts (step ts at)) Identifier w refl e' in
      post_build _ (λ t. Paid ts s n 1) _ (step ts (step ts at)) room (λ q. absurd (omega (arith, z, w))) (λ m q.
      record { within = w; given = z.given; fewer = omega (arith, z.fewer); fits = omega (arith, z.fits, lt) })))
      (λ t c m q. dots_paid i s n (join names (t ▸ nil)) c m (record { within = q.within; given = q.given; fewer = q.fewer; fits = omega (arith, q.fits) }) (λ e'. q)))
      (λ e. y e)

  identifier_takes : (k : ℕ) → Takes (get_identifier ts (leaf k 0))
  unfolding get_identifier
  identifier_takes k at room r = search (post_need, leaf_takes)

  dot_takes : Takes (dot_expression ts)
  unfolding dot_expression
  dot_takes at room r = post_then _ _ _ _ _ (identifier_takes 2 at room r) (λ t c m q. post_choose _ _ _ _ _
      (λ e. post_then _ _ _ _ _ (dots_paid turns at room nil c m q.paid (λ e'. let f : true ≡ false = sym e ∙ e' in let z : ◌≡◌ {A = ℕ} 0 1 = cc in absurd (omega arith)))
      (λ us c m q. row _ c q (up₀ ts c)))
      (λ e. q))

  -- A reader of one tree from any place, and the rule for what begins with one.
  abbrev pub Reads : Reader Tree → Type 0
  Reads f = (at room : ℕ) → at < length ts → length ts ≤ room + at + 1 → Spares (Took ts at room) (f at room)

  pub read_then : (A : Type 0) (g : Reader Tree) (at room : ℕ) → Reads g → Then A at room (g at room)
  read_then A g at room p R f s n k c x h next = post_then _ _ R _ f (p at room (h.stays (in_step ts c x.within)) (omega (arith, x, h.on)))
      (λ t c m q. next t c m (record {
        within = q.paid.within;
        given = x.given;
        fewer = omega (arith, x.fewer, q.some);
        fits = omega (arith, x.fits, q.paid.fits, h.on);
      }))

  module _ (rules : Rules) (rec : Rec) (ih : (pre : ℕ) → Reads (rec pre)) where
    pub rec_then : (A : Type 0) (pre at room : ℕ) → Then A at room (rec pre at room)
    rec_then A pre at room = read_then A (rec pre) at room (ih pre)

    entries_paid : (entry : Reader Tree) → Reads entry → (i s n k : ℕ) (list : Trees) (at room : ℕ) → Paid ts s n k at room
        → Spares (λ us. Paid ts s n k) (entries rules ts rec entry i list at room)
    unfolding entries
    entries_paid entry h zero s n k list at room x = refl
    entries_paid entry h (suc i) s n k list at room x = post_choose _ _ _ _ _
        (λ e. read_then _ entry _ room h _ _ s n k at x (up ts _ _ (up₀ ts (step ts at))) (λ t c m q. entries_paid entry h i s n k (join list (t ▸ nil)) c m q))
        (λ e. x)

    pub list_paid : (s n k at room : ℕ) → Paid ts s n k at room → Spares (λ us. Paid ts s n k) (list_expr rules ts rec at room)
    unfolding list_expr
    list_paid s n k at room x = post_choose _ _ _ _ _ (λ e. x)
        (λ e. rec_then _ Zero _ room _ _ s n k at x (up₀ ts (step ts at)) (λ t c m q. entries_paid (rec Zero) (ih Zero) turns s n k (t ▸ nil) c m q))

    pub list_then : (A : Type 0) (at room : ℕ) (R : Fact A) (f : Trees × ℕ × ℕ → Parsed A) (s n k c : ℕ) → Paid ts s n k c room → Ahead ts c at
        → ((us : Trees) (c m : ℕ) → Paid ts s n k c m → Spares R (f (us, c, m))) → Spares R (list_expr rules ts rec at room >>= f)
    list_then A at room R f s n k c x h = post_then _ _ R _ f (list_paid s n k at room (later x h))

    pub ruleset walk = (post_refused, post_need, post_choose, row, up₀, up, rec_then, list_then)

    pair_reads : Reads (pair rules ts rec)
    unfolding pair
    pair_reads at room h g = post_then _ _ _ _ _ (ih Zero at room h g) (λ t c m q. post_need _ _ _ _ _ _ refl (λ e.
        let r = signed 0 SColon q.paid refl e in search walk depth 9))

    pairs_then : (A : Type 0) (R : Fact A) (f : Trees × ℕ × ℕ → Parsed A) (s n k : ℕ) (list : Trees) (at room : ℕ) → Paid ts s n k at room
        → ((us : Trees) (c m : ℕ) → Paid ts s n k c m → Spares R (f (us, c, m))) → Spares R (entries rules ts rec (pair rules ts rec) turns list at room >>= f)
    pairs_then A R f s n k list at room x = post_then _ _ R _ f (entries_paid (pair rules ts rec) pair_reads turns s n k list at room x)

    pair_then : (A : Type 0) (at room : ℕ) → Then A at room (pair rules ts rec at room)
    pair_then A at room = read_then A (pair rules ts rec) at room pair_reads

    hash_takes : Takes (hash_literal rules ts rec)
    unfolding hash_literal
    hash_takes at room r = search (walk, pair_then, pairs_then) depth 12

    array_takes : Takes (array rules ts rec)
    unfolding array
    array_takes at room r = search walk depth 12

    lambda_takes : Takes (lambda rules ts rec)
    unfolding lambda
    lambda_takes at room r = search walk depth 12

    prefix_takes : (mark : ℕ) → Takes (prefix rules ts rec mark)
    unfolding prefix
    prefix_takes mark at room r = search walk depth 12

    shell_takes : Takes (shell rules ts rec)
    unfolding shell command
    shell_takes at room r = search walk depth 12

    -- What a sign without a row and the expression behind it take, up to a later place.
    abbrev Held : (at room : ℕ) → Fact Tree
    Held at room t c m = (made : Tree) (c' : ℕ) → Ahead ts c c' → Took ts at room made c' m

    next_took : (at room : ℕ) → Paid ts at room 1 at room → Spares (Held at room) (rec Zero (step ts at) room)
    next_took at room r = post_map _ (Took ts (step ts at) room) (Held at room) (rec Zero (step ts at) room)
        (ih Zero (step ts at) room (in_step ts at r.within) (omega (arith, r, step_on ts at))) (λ t c m q made c' h.
        let p : Paid ts at room 0 c m = record { within = q.paid.within; given = r.given; fewer = q.paid.fewer; fits = omega (arith, q.paid.fits, step_on ts at) } in
        record { paid = later p h; some = q.some })

    started_takes : (f : ℕ) → Takes (started rules ts rec f)
    unfolding started
    started_takes f at room r = post_then _ _ _ _ _ (next_took at room r) (λ t c m q. post_need _ _ _ _ _ _ refl (λ e. q _ c (up₀ ts c)))

    sub_takes : Takes (sub_expression rules ts rec)
    unfolding sub_expression
    sub_takes at room r = post_need _ _ _ _ _ _ refl (λ e. post_then _ _ _ _ _ (next_took at room r) (λ t c m q.
        post_need _ _ _ _ _ _ refl (λ e'. q _ _ (up ts c c (up₀ ts c)))))

    prefix_part_takes : Takes (prefix_part rules ts rec)
    unfolding prefix_part
    prefix_part_takes at room r = match_each _ _ _ (tok ts at) (no_prefix ts)
        (dot_takes ▹ leaf_takes 3 0 ▹ leaf_takes 4 0 ▹ leaf_takes 5 0 ▹ leaf_takes 6 0 ▹ leaf_takes 7 1 ▹ leaf_takes 7 0 ▹ lambda_takes ▹ leaf_takes 1 0
        ▹ started_takes Thread ▹ started_takes Async ▹ array_takes ▹ hash_takes ▹ prefix_takes 0 ▹ prefix_takes 1 ▹ prefix_takes 2 ▹ prefix_takes 3
        ▹ sub_takes ▹ shell_takes ▹ end)
        no_prefix_takes at room r

    operation_takes : (s n : ℕ) (left : Tree) (start room : ℕ) → Paid ts s n 1 start room → Spares (Took ts s n) (operation rules ts rec left start room)
    unfolding operation match suffix_expression call index infix_expression
    operation_takes s n left start room r = search walk depth 14

    climb_takes : (pre i s n : ℕ) (t : Tree) (c m : ℕ) → Took ts s n t c m → Spares (Took ts s n) (climb rules ts rec pre i t c m)
    unfolding climb
    climb_takes pre zero s n t c m q = refl
    climb_takes pre (suc i) s n t c m q = post_choose _ _ _ _ _
        (λ g.
        let h : step ts c < length ts = in_step ts c q.paid.within in
        let lt : step ts c < step ts (step ts c) = goes_forward ts v (step ts c) h (inl (no_end pre (tok ts (step ts c)) g)) in
        let p : Paid ts s n 1 (step ts c) m = record { within = h; given = q.paid.given; fewer = q.paid.fewer; fits = omega (arith, q.paid.fits) } in
        post_then _ _ _ _ _ (operation_takes s n t (step ts c) m p) (λ t' c' m' q'. climb_takes pre i s n t' c' m' q'))
        (λ g. q)

    level_reads : (pre at room : ℕ) → Paid ts at room 1 at room → Spares (Took ts at room) (level rules ts rec pre at room)
    unfolding level
    level_reads pre at room r = post_then _ _ _ _ _ (prefix_part_takes at room r) (λ t c m q. post_choose _ _ _ _ _
        (λ e. record { paid = later q.paid (up ts c c (up₀ ts c)); some = q.some }) (λ e. climb_takes pre turns at room t c m q))

  pub expression_reads : (rules : Rules) (d pre : ℕ) → Reads (expression rules ts d pre)
  unfolding expression
  expression_reads rules zero pre at room h g = refl
  expression_reads rules (suc d) pre at room h g = but_at_eof ts (Took ts at room) at (expression rules ts (suc d) pre at room) (expression_eof ts at _ refl refl rules (suc d) pre room)
      (λ n. level_reads rules (expression rules ts d) (expression_reads rules d) pre at room (begin at room h g n))
