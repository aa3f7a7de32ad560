-- What the readers of expressions have read where they accept: the one walk of their text, with all that holds of what was read.
use Prim.Native.Nat.{ℕ, zero, suc, ◌+◌, ◌-◌, ◌/◌, ◌%◌, ◌≤◌, ◌<◌}
use mathlib.Core.Path.{◌≡◌, refl, sym, ap, ◌∙◌}
use mathlib.Core.Bool.{Bool, true, false, cond}
use mathlib.Core.List.{List, append-nil}
use mathlib.Core.Logic.{◌⊎◌, inl, inr, ⊎_map}
use native.Mathlib.Omega.{arith}
use native.Mathlib.Decide.{dec_lt}
use native.Mathlib.Nat.{add-mod_right, div-eq_of_lt, mod-eq_of_lt}
use lib.Dec.{eqb}
use lib.ListN.{length, get_or-eq_default}
use Rattle.grammar.specs.Words.{SSemiColon, SComma, SDot, EOF, tok, step, is, next_is, Zero, order, infix_of, goes_on}
use Rattle.grammar.specs.Tree.{Tree, infixed, node, Trees, nil, ◌▸◌, sizes, join, leaf, flagged, flag, Thread, Async, Grouped, is_call}
use Rattle.grammar.specs.Parsed.{Parsed, Reader, read, ◌>>=◌, build, match, turns}
use Rattle.grammar.specs.Rules.{Rules}
use Rattle.grammar.specs.Expressions.{Rec, get_identifier, dots, dot_expression, no_prefix, entries, list_expr, pair, hash_literal, array}
use Rattle.grammar.specs.Expressions.{lambda, started, prefix, sub_expression, command, shell, prefix_part, infix_expression, suffix_expression}
use Rattle.grammar.specs.Expressions.{call, index, operation, climb, level, expression}
use Rattle.grammar.specs.Claims.{Binds, EveryOf, KeepsBut}
use Rattle.grammar.proofs.Spans.{spans, spans_of, spans_join, spans_row, Rising, done, rising_both, rising_from, rising_up, rising_one}
use Rattle.grammar.proofs.Post.{Fact, Numbered, Post, post_then, post_map, post_refused, post_need, post_choose, post_build, Each, match_each, end, ◌▹◌}
use Rattle.grammar.proofs.Steps.{step_on, step_one, infix_order, others, halts, goes, infix_facts}
use Rattle.grammar.proofs.Turns.{Valid, no_end, in_step, goes_forward, behind, enough, expression_eof}
use borrow.Author.Tests.{lt-ltb, eqb-true}

-- From the place s with n rows the trees us were read, in this order, and on the way the place p was passed: now c is current and m rows are left.
pub record Run (ts : List ℕ) (s p n : ℕ) (us : Trees) (c m : ℕ) : Type 0 where
  pub since : s ≤ p
  pub on : p ≤ c
  pub within : c < length ts
  pub spent : sizes us + m ≡ n
  pub kept : EveryOf (KeepsBut ts) us
  pub rising : Rising s s c (spans_of us)

-- The same of a tree that is no infix row without brackets.
pub record Shut (ts : List ℕ) (s p n : ℕ) (t : Tree) (c m : ℕ) : Type 0 where
  pub run : Run ts s p n (t ▸ nil) c m
  pub shut : (k : ℕ) → Binds ts k t

-- The same of an expression above the order pre.
pub record Above (ts : List ℕ) (pre s n : ℕ) (t : Tree) (c m : ℕ) : Type 0 where
  pub run : Run ts s s n (t ▸ nil) c m
  pub root : Binds ts (suc pre) t
  pub stops : (infix_order (tok ts (step ts c)) ≤ pre) ⊎ (tok ts c ≡ SSemiColon)

-- The same of what the loop has in hand.
pub record Behind (ts : List ℕ) (pre s p n : ℕ) (t : Tree) (c m : ℕ) : Type 0 where
  pub run : Run ts s p n (t ▸ nil) c m
  pub root : Binds ts (suc pre) t
  pub left : Binds ts (infix_order (tok ts (step ts c))) t ⊎ (tok ts c ≡ SSemiColon)

sizes_join : (us vs : Trees) → sizes (join us vs) ≡ sizes us + sizes vs
unfolding join
sizes_join nil vs = omega arith
sizes_join (t ▸ us) vs = omega (arith, sizes_join us vs)

every_join : (Q : Tree → Type 0) (us vs : Trees) → EveryOf Q us → EveryOf Q vs → EveryOf Q (join us vs)
unfolding join
every_join Q nil vs h k = k
every_join Q (t ▸ us) vs h k = (h.0, every_join Q us vs h.1 k)

every_split : (Q : Tree → Type 0) (us vs : Trees) → EveryOf Q (join us vs) → EveryOf Q us × EveryOf Q vs
unfolding join
every_split Q nil vs h = (tt, h)
every_split Q (t ▸ us) vs h = let k = every_split Q us vs h.1 in ((h.0, k.0), k.1)

-- The grouped flag is above every mark, and changes nothing below it.
grouped_mod : (mark : ℕ) → flag Grouped mark % 256 ≡ mark % 256
unfolding flag
grouped_mod mark = go (eqb (mark / 256 % 2) 0)
  where
    go : (b : Bool) → cond b (mark + 256) mark % 256 ≡ mark % 256
    go true = add-mod_right mark 256
    go false = refl

grouped_least : (mark : ℕ) → 256 ≤ flag Grouped mark
unfolding flag
grouped_least mark = go (eqb (mark / 256 % 2) 0) refl (dec_lt mark 256)
  where
    go : (b : Bool) → eqb (mark / 256 % 2) 0 ≡ b → Dec (mark < 256) → 256 ≤ cond b (mark + 256) mark
    go true e h = omega arith
    go false e (yes lt) = let z : mark / 256 ≡ 0 = div-eq_of_lt lt in let f : true ≡ false = rw z at e in let n : ◌≡◌ {A = ℕ} 0 1 = cc in absurd (omega arith)
    go false e (no ge) = omega arith

pub join_nil : (us : Trees) → join us nil ≡ us
unfolding join
join_nil nil = refl
join_nil (t ▸ us) = rw (join_nil us)

-- The mark of an infix row has no flag in it.
sign : {i : ℕ} → 0 < i → i ≤ 23 → i ≡ suc ((i - 1) % 256)
sign {i} h k = let lt : i - 1 < 256 = omega arith in rw (mod-eq_of_lt lt) (omega arith)

-- What a reader has read: one tree, or several.
abbrev pub single : Tree → Trees
single t = t ▸ nil

abbrev pub listed : Trees → Trees
listed us = us

-- The cursor went from a to b: never back, and never out of the array.
pub record Ahead (ts : List ℕ) (a b : ℕ) : Type 0 where
  pub on : a ≤ b
  pub stays : a < length ts → b < length ts

module _ (ts : List ℕ) where
  pub start : (at room : ℕ) → at < length ts → Run ts at at room nil at room
  unfolding spans
  start at room h = let e : at ≤ at = omega arith in record { since = e; on = e; within = h; spent = omega arith; kept = tt; rising = done e }

  pub up₀ : (a : ℕ) → Ahead ts a a
  up₀ a = record { on = omega arith; stays = λ h. h }

  pub up : (a b : ℕ) → Ahead ts a b → Ahead ts a (step ts b)
  up a b h = record { on = omega (arith, h.on, step_on ts b); stays = λ k. in_step ts b (h.stays k) }

  pub both : {s p n c m at c' m' : ℕ} {us vs : Trees} → Run ts s p n us c m → Ahead ts c at → Run ts at at m vs c' m' → Run ts s p n (join us vs) c' m'
  both {us} {vs} x h y = record {
    since = x.since;
    on = omega (arith, x.on, h.on, y.on);
    within = y.within;
    spent = omega (arith, x.spent, y.spent, sizes_join us vs);
    kept = every_join (KeepsBut ts) us vs x.kept y.kept;
    rising = rw (spans_join us vs) (rising_both x.rising (rising_from (omega (arith, x.since, x.on, h.on)) h.on y.rising));
  }

  pub later : {s p n c m c' : ℕ} {us : Trees} → Run ts s p n us c m → Ahead ts c c' → Run ts s p n us c' m
  later x h = record {
    since = x.since;
    on = omega (arith, x.on, h.on);
    within = h.stays x.within;
    spent = x.spent;
    kept = x.kept;
    rising = rising_up h.on x.rising;
  }

  -- The same where the place that is current is the one that is passed, and a step on.
  pub passing : {s p n c m : ℕ} {us : Trees} → Run ts s p n us c m → Run ts s (step ts c) n us (step ts c) m
  passing {c} x =
      let y = later x (up c c (up₀ c)) in
      record { since = omega (arith, y.since, y.on); on = omega arith; within = y.within; spent = y.spent; kept = y.kept; rising = y.rising }

  -- The same said from an earlier place.
  pub from : {s s' p n c m : ℕ} {us : Trees} → s ≤ s' → Run ts s' p n us c m → Run ts s s n us c m
  from h x = record {
    since = omega arith;
    on = omega (arith, x.since, x.on);
    within = x.within;
    spent = x.spent;
    kept = x.kept;
    rising = rising_from h h x.rising;
  }

  -- The rule for a reader that begins with x, which reads trees: behind all that was read before.
  abbrev pub Hands : {B : Type 0} (A : Type 0) (trees : B → Trees) (at room : ℕ) (x : Parsed B) → Type 1
  Hands {B} A trees at room x = (R : Fact A) (f : B × ℕ × ℕ → Parsed A) (s p n c : ℕ) (us : Trees) → Run ts s p n us c room → Ahead ts c at
      → ((b : B) (c m : ℕ) → Run ts s p n (join us (trees b)) c m → Post R (f (b, c, m))) → Post R (x >>= f)

  pub hands : {B : Type 0} (A : Type 0) (trees : B → Trees) (at room : ℕ) (x : Parsed B) → (at < length ts → Post (λ b. Run ts at at room (trees b)) x) → Hands A trees at room x
  hands A trees at room x q R f s p n c us r h k = post_then _ _ R x f (q (h.stays r.within)) (λ b c m y. k b c m (both r h y))

  -- The rule for a reader that ends in a row: what was read is what stands in its slots.
  pub row_of : {s p n c room : ℕ} {us : Trees} (k mark at : ℕ) (c0 c1 c2 c3 : Trees) → Run ts s p n us c room → Ahead ts c at → us ≡ join c0 (join c1 (join c2 c3))
      → eqb k 12 ≡ false → Post (Shut ts s p n) (build (node k mark p c0 c1 c2 c3 0) at room)
  unfolding spans
  row_of {p} k mark at c0 c1 c2 c3 x h e other = post_build _ _ (node k mark p c0 c1 c2 c3 0) at _ (λ z. refl) (λ m q.
      let (a, bcd) = every_split (KeepsBut ts) c0 (join c1 (join c2 c3)) (rw e at x.kept) in
      let (b, cd) = every_split (KeepsBut ts) c1 (join c2 c3) bcd in
      let (c', d) = every_split (KeepsBut ts) c2 c3 cd in
      let z = rw e at x.spent in
      record {
        run = record {
          since = x.since;
          on = omega (arith, x.on, h.on);
          within = h.stays x.within;
          spent = omega (arith, z, sizes_join c0 (join c1 (join c2 c3)), sizes_join c1 (join c2 c3), sizes_join c2 c3);
          kept = ((other, a, b, c', d), tt);
          rising = rw (append-nil, spans_row k mark p at c0 c1 c2 c3, ← e)
              (rising_both x.rising (rising_one x.since (omega (arith, x.on, h.on)) h.on));
        };
        shut = λ n. tt;
      })

  -- The same where a list stands in the last slot that holds anything.
  pub row_list : {s p n c room : ℕ} {us : Trees} (k mark at : ℕ) (c0 c1 c2 c3 : Trees) → Run ts s p n us c room → Ahead ts c at
      → join us nil ≡ join c0 (join c1 (join c2 c3)) → eqb k 12 ≡ false → Post (Shut ts s p n) (build (node k mark p c0 c1 c2 c3 0) at room)
  row_list {us} k mark at c0 c1 c2 c3 x h e other = row_of k mark at c0 c1 c2 c3 x h (rw (join_nil us) at e) other

  -- The same where the place of the row need not be told.
  row_passed : {s p n c room : ℕ} {us : Trees} (k mark at : ℕ) (c0 c1 c2 c3 : Trees) → Run ts s p n us c room → Ahead ts c at → us ≡ join c0 (join c1 (join c2 c3))
      → eqb k 12 ≡ false → Post (Shut ts s s n) (build (node k mark p c0 c1 c2 c3 0) at room)
  row_passed {s} {p} {n} {room} k mark at c0 c1 c2 c3 x h e other =
      post_map Numbered (Shut ts s p n) (Shut ts s s n) (build (node k mark p c0 c1 c2 c3 0) at room) (row_of k mark at c0 c1 c2 c3 x h e other)
      (λ t c m y. record { run = from (omega arith) y.run; shut = y.shut })

  -- A reader of one tree that is no infix row without brackets.
  abbrev pub Reads : Reader Tree → Type 0
  Reads f = Each Numbered (λ at room. at < length ts) (λ at room. Shut ts at at room) f

  read_runs : (f : Reader Tree) → Reads f → (at room : ℕ) → at < length ts → Post (λ t. Run ts at at room (t ▸ nil)) (f at room)
  read_runs f p at room h = post_map _ _ _ (f at room) (p at room h) (λ t c m q. q.run)

  pub shut_hands : (A : Type 0) (f : Reader Tree) (at room : ℕ) → Reads f → Hands A single at room (f at room)
  shut_hands A f at room p = hands A single at room (f at room) (read_runs f p at room)

  -- A reader that starts a step on.
  pub begun_at : (f : Reader Tree) → Reads f → Reads (λ at. f (step ts at))
  begun_at f p at room h = post_map _ _ _ (f (step ts at) room) (p (step ts at) room (in_step ts at h)) (λ t c m q.
      record { run = from (step_on ts at) q.run; shut = q.shut })

  -- A call that is started, and a tree in brackets, get their flags.
  flag_call : (f : ℕ) {s p n c m : ℕ} {t : Tree} → Run ts s p n (t ▸ nil) c m → is_call t ≡ true → Shut ts s p n (flagged f t) c m
  unfolding flagged is_call spans
  flag_call f {t = infixed mark p l r z} x e = let n : ◌≡◌ {A = ℕ} 0 1 = cc in absurd (omega arith)
  flag_call f {t = node k mark p c0 c1 c2 c3 z} x e =
      record { run = record { since = x.since; on = x.on; within = x.within; spent = x.spent; kept = x.kept; rising = x.rising }; shut = λ n. tt }

  flag_group : {s p n c c' m : ℕ} {t : Tree} → Run ts s p n (t ▸ nil) c m → Ahead ts c c' → Shut ts s p n (flagged Grouped t) c' m
  unfolding flagged spans
  flag_group {t = infixed mark p l r z} x h =
      let k = x.kept.0.0 in
      let y = later x h in
      record {
        run = record {
          since = y.since;
          on = y.on;
          within = y.within;
          spent = y.spent;
          rising = y.rising;
          kept = ((record { sign = k.sign ∙ ap suc (sym (grouped_mod mark)); looser = k.looser; tighter = k.tighter }, x.kept.0.1, x.kept.0.2), tt);
        };
        shut = λ n lt. absurd (omega (arith, grouped_least mark));
      }
  flag_group {t = node k mark p c0 c1 c2 c3 z} x h =
      let y = later x h in
      record { run = record { since = y.since; on = y.on; within = y.within; spent = y.spent; kept = y.kept; rising = y.rising }; shut = λ n. tt }

  -- A row that is no infix is behind nothing that it would have to bind.
  pub shut_behind : (pre : ℕ) {s p n c m : ℕ} {t : Tree} → Shut ts s p n t c m → Behind ts pre s p n t c m
  shut_behind pre q = record { run = q.run; root = q.shut (suc pre); left = inl (q.shut _) }

  post_behind : (pre s p n : ℕ) (x : Parsed Tree) → Post (Shut ts s p n) x → Post (Behind ts pre s p n) x
  post_behind pre s p n x h = post_map _ _ _ x h (λ t c m. shut_behind pre)

  -- The left side of an infix row, whose operator comes next.
  looser : (t : Tree) (c : ℕ) → Binds ts (infix_order (tok ts (step ts c))) t ⊎ (tok ts c ≡ SSemiColon) → 0 < infix_of (tok ts (step ts c))
      → Binds ts (order (tok ts (step ts c))) t ⊎ (tok ts (step ts c - 1) ≡ SSemiColon)
  looser t c (inl h) i = inl (rw (lt-ltb 0 (infix_of (tok ts (step ts c))) i) at h)
  looser t c (inr h) i =
      let e : step ts c ≡ c + 1 = step_one ts c _ (λ (q : tok ts c ≡ tok ts (step ts c)). omega (arith, others.semicolon, ap infix_of (sym h ∙ q))) refl in
      let e' : step ts c - 1 ≡ c = omega arith in
      inr (rw e' h)

  leaf_runs : (k mark : ℕ) → eqb k 12 ≡ false → Reads (λ at. build (leaf k mark at) at)
  unfolding join
  leaf_runs k mark other at room h = let r = start at room h in search (row_of, up₀)

  identifier_runs : (k : ℕ) → eqb k 12 ≡ false → Reads (get_identifier ts (leaf k 0))
  unfolding get_identifier
  identifier_runs k other at room h = search (post_need, leaf_runs)

  no_prefix_runs : Reads (no_prefix ts)
  unfolding no_prefix
  no_prefix_runs at room h = search post_choose

  module _ (v : Valid ts) where
    dots_runs : (i s p n : ℕ) (names : Trees) (at room : ℕ) → Run ts s p n names at room → length ts ≤ i + at → Post (Run ts s p n) (dots ts i names at room)
    unfolding dots
    dots_runs zero s p n names at room r f = absurd (omega (arith, r.within))
    dots_runs (suc i) s p n names at room r f = post_choose _ _ _ _ _
        (λ e.
        let on : Ahead ts at (step ts (step ts at)) = up _ _ (up _ _ (up₀ at)) in
        post_then _ _ _ _ _ (identifier_runs 18 refl (step ts (step ts at)) room (on.stays r.within))
        (λ t c m q. dots_runs i s p n (join names (t ▸ nil)) c m (both r on q.run) (omega (arith, q.run.on, behind ts v at SDot r.within refl e))))
        (λ e. r)

    dots_then : (A : Type 0) (at room : ℕ) → Hands A listed at room (dots ts turns nil at room)
    dots_then A at room = hands A listed at room _ (λ h. dots_runs turns at at room nil at room (start at room h) (enough ts v at))

    ruleset parts = (post_refused, post_need, post_choose, row_of, row_list, dots_then, up₀, up)

    dot_runs : Reads (dot_expression ts)
    unfolding dot_expression join
    dot_runs at room h = post_then _ _ _ _ _ (identifier_runs 2 refl at room h) (λ t c m q. let r = q.run in search parts depth 9)

    module _ (rules : Rules) (rec : Rec) (ih : (pre at room : ℕ) → at < length ts → Post (Above ts pre at room) (rec pre at room)) where
      rec_runs : (pre at room : ℕ) → at < length ts → Post (λ t. Run ts at at room (t ▸ nil)) (rec pre at room)
      rec_runs pre at room h = post_map _ _ _ (rec pre at room) (ih pre at room h) (λ t c m q. q.run)

      pub rec_then : (A : Type 0) (pre at room : ℕ) → Hands A single at room (rec pre at room)
      rec_then A pre at room = hands A single at room _ (rec_runs pre at room)

      entries_runs : (entry : Reader Tree) → ((at room : ℕ) → at < length ts → Post (λ t. Run ts at at room (t ▸ nil)) (entry at room)) → (i s p n : ℕ) (list : Trees)
          (at room : ℕ) → Run ts s p n list at room → length ts ≤ i + at → Post (Run ts s p n) (entries rules ts rec entry i list at room)
      unfolding entries
      entries_runs entry h zero s p n list at room r f = absurd (omega (arith, r.within))
      entries_runs entry h (suc i) s p n list at room r f = post_choose _ _ _ _ _
          (λ e.
          let on : Ahead ts at (step ts (step ts at)) = up _ _ (up _ _ (up₀ at)) in
          post_then _ _ _ _ _ (h (step ts (step ts at)) room (on.stays r.within))
          (λ t c m q. entries_runs entry h i s p n (join list (t ▸ nil)) c m (both r on q) (omega (arith, q.on, behind ts v at SComma r.within refl e))))
          (λ e. r)

      list_runs : (at room : ℕ) → at < length ts → Post (Run ts at at room) (list_expr rules ts rec at room)
      unfolding list_expr join
      list_runs at room h =
          let r = start at room h in
          post_choose _ _ _ _ _ (λ e. r) (λ e. rec_then _ Zero _ _ _ _ at at room at nil r (up _ _ (up₀ at))
          (λ t c m q. entries_runs (rec Zero) (rec_runs Zero) turns at at room (t ▸ nil) c m q (enough ts v c)))

      pub list_then : (A : Type 0) (at room : ℕ) → Hands A listed at room (list_expr rules ts rec at room)
      list_then A at room = hands A listed at room _ (list_runs at room)

      ruleset walk = (parts, rec_then, list_then)

      pair_runs : Reads (pair rules ts rec)
      unfolding pair join
      pair_runs at room h = post_then _ _ _ _ _ (rec_runs Zero at room h) (λ t c m q. post_need _ _ _ _ _ _ refl (λ e.
          let r = passing q in search (walk, row_passed) depth 9))

      pair_then : (A : Type 0) (at room : ℕ) → Hands A single at room (pair rules ts rec at room)
      pair_then A at room = shut_hands A (pair rules ts rec) at room pair_runs

      pairs_then : {A : Type 0} (R : Fact A) (f : Trees × ℕ × ℕ → Parsed A) (s p n : ℕ) (list : Trees) (at room : ℕ) → Run ts s p n list at room
          → ((pairs : Trees) (c m : ℕ) → Run ts s p n pairs c m → Post R (f (pairs, c, m))) → Post R (entries rules ts rec (pair rules ts rec) turns list at room >>= f)
      pairs_then R f s p n list at room r k =
          post_then _ _ R _ f (entries_runs (pair rules ts rec) (read_runs (pair rules ts rec) pair_runs) turns s p n list at room r (enough ts v at)) k

      hash_runs : Reads (hash_literal rules ts rec)
      unfolding hash_literal join
      hash_runs at room h = let r = start at room h in search (walk, pair_then, pairs_then) depth 12

      array_runs : Reads (array rules ts rec)
      unfolding array join
      array_runs at room h = let r = start at room h in search walk depth 12

      lambda_runs : Reads (lambda rules ts rec)
      unfolding lambda join
      lambda_runs at room h = let r = start at room h in search walk depth 12

      prefix_runs : (mark : ℕ) → Reads (prefix rules ts rec mark)
      unfolding prefix join
      prefix_runs mark at room h = let r = start at room h in search walk depth 12

      shell_runs : Reads (shell rules ts rec)
      unfolding shell command join
      shell_runs at room h = let r = start at room h in search walk depth 12

      started_runs : (f : ℕ) → Reads (started rules ts rec f)
      unfolding started join
      started_runs f at room h = let r = start at room h in search (walk, flag_call) depth 9

      sub_runs : Reads (sub_expression rules ts rec)
      unfolding sub_expression join
      sub_runs at room h = let r = start at room h in search (walk, flag_group) depth 9

      pub prefix_part_runs : Reads (prefix_part rules ts rec)
      unfolding prefix_part
      prefix_part_runs at room h = match_each _ _ _ (tok ts at) (no_prefix ts)
          (dot_runs ▹ leaf_runs 3 0 refl ▹ leaf_runs 4 0 refl ▹ leaf_runs 5 0 refl ▹ leaf_runs 6 0 refl ▹ leaf_runs 7 1 refl ▹ leaf_runs 7 0 refl ▹ lambda_runs
          ▹ leaf_runs 1 0 refl ▹ started_runs Thread ▹ started_runs Async ▹ array_runs ▹ hash_runs ▹ prefix_runs 0 ▹ prefix_runs 1 ▹ prefix_runs 2 ▹ prefix_runs 3
          ▹ sub_runs ▹ shell_runs ▹ end)
          no_prefix_runs at room h

      module _ (pre s p n : ℕ) (t : Tree) (c m : ℕ) (b : Behind ts pre s p n t c m) where
        infix_runs : 0 < infix_of (tok ts (step ts c)) → pre < order (tok ts (step ts c))
            → Post (Behind ts pre s (step ts c) n) (infix_expression rules ts rec t (step ts c) m)
        unfolding infix_expression spans
        infix_runs i lt = post_then _ _ _ _ _ (ih (order (tok ts (step ts c))) (step ts (step ts c)) m (in_step ts _ (in_step ts c b.run.within))) (λ r c' m' a.
            let since : s ≤ step ts c = omega (arith, b.run.since, b.run.on, step_on ts c) in
            let on : step ts c ≤ c' = omega (arith, a.run.on, step_on ts (step ts c)) in
            post_build _ _ _ c' m' (λ z. refl) (λ m'' e. record {
              run = record {
                since = since;
                on = on;
                within = a.run.within;
                spent = omega (arith, b.run.spent, a.run.spent);
                kept = ((record { sign = sign i (infix_facts _ i).mark; looser = looser t c b.left i; tighter = a.root }, b.run.kept.0, a.run.kept.0), tt);
                rising = rw append-nil (rising_both (rw append-nil at b.run.rising) (rising_both
                    (rising_from (omega (arith, since, step_on ts (step ts c))) (omega (arith, step_on ts c, step_on ts (step ts c))) (rw append-nil at a.run.rising))
                    (rising_one since on (omega arith))));
              };
              root = λ small. lt;
              left = ⊎_map (λ h small. h) (λ h. h) a.stops;
            }))

        pub operation_runs : goes_on pre (tok ts (step ts c)) ≡ true → Post (Behind ts pre s (step ts c) n) (operation rules ts rec t (step ts c) m)
        unfolding operation match suffix_expression call index join
        operation_runs g =
            let r = passing b.run in
            post_choose _ _ _ _ _ (λ e. search (post_behind, walk)) λ e₁.
            post_choose _ _ _ _ _ (λ e. search (post_behind, walk)) λ e₂.
            post_choose _ _ _ _ _ (λ e. search (post_behind, walk) depth 9) λ e₃.
            post_choose _ _ _ _ _ (λ e. search (post_behind, walk) depth 9) λ e₄.
            let f = goes pre (tok ts (step ts c)) g e₁ e₂ e₃ e₄ in
            infix_runs f.0 f.1

      climb_runs : (pre i s p n : ℕ) (t : Tree) (c m : ℕ) → Behind ts pre s p n t c m → length ts ≤ i + c → Post (Above ts pre s n) (climb rules ts rec pre i t c m)
      unfolding climb
      climb_runs pre zero s p n t c m b f = absurd (omega (arith, b.run.within))
      climb_runs pre (suc i) s p n t c m b f = post_choose _ _ _ _ _
          (λ g.
          let lt : c < step ts c = goes_forward ts v c b.run.within (inr (no_end pre (tok ts (step ts c)) g)) in
          post_then _ _ _ _ _ (operation_runs pre s p n t c m b g) (λ t' c' m' q. climb_runs pre i s (step ts c) n t' c' m' q (omega (arith, q.run.on))))
          (λ g. record { run = from (omega arith) b.run; root = b.root; stops = inl (halts pre (tok ts (step ts c)) g) })

      level_runs : (pre at room : ℕ) → at < length ts → Post (Above ts pre at room) (level rules ts rec pre at room)
      unfolding level next_is is
      level_runs pre at room h = post_then _ _ _ _ _ (prefix_part_runs at room h) (λ t c m q. post_choose _ _ _ _ _
          (λ e. record { run = later q.run (up _ _ (up₀ c)); root = q.shut (suc pre); stops = inr (eqb-true _ _ e) })
          (λ e. climb_runs pre turns at at room t c m (shut_behind pre q) (enough ts v c)))

    pub expression_runs : (rules : Rules) (d pre at room : ℕ) → at < length ts → Post (Above ts pre at room) (expression rules ts d pre at room)
    unfolding expression
    expression_runs rules zero pre at room h = refl
    expression_runs rules (suc d) pre at room h = level_runs rules (expression rules ts d) (expression_runs rules d) pre at room h

    -- Where an expression is accepted, it starts in the array, and something was allowed.
    pub placed : (rules : Rules) (d pre s n : ℕ) (t : Tree) (c m : ℕ) → expression rules ts d pre s n ≡ read t c m → (1 ≤ d) × (s < length ts) × Above ts pre s n t c m
    unfolding expression tok
    placed rules zero pre s n t c m h = let z : ◌≡◌ {A = ℕ} 0 1 = cc in absurd (omega arith)
    placed rules (suc d) pre s n t c m h = go (dec_lt s (length ts))
      where
        go : Dec (s < length ts) → (1 ≤ suc d) × (s < length ts) × Above ts pre s n t c m
        go (yes lt) = (omega arith, lt, rw h at (expression_runs rules (suc d) pre s n lt))
        go (no ge) =
            let le : length ts ≤ s = omega arith in
            let f : Post (λ t c m. ⊥) (read t c m) = rw h at (expression_eof ts s Numbered refl refl rules (suc d) pre n (get_or-eq_default ts EOF le)) in
            absurd f
