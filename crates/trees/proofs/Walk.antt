-- The survey's walk: what is known when the first j words of the rows in the queue have been looked at.
use Prim.Native.Nat.{ℕ, ◌+◌, ◌*◌, ◌/◌, ◌%◌, ◌≤◌, ◌<◌}
use native.Mathlib.Omega.{arith}
use mathlib.Core.Path.{◌≡◌, refl, ap, sym, ◌∙◌}
use mathlib.Core.Logic.{◌⊎◌, inl, inr, ⊎_elim}
use mathlib.Core.List.{List}
use lib.ListN.{length, get_or, set, length-set}
use lib.Seq.{get_or-set_same, get_or-set_other}
use Rattle.grammar.specs.Script.{word_of}
use Rattle.slots.proofs.Either.{same_or, less_or}
use Rattle.trees.specs.Pool.{count, In, Reached, start, on, Link, root_link, word_link, Twice}
use Rattle.trees.specs.Leaves.{Zero}
use Rattle.trees.specs.Survey.{Looked, astray, first_time, again, Told, unreached, the_root, by_two, by_one, Surveyed}
use Rattle.trees.proofs.Linked.{reached_in}
use Rattle.trees.proofs.Zeros.{zeros, zeros_set, zeros_same, zeros_some, zeros_all}

-- word k of row r was looked at: the row stands in the queue at a
pub record Done (q : List ℕ) (j r k : ℕ) : Type 0 where
  pub a : ℕ
  pub is : get_or q a 0 ≡ r
  pub low : 3 ≤ k
  pub high : k ≤ 7
  pub before : 5 * a + k < j + 3

-- where a store is
at_same : (xs : List ℕ) (t v u : ℕ) → t < length xs → u ≡ t → get_or (set xs t v) u 0 ≡ v
at_same xs t v u h e = rw e (get_or-set_same xs t v 0 h)

module _ (pool : List ℕ) (root : ℕ) where
  -- the link of row t, as far as words were looked at
  pub data Tag (q : List ℕ) (j t owner word : ℕ) : Type 0 where
    none : owner ≡ 0 → word ≡ 0 → (root ≡ t → ⊥) → ((r k : ℕ) → Done q j r k → word_of pool r k ≡ t → ⊥) → Tag q j t owner word
    rooted : owner ≡ 0 → word ≡ 1 → root ≡ t → ((r k : ℕ) → Done q j r k → word_of pool r k ≡ t → ⊥) → Tag q j t owner word
    single : Done q j owner word → Reached pool root owner → In pool owner → word_of pool owner word ≡ t → (root ≡ t → ⊥)
        → ((r k : ℕ) → Done q j r k → word_of pool r k ≡ t → (r ≡ owner) × (k ≡ word)) → Tag q j t owner word
    double : owner ≡ 0 → word ≡ 2 → Twice pool root t → Tag q j t owner word

  -- a row of the queue
  pub record Member (words : List ℕ) (r : ℕ) : Type 0 where
    pub inside : In pool r
    pub reached : Reached pool root r
    pub linked : get_or words r 0 ≡ 0 → ⊥

  -- where a row stands in the queue
  pub record Place (q : List ℕ) (found t : ℕ) : Type 0 where
    pub a : ℕ
    pub below : a < found
    pub is : get_or q a 0 ≡ t

  pub record Walk (owners words q : List ℕ) (found j : ℕ) : Type 0 where
    pub sized : found + zeros words ≡ length words
    pub outside : (t : ℕ) → (In pool t → ⊥) → (get_or owners t 0 ≡ 0) × (get_or words t 0 ≡ 0)
    pub within : j ≤ 5 * found
    pub wide : count pool < length words
    pub even : length owners ≡ length words
    pub room : length words ≤ length q
    pub members : (a : ℕ) → a < found → Member words (get_or q a 0)
    pub covered : (t : ℕ) → In pool t → (get_or words t 0 ≡ 0 → ⊥) → Place q found t
    pub distinct : (a b : ℕ) → a < found → b < found → get_or q a 0 ≡ get_or q b 0 → a ≡ b
    pub tags : (t : ℕ) → In pool t → Tag q j t (get_or owners t 0) (get_or words t 0)

  -- the queue never fills
  pub not_full : {owners words q : List ℕ} {found j : ℕ} → Walk owners words q found j → found < length q
  not_full {owners} {words} w =
      let some : 0 < zeros words = zeros_some words (omega (arith, w.wide)) (w.outside 0 (λ i. omega (arith, i))).1 in
      omega (arith, w.sized, w.room)

  -- one more word: that of the row at j / 5
  module _ (owners words q q' : List ℕ) (found j : ℕ) (w : Walk owners words q found j) (h : j < 5 * found)
      (agree : (a : ℕ) → a < found → get_or q' a 0 ≡ get_or q a 0) where
    abbrev r₀ : ℕ
    r₀ = get_or q (j / 5) 0

    abbrev k₀ : ℕ
    k₀ = 3 + j % 5

    pub row₀ : Member words r₀
    row₀ = w.members (j / 5) (omega arith)

    fresh : Done q j r₀ k₀ → ⊥
    fresh d =
        let b = d.before in
        let e : d.a ≡ j / 5 = w.distinct d.a (j / 5) (omega arith) (omega arith) d.is in
        omega arith

    grow : (r k : ℕ) → Done q j r k → Done q' (j + 1) r k
    grow r k d =
        let b = d.before in
        let l = d.low in
        record { a = d.a; is = agree d.a (omega arith) ∙ d.is; low = d.low; high = d.high; before = omega arith }

    newly : Done q' (j + 1) r₀ k₀
    newly = record { a = j / 5; is = agree (j / 5) (omega arith); low = omega arith; high = omega arith; before = omega arith }

    before_or_now : (r k : ℕ) (d : Done q' (j + 1) r k) → (5 * d.a + k < j + 3) ⊎ (j + 3 ≤ 5 * d.a + k) → Done q j r k ⊎ ((r ≡ r₀) × (k ≡ k₀))
    before_or_now r k d o =
        let l = d.low in
        let m = d.high in
        let f : 5 * d.a + k < j + 1 + 3 = d.before in
        ⊎_elim
        (λ b. inl (record { a = d.a; is = sym (agree d.a (omega arith)) ∙ d.is; low = d.low; high = d.high; before = b }))
        (λ b.
        let s : d.a ≡ j / 5 = omega arith in
        let t : k ≡ k₀ = omega arith in
        inr (sym d.is ∙ agree d.a (omega arith) ∙ ap (λ n. get_or q n 0) s, t))
        o

    shift : (r k : ℕ) → Done q' (j + 1) r k → Done q j r k ⊎ ((r ≡ r₀) × (k ≡ k₀))
    shift r k d = before_or_now r k d (less_or (5 * d.a + k) (j + 3))

    -- a row that the word doesn't refer to
    module _ (t : ℕ) (n : word_of pool r₀ k₀ ≡ t → ⊥) where
      elsewhere : {r k : ℕ} → (r ≡ r₀) × (k ≡ k₀) → word_of pool r k ≡ t → ⊥
      elsewhere {r} {k} o e = n (ap (λ i. word_of pool i k₀) (sym o.0) ∙ ap (λ i. word_of pool r i) (sym o.1) ∙ e)

      keep : {owner word : ℕ} → Tag q j t owner word → Tag q' (j + 1) t owner word
      keep (none y z nr nd) = none y z nr (λ r k d e. ⊎_elim (λ o. nd r k o e) (λ o. elsewhere o e) (shift r k d))
      keep (rooted y z er nd) = rooted y z er (λ r k d e. ⊎_elim (λ o. nd r k o e) (λ o. elsewhere o e) (shift r k d))
      keep {owner} {word} (single d re i e nr u) =
          single (grow owner word d) re i e nr (λ r k d' e'. ⊎_elim (λ o. u r k o e') (λ o. absurd (elsewhere o e')) (shift r k d'))
      keep (double y z two) = double y z two

    -- the row that it refers to
    module _ (t : ℕ) (e : word_of pool r₀ k₀ ≡ t) where
      -- its second link
      second : {a b : ℕ} → Link pool root t a b → (a ≡ r₀ → b ≡ k₀ → ⊥) → Twice pool root t
      second {a} {b} l n =
          record {
            row₁ = a;
            word₁ = b;
            row₂ = r₀;
            word₂ = k₀;
            link₁ = l;
            link₂ = word_link {k = k₀} row₀.reached row₀.inside.0 (omega arith) (omega arith) e;
            different = n;
          }

      met_first : {owner word : ℕ} → word ≡ 0 → Tag q j t owner word → Tag q' (j + 1) t r₀ k₀
      met_first n (none y z nr nd) =
          single newly row₀.reached row₀.inside e nr (λ r k d e'. ⊎_elim (λ o. absurd (nd r k o e')) (λ o. o) (shift r k d))
      met_first n (rooted y z er nd) = absurd (omega arith)
      met_first n (single d re i e' nr u) = absurd (omega (arith, d.low))
      met_first n (double y z two) = absurd (omega arith)

      met_again : {owner word : ℕ} → (word ≡ 0 → ⊥) → Tag q j t owner word → Tag q' (j + 1) t 0 2
      met_again n (none y z nr nd) = absurd (n z)
      met_again n (rooted y z er nd) = double refl refl (second (root_link er) (λ a b. omega (arith, row₀.inside)))
      met_again n (single d re i e' nr u) =
          double refl refl
          (second (word_link re i.0 d.low d.high e')
          (λ a b. fresh (record { a = d.a; is = d.is ∙ a; low = omega arith; high = omega arith; before = omega (arith, d.before) })))
      met_again n (double y z two) = double refl refl two

  module _ {owners words q : List ℕ} {found j : ℕ} (w : Walk owners words q found j) (h : j < 5 * found) where
    abbrev r₁ : ℕ
    r₁ = get_or q (j / 5) 0

    abbrev k₁ : ℕ
    k₁ = 3 + j % 5

    abbrev t₀ : ℕ
    t₀ = word_of pool r₁ k₁

    -- no row's reference
    on_astray : (In pool t₀ → ⊥) → Walk owners words q found (j + 1)
    on_astray n =
        record {
          sized = w.sized;
          outside = w.outside;
          within = omega arith;
          wide = w.wide;
          even = w.even;
          room = w.room;
          members = w.members;
          covered = w.covered;
          distinct = w.distinct;
          tags = λ t i. keep owners words q q found j w h (λ a l. refl) t (λ e. n (rw e i)) (w.tags t i);
        }

    -- what a store at a row of the pool leaves
    module _ (i : In pool t₀) (r k : ℕ) where
      long : t₀ < length words
      long = omega (arith, i, w.wide)

      same : length (set words t₀ k) ≡ length words
      same = simp length-set

      even_still : length (set owners t₀ r) ≡ length (set words t₀ k)
      even_still = simp length-set w.even

      still_outside : (t : ℕ) → (In pool t → ⊥) → (get_or (set owners t₀ r) t 0 ≡ 0) × (get_or (set words t₀ k) t 0 ≡ 0)
      still_outside t n =
          let o : t ≡ t₀ → ⊥ = λ e. n (rw e i) in
          (get_or-set_other owners t₀ t r 0 o ∙ (w.outside t n).0, get_or-set_other words t₀ t k 0 o ∙ (w.outside t n).1)

      -- the links of the other rows, and of this one
      still_tagged : (q' : List ℕ) → ((a : ℕ) → a < found → get_or q' a 0 ≡ get_or q a 0) → Tag q' (j + 1) t₀ r k
          → (t : ℕ) → In pool t → Tag q' (j + 1) t (get_or (set owners t₀ r) t 0) (get_or (set words t₀ k) t 0)
      still_tagged q' agree now t o =
          ⊎_elim
          (λ e. rw (e, at_same owners t₀ r t₀ (omega (arith, long, w.even)) refl, at_same words t₀ k t₀ long refl) now)
          (λ e. rw (get_or-set_other owners t₀ t r 0 e, get_or-set_other words t₀ t k 0 e) (keep owners words q q' found j w h agree t (λ f. e (sym f)) (w.tags t o)))
          (same_or t t₀)

    -- a row met before
    on_again : In pool t₀ → (get_or words t₀ 0 ≡ 0 → ⊥) → Walk (set owners t₀ 0) (set words t₀ 2) q found (j + 1)
    on_again i z =
        record {
          sized = rw (zeros_same words t₀ 2 (long i 0 2) z (omega arith)) w.sized ∙ sym (same i 0 2);
          outside = still_outside i 0 2;
          within = omega arith;
          wide = rw (same i 0 2) w.wide;
          even = even_still i 0 2;
          room = rw (same i 0 2) w.room;
          members = members;
          covered = λ t o y. ⊎_elim (λ e. rw e (w.covered t₀ i z)) (λ e. w.covered t o (rw (get_or-set_other words t₀ t 2 0 e) at y)) (same_or t t₀);
          distinct = w.distinct;
          tags = still_tagged i 0 2 q (λ a l. refl) (met_again owners words q q found j w h (λ a l. refl) t₀ refl z (w.tags t₀ i));
        }
      where
        members : (a : ℕ) → a < found → Member (set words t₀ 2) (get_or q a 0)
        members a l =
            let m = w.members a l in
            record {
              inside = m.inside;
              reached = m.reached;
              linked =
                  λ y. ⊎_elim (λ e. let v = at_same words t₀ 2 (get_or q a 0) (long i 0 2) e in omega arith)
                  (λ e. m.linked (rw (get_or-set_other words t₀ (get_or q a 0) 2 0 e) at y)) (same_or (get_or q a 0) t₀);
            }

    -- a new row
    on_found : In pool t₀ → get_or words t₀ 0 ≡ 0 → Walk (set owners t₀ r₁) (set words t₀ k₁) (set q found t₀) (found + 1) (j + 1)
    on_found i z =
        record {
          sized = counted ∙ sym (same i r₁ k₁);
          outside = still_outside i r₁ k₁;
          within = omega arith;
          wide = rw (same i r₁ k₁) w.wide;
          even = even_still i r₁ k₁;
          room = rw (same i r₁ k₁, same') w.room;
          members = members;
          covered = covered;
          distinct = distinct;
          tags = still_tagged i r₁ k₁ (set q found t₀) agree (met_first owners words q (set q found t₀) found j w h agree t₀ refl z (w.tags t₀ i));
        }
      where
        full : found < length q
        full = not_full w

        same' : length (set q found t₀) ≡ length q
        same' = simp length-set

        counted : found + 1 + zeros (set words t₀ k₁) ≡ length words
        counted =
            let e = zeros_set words t₀ k₁ (long i r₁ k₁) z (omega arith) in
            omega (arith, w.sized)

        agree : (a : ℕ) → a < found → get_or (set q found t₀) a 0 ≡ get_or q a 0
        agree a l = get_or-set_other q found a t₀ 0 (λ e. omega arith)

        below_or : (a : ℕ) → a < found + 1 → (a < found) ⊎ (a ≡ found)
        below_or a l = ⊎_elim (λ e. inr e) (λ e. inl (omega arith)) (same_or a found)

        other : (a : ℕ) → a < found → get_or q a 0 ≡ t₀ → ⊥
        other a l e = (w.members a l).linked (rw e z)

        members : (a : ℕ) → a < found + 1 → Member (set words t₀ k₁) (get_or (set q found t₀) a 0)
        members a l =
            ⊎_elim
            (λ b.
            let m = w.members a b in
            rw (agree a b) (record {
              inside = m.inside;
              reached = m.reached;
              linked = λ y. m.linked (rw (get_or-set_other words t₀ (get_or q a 0) k₁ 0 (other a b)) at y);
            }))
            (λ b.
            rw (at_same q found t₀ a full b) (record {
              inside = i;
              reached = on {k = 3 + j % 5} (row₀ owners words q q found j w h (λ c l. refl)).reached (omega arith) (omega arith) refl i;
              linked = λ y. let e = at_same words t₀ k₁ t₀ (long i r₁ k₁) refl in omega arith;
            }))
            (below_or a l)

        covered : (t : ℕ) → In pool t → (get_or (set words t₀ k₁) t 0 ≡ 0 → ⊥) → Place (set q found t₀) (found + 1) t
        covered t o y =
            ⊎_elim (λ e. record { a = found; below = omega arith; is = at_same q found t₀ found full refl ∙ sym e })
            (λ e.
            let p = w.covered t o (rw (get_or-set_other words t₀ t k₁ 0 e) at y) in
            record { a = p.a; below = omega (arith, p.below); is = agree p.a p.below ∙ p.is })
            (same_or t t₀)

        distinct : (a b : ℕ) → a < found + 1 → b < found + 1 → get_or (set q found t₀) a 0 ≡ get_or (set q found t₀) b 0 → a ≡ b
        distinct a b l m e =
            ⊎_elim
            (λ x.
            ⊎_elim (λ y. w.distinct a b x y (sym (agree a x) ∙ e ∙ agree b y))
            (λ y. absurd (other a x (sym (agree a x) ∙ e ∙ at_same q found t₀ b full y))) (below_or b m))
            (λ x.
            ⊎_elim (λ y. absurd (other b y (sym (agree b y) ∙ sym e ∙ at_same q found t₀ a full x)))
            (λ y. x ∙ sym y) (below_or b m))
            (below_or a l)

    -- one word more
    pub turned : {owners' words' q' : List ℕ} {found' : ℕ} → Looked pool owners words q found r₁ k₁ owners' words' q' found' → Walk owners' words' q' found' (j + 1)
    turned (astray n a b c d) = rw (a, b, c, d) (on_astray n)
    turned (first_time i z a b c d) = rw (a, b, c, d) (on_found i z)
    turned (again i z a b c d) = rw (a, b, c, d) (on_again i z)

  -- the lengths stay
  pub same_lengths : {owners words q owners' words' q' : List ℕ} {found found' r k : ℕ} → Looked pool owners words q found r k owners' words' q' found'
      → (length owners' ≡ length owners) × (length words' ≡ length words) × (length q' ≡ length q)
  same_lengths (astray n a b c d) = (rw a, rw b, rw c)
  same_lengths (first_time i z a b c d) = (ap length a ∙ simp length-set, ap length b ∙ simp length-set, ap length c ∙ simp length-set)
  same_lengths (again i z a b c d) = (ap length a ∙ simp length-set, ap length b ∙ simp length-set, rw c)

  -- all words were looked at
  module _ {owners words q : List ℕ} {found j : ℕ} (w : Walk owners words q found j) (h : 5 * found ≤ j) (i : In pool root) where
    done : {r k : ℕ} → (get_or words r 0 ≡ 0 → ⊥) → In pool r → 3 ≤ k → k ≤ 7 → Done q j r k
    done {r} {k} n o a b =
        let p = w.covered r o n in
        let l = p.below in
        record { a = p.a; is = p.is; low = a; high = b; before = omega arith }

    -- a row with the word 0
    untold : {t owner word : ℕ} → Tag q j t owner word → word ≡ 0 → (root ≡ t → ⊥) × ((r k : ℕ) → Done q j r k → word_of pool r k ≡ t → ⊥)
    untold (none y z nr nd) n = (nr, nd)
    untold (rooted y z er nd) n = absurd (omega arith)
    untold (single d re o e nr u) n = absurd (omega (arith, d.low))
    untold (double y z two) n = absurd (omega arith)

    linked : {t : ℕ} → Reached pool root t → get_or words t 0 ≡ 0 → ⊥
    linked start y = (untold (w.tags root i) y).0 refl
    linked (on {r} {k} {t} x a b e n) y = (untold (w.tags t n) y).1 r k (done (λ z. linked x z) (reached_in i x) a b) e

    told : {t owner word : ℕ} → (word ≡ 0 → Reached pool root t → ⊥) → Tag q j t owner word → Told pool root t owner word
    told f (none y z nr nd) = unreached y z (f z)
    told f (rooted y z er nd) = the_root y z er (λ r k x a b e. nd r k (done (λ n. linked x n) (reached_in i x) a b) e)
    told f (single d re o e nr u) = by_one re o d.low d.high e nr (λ r k x a b e'. u r k (done (λ n. linked x n) (reached_in i x) a b) e')
    told f (double y z two) = by_two y z two

    pub surveyed : Surveyed pool root owners words
    surveyed = record { each = λ t o. told (λ z x. linked x z) (w.tags t o); outside = w.outside }

  -- where the walk begins
  module _ (owners words q : List ℕ) {n : ℕ} (zo : Zero n owners) (zw : Zero n words) (wide : count pool < n) (room : n ≤ length q) (i : In pool root) where
    pub begun : Walk owners (set words root 1) (set q 0 root) 1 0
    begun =
        record {
          sized = sized;
          outside = λ t o. (zo.each t, get_or-set_other words root t 1 0 (λ e. o (rw e i)) ∙ zw.each t);
          within = omega arith;
          wide = simp length-set (omega (arith, zw.long));
          even = simp length-set (zo.long ∙ sym zw.long);
          room = simp length-set (omega (arith, zw.long));
          members = λ a l. rw (at_same q 0 root a some (omega arith)) (record { inside = i; reached = start; linked = λ y. let e = at_same words root 1 root long' refl in omega arith });
          covered =
              λ t o y. ⊎_elim (λ e. record { a = 0; below = omega arith; is = at_same q 0 root 0 some refl ∙ sym e })
              (λ e. absurd (y (get_or-set_other words root t 1 0 e ∙ zw.each t))) (same_or t root);
          distinct = λ a b l m e. omega arith;
          tags =
              λ t o. ⊎_elim (λ e. rooted (zo.each t) (at_same words root 1 t long' e) (sym e) (λ r k d f. nothing d))
              (λ e. none (zo.each t) (get_or-set_other words root t 1 0 e ∙ zw.each t) (λ f. e (sym f)) (λ r k d f. nothing d)) (same_or t root);
        }
      where
        long' : root < length words
        long' = omega (arith, i, zw.long)

        some : 0 < length q
        some = omega arith

        sized : 1 + zeros (set words root 1) ≡ length (set words root 1)
        sized =
            let e = zeros_set words root 1 long' (zw.each root) (omega arith) in
            let f : zeros words ≡ length words = zeros_all words zw.each in
            simp length-set (omega arith)

        nothing : {r k : ℕ} → Done (set q 0 root) 0 r k → ⊥
        nothing d = omega (arith, d.before, d.low)
