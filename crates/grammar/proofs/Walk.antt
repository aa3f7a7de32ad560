-- Two readings side by side, by two rules and of two arrays: one walk of the readers, for any relation of answers that their steps keep.
use Prim.Native.Nat.{ℕ, zero, suc}
use mathlib.Core.Path.{◌≡◌, ap}
use mathlib.Core.Bool.{Bool, true, false, not}
use mathlib.Core.List.{List, [], ◌∷◌}
use lib.Dec.{eqb}
use Rattle.grammar.specs.Words.{tok, step, is, next_is, goes_on}
use Rattle.grammar.specs.Tree.{Tree, node, Trees, leaf, ended, Thread, Async}
use Rattle.grammar.specs.Parsed.{Parsed, refused, read, Reader, ◌>>=◌, ◌>>◌, need, build, choose, Arm, ◌⇒◌, match, WrongSign}
use Rattle.grammar.specs.Rules.{Rules, fits}
use Rattle.grammar.specs.Expressions as e
use Rattle.grammar.specs.Statements as s
use Rattle.grammar.proofs.Like.{Like, infixes, nodes, Likes, nils, one_like, join_like, flag_like, call_like}

-- A relation of two answers, over one of what was read.
abbrev pub Relation : Type 1
Relation = (A : Type 0) → (A → A → Type 0) → Parsed A → Parsed A → Type 0

-- What such a relation must keep, at places that correspond (At) and with as many rows left as correspond (up): to refuse, to read, to go on
-- from what was read, to take a row.
pub record Kept (At : ℕ → ℕ → Type 0) (up : ℕ → ℕ) (Rel : Relation) : Type 1 where
  pub refusing : {A : Type 0} (R : A → A → Type 0) (n p q : ℕ) → At p q → Rel A R (refused n p) (refused n q)
  pub reading : {A : Type 0} (R : A → A → Type 0) (a b : A) (at bt n : ℕ) → R a b → At at bt → Rel A R (read a at n) (read b bt (up n))
  pub going_on : {A B : Type 0} (R : A → A → Type 0) (S : B → B → Type 0) (x y : Parsed A) (f g : A × ℕ × ℕ → Parsed B) → Rel A R x y
      → ((a b : A) (at bt n : ℕ) → R a b → At at bt → Rel B S (f (a, at, n)) (g (b, bt, up n))) → Rel B S (x >>= f) (y >>= g)
  pub building : (t u : Tree) (at bt n : ℕ) → Like At (ended at t) (ended bt u) → At at bt → Rel Tree (Like At) (build t at n) (build u bt (up n))

-- What the walk along two readings asks for: such a relation; that the tokens at places that correspond are the same, and that the places after
-- them correspond; and that the relation is kept where the first rules P and the second rules Q may differ.
pub record Beside (At : ℕ → ℕ → Type 0) (up : ℕ → ℕ) (Rel : Relation) (P Q : Rules) (ts us : List ℕ) : Type 1 where
  pub kept : Kept At up Rel
  pub token : (a b : ℕ) → At a b → tok ts a ≡ tok us b
  pub on : (a b : ℕ) → At a b → At (step ts a) (step us b)
  pub fitting : {A : Type 0} (R : A → A → Type 0) (at bt w p q : ℕ) (x y : Parsed A) → At at bt → At p q → Rel A R x y
      → Rel A R (need (fits P ts at w) WrongSign p >> x) (need (fits Q us bt w) WrongSign q >> y)

-- A test that comes out alike.
same_test : {At : ℕ → ℕ → Type 0} {up : ℕ → ℕ} {Rel : Relation} → Kept At up Rel → {A : Type 0} (R : A → A → Type 0) (a b : Bool) (n p q : ℕ) (x y : Parsed A)
    → a ≡ b → At p q → Rel A R x y → Rel A R (need a n p >> x) (need b n q >> y)
unfolding need ◌>>◌
same_test kept R true b n p q x y e h k = rw (← e) k
same_test kept R false b n p q x y e h k = rw (← e) (kept.refusing R n p q h)

-- By one rule the same signs are asked for.
module _ {At : ℕ → ℕ → Type 0} {up : ℕ → ℕ} {Rel : Relation} (rules : Rules) (ts us : List ℕ) (kept : Kept At up Rel)
    (token : (a b : ℕ) → At a b → tok ts a ≡ tok us b) (on : (a b : ℕ) → At a b → At (step ts a) (step us b)) where
  same_sign : (a b w : ℕ) → At a b → fits rules ts a w ≡ fits rules us b w
  unfolding fits next_is is
  same_sign a b w h = rw (token (step ts a) (step us b) (on a b h))

  pub by_one_rule : Beside At up Rel rules rules ts us
  by_one_rule = record { kept = kept; token = token; on = on; fitting = λ R at bt w p q x y h. same_test kept R _ _ WrongSign p q x y (same_sign at bt w h) }

not_like : {a b : Bool} → a ≡ b → not a ≡ not b
not_like h = ap not h

module _ {At : ℕ → ℕ → Type 0} {up : ℕ → ℕ} {Rel : Relation} {P Q : Rules} {ts us : List ℕ} (beside : Beside At up Rel P Q ts us) where
  -- Two readers whose answers are related wherever their places and rows correspond: of a tree, and of a list.
  abbrev pub Alike : Reader Tree → Reader Tree → Type 0
  Alike f g = (at bt n : ℕ) → At at bt → Rel Tree (Like At) (f at n) (g bt (up n))

  abbrev pub Alikes : Reader Trees → Reader Trees → Type 0
  Alikes f g = (at bt n : ℕ) → At at bt → Rel Trees (Likes At) (f at n) (g bt (up n))

  module _ {B : Type 0} (S : B → B → Type 0) where
    then_tree : (x y : Parsed Tree) (f g : Tree × ℕ × ℕ → Parsed B) → Rel Tree (Like At) x y
        → ((t u : Tree) (at bt n : ℕ) → Like At t u → At at bt → Rel B S (f (t, at, n)) (g (u, bt, up n))) → Rel B S (x >>= f) (y >>= g)
    then_tree x y f g h k = beside.kept.going_on (Like At) S x y f g h k

    then_trees : (x y : Parsed Trees) (f g : Trees × ℕ × ℕ → Parsed B) → Rel Trees (Likes At) x y
        → ((t u : Trees) (at bt n : ℕ) → Likes At t u → At at bt → Rel B S (f (t, at, n)) (g (u, bt, up n))) → Rel B S (x >>= f) (y >>= g)
    then_trees x y f g h k = beside.kept.going_on (Likes At) S x y f g h k

    on_refused : (n p q : ℕ) → At p q → Rel B S (refused n p) (refused n q)
    on_refused n p q h = beside.kept.refusing S n p q h

    on_read : (a b : B) (at bt n : ℕ) → S a b → At at bt → Rel B S (read a at n) (read b bt (up n))
    on_read a b at bt n r h = beside.kept.reading S a b at bt n r h

    on_need : (a b : Bool) (n p q : ℕ) (x y : Parsed B) → a ≡ b → At p q → Rel B S x y → Rel B S (need a n p >> x) (need b n q >> y)
    on_need a b n p q x y e h k = same_test beside.kept S a b n p q x y e h k

    on_fits : (at bt w p q : ℕ) (x y : Parsed B) → At at bt → At p q → Rel B S x y → Rel B S (need (fits P ts at w) WrongSign p >> x) (need (fits Q us bt w) WrongSign q >> y)
    on_fits at bt w p q x y h i k = beside.fitting S at bt w p q x y h i k

    on_choose : (a b : Bool) (x y x' y' : Unit {0} → Parsed B) → a ≡ b → Rel B S (x tt) (x' tt) → Rel B S (y tt) (y' tt) → Rel B S (choose a x y) (choose b x' y')
    unfolding choose
    on_choose true b x y x' y' e h k = rw (← e) h
    on_choose false b x y x' y' e h k = rw (← e) k

  on_build : (t u : Tree) (at bt n : ℕ) → Like At (ended at t) (ended bt u) → At at bt → Rel Tree (Like At) (build t at n) (build u bt (up n))
  on_build t u at bt n l h = beside.kept.building t u at bt n l h

  on_node : (k m p q : ℕ) (a b c d a' b' c' d' : Trees) (at bt n : ℕ) → At p q → Likes At a a' → Likes At b b' → Likes At c c' → Likes At d d' → At at bt
      → Rel Tree (Like At) (build (node k m p a b c d 0) at n) (build (node k m q a' b' c' d' 0) bt (up n))
  on_node k m p q a b c d a' b' c' d' at bt n h x y z w i = on_build _ _ at bt n (nodes h x y z w i) i

  -- What holds of the arms of two matches, arm by arm.
  infixr 5 ◌▹◌
  data Arms : List (Arm Tree) → List (Arm Tree) → Type 0 where
    end : Arms [] []
    ◌▹◌ : {w : ℕ} {f g : Reader Tree} {xs ys : List (Arm Tree)} → Alike f g → Arms xs ys → Arms ((w ⇒ f) ∷ xs) ((w ⇒ g) ∷ ys)

  match_alike : {xs ys : List (Arm Tree)} (v w : ℕ) (f g : Reader Tree) → v ≡ w → Arms xs ys → Alike f g → Alike (match v xs f) (match w ys g)
  unfolding match
  match_alike v w f g e end h at bt n p = h at bt n p
  match_alike v w f g e (◌▹◌ {w = key} r rs) h at bt n p =
      on_choose _ _ _ _ _ _ _ (ap (λ (x : ℕ). eqb x key) e) (r at bt n p) (match_alike v w f g e rs h at bt n p)

  is_like : (a b w : ℕ) → At a b → is ts a w ≡ is us b w
  unfolding is
  is_like a b w h = rw (beside.token a b h)

  next_like : (a b w : ℕ) → At a b → next_is ts a w ≡ next_is us b w
  unfolding next_is
  next_like a b w h = is_like (step ts a) (step us b) w (beside.on a b h)

  on : (a b : ℕ) → At a b → At (step ts a) (step us b)
  on = beside.on

  token : (a b : ℕ) → At a b → tok ts a ≡ tok us b
  token = beside.token

  -- What most readers are made of, and what all are.
  ruleset steps = (then_tree, on_need, on_fits, on_node, next_like, not_like, on, nils, one_like)

  ruleset base = (steps, then_trees, on_choose, on_refused, on_read, is_like, join_like, flag_like, call_like)

  identifier_alike : (k mark : ℕ) → Alike (e.get_identifier ts (leaf k mark)) (e.get_identifier us (leaf k mark))
  unfolding e.get_identifier
  identifier_alike k mark at bt n p = search base

  leaf_alike : (k mark : ℕ) → Alike (λ at. build (leaf k mark at) at) (λ at. build (leaf k mark at) at)
  leaf_alike k mark at bt n p = search base

  dots_alike : (i : ℕ) (names others : Trees) → Likes At names others → Alikes (e.dots ts i names) (e.dots us i others)
  unfolding e.dots
  dots_alike zero names others h at bt n p = on_refused _ _ _ _ p
  dots_alike (suc i) names others h at bt n p = let more = dots_alike i in search (base, identifier_alike, more) depth 9

  dot_alike : Alike (e.dot_expression ts) (e.dot_expression us)
  unfolding e.dot_expression
  dot_alike at bt n p = search (base, identifier_alike, dots_alike) depth 9

  no_prefix_alike : Alike (e.no_prefix ts) (e.no_prefix us)
  unfolding e.no_prefix
  no_prefix_alike at bt n p = rw (token at bt p) (search base)

  module _ (a b : e.Rec) (rec : (pre : ℕ) → Alike (a pre) (b pre)) where
    entries_alike : (f g : Reader Tree) → Alike f g → (i : ℕ) (list more : Trees) → Likes At list more
        → Alikes (e.entries P ts a f i list) (e.entries Q us b g i more)
    unfolding e.entries
    entries_alike f g h zero list more l at bt n p = on_refused _ _ _ _ p
    entries_alike f g h (suc i) list more l at bt n p = let next = entries_alike f g h i in search (base, next) depth 9

    list_alike : Alikes (e.list_expr P ts a) (e.list_expr Q us b)
    unfolding e.list_expr
    list_alike at bt n p = search (base, entries_alike) depth 9

    pair_alike : Alike (e.pair P ts a) (e.pair Q us b)
    unfolding e.pair
    pair_alike at bt n p = search base depth 9

    lambda_alike : Alike (e.lambda P ts a) (e.lambda Q us b)
    unfolding e.lambda
    lambda_alike at bt n p = search (base, list_alike) depth 12

    started_alike : (flag : ℕ) → Alike (e.started P ts a flag) (e.started Q us b flag)
    unfolding e.started
    started_alike flag at bt n p = search base depth 9

    array_alike : Alike (e.array P ts a) (e.array Q us b)
    unfolding e.array
    array_alike at bt n p = search (base, list_alike) depth 9

    hash_alike : Alike (e.hash_literal P ts a) (e.hash_literal Q us b)
    unfolding e.hash_literal
    hash_alike at bt n p = search (base, pair_alike, entries_alike) depth 12

    prefix_alike : (mark : ℕ) → Alike (e.prefix P ts a mark) (e.prefix Q us b mark)
    unfolding e.prefix
    prefix_alike mark at bt n p = search steps depth 9

    sub_alike : Alike (e.sub_expression P ts a) (e.sub_expression Q us b)
    unfolding e.sub_expression
    sub_alike at bt n p = search base depth 9

    shell_alike : Alike (e.shell P ts a) (e.shell Q us b)
    unfolding e.shell e.command
    shell_alike at bt n p = search base depth 9

    prefix_part_alike : Alike (e.prefix_part P ts a) (e.prefix_part Q us b)
    unfolding e.prefix_part
    prefix_part_alike at bt n p =
        match_alike _ _ _ _ (token at bt p)
        (dot_alike ▹ leaf_alike _ _ ▹ leaf_alike _ _ ▹ leaf_alike _ _ ▹ leaf_alike _ _ ▹ leaf_alike _ _ ▹ leaf_alike _ _ ▹ lambda_alike ▹ leaf_alike _ _
        ▹ started_alike Thread ▹ started_alike Async ▹ array_alike ▹ hash_alike ▹ prefix_alike 0 ▹ prefix_alike 1 ▹ prefix_alike 2 ▹ prefix_alike 3
        ▹ sub_alike ▹ shell_alike ▹ end) no_prefix_alike at bt n p

    module _ {t u : Tree} (l : Like At t u) where
      suffix_alike : (mark : ℕ) → Alike (e.suffix_expression P ts a t mark) (e.suffix_expression Q us b u mark)
      unfolding e.suffix_expression
      suffix_alike mark at bt n p = search steps depth 9

      call_alike : Alike (e.call P ts a t) (e.call Q us b u)
      unfolding e.call
      call_alike at bt n p = search (base, list_alike) depth 9

      index_alike : Alike (e.index P ts a t) (e.index Q us b u)
      unfolding e.index
      index_alike at bt n p = search steps depth 9

      infix_alike : Alike (e.infix_expression P ts a t) (e.infix_expression Q us b u)
      unfolding e.infix_expression
      infix_alike at bt n p = rw (token at bt p) (search (steps, on_build, infixes) depth 9)

      operation_alike : Alike (e.operation P ts a t) (e.operation Q us b u)
      unfolding e.operation
      operation_alike at bt n p =
          match_alike _ _ _ _ (token at bt p) (suffix_alike 0 ▹ suffix_alike 1 ▹ call_alike ▹ index_alike ▹ end) infix_alike at bt n p

    climb_alike : (pre i : ℕ) (t u : Tree) → Like At t u → Alike (e.climb P ts a pre i t) (e.climb Q us b pre i u)
    unfolding e.climb
    climb_alike pre zero t u l at bt n p = on_refused _ _ _ _ p
    climb_alike pre (suc i) t u l at bt n p =
        let more = climb_alike pre i in
        let next : goes_on pre (tok ts (step ts at)) ≡ goes_on pre (tok us (step us bt)) = ap (goes_on pre) (token _ _ (on at bt p)) in
        search (base, operation_alike, more) depth 9

    pub level_alike : (pre : ℕ) → Alike (e.level P ts a pre) (e.level Q us b pre)
    unfolding e.level
    level_alike pre at bt n p = search (base, prefix_part_alike, climb_alike) depth 9

  pub expression_alike : (d pre : ℕ) → Alike (e.expression P ts d pre) (e.expression Q us d pre)
  unfolding e.expression
  expression_alike zero pre at bt n p = on_refused _ _ _ _ p
  expression_alike (suc d) pre at bt n p = level_alike (e.expression P ts d) (e.expression Q us d) (expression_alike d) pre at bt n p

  module _ (a b : e.Rec) (rec : (pre : ℕ) → Alike (a pre) (b pre)) (f g : Reader Trees) (stmt : Alikes f g) where
    exprs_alike : Alikes (e.list_expr P ts a) (e.list_expr Q us b)
    exprs_alike = list_alike a b rec

    pub statements_alike : (close i : ℕ) (list more : Trees) → Likes At list more → Alikes (s.statements P ts a f close i list) (s.statements Q us b g close i more)
    unfolding s.statements
    statements_alike close zero list more l at bt n p = on_refused _ _ _ _ p
    statements_alike close (suc i) list more l at bt n p = let next = statements_alike close i in search (base, next) depth 9

    block_alike : Alike (s.block P ts a f) (s.block Q us b g)
    unfolding s.block s.opened
    block_alike at bt n p = search (base, statements_alike) depth 9

    ruleset bodies = (steps, block_alike)

    else_alike : Alikes (s.else P ts a f) (s.else Q us b g)
    unfolding s.else
    else_alike at bt n p = search (base, block_alike) depth 9

    finally_alike : Alikes (s.finally P ts a f) (s.finally Q us b g)
    unfolding s.finally
    finally_alike at bt n p = search (base, block_alike) depth 9

    var_alike : Alike (s.var P ts a f) (s.var Q us b g)
    unfolding s.var s.value
    var_alike at bt n p = search base depth 12

    const_alike : Alike (s.const P ts a f) (s.const Q us b g)
    unfolding s.const s.value
    const_alike at bt n p = search base depth 12

    if_alike : Alike (s.if P ts a f) (s.if Q us b g)
    unfolding s.if
    if_alike at bt n p = search (bodies, then_trees, else_alike) depth 15

    assert_alike : Alike (s.assert P ts a f) (s.assert Q us b g)
    unfolding s.assert
    assert_alike at bt n p = search steps depth 12

    while_alike : Alike (s.while P ts a f) (s.while Q us b g)
    unfolding s.while
    while_alike at bt n p = search bodies depth 12

    return_alike : Alike (s.return P ts a f) (s.return Q us b g)
    unfolding s.return
    return_alike at bt n p = search base depth 12

    function_alike : Alike (s.function P ts a f) (s.function Q us b g)
    unfolding s.function
    function_alike at bt n p = search (bodies, then_trees, is_like, exprs_alike) depth 15

    for_alike : Alike (s.for P ts a f) (s.for Q us b g)
    unfolding s.for
    for_alike at bt n p = search bodies depth 15

    throw_alike : Alike (s.throw P ts a f) (s.throw Q us b g)
    unfolding s.throw
    throw_alike at bt n p = search steps depth 12

    try_alike : Alike (s.try P ts a f) (s.try Q us b g)
    unfolding s.try
    try_alike at bt n p = search (bodies, then_trees, finally_alike) depth 15

    foreach_alike : Alike (s.foreach P ts a f) (s.foreach Q us b g)
    unfolding s.foreach
    foreach_alike at bt n p = search bodies depth 15

    plain_alike : Alike (s.expression_statement P ts a f) (s.expression_statement Q us b g)
    unfolding s.expression_statement
    plain_alike at bt n p = search steps depth 12

    alone_alike : (k mark number : ℕ) → Alike (s.alone P ts a f (leaf k mark) number) (s.alone Q us b g (leaf k mark) number)
    unfolding s.alone
    alone_alike k mark number at bt n p = search steps

    begun_alike : (x y : Reader Tree) → Alike x y → Alike (s.begun P ts a f x) (s.begun Q us b g y)
    unfolding s.begun
    begun_alike x y h at bt n p = search steps

    kept_alike : Alike (s.kept P ts a f) (s.kept Q us b g)
    unfolding s.kept
    kept_alike at bt n p =
        match_alike _ _ _ _ (token at bt p)
        (alone_alike _ _ _ ▹ alone_alike _ _ _ ▹ begun_alike _ _ (λ at bt n p. var_alike _ _ n (on at bt p)) ▹ begun_alike _ _ (λ at bt n p. const_alike _ _ n (on at bt p))
        ▹ begun_alike _ _ if_alike ▹ begun_alike _ _ assert_alike ▹ begun_alike _ _ while_alike ▹ return_alike ▹ begun_alike _ _ (λ at bt n p. function_alike _ _ n (on at bt p))
        ▹ begun_alike _ _ for_alike ▹ begun_alike _ _ throw_alike ▹ begun_alike _ _ try_alike ▹ begun_alike _ _ foreach_alike ▹ end) plain_alike at bt n p

    pub statement_level_alike : Alikes (s.level P ts a f) (s.level Q us b g)
    unfolding s.level
    statement_level_alike at bt n p = search (base, kept_alike) depth 9

  pub statement_alike : (d : ℕ) → Alikes (s.statement P ts d) (s.statement Q us d)
  unfolding s.statement
  statement_alike zero at bt n p = on_refused _ _ _ _ p
  statement_alike (suc d) at bt n p =
      statement_level_alike (e.expression P ts d) (e.expression Q us d) (expression_alike d) (s.statement P ts d) (s.statement Q us d) (statement_alike d) at bt n p
