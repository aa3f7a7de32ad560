-- Trees: a text ends by its own form, and says its tree.
use mathlib.Core.Path.{◌≡◌, refl, sym, ◌∙◌}
use mathlib.Core.Bool.{true}
use mathlib.Core.Logic.{inl}
use mathlib.Core.List.{List, [], ◌∷◌, ◌++◌, append_assoc, append_cancel_left as cancel}
use Prim.Native.Nat.{ℕ, ◌≤◌}
use native.Mathlib.Omega.{arith}
use borrow.Author.Tests.{ltb-true, eqb-true}
use Rattle.grammar.specs.Tree.{Tree, infixed, node, Trees, nil, ◌▸◌}
use Rattle.slots.specs.Slots.{Many, no as nowhere, one as single, at_most_one, any, some, slot, counts, how_many}
use Rattle.lines.specs.Lines.{letters}
use Rattle.payloads.specs.Fields.{Field}
use Rattle.payloads.specs.Needs.{needs}
use Rattle.json_text.specs.Json.{head, listed, array, object_or_null, child, member, text, texts}
use Rattle.json_text.specs.Claims.{Alike, rows, infixes, EachAlike, none, more}
use Rattle.json_text.proofs.Decimal.{Stops}
use Rattle.json_text.proofs.Rows.{Row, Same, head_law, child_law, stops_child, stops_member, behind, listed_behind}

-- The slots of a row hold as many trees as they take.
pub record Counted (k : ℕ) (a b c d : Trees) : Type 0 where
  pub in_0 : counts (slot k 0).many (how_many a) ≡ true
  pub in_1 : counts (slot k 1).many (how_many b) ≡ true
  pub in_2 : counts (slot k 2).many (how_many c) ≡ true
  pub in_3 : counts (slot k 3).many (how_many d) ≡ true

abbrev mutual
  -- A tree that is written.
  pub Good : List Field → Tree → Type 0
  Good fs (infixed m p l r z) = Good fs l × Good fs r
  Good fs (node k m p a b c d z) = Row fs k p × (k ≡ 12 → ⊥) × Counted k a b c d × Goods fs a × Goods fs b × Goods fs c × Goods fs d

  pub Goods : List Field → Trees → Type 0
  Goods fs nil = Unit {0}
  Goods fs (t ▸ ts) = Good fs t × Goods fs ts

-- The members of a row's slots, and what stands behind the row.
unfoldable pub members : (k : ℕ) (a b c d : List (List ℕ)) → List ℕ → List ℕ
members k a b c d x =
    member 0 (slot k 0).many a ++ (member 1 (slot k 1).many b ++ (member 2 (slot k 2).many c ++ (member 3 (slot k 3).many d ++ (0x7D ∷ x))))

stops_members : (k : ℕ) (a b c d : List (List ℕ)) (x : List ℕ) → Stops (members k a b c d x)
unfolding members
stops_members k a b c d x =
    stops_member 0 _ a _ (stops_member 1 _ b _ (stops_member 2 _ c _ (stops_member 3 (slot k 3).many d (0x7D ∷ x) (λ a b. omega arith))))

pub node_whole : (fs : List Field) (k m p : ℕ) (a b c d : Trees) (z : ℕ) (x : List ℕ)
    → text fs (node k m p a b c d z) ++ x ≡ head fs k m p ++ members k (texts fs a) (texts fs b) (texts fs c) (texts fs d) x
unfolding text members
node_whole fs k m p a b c d z x = simp append_assoc

unfoldable pub sides : (l r x : List ℕ) → List ℕ
sides l r x = child 0 l ++ (child 1 r ++ (0x7D ∷ x))

stops_sides : (l r x : List ℕ) → Stops (sides l r x)
unfolding sides
stops_sides l r x = stops_child 0 l (child 1 r ++ (0x7D ∷ x))

pub infix_whole : (fs : List Field) (m p : ℕ) (l r : Tree) (z : ℕ) (x : List ℕ) → text fs (infixed m p l r z) ++ x ≡ head fs 12 m p ++ sides (text fs l) (text fs r) x
unfolding text sides member object_or_null
infix_whole fs m p l r z x = simp append_assoc

-- A text begins with a brace.
record Opens (t : List ℕ) : Type 0 where
  rest : List ℕ
  whole : t ≡ 0x7B ∷ rest

opens : (fs : List Field) (t : Tree) → Opens (text fs t)
unfolding text head
opens fs (infixed m p l r z) = record { rest = _; whole = refl }
opens fs (node k m p a b c d z) = record { rest = _; whole = refl }

not_open : (fs : List Field) (t : Tree) (b : ℕ) (x y : List ℕ) → (b ≡ 0x7B → ⊥) → b ∷ x ≡ text fs t ++ y → ⊥
not_open fs t b x y h e =
    let o = opens fs t in
    let f : b ∷ x ≡ 0x7B ∷ (o.rest ++ y) = rw o.whole at e in
    h (cc)

pub infix_row : (fs : List Field) (p : ℕ) → Row fs 12 p
unfolding needs
infix_row fs p = record { known = inl (omega arith, omega arith); proper = λ h. absurd (h refl) }

module _ (fs gs : List Field) where
  abbrev TextLaw : Tree → Type 0
  TextLaw t = (u : Tree) (x y : List ℕ) → Good fs t → Good gs u → text fs t ++ x ≡ text gs u ++ y → Alike fs gs t u × (x ≡ y)

  abbrev RestLaw : Trees → Type 0
  RestLaw ts = (us : Trees) (x y : List ℕ) → Goods fs ts → Goods gs us → behind (texts fs ts) x ≡ behind (texts gs us) y → EachAlike fs gs ts us × (x ≡ y)

  abbrev SlotLaw : Trees → Type 0
  SlotLaw ts = (us : Trees) (i : ℕ) (m : Many) (x y : List ℕ) → counts m (how_many ts) ≡ true → counts m (how_many us) ≡ true → Goods fs ts → Goods gs us
      → member i m (texts fs ts) ++ x ≡ member i m (texts gs us) ++ y → EachAlike fs gs ts us × (x ≡ y)

  -- lists, behind a member
  rest_nil : RestLaw nil
  unfolding behind texts
  rest_nil nil x y g h e = (none, cc)
  rest_nil (u ▸ us) x y g h e = let z : ◌≡◌ {A = ℕ} 0x5D 0x2C = cc in absurd (omega arith)

  rest_more : (t : Tree) (ts : Trees) → TextLaw t → RestLaw ts → RestLaw (t ▸ ts)
  unfolding behind texts
  rest_more t ts one all nil x y g h e = let z : ◌≡◌ {A = ℕ} 0x2C 0x5D = cc in absurd (omega arith)
  rest_more t ts one all (u ▸ us) x y (g, gs') (h, hs) e =
      let (a, f) = one u (behind (texts fs ts) x) (behind (texts gs us) y) g h (cc) in
      let (b, r) = all us x y gs' hs f in
      (more a b, r)

  -- no more trees, and none
  empty : (ts us : Trees) → how_many ts ≡ 0 → how_many us ≡ 0 → EachAlike fs gs ts us
  empty nil nil a b = none
  empty nil (u ▸ us) a b = absurd (omega arith)
  empty (t ▸ ts) us a b = absurd (omega arith)

  -- slots: an object or null
  object_nil : (us : Trees) (x y : List ℕ) → how_many us ≤ 1 → object_or_null [] ++ x ≡ object_or_null (texts gs us) ++ y → EachAlike fs gs nil us × (x ≡ y)
  unfolding object_or_null texts
  object_nil nil x y h e = (none, cancel (letters "null") x y e)
  object_nil (u ▸ us) x y h e = absurd (not_open gs u 110 (letters "ull" ++ x) y (λ z. omega arith) e)

  object_more : (t : Tree) (ts us : Trees) (x y : List ℕ) → TextLaw t → how_many (t ▸ ts) ≤ 1 → how_many us ≤ 1 → Goods fs (t ▸ ts) → Goods gs us
      → object_or_null (texts fs (t ▸ ts)) ++ x ≡ object_or_null (texts gs us) ++ y → EachAlike fs gs (t ▸ ts) us × (x ≡ y)
  unfolding object_or_null texts
  object_more t ts nil x y one h k g g' e = absurd (not_open fs t 110 (letters "ull" ++ y) x (λ z. omega arith) (sym e))
  object_more t ts (u ▸ us) x y one h k (g, _) (g', _) e =
      let (a, r) = one u x y g g' e in
      (more a (empty ts us (omega arith) (omega arith)), r)

  -- slots: an array
  pub array_whole : (ts : List (List ℕ)) (x : List ℕ) → array ts ++ x ≡ 0x5B ∷ (listed ts ++ (0x5D ∷ x))
  unfolding array
  array_whole ts x = simp append_assoc

  array_nil : (us : Trees) (x y : List ℕ) → array [] ++ x ≡ array (texts gs us) ++ y → EachAlike fs gs nil us × (x ≡ y)
  unfolding array listed texts
  array_nil nil x y e = (none, cancel (0x5B ∷ 0x5D ∷ []) x y e)
  array_nil (u ▸ us) x y e =
      let f : 0x5B ∷ 0x5D ∷ x ≡ 0x5B ∷ (listed (text gs u ∷ texts gs us) ++ (0x5D ∷ y)) = e ∙ array_whole (text gs u ∷ texts gs us) y in
      let g : 0x5D ∷ x ≡ listed (text gs u ∷ texts gs us) ++ (0x5D ∷ y) = cancel (0x5B ∷ []) _ _ f in
      absurd (not_open gs u 0x5D x (behind (texts gs us) y) (λ z. omega arith) (g ∙ listed_behind (text gs u) (texts gs us) y))

  nothing : (z : List ℕ) → listed [] ++ (0x5D ∷ z) ≡ 0x5D ∷ z
  unfolding listed
  nothing z = refl

  array_more : (t : Tree) (ts us : Trees) (x y : List ℕ) → TextLaw t → RestLaw ts → Goods fs (t ▸ ts) → Goods gs us
      → array (texts fs (t ▸ ts)) ++ x ≡ array (texts gs us) ++ y → EachAlike fs gs (t ▸ ts) us × (x ≡ y)
  unfolding texts
  array_more t ts nil x y one all g g' e =
      let f : 0x5B ∷ (listed (text fs t ∷ texts fs ts) ++ (0x5D ∷ x)) ≡ 0x5B ∷ (listed [] ++ (0x5D ∷ y)) = sym (array_whole (text fs t ∷ texts fs ts) x) ∙ e ∙ array_whole [] y in
      let h : listed (text fs t ∷ texts fs ts) ++ (0x5D ∷ x) ≡ listed [] ++ (0x5D ∷ y) = cancel (0x5B ∷ []) _ _ f in
      let l : 0x5D ∷ y ≡ text fs t ++ behind (texts fs ts) x = sym (nothing y) ∙ sym h ∙ listed_behind (text fs t) (texts fs ts) x in
      absurd (not_open fs t 0x5D y (behind (texts fs ts) x) (λ z. omega arith) l)
  array_more t ts (u ▸ us) x y one all (g, gs') (h, hs) e =
      let f : 0x5B ∷ (listed (text fs t ∷ texts fs ts) ++ (0x5D ∷ x)) ≡ 0x5B ∷ (listed (text gs u ∷ texts gs us) ++ (0x5D ∷ y)) =
      sym (array_whole (text fs t ∷ texts fs ts) x) ∙ e ∙ array_whole (text gs u ∷ texts gs us) y in
      let l = sym (listed_behind (text fs t) (texts fs ts) x) ∙ cancel (0x5B ∷ []) _ _ f ∙ listed_behind (text gs u) (texts gs us) y in
      let (a, r) = one u (behind (texts fs ts) x) (behind (texts gs us) y) g h l in
      let (b, s) = all us x y gs' hs r in
      (more a b, s)

  -- slots, by how many trees they take
  none_counted : (n : ℕ) → counts nowhere n ≡ true → n ≡ 0
  unfolding counts
  none_counted n e = eqb-true n 0 e

  one_counted : (n : ℕ) → counts single n ≡ true → n ≤ 1
  unfolding counts
  one_counted n e = omega (arith, eqb-true n 1 e)

  most_counted : (n : ℕ) → counts at_most_one n ≡ true → n ≤ 1
  unfolding counts
  most_counted n e = omega (arith, ltb-true n 2 e)

  slot_nil : SlotLaw nil
  unfolding member texts
  slot_nil us i nowhere x y c d g h e = (empty nil us refl (none_counted (how_many us) d), e)
  slot_nil us i single x y c d g h e = object_nil us x y (one_counted (how_many us) d) (child_law i _ _ x y e)
  slot_nil us i at_most_one x y c d g h e = object_nil us x y (most_counted (how_many us) d) (child_law i _ _ x y e)
  slot_nil us i any x y c d g h e = array_nil us x y (child_law i _ _ x y e)
  slot_nil us i some x y c d g h e = array_nil us x y (child_law i _ _ x y e)

  slot_more : (t : Tree) (ts : Trees) → TextLaw t → RestLaw ts → SlotLaw (t ▸ ts)
  unfolding member
  slot_more t ts one all us i nowhere x y c d g h e = (empty (t ▸ ts) us (none_counted (how_many (t ▸ ts)) c) (none_counted (how_many us) d), e)
  slot_more t ts one all us i single x y c d g h e =
      object_more t ts us x y one (one_counted (how_many (t ▸ ts)) c) (one_counted (how_many us) d) g h (child_law i _ _ x y e)
  slot_more t ts one all us i at_most_one x y c d g h e =
      object_more t ts us x y one (most_counted (how_many (t ▸ ts)) c) (most_counted (how_many us) d) g h (child_law i _ _ x y e)
  slot_more t ts one all us i any x y c d g h e = array_more t ts us x y one all g h (child_law i _ _ x y e)
  slot_more t ts one all us i some x y c d g h e = array_more t ts us x y one all g h (child_law i _ _ x y e)

  -- rows of one kind, mark and place
  same_rows : (k m p z z' : ℕ) (a b c d a' b' c' d' : Trees) (x y : List ℕ) → SlotLaw a → SlotLaw b → SlotLaw c → SlotLaw d
      → Counted k a b c d → Counted k a' b' c' d' → Goods fs a → Goods fs b → Goods fs c → Goods fs d → Goods gs a' → Goods gs b' → Goods gs c' → Goods gs d'
      → Same fs gs k p
      → members k (texts fs a) (texts fs b) (texts fs c) (texts fs d) x ≡ members k (texts gs a') (texts gs b') (texts gs c') (texts gs d') y
      → Alike fs gs (node k m p a b c d z) (node k m p a' b' c' d' z') × (x ≡ y)
  unfolding members
  same_rows k m p z z' a b c d a' b' c' d' x y la lb lc ld n n' ga gb gc gd ha hb hc hd s e =
      let (ea, e1) = la a' 0 (slot k 0).many _ _ n.in_0 n'.in_0 ga ha e in
      let (eb, e2) = lb b' 1 (slot k 1).many _ _ n.in_1 n'.in_1 gb hb e1 in
      let (ec, e3) = lc c' 2 (slot k 2).many _ _ n.in_2 n'.in_2 gc hc e2 in
      let (ed, e4) = ld d' 3 (slot k 3).many _ _ n.in_3 n'.in_3 gd hd e3 in
      (rows s ea eb ec ed, cancel (0x7D ∷ []) x y e4)

  node_law : (k m p z : ℕ) (a b c d : Trees) → SlotLaw a → SlotLaw b → SlotLaw c → SlotLaw d → TextLaw (node k m p a b c d z)
  node_law k m p z a b c d la lb lc ld (infixed n q l r z') x y g h e =
      let f = sym (node_whole fs k m p a b c d z x) ∙ e ∙ infix_whole gs n q l r z' y in
      let s = head_law fs gs k 12 m n p q _ _ g.0 (infix_row gs q) (stops_members k _ _ _ _ x) (stops_sides (text gs l) (text gs r) y) f in
      absurd (g.1 s.kinds)
  node_law k m p z a b c d la lb lc ld (node j n q a' b' c' d' z') x y (row, other, count, ga, gb, gc, gd) (row', other', count', ha, hb, hc, hd) e =
      let f = sym (node_whole fs k m p a b c d z x) ∙ e ∙ node_whole gs j n q a' b' c' d' z' y in
      let s = head_law fs gs k j m n p q _ _ row row' (stops_members k _ _ _ _ x) (stops_members j _ _ _ _ y) f in
      rw (← s.kinds, ← s.marks, ← s.places)
      (same_rows k m p z z' a b c d a' b' c' d' x y la lb lc ld count (rw s.kinds count') ga gb gc gd ha hb hc hd s.same (rw (← s.kinds) at s.behind))

  infix_law : (m p z : ℕ) (l r : Tree) → TextLaw l → TextLaw r → TextLaw (infixed m p l r z)
  unfolding sides
  infix_law m p z l r ll lr (infixed n q l' r' z') x y g h e =
      let f = sym (infix_whole fs m p l r z x) ∙ e ∙ infix_whole gs n q l' r' z' y in
      let s = head_law fs gs 12 12 m n p q _ _ (infix_row fs p) (infix_row gs q) (stops_sides (text fs l) (text fs r) x) (stops_sides (text gs l') (text gs r') y) f in
      let (a, e1) = ll l' _ _ g.0 h.0 (child_law 0 _ _ _ _ s.behind) in
      let (b, e2) = lr r' _ _ g.1 h.1 (child_law 1 _ _ _ _ e1) in
      (rw (← s.marks, ← s.places) (infixes a b), cancel (0x7D ∷ []) x y e2)
  infix_law m p z l r ll lr (node j n q a' b' c' d' z') x y g h e =
      let f = sym (infix_whole fs m p l r z x) ∙ e ∙ node_whole gs j n q a' b' c' d' z' y in
      let s = head_law fs gs 12 j m n p q _ _ (infix_row fs p) h.0 (stops_sides (text fs l) (text fs r) x) (stops_members j _ _ _ _ y) f in
      absurd (h.1 (sym s.kinds))

  mutual
    -- Every text ends by its own form, and says its tree.
    pub text_law : (t : Tree) → TextLaw t
    text_law (infixed m p l r z) = infix_law m p z l r (text_law l) (text_law r)
    text_law (node k m p a b c d z) = node_law k m p z a b c d (slot_law a) (slot_law b) (slot_law c) (slot_law d)

    slot_law : (ts : Trees) → SlotLaw ts
    slot_law nil = slot_nil
    slot_law (t ▸ ts) = slot_more t ts (text_law t) (rest_law ts)

    rest_law : (ts : Trees) → RestLaw ts
    rest_law nil = rest_nil
    rest_law (t ▸ ts) = rest_more t ts (text_law t) (rest_law ts)
