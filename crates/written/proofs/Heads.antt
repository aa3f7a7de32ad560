-- How written expressions begin.
use Prim.Native.Nat.{ℕ, zero, suc, ◌/◌, ◌%◌, ◌<◌}
use native.Mathlib.Omega.{arith}
use mathlib.Core.Path.{◌≡◌, refl}
use mathlib.Core.Bool.{Bool, true, false, cond}
use mathlib.Core.List.{List, [], ◌∷◌}
use lib.Dec.{eqb}
use lib.ListN.{get_or}
use Rattle.grammar.specs.Words.{Identifier, SLParen, SRparen, SComma, SIncr, SDecr, SExcl, SNeg, tok, step}
use Rattle.grammar.specs.Tree.{Tree, node, Trees, nil, ◌▸◌}
use Rattle.slots.specs.Slots.{expressions, pairs}
use Rattle.written.specs.Written.{Token, forms, look, form, joined, separated, piece, pieces, write, writes}
use Rattle.written.specs.Claims.{deep}
use Rattle.written.proofs.Stood.{Stood, Sign, formed, infix_formed, single, behind, empty_list}
use Rattle.written.proofs.Shapes.{Fit, AllFit, fit_head, Bracket, an_infix, an_index, a_call, a_prefix, a_suffix, a_lambda, a_shell, Shape, a_value, an_array, a_hash, an_attribute, bracketed, shape, Paired, a_pair, paired}
use Rattle.written.proofs.Signs.{starter, value_starts, differs}

module _ (ts : List ℕ) where
  pub valued : {xs : List Token} (at c w q : ℕ) → xs ≡ (w, q) ∷ [] → Stood ts at xs c → (tok ts at ≡ w) × (at < step ts at) × (step ts at ≡ c)
  valued at c w q e h = rw e at h

  pub identified_at : (q at c : ℕ) → Stood ts at (joined (writes (node 2 0 q nil nil nil nil 0 ▸ nil))) c → Sign ts Identifier at × (step ts at ≡ c)
  unfolding joined writes write form look forms pieces piece
  identified_at q at c (e, f, h) = ((e, f), h)

  module _ (n : ℕ) where
    paren_of : {t : Tree} → Bracket n t → (at c : ℕ) → Stood ts at (write t) c → tok ts at ≡ SLParen
    unfolding form look forms writes
    paren_of (an_infix {m} {p} {l} {r} i f g j k) at c h = (infix_formed ts m p l r at c h).0.0
    paren_of (an_index {m} {p} {l} {i = i'} i f g j k) at c h = (formed ts 10 m p (l ▸ nil) (i' ▸ nil) nil nil at c h).0.0
    paren_of (a_call {m} {p} {f = f'} {us} i f g j k) at c h = (formed ts 11 m p (f' ▸ nil) us nil nil at c h).0.0
    paren_of (a_prefix {m} {p} {t} i f j) at c h = (formed ts 13 m p (t ▸ nil) nil nil nil at c h).0.0
    paren_of (a_suffix {m} {p} {t} i f j) at c h = (formed ts 14 m p (t ▸ nil) nil nil nil at c h).0.0
    paren_of (a_lambda {m} {p} {u} {t} {us} i f g j k) at c h = (formed ts 15 m p (u ▸ us) (t ▸ nil) nil nil at c h).0.0
    paren_of (a_shell {m} {p} {t} i f j) at c h = (formed ts 16 m p (t ▸ nil) nil nil nil at c h).0.0

    shape_head : {t : Tree} → Shape n t → (at c : ℕ) → Stood ts at (write t) c → starter (tok ts at) ≡ true
    unfolding form look forms writes
    shape_head (a_value {w} {q} v e f l) at c h = let (i, j, g) = valued at c w q e h in rw i (value_starts v)
    shape_head (an_array {m} {p} {us} e f l) at c h = rw (formed ts 8 m p us nil nil nil at c h).0.0
    shape_head (a_hash {m} {p} {us} e f l) at c h = rw (formed ts 9 m p us nil nil nil at c h).0.0
    shape_head (an_attribute {m} {p} {q} {u} {us} e f l) at c h =
        let (b', k, r) = formed ts 17 m p (node 2 0 q nil nil nil nil 0 ▸ nil) (u ▸ us) nil nil at c h in
        let ((i, j), g) = identified_at q at b' k in rw i
    shape_head (bracketed x) at c h = rw (paren_of x at c h)

  -- The first word of a written expression.
  pub head : (t : Tree) → Fit expressions t → (at c : ℕ) → Stood ts at (write t) c → starter (tok ts at) ≡ true
  head t o at c h = shape_head (deep t) (shape (deep t) t o (omega arith)) at c h

  pub one_head : (t : Tree) → Fit expressions t → (at c : ℕ) → Stood ts at (joined (writes (t ▸ nil))) c → starter (tok ts at) ≡ true
  unfolding writes
  one_head t o at c h = head t o at c (single ts at c t h)

  pub list_head : (w : ℕ) (t : Tree) (us : Trees) → AllFit expressions (t ▸ us) → (at c : ℕ) → Stood ts at (separated w (writes (t ▸ us))) c → starter (tok ts at) ≡ true
  list_head w t us o at c h = let (b', k, r) = behind ts w at c t us h in head t (fit_head o) at b' k

  pub pair_head : (t : Tree) → Fit pairs t → (at c : ℕ) → Stood ts at (write t) c → starter (tok ts at) ≡ true
  unfolding form look forms writes
  pair_head t o at c h = go (paired (deep t) t o (omega arith)) h
    where
      go : {t : Tree} {n : ℕ} → Paired n t → Stood ts at (write t) c → starter (tok ts at) ≡ true
      go (a_pair {m} {p} {k} {v} e f g i j) h = let (b', x, r) = formed ts 19 m p (k ▸ nil) (v ▸ nil) nil nil at c h in one_head k f at b' x

  -- The second word of a written expression, or the one behind it, is no closing bracket.
  prefix_sign : (i : ℕ) → i < 4 → eqb (get_or (SIncr ∷ SDecr ∷ SExcl ∷ SNeg ∷ []) i 0) SRparen ≡ false
  prefix_sign zero h = refl
  prefix_sign (suc zero) h = refl
  prefix_sign (suc (suc zero)) h = refl
  prefix_sign (suc (suc (suc zero))) h = refl
  prefix_sign (suc (suc (suc (suc i)))) h = absurd (omega arith)

  list_second : (w close : ℕ) (us : Trees) → AllFit expressions us → eqb close SRparen ≡ false → (at c : ℕ) → Stood ts at (separated w (writes us)) c → tok ts c ≡ close
      → eqb (tok ts at) SRparen ≡ false
  unfolding writes
  list_second w close nil o e at c h q = rw (empty_list ts w at c h, q, e)
  list_second w close (t ▸ us) o e at c h q = differs starter (tok ts at) SRparen (list_head w t us o at c h) refl

  pairs_second : (us : Trees) → AllFit pairs us → (at c : ℕ) → Stood ts at (separated SComma (writes us)) c → eqb (tok ts c) SRparen ≡ false
      → eqb (tok ts at) SRparen ≡ false
  unfolding writes
  pairs_second nil o at c h q = rw (empty_list ts SComma at c h, q)
  pairs_second (t ▸ us) o at c h q =
      let (b', k, r) = behind ts SComma at c t us h in
      differs starter (tok ts at) SRparen (pair_head t (fit_head o) at b' k) refl

  -- What a flag writes, and what comes behind it, is no closing bracket.
  pub flag_second : (c : Bool) (w at e : ℕ) → Stood ts at (cond c [] ((w, 0) ∷ [])) e → eqb w SRparen ≡ false → eqb (tok ts e) SRparen ≡ false → eqb (tok ts at) SRparen ≡ false
  flag_second true w at e h x y = rw (h, y)
  flag_second false w at e (i, j, h) x y = rw (i, x)

  one_second : (t : Tree) → Fit expressions t → (at c : ℕ) → Stood ts at (joined (writes (t ▸ nil))) c → eqb (tok ts at) SRparen ≡ false
  one_second t o at c h = differs starter (tok ts at) SRparen (one_head t o at c h) refl

  bracket_second : {n : ℕ} {t : Tree} → Bracket n t → (at c : ℕ) → Stood ts at (write t) c → eqb (tok ts (step ts at)) SRparen ≡ false
  unfolding form look forms writes
  bracket_second (an_infix {m} {p} {l} {r} i f g j k) at c h = let (x, (b', y, z)) = infix_formed ts m p l r at c h in one_second l f (step ts at) b' y
  bracket_second (an_index {m} {p} {l} {i = i'} i f g j k) at c h =
      let (x, (b', y, z)) = formed ts 10 m p (l ▸ nil) (i' ▸ nil) nil nil at c h in one_second l f (step ts at) b' y
  bracket_second (a_call {m} {p} {f = f'} {us} i f g j k) at c h =
      let (x, (b1, y1, (b2, y2, (b3, y3, z)))) = formed ts 11 m p (f' ▸ nil) us nil nil at c h in
      flag_second (eqb (m / 1 % 2) 0) _ (step ts at) b1 y1 refl (flag_second (eqb (m / 2 % 2) 0) _ b1 b2 y2 refl (one_second f' f b2 b3 y3))
  bracket_second (a_prefix {m} {p} {t} i f j) at c h =
      let (x, (y, z)) = formed ts 13 m p (t ▸ nil) nil nil nil at c h in
      rw y.0 (prefix_sign (m % 256) i)
  bracket_second (a_suffix {m} {p} {t} i f j) at c h = let (x, (b', y, z)) = formed ts 14 m p (t ▸ nil) nil nil nil at c h in one_second t f (step ts at) b' y
  bracket_second (a_lambda {m} {p} {u} {t} {us} i f g j k) at c h = let (x, (y, z)) = formed ts 15 m p (u ▸ us) (t ▸ nil) nil nil at c h in rw y.0
  bracket_second (a_shell {m} {p} {t} i f j) at c h = let (x, (y, z)) = formed ts 16 m p (t ▸ nil) nil nil nil at c h in rw y.0

  shape_second : {n : ℕ} {t : Tree} → Shape n t → (at c : ℕ) → Stood ts at (write t) c → eqb (tok ts c) SRparen ≡ false → eqb (tok ts (step ts at)) SRparen ≡ false
  unfolding form look forms writes
  shape_second (a_value {w} {q} v e f l) at c h x = let (i, j, g) = valued at c w q e h in rw (g, x)
  shape_second (an_array {m} {p} {us} e f l) at c h x =
      let (i, (b', y, ((z, z'), q))) = formed ts 8 m p us nil nil nil at c h in
      list_second SComma _ us f refl (step ts at) b' y z
  shape_second (a_hash {m} {p} {us} e f l) at c h x =
      let (i, (b', y, ((z, z'), q))) = formed ts 9 m p us nil nil nil at c h in
      pairs_second us f (step ts at) b' y (rw z)
  shape_second (an_attribute {m} {p} {q} {u} {us} e f l) at c h x =
      let (b', k, ((z, z'), r)) = formed ts 17 m p (node 2 0 q nil nil nil nil 0 ▸ nil) (u ▸ us) nil nil at c h in
      let ((i, j), g) = identified_at q at b' k in rw (g, z)
  shape_second (bracketed y) at c h x = bracket_second y at c h

  pub second : (t : Tree) → Fit expressions t → (at c : ℕ) → Stood ts at (joined (writes (t ▸ nil))) c → eqb (tok ts c) SRparen ≡ false
      → eqb (tok ts (step ts at)) SRparen ≡ false
  unfolding writes
  second t o at c h x = shape_second (shape (deep t) t o (omega arith)) at c (single ts at c t h) x
