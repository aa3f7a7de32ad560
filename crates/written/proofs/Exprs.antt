-- What is written of an expression is read back.
use Prim.Native.Nat.{ℕ, zero, suc, ◌+◌, ◌-◌, ◌/◌, ◌%◌, ◌≤◌, ◌<◌}
use native.Mathlib.Omega.{arith}
use mathlib.Core.Path.{◌≡◌, refl, ◌∙◌}
use mathlib.Core.Bool.{Bool, true, false, cond, not, ◌||◌}
use mathlib.Core.List.{List, [], ◌∷◌}
use lib.Dec.{eqb}
use lib.ListN.{length, get_or}
use Rattle.grammar.specs.Words.{Identifier, SLParen, SRparen, SSemiColon, SComma, SDot, SIncr, SDecr, SExcl, SNeg, SLBox, SRBox, SLBrace, SRBrace, SImpl, SColon, SDollar}
use Rattle.grammar.specs.Words.{KThread, KAsync, KLambda, tok, step, is, next_is, Zero, order, infix_of}
use Rattle.grammar.specs.Tree.{Tree, infixed, node, Trees, nil, ◌▸◌, ended, size, sizes, join, flag, flagged, Thread, Async, is_call}
use Rattle.grammar.specs.Parsed.{Reader, read, ◌>>=◌, ◌>>◌, need, build, choose, match, turns}
use Rattle.grammar.specs.Rules.{Rules, fits}
use Rattle.grammar.specs.Expressions.{Rec, get_identifier, dots, dot_expression, entries, pair, hash_literal, array, lambda, started, prefix, command, shell, prefix_part}
use Rattle.grammar.specs.Expressions.{infix_expression, suffix_expression, call, index, operation, expression}
use Rattle.grammar.specs.Claims.{Value, an_identifier, an_integer, a_float, a_char, a_string, a_true, a_false, a_none}
use Rattle.slots.specs.Slots.{expressions, pairs, names, how_many}
use Rattle.written.specs.Written.{forms, look, form, infix_signs, separated, piece, pieces, write, writes}
use Rattle.written.specs.Claims.{deep, deeps}
use Rattle.written.proofs.Dress.{seen, seens, dressed, dresseds, inner, wrapped}
use Rattle.written.proofs.Stood.{Stood, Behind, formed, infix_formed, single, behind, members, behind_within, step_inside, empty_list}
use Rattle.written.proofs.Shapes.{Fit, AllFit, fit_head, fit_tail, Bracket, an_infix, an_index, a_call, a_prefix, a_suffix, a_lambda, a_shell, two}
use Rattle.written.proofs.Shapes.{Shape, a_value, an_array, a_hash, an_attribute, bracketed, shape, positive, Paired, a_pair, paired, Named, a_name, named}
use Rattle.written.proofs.Signs.{Closes, closes, by_rparen, by_rbox, by_rbrace, by_colon, by_arrow, starter, differs, operator, goers, inside, or_last}
use Rattle.written.proofs.Heads.{valued, identified_at, head, one_head, list_head, pair_head, flag_second, second}
use Rattle.written.proofs.Back.{Upto, Uptil, Lot, lot_none, lot_one, Item, followed, entries_read, list_read, Part, whole, group, climbed}

module _ (rules : Rules) (ts : List ℕ) (short : length ts ≤ turns) where
  abbrev ex : ℕ → Rec
  ex d = expression rules ts d

  -- Written expressions as first parts, and as wholes above any order.
  abbrev pub First : ℕ → Type 0
  First d = (t : Tree) (at c : ℕ) → Fit expressions t → deep t ≤ suc d → Stood ts at (write t) c → eqb (tok ts c) SDot ≡ false → Upto ts (Part ts rules d) at c t

  abbrev pub Whole : ℕ → Type 0
  Whole d = (pre : ℕ) → Item ts (ex d pre) expressions d

  -- ---- values and dotted names

  value_part : {w : ℕ} {made : ℕ → Tree} (d at left : ℕ) → Value w made → tok ts at ≡ w → eqb (tok ts (step ts at)) SDot ≡ false
      → Part ts rules d at (suc left) ≡ read (ended at (made at)) at left
  unfolding prefix_part match choose build dot_expression get_identifier need ◌>>◌ ◌>>=◌ is next_is
  value_part d at left an_identifier e h = rw (e, h)
  value_part d at left an_integer e h = rw e
  value_part d at left a_float e h = rw e
  value_part d at left a_char e h = rw e
  value_part d at left a_string e h = rw e
  value_part d at left a_true e h = rw e
  value_part d at left a_false e h = rw e
  value_part d at left a_none e h = rw e

  name_at : {t : Tree} → Named t → (at c : ℕ) → Stood ts at (write t) c
      → (tok ts at ≡ Identifier) × (at < step ts at) × (step ts at ≡ c) × (seen (node 18 0 at nil nil nil nil at) ≡ dressed t) × (size t ≡ 1)
  unfolding write writes form look forms pieces piece seen seens dressed dresseds inner
  name_at (a_name {m} {p} e) at c (i, j, h) = (i, j, h, rw e, refl)

  dots_none : (before : Trees) (n last c room : ℕ) → step ts last ≡ c → eqb (tok ts c) SDot ≡ false → dots ts (suc n) before last room ≡ read before last room
  unfolding dots choose next_is is
  dots_none before n last c room e dot = rw (e, dot)

  dots_one : (before : Trees) (n last at room : ℕ) → step ts last ≡ at → tok ts at ≡ SDot → tok ts (step ts at) ≡ Identifier
      → dots ts (suc n) before last (suc room) ≡ dots ts n (join before (node 18 0 (step ts at) nil nil nil nil (step ts at) ▸ nil)) (step ts at) room
  unfolding dots choose next_is is get_identifier need ◌>>◌ ◌>>=◌ build
  dots_one before n last at room e sign i = rw (e, sign, i)

  names_read : (us before : Trees) (n last at c : ℕ) → step ts last ≡ at → last < step ts last → Behind ts SDot us at c → AllFit names us → how_many us < n → eqb (tok ts c) SDot ≡ false
      → Lot ts (dots ts n before last) before c us
  names_read us before zero last at c e f h o m dot = absurd (omega arith)
  names_read nil before (suc n) last at c e f h o m dot = lot_none ts (e ∙ h) f (λ room. dots_none before n last c room (e ∙ h) dot)
  names_read (t ▸ us) before (suc n) last at c e f ((sign, on), (b', k, rest)) o m dot =
      let (i, further, g, same, one) = name_at (named t (fit_head o)) (step ts at) b' k in
      let new = node 18 0 (step ts at) nil nil nil nil (step ts at) in
      let v = names_read us (join before (new ▸ nil)) n (step ts at) b' c g further rest (fit_tail o) (omega arith) dot in
      lot_one ts new same (λ room left q. let z : room ≡ suc left = omega arith in rw z (dots_one before n last at left e sign i)) v

  attribute_part : (d at e n last left : ℕ) (us : Trees) → tok ts at ≡ Identifier → step ts at ≡ e → tok ts e ≡ SDot
      → dots ts turns nil at n ≡ read (join nil us) last (suc left)
      → Part ts rules d at (suc n) ≡ read (node 17 0 at (node 2 0 at nil nil nil nil at ▸ nil) us nil nil last) last left
  unfolding prefix_part match choose build dot_expression get_identifier need ◌>>◌ ◌>>=◌ is next_is join
  attribute_part d at e n last left us i g s h = rw (i, g, s, h)

  attribute_first : {n n' : ℕ} (d m p q at c : ℕ) (u : Tree) (us : Trees) → m % 256 ≡ 0 → AllFit names (u ▸ us)
      → Stood ts at (write (node 17 m p (node 2 0 q nil nil nil nil n ▸ nil) (u ▸ us) nil nil n')) c → eqb (tok ts c) SDot ≡ false
      → Upto ts (Part ts rules d) at c (node 17 m p (node 2 0 q nil nil nil nil n ▸ nil) (u ▸ us) nil nil n')
  unfolding form look forms writes seen seens dressed dresseds inner
  attribute_first d m p q at c u us e o h dot =
      let (b1, k, (s1, (b2, y, r))) = formed ts 17 m p (node 2 0 q nil nil nil nil 0 ▸ nil) (u ▸ us) nil nil at c h in
      let ((i, j), g) = identified_at ts q at b1 k in
      let rest : Behind ts SDot (u ▸ us) b1 c = (s1, behind ts SDot (step ts b1) c u us (rw r at y)) in
      let in-range : how_many (u ▸ us) < turns = omega (arith, members ts SDot b1 c (u ▸ us) rest, behind_within ts SDot b1 c (u ▸ us) (rw g at (step_inside ts at j)) rest, rw g at j) in
      let v = names_read (u ▸ us) nil turns at b1 c g j rest o in-range dot in
      record {
        tree = node 17 0 at (node 2 0 at nil nil nil nil at ▸ nil) v.trees nil nil v.last;
        last = v.last;
        same = rw (v.same, e);
        stops = v.stops;
        on = v.on;
        reads = λ room left q. let z : room ≡ suc (sizes (u ▸ us) + suc left) = omega arith in rw z (attribute_part d at b1 (sizes (u ▸ us) + suc left) v.last left v.trees i g s1.0 (v.reads (sizes (u ▸ us) + suc left) (suc left) refl));
      }

  -- ---- lists

  array_first : {n : ℕ} (d m p at c : ℕ) (us : Trees) → m % 256 ≡ 0 → AllFit expressions us → deeps us ≤ d → Item ts (ex d Zero) expressions d
      → Stood ts at (write (node 8 m p us nil nil nil n)) c → Upto ts (Part ts rules d) at c (node 8 m p us nil nil nil n)
  unfolding form look forms writes prefix_part match choose build array need ◌>>◌ ◌>>=◌ is next_is seen seens dressed dresseds inner join
  array_first d m p at c nil e o l item h =
      let (i, (b1, y, (s1, r))) = formed ts 8 m p nil nil nil nil at c h in
      let g = empty_list ts SComma (step ts at) b1 y in
      record {
        tree = node 8 0 at nil nil nil nil b1;
        last = b1;
        same = rw e;
        stops = r;
        on = s1.1;
        reads = λ room left q. let z : room ≡ suc left = omega arith in rw (z, i.0, g, s1.0);
      }
  array_first d m p at c (t ▸ us) e o l item h =
      let (i, (b1, y, (s1, r))) = formed ts 8 m p (t ▸ us) nil nil nil at c h in
      let x = list_head ts SComma t us o (step ts at) b1 y in
      let v = list_read ts rules short d at b1 SRBox t us item o l y s1.0 (closes by_rbox) refl refl (differs starter (tok ts (step ts at)) SRparen x refl) in
      record {
        tree = node 8 0 at v.trees nil nil nil b1;
        last = b1;
        same = rw (v.same, e);
        stops = r;
        on = s1.1;
        reads = λ room left q. rw (i.0, differs starter (tok ts (step ts at)) SRBox x refl, v.reads room (suc left) (omega arith), v.stops, s1.0);
      }

  pair_part : (d at a r b c room left : ℕ) (k v : Tree) → ex d Zero at room ≡ read k a r → step ts a ≡ b → tok ts b ≡ SColon → ex d Zero (step ts b) r ≡ read v c (suc left)
      → pair rules ts (ex d) at room ≡ read (node 19 0 b (k ▸ nil) (v ▸ nil) nil nil c) c left
  unfolding build pair need ◌>>◌ ◌>>=◌ is next_is
  pair_part d at a r b c room left k v h s i g = rw (h, s, i, g)

  pair_read : (d : ℕ) → Item ts (ex d Zero) expressions d → Item ts (pair rules ts (ex d)) pairs d
  unfolding form look forms writes seen seens dressed dresseds inner
  pair_read d item t at c o l h close = go (paired d t o l) h
    where
      go : {t : Tree} → Paired d t → Stood ts at (write t) c → Upto ts (pair rules ts (ex d)) at c t
      go (a_pair {m} {p} {k} {v} e ok ov lk lv) h =
          let (b1, x, (s1, (b2, y, r))) = formed ts 19 m p (k ▸ nil) (v ▸ nil) nil nil at c h in
          let u = item k at b1 ok lk (single ts at b1 k x) (rw s1.0 (closes by_colon)) in
          let w = item v (step ts b1) c ov lv (rw r at (single ts (step ts b1) b2 v y)) close in
          record {
            tree = node 19 0 b1 (u.tree ▸ nil) (w.tree ▸ nil) nil nil w.last;
            last = w.last;
            same = rw (u.same, w.same, e);
            stops = w.stops;
            on = w.on;
            reads = λ room left q.
                pair_part d at u.last (size v + suc left) b1 w.last room left u.tree w.tree (u.reads room _ (omega arith)) u.stops s1.0 (w.reads _ (suc left) refl);
          }

  hash_part : (d at a r b room left : ℕ) (t : Tree) (us : Trees) → tok ts at ≡ SLBrace → eqb (tok ts (step ts at)) SRBrace ≡ false
      → pair rules ts (ex d) (step ts at) room ≡ read t a r → (last : ℕ) → entries rules ts (ex d) (pair rules ts (ex d)) turns (t ▸ nil) a r ≡ read us last (suc left)
      → step ts last ≡ b → tok ts b ≡ SRBrace → Part ts rules d at room ≡ read (node 9 0 at us nil nil nil b) b left
  unfolding prefix_part match choose build hash_literal need ◌>>◌ ◌>>=◌ is next_is
  hash_part d at a r b room left t us i x h last g s k = rw (i, x, h, g, s, k)

  hash_first : {n : ℕ} (d m p at c : ℕ) (us : Trees) → m % 256 ≡ 0 → AllFit pairs us → deeps us ≤ d → Item ts (ex d Zero) expressions d
      → Stood ts at (write (node 9 m p us nil nil nil n)) c → Upto ts (Part ts rules d) at c (node 9 m p us nil nil nil n)
  unfolding form look forms writes prefix_part match choose build hash_literal need ◌>>◌ ◌>>=◌ is next_is seen seens dressed dresseds inner join deeps
  hash_first d m p at c nil e o l item h =
      let (i, (b1, y, (s1, r))) = formed ts 9 m p nil nil nil nil at c h in
      let g = empty_list ts SComma (step ts at) b1 y in
      record {
        tree = node 9 0 at nil nil nil nil b1;
        last = b1;
        same = rw e;
        stops = r;
        on = s1.1;
        reads = λ room left q. let z : room ≡ suc left = omega arith in rw (z, i.0, g, s1.0);
      }
  hash_first d m p at c (t ▸ us) e o l item h =
      let (i, (b1, y, (s1, r))) = formed ts 9 m p (t ▸ us) nil nil nil at c h in
      let (b2, k, rest) = behind ts SComma (step ts at) b1 t us y in
      let x = pair_head ts t (fit_head o) (step ts at) b2 k in
      let close : Closes (tok ts b1) = rw s1.0 (closes by_rbrace) in
      let comma : eqb (tok ts b1) SComma ≡ false = rw s1.0 in
      let u = pair_read d item t (step ts at) b2 (fit_head o) (omega arith) k (followed ts us b2 b1 close rest) in
      let in-range : how_many us < turns = omega (arith, members ts SComma b2 b1 us rest, inside ts SRBrace b1 s1.0 refl) in
      let v = entries_read ts rules (ex d) (pair rules ts (ex d)) pairs d (pair_read d item) us (u.tree ▸ nil) turns u.last b2 b1 u.stops u.on rest (fit_tail o) (omega arith) in-range close comma in
      record {
        tree = node 9 0 at (u.tree ▸ v.trees) nil nil nil b1;
        last = b1;
        same = rw (u.same, v.same, e);
        stops = r;
        on = s1.1;
        reads = λ room left q.
            hash_part d at u.last (sizes us + suc left) b1 room left u.tree (u.tree ▸ v.trees) i.0 (differs starter (tok ts (step ts at)) SRBrace x refl)
            (u.reads room (sizes us + suc left) (omega arith)) v.last (v.reads (sizes us + suc left) (suc left) refl) v.stops s1.0;
      }

  -- ---- in brackets: an expression one level up, and then the closing bracket

  -- What is read behind an opening bracket, of a kind that is written in brackets.
  module _ (e : ℕ) (first : First e) (item : Whole e) where
    end : Closes SRparen
    end = closes by_rparen

    closed : (c : ℕ) → tok ts c ≡ SRparen → Closes (tok ts c)
    closed c h = rw h end

    infix_inner : {n : ℕ} (m p at c1 c : ℕ) (l r : Tree) → m % 256 < 23 → Fit expressions l → Fit expressions r → deep l ≤ suc e → deep r ≤ e
        → Stood ts at (write l) c1 → tok ts c1 ≡ get_or infix_signs (m % 256) 0 → Stood ts (step ts c1) (write r) c → tok ts c ≡ SRparen
        → Uptil ts inner (ex (suc e) Zero) at c (infixed m p l r n)
    unfolding operation match choose infix_expression build ◌>>=◌ seen seens dressed dresseds inner
    infix_inner {n} m p at c1 c l r i ol or dl dr hl s hr close =
        let w = operator (m % 256) i in
        let u = first l at c1 ol dl hl (rw s w.dot) in
        let v = item (order (get_or infix_signs (m % 256) 0)) r (step ts c1) c or dr hr (closed c close) in
        let mark : infix_of (get_or infix_signs (m % 256) 0) - 1 ≡ m % 256 = omega (arith, w.mark) in
        let small : m % 256 % 256 ≡ m % 256 = omega arith in
        climbed ts rules e at c1 c (size r + 1) v.last l (infixed m p l r n) (infixed (m % 256) c1 u.tree v.tree v.last) u (rw s w.semi) (rw s w.on) (omega arith)
        (λ left. rw (s, w.incr, w.decr, w.call, w.index, v.reads (size r + 1 + left) (suc left) (omega arith), mark))
        (rw (u.same, v.same)) v.stops v.on (closed c close)

    index_inner : {n : ℕ} (m p at c1 c2 : ℕ) (l i : Tree) → m % 256 ≡ 0 → Fit expressions l → Fit expressions i → deep l ≤ suc e → deep i ≤ e
        → Stood ts at (write l) c1 → tok ts c1 ≡ SLBox → Stood ts (step ts c1) (write i) c2 → tok ts c2 ≡ SRBox → c2 < step ts c2 → tok ts (step ts c2) ≡ SRparen
        → Uptil ts inner (ex (suc e) Zero) at (step ts c2) (node 10 m p (l ▸ nil) (i ▸ nil) nil nil n)
    unfolding operation match choose index need ◌>>◌ build ◌>>=◌ next_is is seen seens dressed dresseds inner
    index_inner {n} m p at c1 c2 l i z ol oi dl di hl s hi s2 on close =
        let u = first l at c1 ol dl hl (rw s) in
        let v = item Zero i (step ts c1) c2 oi di hi (rw s2 (closes by_rbox)) in
        climbed ts rules e at c1 (step ts c2) (size i + 1) c2 l (node 10 m p (l ▸ nil) (i ▸ nil) nil nil n) (node 10 0 c1 (u.tree ▸ nil) (v.tree ▸ nil) nil nil c2) u
        (rw s) (rw s goers.index) (omega arith)
        (λ left. rw (s, v.reads (size i + 1 + left) (suc left) (omega arith), v.stops, s2))
        (rw (u.same, v.same, z)) refl on (closed (step ts c2) close)

    suffix_inner : {n : ℕ} (m p at c1 : ℕ) (l : Tree) → m % 256 < 2 → Fit expressions l → deep l ≤ suc e
        → Stood ts at (write l) c1 → tok ts c1 ≡ get_or (SIncr ∷ SDecr ∷ []) (m % 256) 0 → c1 < step ts c1 → tok ts (step ts c1) ≡ SRparen
        → Uptil ts inner (ex (suc e) Zero) at (step ts c1) (node 14 m p (l ▸ nil) nil nil nil n)
    unfolding operation match choose suffix_expression build ◌>>=◌ seen seens dressed dresseds inner
    suffix_inner {n} m p at c1 l i ol dl hl s on close = go (m % 256) refl s
      where
        go : (j : ℕ) → m % 256 ≡ j → tok ts c1 ≡ get_or (SIncr ∷ SDecr ∷ []) j 0 → Uptil ts inner (ex (suc e) Zero) at (step ts c1) (node 14 m p (l ▸ nil) nil nil nil n)
        go zero q s =
            let u = first l at c1 ol dl hl (rw s) in
            climbed ts rules e at c1 (step ts c1) 1 c1 l (node 14 m p (l ▸ nil) nil nil nil n) (node 14 0 c1 (u.tree ▸ nil) nil nil nil c1) u
            (rw s) (rw s goers.incr) (omega arith) (λ left. let z : 1 + left ≡ suc left = omega arith in rw (z, s)) (rw (u.same, q)) refl on (closed (step ts c1) close)
        go (suc zero) q s =
            let u = first l at c1 ol dl hl (rw s) in
            climbed ts rules e at c1 (step ts c1) 1 c1 l (node 14 m p (l ▸ nil) nil nil nil n) (node 14 1 c1 (u.tree ▸ nil) nil nil nil c1) u
            (rw s) (rw s goers.decr) (omega arith) (λ left. let z : 1 + left ≡ suc left = omega arith in rw (z, s)) (rw (u.same, q)) refl on (closed (step ts c1) close)
        go (suc (suc j)) q s = absurd (omega arith)

    prefix_part_of : (i at c room left : ℕ) (t : Tree) → i < 4 → tok ts at ≡ get_or (SIncr ∷ SDecr ∷ SExcl ∷ SNeg ∷ []) i 0 → ex e Zero (step ts at) room ≡ read t c (suc left)
        → Part ts rules e at room ≡ read (node 13 i at (t ▸ nil) nil nil nil c) c left
    unfolding prefix_part match choose prefix build ◌>>=◌
    prefix_part_of zero at c room left t i s h = rw (s, h)
    prefix_part_of (suc zero) at c room left t i s h = rw (s, h)
    prefix_part_of (suc (suc zero)) at c room left t i s h = rw (s, h)
    prefix_part_of (suc (suc (suc zero))) at c room left t i s h = rw (s, h)
    prefix_part_of (suc (suc (suc (suc j)))) at c room left t i s h = absurd (omega arith)

    prefix_inner : {n : ℕ} (m p at c : ℕ) (t : Tree) → m % 256 < 4 → Fit expressions t → deep t ≤ e → tok ts at ≡ get_or (SIncr ∷ SDecr ∷ SExcl ∷ SNeg ∷ []) (m % 256) 0
        → Stood ts (step ts at) (write t) c → tok ts c ≡ SRparen → Uptil ts inner (ex (suc e) Zero) at c (node 13 m p (t ▸ nil) nil nil nil n)
    unfolding seen seens dressed dresseds inner
    prefix_inner {n} m p at c t i o l s h close =
        let v = item Zero t (step ts at) c o l h (closed c close) in
        let small : m % 256 % 256 ≡ m % 256 = omega arith in
        whole ts rules inner e Zero at c (node 13 m p (t ▸ nil) nil nil nil n)
        (record {
          tree = node 13 (m % 256) at (v.tree ▸ nil) nil nil nil v.last;
          last = v.last;
          same = rw v.same;
          stops = v.stops;
          on = v.on;
          reads = λ room left q. prefix_part_of (m % 256) at v.last room left v.tree i s (v.reads room (suc left) (omega arith));
        })
        (closed c close)

    lambda_inner : {n : ℕ} (m p at c1 c : ℕ) (u t : Tree) (us : Trees) → m % 256 ≡ 0 → AllFit expressions (u ▸ us) → Fit expressions t → deeps (u ▸ us) ≤ e → deep t ≤ e
        → tok ts at ≡ KLambda → Stood ts (step ts at) (separated SComma (writes (u ▸ us))) c1 → tok ts c1 ≡ SImpl → Stood ts (step ts c1) (write t) c → tok ts c ≡ SRparen
        → Uptil ts inner (ex (suc e) Zero) at c (node 15 m p (u ▸ us) (t ▸ nil) nil nil n)
    unfolding prefix_part match choose lambda need ◌>>◌ build ◌>>=◌ next_is is seen seens dressed dresseds inner join
    lambda_inner {n} m p at c1 c u t us z os o ls l s h s1 g close =
        let x = list_head ts SComma u us os (step ts at) c1 h in
        let y = list_read ts rules short e at c1 SImpl u us (item Zero) os ls h s1 (closes by_arrow) refl refl (differs starter (tok ts (step ts at)) SRparen x refl) in
        let v = item Zero t (step ts c1) c o l g (closed c close) in
        whole ts rules inner e Zero at c (node 15 m p (u ▸ us) (t ▸ nil) nil nil n)
        (record {
          tree = node 15 0 at y.trees (v.tree ▸ nil) nil nil v.last;
          last = v.last;
          same = rw (y.same, v.same, z);
          stops = v.stops;
          on = v.on;
          reads = λ room left q.
              rw (
                s,
                differs starter (tok ts (step ts at)) SSemiColon x refl,
                differs starter (tok ts (step ts at)) SImpl x refl,
                y.reads room (size t + suc left) (omega arith),
                y.stops,
                s1,
                v.reads (size t + suc left) (suc left) refl,
              );
        })
        (closed c close)

    shell_inner : {n : ℕ} (m p at c1 c : ℕ) (t : Tree) → m % 256 < 2 → Fit expressions t → deep t ≤ e → tok ts at ≡ SDollar
        → Stood ts (step ts at) (cond (eqb (m / 1 % 2) 0) [] ((SDot, 0) ∷ [])) c1 → Stood ts c1 (write t) c → tok ts c ≡ SRparen
        → Uptil ts inner (ex (suc e) Zero) at c (node 16 m p (t ▸ nil) nil nil nil n)
    unfolding prefix_part match choose shell command build ◌>>=◌ next_is is seen seens dressed dresseds inner
    shell_inner {n} m p at c1 c t i o l s f h close = go (m % 256) refl
      where
        go : (j : ℕ) → m % 256 ≡ j → Uptil ts inner (ex (suc e) Zero) at c (node 16 m p (t ▸ nil) nil nil nil n)
        go zero q =
            let v = item Zero t c1 c o l h (closed c close) in
            let z : m / 1 % 2 ≡ 0 = omega arith in
            let on : step ts at ≡ c1 = rw z at f in
            let dot : eqb (tok ts c1) SDot ≡ false = differs starter (tok ts c1) SDot (head ts t o c1 c h) refl in
            whole ts rules inner e Zero at c (node 16 m p (t ▸ nil) nil nil nil n)
            (record {
              tree = node 16 0 at (v.tree ▸ nil) nil nil nil v.last;
              last = v.last;
              same = rw (v.same, q);
              stops = v.stops;
              on = v.on;
              reads = λ room left r. rw (s, on, dot, v.reads room (suc left) (omega arith));
            })
            (closed c close)
        go (suc zero) q =
            let v = item Zero t c1 c o l h (closed c close) in
            let z : m / 1 % 2 ≡ 1 = omega arith in
            let (d1, (d2, on)) = dotted z f in
            whole ts rules inner e Zero at c (node 16 m p (t ▸ nil) nil nil nil n)
            (record {
              tree = node 16 1 at (v.tree ▸ nil) nil nil nil v.last;
              last = v.last;
              same = rw (v.same, q);
              stops = v.stops;
              on = v.on;
              reads = λ room left r. rw (s, d1, on, v.reads room (suc left) (omega arith));
            })
            (closed c close)
          where
            dotted : m / 1 % 2 ≡ 1 → Stood ts (step ts at) (cond (eqb (m / 1 % 2) 0) [] ((SDot, 0) ∷ [])) c1 → (tok ts (step ts at) ≡ SDot) × ((step ts at < step ts (step ts at)) × (step ts (step ts at) ≡ c1))
            dotted z f = let (x, y, w) = rw z at f in (x, (y, w))
        go (suc (suc j)) q = absurd (omega arith)

    -- A call, and what starts it.
    call_inner : {n : ℕ} (p at c1 c2 : ℕ) (f : Tree) (us : Trees) → Fit expressions f → AllFit expressions us → deep f ≤ suc e → deeps us ≤ e
        → Stood ts at (write f) c1 → tok ts c1 ≡ SLParen → Stood ts (step ts c1) (separated SComma (writes us)) c2 → tok ts c2 ≡ SRparen → c2 < step ts c2 → tok ts (step ts c2) ≡ SRparen
        → Uptil ts inner (ex (suc e) Zero) at (step ts c2) (node 11 0 p (f ▸ nil) us nil nil n)
    unfolding operation match choose call need ◌>>◌ build ◌>>=◌ next_is is seen seens dressed dresseds inner join fits writes
    call_inner {n} p at c1 c2 f nil o os l ls h s g s2 on close =
        let u = first f at c1 o l h (rw s) in
        let x = empty_list ts SComma (step ts c1) c2 g in
        climbed ts rules e at c1 (step ts c2) 1 c2 f (node 11 0 p (f ▸ nil) nil nil nil n) (node 11 0 c1 (u.tree ▸ nil) nil nil nil c2) u
        (rw s) (rw s goers.call) (omega arith) (λ left. let z : 1 + left ≡ suc left = omega arith in rw (z, s, x, s2)) (rw u.same) refl on (closed (step ts c2) close)
    call_inner {n} p at c1 c2 f (t ▸ us) o os l ls h s g s2 on close =
        let u = first f at c1 o l h (rw s) in
        let x = list_head ts SComma t us os (step ts c1) c2 g in
        let no = differs starter (tok ts (step ts c1)) SRparen x refl in
        let y = list_read ts rules short e c1 c2 SRparen t us (item Zero) os ls g s2 end refl refl no in
        let any : (c : Bool) → not c || true ≡ true = λ c. or_last (not c) in
        climbed ts rules e at c1 (step ts c2) (sizes (t ▸ us) + 1) c2 f (node 11 0 p (f ▸ nil) (t ▸ us) nil nil n) (node 11 0 c1 (u.tree ▸ nil) y.trees nil nil c2) u
        (rw s) (rw s goers.call) (omega arith)
        (λ left. rw (s, no, y.reads (sizes (t ▸ us) + 1 + left) (suc left) (omega arith), y.stops, s2, any rules.strict))
        (rw (u.same, y.same)) refl on (closed (step ts c2) close)

  -- A flag on a call.
  record Flagged (t : Tree) (g m p n : ℕ) (x y : Trees) : Type 0 where
    callable : is_call t ≡ true
    same : seen (flagged g t) ≡ inner (node 11 m p x y nil nil n)

  flag_call : (g m0 m1 p n : ℕ) (x y : Trees) → ((m : ℕ) → m ≡ m0 % 256 → flag g m ≡ m1 % 256) → (t : Tree) → seen t ≡ inner (node 11 m0 p x y nil nil n)
      → Flagged t g m1 p n x y
  unfolding seen seens dressed dresseds inner is_call flagged
  flag_call g m0 m1 p n x y f (infixed m q l r n') e = let z : ◌≡◌ {A = ℕ} 0 1 = cc in absurd (omega arith)
  flag_call g m0 m1 p n x y f (node k m q x' y' z' w' n') e =
      let k1 : k ≡ 11 = cc in
      let m2 : m ≡ m0 % 256 = cc in
      let x1 : seens x' ≡ dresseds x = cc in
      let y1 : seens y' ≡ dresseds y = cc in
      let z1 : seens z' ≡ nil = cc in
      let w1 : seens w' ≡ nil = cc in
      record { callable = rw k1; same = rw (k1, f m m2, x1, y1, z1, w1) }

  started_read : {n : ℕ} (d g at c m0 m1 p : ℕ) (x y : Trees) → ((m : ℕ) → m ≡ m0 % 256 → flag g m ≡ m1 % 256)
      → ((room : ℕ) → Part ts rules d at room ≡ started rules ts (ex d) g at room) → Uptil ts inner (ex d Zero) (step ts at) c (node 11 m0 p x y nil nil n)
      → tok ts c ≡ SRparen → Uptil ts inner (ex (suc d) Zero) at c (node 11 m1 p x y nil nil n)
  unfolding started need ◌>>◌ ◌>>=◌
  started_read {n} d g at c m0 m1 p x y f s u close =
      let v = flag_call g m0 m1 p n x y f u.tree u.same in
      whole ts rules inner d Zero at c (node 11 m1 p x y nil nil n)
      (record { tree = flagged g u.tree; last = u.last; same = v.same; stops = u.stops; on = u.on; reads = λ room left q. rw (s room, u.reads room left q, v.callable) })
      (rw close (closes by_rparen))

  by_thread : (d at room : ℕ) → tok ts at ≡ KThread → Part ts rules d at room ≡ started rules ts (ex d) Thread at room
  unfolding prefix_part match choose
  by_thread d at room e = rw e

  by_async : (d at room : ℕ) → tok ts at ≡ KAsync → Part ts rules d at room ≡ started rules ts (ex d) Async at room
  unfolding prefix_part match choose
  by_async d at room e = rw e

  thread_flag : (m0 m1 : ℕ) → m0 % 2 ≡ 0 → m1 ≡ m0 + 1 → m0 < 255 → (m : ℕ) → m ≡ m0 % 256 → flag Thread m ≡ m1 % 256
  unfolding flag
  thread_flag m0 m1 e f l m h = let z : m / 1 % 2 ≡ 0 = omega arith in rw z (omega arith)

  async_flag : (m : ℕ) → m ≡ 0 % 256 → flag Async m ≡ 2 % 256
  unfolding flag
  async_flag m h = let z : m / 2 % 2 ≡ 0 = omega arith in rw z (omega arith)

  no_flag : (k w at c : ℕ) → k ≡ 0 → Stood ts at (cond (eqb k 0) [] ((w, 0) ∷ [])) c → at ≡ c
  no_flag k w at c e h = rw e at h

  one_flag : (k w at c : ℕ) → k ≡ 1 → Stood ts at (cond (eqb k 0) [] ((w, 0) ∷ [])) c → Stood ts at ((w, 0) ∷ []) c
  one_flag k w at c e h = rw e at h

  remarked : (n m p z : ℕ) (f : Tree) (us : Trees) → m % 256 ≡ n % 256 → inner (node 11 n p (f ▸ nil) us nil nil z) ≡ inner (node 11 m p (f ▸ nil) us nil nil z)
  unfolding seen seens dressed dresseds inner
  remarked n m p z f us e = rw e

  bit_two : (m : ℕ) → m % 256 ≡ 2 → m / 2 % 2 ≡ 1
  bit_two m h = let a : m / 2 % 128 ≡ 1 = omega arith in omega arith

  bit_three : (m : ℕ) → m % 256 ≡ 3 → m / 2 % 2 ≡ 1
  bit_three m h = let a : m / 2 % 128 ≡ 1 = omega arith in omega arith

  call_second : (x y : Bool) (at c0 c1 : ℕ) → Stood ts at (cond x [] ((KThread, 0) ∷ [])) c0 → Stood ts c0 (cond y [] ((KAsync, 0) ∷ [])) c1
      → eqb (tok ts c1) SRparen ≡ false → eqb (tok ts (step ts c1)) SRparen ≡ false → eqb (tok ts (step ts at)) SRparen ≡ false
  call_second true true at c0 c1 h g i j = rw (h, g, j)
  call_second true false at c0 c1 h (g1, g2, g3) i j = rw (h, g3, i)
  call_second false true at c0 c1 (h1, h2, h3) g i j = rw (h3, g, i)
  call_second false false at c0 c1 (h1, h2, h3) (g1, g2, g3) i j = rw (h3, g1)

  -- The same from a place that is the same.
  moved : {w : Tree → Tree} {R : Reader Tree} {at c e : ℕ} {t : Tree} → at ≡ c → Uptil ts w R c e t → Uptil ts w R at e t
  moved h u = rw h u

  -- Both, at one level; and a call with its flags, from the levels below.
  abbrev pub Both : ℕ → Type 0
  Both e = First e × Whole e

  module _ (e : ℕ) (below : (d : ℕ) → d ≤ e → Both d) where
    flagged_call : {z : ℕ} (m p at c0 c1 c2 c3 : ℕ) (f : Tree) (us : Trees) → m % 256 < 4 → Fit expressions f → AllFit expressions us
        → deep f + (1 + m % 2 + m / 2 % 2) ≤ suc (suc e) → deeps us + (2 + m % 2 + m / 2 % 2) ≤ suc (suc e)
        → Stood ts at (cond (eqb (m / 1 % 2) 0) [] ((KThread, 0) ∷ [])) c0 → Stood ts c0 (cond (eqb (m / 2 % 2) 0) [] ((KAsync, 0) ∷ [])) c1
        → Stood ts c1 (write f) c2 → tok ts c2 ≡ SLParen → Stood ts (step ts c2) (separated SComma (writes us)) c3 → tok ts c3 ≡ SRparen → c3 < step ts c3 → tok ts (step ts c3) ≡ SRparen
        → Uptil ts inner (ex (suc e) Zero) at (step ts c3) (node 11 m p (f ▸ nil) us nil nil z)
    flagged_call {z} m p at c0 c1 c2 c3 f us i o os l ls x y h s g s2 on close = go (m % 256) refl e below l ls
      where
        remark : (d n m at c : ℕ) (f : Tree) (us : Trees) → m % 256 ≡ n % 256 → Uptil ts inner (ex d Zero) at c (node 11 n p (f ▸ nil) us nil nil z) → Uptil ts inner (ex d Zero) at c (node 11 m p (f ▸ nil) us nil nil z)
        remark d n m at c f us e u = record { tree = u.tree; last = u.last; same = u.same ∙ remarked n m p z f us e; stops = u.stops; on = u.on; reads = u.reads }

        go : (j : ℕ) → m % 256 ≡ j → (e : ℕ) (below : (d : ℕ) → d ≤ e → Both d) → deep f + (1 + m % 2 + m / 2 % 2) ≤ suc (suc e) → deeps us + (2 + m % 2 + m / 2 % 2) ≤ suc (suc e)
            → Uptil ts inner (ex (suc e) Zero) at (step ts c3) (node 11 m p (f ▸ nil) us nil nil z)
        go zero q e below l ls =
            let (first, item) = below e (omega arith) in
            let a = no_flag (m / 1 % 2) KThread at c0 (omega arith) x in
            let b2 = no_flag (m / 2 % 2) KAsync c0 c1 (omega arith) y in
            remark (suc e) 0 m at (step ts c3) f us (omega arith)
            (moved (a ∙ b2) (call_inner e first item p c1 c2 c3 f us o os (omega arith) (omega arith) h s g s2 on close))
        go (suc zero) q zero below l ls = absurd (omega arith)
        go (suc zero) q (suc e) below l ls =
            let (first, item) = below e (omega arith) in
            let (a1, a2, a3) = one_flag (m / 1 % 2) KThread at c0 (omega arith) x in
            let b2 = no_flag (m / 2 % 2) KAsync c0 c1 (omega arith) y in
            remark (suc (suc e)) 1 m at (step ts c3) f us (omega arith)
            (started_read (suc e) Thread at (step ts c3) 0 1 p (f ▸ nil) us (thread_flag 0 1 refl refl (omega arith)) (λ room. by_thread (suc e) at room a1)
            (moved (a3 ∙ b2) (call_inner e first item p c1 c2 c3 f us o os (omega arith) (omega arith) h s g s2 on close)) close)
        go (suc (suc zero)) q zero below l ls = absurd (omega (arith, bit_two m q))
        go (suc (suc zero)) q (suc e) below l ls =
            let (first, item) = below e (omega arith) in
            let bit = bit_two m q in
            let a = no_flag (m / 1 % 2) KThread at c0 (omega arith) x in
            let (b1, b2, b3) = one_flag (m / 2 % 2) KAsync c0 c1 (bit_two m q) y in
            remark (suc (suc e)) 2 m at (step ts c3) f us (omega arith)
            (moved a (started_read (suc e) Async c0 (step ts c3) 0 2 p (f ▸ nil) us async_flag (λ room. by_async (suc e) c0 room b1)
            (moved b3 (call_inner e first item p c1 c2 c3 f us o os (omega arith) (omega arith) h s g s2 on close)) close))
        go (suc (suc (suc zero))) q zero below l ls = absurd (omega (arith, bit_three m q))
        go (suc (suc (suc zero))) q (suc zero) below l ls = absurd (omega (arith, bit_three m q))
        go (suc (suc (suc zero))) q (suc (suc e)) below l ls =
            let (first, item) = below e (omega arith) in
            let bit = bit_three m q in
            let (a1, a2, a3) = one_flag (m / 1 % 2) KThread at c0 (omega arith) x in
            let (b1, b2, b3) = one_flag (m / 2 % 2) KAsync c0 c1 (bit_three m q) y in
            remark (suc (suc (suc e))) 3 m at (step ts c3) f us (omega arith)
            (started_read (suc (suc e)) Thread at (step ts c3) 2 3 p (f ▸ nil) us (thread_flag 2 3 refl refl (omega arith)) (λ room. by_thread (suc (suc e)) at room a1)
            (moved a3 (started_read (suc e) Async c0 (step ts c3) 0 2 p (f ▸ nil) us async_flag (λ room. by_async (suc e) c0 room b1)
            (moved b3 (call_inner e first item p c1 c2 c3 f us o os (omega arith) (omega arith) h s g s2 on close)) close)) close)
        go (suc (suc (suc (suc j)))) q e below l ls = absurd (omega arith)

    -- What is written in brackets.
    bracket_part : {t : Tree} → Bracket (suc (suc e)) t → (at c : ℕ) → Stood ts at (write t) c → Upto ts (Part ts rules (suc e)) at c t
    unfolding form look forms writes wrapped
    bracket_part (an_infix {m} {p} {end = n} {l} {r} i ol or dl dr) at c h =
        let (first, item) = below e (omega arith) in
        let (s0, (c1, hl, (s1, (c2, hr, (s2, end))))) = infix_formed ts m p l r at c h in
        let no : eqb (tok ts c1) SRparen ≡ false = rw s1.0 (operator (m % 256) i).rparen in
        rw end at (group ts rules (suc e) at c2 (infixed m p l r n) s0.0 (second ts l ol (step ts at) c1 hl no)
        refl (infix_inner e first item m p (step ts at) c1 c2 l r i ol or (omega arith) (omega arith) (single ts (step ts at) c1 l hl) s1.0 (single ts (step ts c1) c2 r hr) s2.0) s2.0 s2.1)
    bracket_part (an_index {m} {p} {end = n} {l} {i = j} z ol oi dl di) at c h =
        let (first, item) = below e (omega arith) in
        let (s0, (c1, hl, (s1, (c2, hi, (s2, (s3, end)))))) = formed ts 10 m p (l ▸ nil) (j ▸ nil) nil nil at c h in
        rw end at (group ts rules (suc e) at (step ts c2) (node 10 m p (l ▸ nil) (j ▸ nil) nil nil n) s0.0 (second ts l ol (step ts at) c1 hl (rw s1.0))
        refl (index_inner e first item m p (step ts at) c1 c2 l j z ol oi (omega arith) (omega arith) (single ts (step ts at) c1 l hl) s1.0 (single ts (step ts c1) c2 j hi) s2.0 s2.1 s3.0) s3.0 s3.1)
    bracket_part (a_call {m} {p} {end = n} {f} {us} i of os df ds) at c h =
        let (s0, (c0, hx, (c1, hy, (c2, hf, (s1, (c3, hs, (s2, (s3, end)))))))) = formed ts 11 m p (f ▸ nil) us nil nil at c h in
        rw end at (group ts rules (suc e) at (step ts c3) (node 11 m p (f ▸ nil) us nil nil n) s0.0
        (call_second (eqb (m / 1 % 2) 0) (eqb (m / 2 % 2) 0) (step ts at) c0 c1 hx hy (differs starter (tok ts c1) SRparen (one_head ts f of c1 c2 hf) refl) (second ts f of c1 c2 hf (rw s1.0)))
        refl (flagged_call m p (step ts at) c0 c1 c2 c3 f us i of os df ds hx hy (single ts c1 c2 f hf) s1.0 hs s2.0 s2.1 s3.0) s3.0 s3.1)
    bracket_part (a_prefix {m} {p} {end = n} {t} i o l) at c h =
        let (first, item) = below e (omega arith) in
        let (s0, (s1, (c1, ht, (s2, end)))) = formed ts 13 m p (t ▸ nil) nil nil nil at c h in
        rw end at (group ts rules (suc e) at c1 (node 13 m p (t ▸ nil) nil nil nil n) s0.0
        (differs starter (tok ts (step ts (step ts at))) SRparen (one_head ts t o (step ts (step ts at)) c1 ht) refl)
        refl (prefix_inner e first item m p (step ts at) c1 t i o (omega arith) s1.0 (single ts (step ts (step ts at)) c1 t ht) s2.0) s2.0 s2.1)
    bracket_part (a_suffix {m} {p} {end = n} {t} i o l) at c h =
        let (first, item) = below e (omega arith) in
        let (s0, (c1, ht, (s1, (s2, end)))) = formed ts 14 m p (t ▸ nil) nil nil nil at c h in
        rw end at (group ts rules (suc e) at (step ts c1) (node 14 m p (t ▸ nil) nil nil nil n) s0.0
        (second ts t o (step ts at) c1 ht (suffix_sign (m % 256) i s1.0))
        refl (suffix_inner e first item m p (step ts at) c1 t i o (omega arith) (single ts (step ts at) c1 t ht) s1.0 s1.1 s2.0) s2.0 s2.1)
      where
        suffix_sign : {w : ℕ} (j : ℕ) → j < 2 → w ≡ get_or (SIncr ∷ SDecr ∷ []) j 0 → eqb w SRparen ≡ false
        suffix_sign zero i e = rw e
        suffix_sign (suc zero) i e = rw e
        suffix_sign (suc (suc j)) i e = absurd (omega arith)
    bracket_part (a_lambda {m} {p} {end = n} {u} {t} {us} z os o ls l) at c h =
        let (first, item) = below e (omega arith) in
        let (s0, (s1, (c1, hs, (s2, (c2, ht, (s3, end)))))) = formed ts 15 m p (u ▸ us) (t ▸ nil) nil nil at c h in
        rw end at (group ts rules (suc e) at c2 (node 15 m p (u ▸ us) (t ▸ nil) nil nil n) s0.0
        (differs starter (tok ts (step ts (step ts at))) SRparen (list_head ts SComma u us os (step ts (step ts at)) c1 hs) refl)
        refl (lambda_inner e first item m p (step ts at) c1 c2 u t us z os o (omega arith) (omega arith) s1.0 hs s2.0 (single ts (step ts c1) c2 t ht) s3.0) s3.0 s3.1)
    bracket_part (a_shell {m} {p} {end = n} {t} i o l) at c h =
        let (first, item) = below e (omega arith) in
        let (s0, (s1, (c0, hf, (c1, ht, (s2, end))))) = formed ts 16 m p (t ▸ nil) nil nil nil at c h in
        rw end at (group ts rules (suc e) at c1 (node 16 m p (t ▸ nil) nil nil nil n) s0.0
        (flag_second ts (eqb (m / 1 % 2) 0) SDot (step ts (step ts at)) c0 hf refl (differs starter (tok ts c0) SRparen (one_head ts t o c0 c1 ht) refl))
        refl (shell_inner e first item m p (step ts at) c0 c1 t i o (omega arith) s1.0 hf (single ts c0 c1 t ht) s2.0) s2.0 s2.1)

  -- ---- all expressions, by induction on the levels

  first_of : (d : ℕ) → Item ts (ex d Zero) expressions d
      → ((t : Tree) → Bracket (suc d) t → (at c : ℕ) → Stood ts at (write t) c → Upto ts (Part ts rules d) at c t) → First d
  unfolding seen seens dressed dresseds inner
  first_of d item brackets t at c o l h dot = go (shape (suc d) t o l) h
    where
      go : {t : Tree} → Shape (suc d) t → Stood ts at (write t) c → Upto ts (Part ts rules d) at c t
      go (a_value {w} {q} {made} v e f j) h =
          let (i, g, s) = valued ts at c w q e h in
          let dot' : eqb (tok ts (step ts at)) SDot ≡ false = rw s dot in
          record {
            tree = ended at (made at);
            last = at;
            same = f at;
            stops = s;
            on = g;
            reads = λ room left r. let z : room ≡ suc left = omega arith in rw z (value_part d at left v i dot');
          }
      go (an_array {m} {p} {us} e f j) h = array_first d m p at c us e f (omega arith) item h
      go (a_hash {m} {p} {us} e f j) h = hash_first d m p at c us e f (omega arith) item h
      go (an_attribute {m} {p} {q} {u} {us} e f j) h = attribute_first d m p q at c u us e f h dot
      go (bracketed {t = t'} x) h = brackets t' x at c h

  whole_zero : Whole zero
  whole_zero pre t at c o l h close = absurd (omega (arith, positive t o))

  whole_suc : (d : ℕ) → First d → Whole (suc d)
  whole_suc d first pre t at c o l h close = whole ts rules dressed d pre at c t (first t at c o l h close.dot) close

  level_both : (d : ℕ) → ((e : ℕ) → e < d → Both e) → Both d
  level_both zero below = (first_of zero (whole_zero Zero) (λ t x at c h. absurd (omega (arith, two 1 x))), whole_zero)
  level_both (suc e) below =
      let w = whole_suc e (below e (omega arith)).0 in
      (first_of (suc e) (w Zero) (λ t x at c h. bracket_part e (λ d l. below d (omega arith)) x at c h), w)

  all_below : (n : ℕ) (d : ℕ) → d < n → Both d
  all_below zero d h = absurd (omega arith)
  all_below (suc n) d h = level_both d (λ e l. all_below n e (omega arith))

  -- What is written of an expression is read back: as the first part of one, and as a whole.
  pub firsts : (d : ℕ) → First d
  firsts d = (all_below (suc d) d (omega arith)).0

  pub wholes : (d : ℕ) → Whole d
  wholes d = (all_below (suc d) d (omega arith)).1
