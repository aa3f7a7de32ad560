-- One reading with two numbers of rows: with too few it is refused for want of the first row that is lacking, where that row would have ended.
use Prim.Native.Nat.{ℕ, zero, suc, ◌+◌, ◌<◌}
use native.Mathlib.Nat.{zero-add}
use native.Mathlib.Omega.{arith}
use mathlib.Core.Path.{◌≡◌, refl, sym, ap, ◌∙◌}
use mathlib.Core.Bool.{Bool, true, false}
use mathlib.Core.List.{List, [], ◌∷◌, ◌++◌, append_assoc, append-nil}
use lib.ListN.{length, get_or, length-append, get_or-append}
use lib.Seq.{get_or-append-add}
use Rattle.grammar.specs.Tree.{Tree, infixed, node, Trees, nil, ◌▸◌, join, ended, flagged}
use Rattle.grammar.specs.Parsed.{Parsed, refused, read, Reader, ◌>>=◌, ◌>>◌, Check, met, failed, build, choose, Arm, match, NoRow}
use Rattle.grammar.proofs.Post.{Arms, end, ◌▹◌}
use Rattle.grammar.proofs.Runs.{single, listed, join_nil}
use Rattle.grammar.proofs.Spans.{Span, spans, spans_of, spans_join, spans_row, spans_flagged}

-- The end of the row with a number, counted from 0.
abbrev pub end_of : List Span → ℕ → ℕ
end_of xs i = (get_or xs i (0, 0)).1

-- What a reader gives with some number of rows, and with k rows, where the trees us were there before it began: a refusal, of which nothing is said;
-- or trees, and the same trees, k being enough for the new rows; or trees, and the refusal of the first new row that is lacking, at its end.
pub data Fewer {A : Type 0} (trees : A → Trees) (us : Trees) (k : ℕ) : Parsed A → Parsed A → Type 0 where
  neither : {n p : ℕ} {y : Parsed A} → Fewer trees us k (refused n p) y
  enough : {a : A} {at m m' : ℕ} (new : List Span) → spans_of (trees a) ≡ spans_of us ++ new → k ≡ length new + m' → Fewer trees us k (read a at m) (read a at m')
  lacking : {a : A} {at m place : ℕ} (new : List Span) → spans_of (trees a) ≡ spans_of us ++ new → k < length new → place ≡ end_of new k
      → Fewer trees us k (read a at m) (refused NoRow place)

end_behind : (xs ys : List Span) (i : ℕ) → end_of (xs ++ ys) (length xs + i) ≡ end_of ys i
end_behind xs ys i = ap (λ (x : Span). x.1) (get_or-append-add xs ys i (0, 0))

end_before : (xs ys : List Span) (i : ℕ) → i < length xs → end_of (xs ++ ys) i ≡ end_of xs i
end_before xs ys i h = ap (λ (x : Span). x.1) (get_or-append xs ys (0, 0) i h)

-- What is read behind rows that were new is as new.
module _ {A B : Type 0} (T : A → Trees) (S : B → Trees) {us : Trees} {a : A} {k : ℕ} (new : List Span) (e : spans_of (T a) ≡ spans_of us ++ new) where
  after_enough : {m' : ℕ} {x y : Parsed B} → k ≡ length new + m' → Fewer S (T a) m' x y → Fewer S us k x y
  after_enough h neither = neither
  after_enough h (enough {m'} more f g) = enough {m' = m'} (new ++ more) (f ∙ rw (e, append_assoc)) (simp length-append (omega arith))
  after_enough {m'} h (lacking more f g q) = lacking (new ++ more) (f ∙ rw (e, append_assoc)) (simp length-append (omega arith)) (q ∙ sym (rw h (end_behind new more m')))

  after_lacking : {place m' : ℕ} {x y : Parsed B} → k < length new → place ≡ end_of new k → Fewer S (T a) m' x y → Fewer S us k x (refused NoRow place)
  after_lacking h q neither = neither
  after_lacking h q (enough more f g) = lacking (new ++ more) (f ∙ rw (e, append_assoc)) (simp length-append (omega arith)) (q ∙ sym (end_before new more k h))
  after_lacking h q (lacking more f g r) = lacking (new ++ more) (f ∙ rw (e, append_assoc)) (simp length-append (omega arith)) (q ∙ sym (end_before new more k h))

-- A reader that goes on from what another has read.
pub on_from : {A B : Type 0} (T : A → Trees) (S : B → Trees) (us : Trees) (k : ℕ) (x y : Parsed A) (f g : A × ℕ × ℕ → Parsed B) → Fewer T us k x y
    → ((a : A) (at n m : ℕ) → Fewer S (T a) m (f (a, at, n)) (g (a, at, m))) → Fewer S us k (x >>= f) (y >>= g)
unfolding ◌>>=◌
on_from T S us k x y f g neither next = neither
on_from T S us k x y f g (enough {a} {at} {m} {m'} new e h) next = after_enough T S new e h (next a at m m')
on_from T S us k x y f g (lacking {a} {at} {m} new e h q) next = after_lacking T S {a = a} new e h q (next a at m 0)

-- What is read anew, behind the trees us.
behind : {A : Type 0} (T : A → Trees) (us : Trees) (k : ℕ) (x y : Parsed A) → Fewer T nil k x y → Fewer (λ a. join us (T a)) us k x y
unfolding spans
behind T us k x y neither = neither
behind T us k x y (enough {a} new e h) = enough new (spans_join us (T a) ∙ rw e) h
behind T us k x y (lacking {a} new e h q) = lacking new (spans_join us (T a) ∙ rw e) h q

module _ {B : Type 0} (S : B → Trees) (us : Trees) (k : ℕ) where
  pub then_tree : (x y : Parsed Tree) (f g : Tree × ℕ × ℕ → Parsed B) → Fewer single nil k x y
      → ((t : Tree) (at n m : ℕ) → Fewer S (join us (t ▸ nil)) m (f (t, at, n)) (g (t, at, m))) → Fewer S us k (x >>= f) (y >>= g)
  then_tree x y f g h next = on_from (λ t. join us (t ▸ nil)) S us k x y f g (behind single us k x y h) next

  pub then_list : (x y : Parsed Trees) (f g : Trees × ℕ × ℕ → Parsed B) → Fewer listed nil k x y
      → ((vs : Trees) (at n m : ℕ) → Fewer S (join us vs) m (f (vs, at, n)) (g (vs, at, m))) → Fewer S us k (x >>= f) (y >>= g)
  then_list x y f g h next = on_from (λ vs. join us vs) S us k x y f g (behind listed us k x y h) next

  -- A list that is made longer.
  pub then_longer : (x y : Parsed Trees) (f g : Trees × ℕ × ℕ → Parsed B) → Fewer listed us k x y
      → ((vs : Trees) (at n m : ℕ) → Fewer S vs m (f (vs, at, n)) (g (vs, at, m))) → Fewer S us k (x >>= f) (y >>= g)
  then_longer x y f g h next = on_from listed S us k x y f g h next

  pub on_choose : (b : Bool) (x y x' y' : Unit {0} → Parsed B) → Fewer S us k (x tt) (x' tt) → Fewer S us k (y tt) (y' tt) → Fewer S us k (choose b x y) (choose b x' y')
  unfolding choose
  on_choose true x y x' y' h i = h
  on_choose false x y x' y' h i = i

  pub on_check : (c : Check) (x y : Parsed B) → Fewer S us k x y → Fewer S us k (c >> x) (c >> y)
  unfolding ◌>>◌
  on_check met x y h = h
  on_check (failed n p) x y h = neither

  pub on_refused : (n p q : ℕ) → Fewer S us k (refused n p) (refused n q)
  on_refused n p q = neither

  pub on_read : (b : B) (at n : ℕ) → S b ≡ us → Fewer S us k (read b at n) (read b at k)
  on_read b at n e = enough {m' = k} [] (ap spans_of e ∙ sym (append-nil (spans_of us))) (sym (zero-add k))

module _ (us : Trees) (k : ℕ) where
  pub on_flagged : (f : ℕ) (t : Tree) (at n : ℕ) → t ▸ nil ≡ us → Fewer single us k (read (flagged f t) at n) (read (flagged f t) at k)
  unfolding spans
  on_flagged f t at n e = enough {a = flagged f t} {m' = k} [] (rw (spans_flagged f t) (ap spans_of e ∙ sym (append-nil (spans_of us)))) (sym (zero-add k))

  -- The row that ends a tree.
  on_build : (t : Tree) (p at n : ℕ) → spans (ended at t) ≡ spans_of us ++ ((p, at) ∷ []) → Fewer single us k (build t at n) (build t at k)
  unfolding build spans
  on_build t p at zero e = neither
  on_build t p at (suc n) e = go k refl
    where
      go : (j : ℕ) → k ≡ j → Fewer single us k (read (ended at t) at n) (build t at j)
      go zero q = lacking {place = at} ((p, at) ∷ []) (append-nil (spans (ended at t)) ∙ e) (omega arith) (rw q refl)
      go (suc j) q = enough {m' = j} ((p, at) ∷ []) (append-nil (spans (ended at t)) ∙ e) (omega arith)

  pub on_row : (kind mark p at n : ℕ) (c0 c1 c2 c3 : Trees) → us ≡ join c0 (join c1 (join c2 c3))
      → Fewer single us k (build (node kind mark p c0 c1 c2 c3 0) at n) (build (node kind mark p c0 c1 c2 c3 0) at k)
  on_row kind mark p at n c0 c1 c2 c3 e = on_build _ p at n (spans_row kind mark p at c0 c1 c2 c3 ∙ rw e)

  -- The same where a list stands in the last slot that holds anything.
  pub on_row_list : (kind mark p at n : ℕ) (c0 c1 c2 c3 : Trees) → join us nil ≡ join c0 (join c1 (join c2 c3))
      → Fewer single us k (build (node kind mark p c0 c1 c2 c3 0) at n) (build (node kind mark p c0 c1 c2 c3 0) at k)
  on_row_list kind mark p at n c0 c1 c2 c3 e = on_row kind mark p at n c0 c1 c2 c3 (sym (join_nil us) ∙ e)

  pub on_infix : (mark p at n : ℕ) (l r : Tree) → us ≡ l ▸ r ▸ nil → Fewer single us k (build (infixed mark p l r 0) at n) (build (infixed mark p l r 0) at k)
  unfolding spans
  on_infix mark p at n l r e = on_build _ p at n (rw e (simp (append_assoc, append-nil)))

-- Readers of a tree and of a list, with any two numbers of rows; the trees us were there before.
abbrev pub Reads : Trees → Reader Tree → Type 0
Reads us f = (at n k : ℕ) → Fewer single us k (f at n) (f at k)

abbrev pub Lists : Trees → Reader Trees → Type 0
Lists us f = (at n k : ℕ) → Fewer listed us k (f at n) (f at k)

pub match_fewer : (us : Trees) {arms : List (Arm Tree)} (w : ℕ) (other : Reader Tree) → Arms (Reads us) arms → Reads us other → Reads us (match w arms other)
unfolding match
match_fewer us w other end h at n k = h at n k
match_fewer us w other (x ▹ xs) h at n k = on_choose _ _ _ _ _ _ _ _ (x at n k) (match_fewer us w other xs h at n k)
