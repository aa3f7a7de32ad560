-- An answer taken apart, a refusal passed on, and a row that ends a tree.
use mathlib.Core.Path.{◌≡◌, refl, sym, ap, ◌∙◌}
use mathlib.Core.List.{List, [], ◌∷◌, ◌++◌, append_assoc, append-nil}
use mathlib.Core.Bool.{Bool, true, false}
use Prim.Native.Nat.{ℕ, zero, suc, ◌+◌, ◌*◌, ◌/◌, ◌≤◌, ◌<◌}
use native.Mathlib.Omega.{arith}
use native.Mathlib.Nat.{add-zero}
use lib.ListN.{length, take, drop}
use Rattle.grammar.specs.Tree.{Tree, Trees, nil, ◌▸◌, size, head_ref, row, lay, width, ended}
use Rattle.grammar.specs.Parsed.{Parsed, refused, read, ◌>>=◌, ◌>>◌, need, build, choose}
use Rattle.std.specs.Prelude.{Result, Ok, Err}
use Rattle.std.specs.Result.{IsErrAnd}
use Rattle.std.proofs.lemmas.Result.{err_from_is_err_and}
use Rattle.refusals.specs.Refusal.{Numbered, refusal}
use Rattle.answer.specs.declared.Piece.{Piece}
use Rattle.answer.specs.Answer.{Read, piece}
use Rattle.reader.specs.Meets.{Stands, Meets, Case, Front, lay_slots, after, four, Ending, one, Bounded, BoundedCase}
use Rattle.reader.proofs.Slots.{slots_more, after_more, slots_behind, after_behind, slots_four, after_four, root_size, root_laid, root_ended}
use Rattle.reader.proofs.Fronts.{front_same, front_more, front_eq}

pub not_both : {A : Type 0} (r : Read) (e : Numbered) (t : Piece) → r ≡ Err e → r ≡ Ok t → A
not_both {A} r e t a b = let z : ◌≡◌ {A = ℕ} 0 1 = cc in let y : ⊥ = omega arith in absurd y

-- A refusal is told from its number and its place.
pub same_refusal : {e : Numbered} {n p : ℕ} → e.number ≡ n → e.place ≡ p → e ≡ refusal n p
same_refusal {e} {n} i j = ap (λ (k : ℕ). refusal k e.place) i ∙ ap (λ (k : ℕ). refusal n k) j

-- What an accepted answer tells.
pub record Taken {A : Type 0} (slot : A → Trees) (ts : List ℕ) (from : ℕ) (P : Parsed A) (ss : List Trees) (first k h : ℕ) (c : ℕ) (xs ys : List ℕ) : Type 0 where
  pub value : A
  pub left : ℕ
  pub eq : P ≡ read value c left
  pub head : h ≡ head_ref (slot value) (after ss first)
  pub stands : Stands ts from (ss ++ (slot value ∷ [])) first k left xs ys c

pub taken : {A : Type 0} {slot : A → Trees} {ts : List ℕ} {from : ℕ} {P : Parsed A} {ss : List Trees} {first : ℕ} {r : Read} {xs ys : List ℕ} {t : Piece}
    → Meets slot ts from P ss first r xs ys → r ≡ Ok t → Taken slot ts from P ss first t.rows t.head t.next xs ys
taken {A} {slot} {ts} {from} {P} {ss} {first} {r} {xs} {ys} {t} m e = go P m.met
  where
    go : (Q : Parsed A) → Case slot ts from Q ss first r xs ys → Taken slot ts from Q ss first t.rows t.head t.next xs ys
    go (refused n p) q = not_both r (refusal n p) t q e
    go (read a at left) g =
        let s : ◌≡◌ {A = Read} (Ok (piece g.rows (head_ref (slot a) (after ss first)) at)) (Ok t) = sym g.is ∙ e in
        let rows : g.rows ≡ t.rows = cc in
        let heads : head_ref (slot a) (after ss first) ≡ t.head = cc in
        let place : at ≡ t.next = cc in
        record {
          value = a;
          left = left;
          eq = ap (λ (i : ℕ). read a i left) place;
          head = sym heads;
          stands = rw (← rows, ← place) g.stands;
        }

-- What the exit of a `?` answers: the refusal as it is.
pub exit : {A : Type 0} {q : Result A Numbered} {e : Numbered} → IsErrAnd q (λ y. y ≡ e) → q ≡ Err e
exit {A} {q} h = let p = err_from_is_err_and q h in p.1 ∙ ap Err p.2

-- A refusal is passed on.
pub pass : {A B : Type 0} {slot : A → Trees} {slot' : B → Trees} {ts : List ℕ} {from : ℕ} {P : Parsed A} {ss : List Trees} {first : ℕ} {r : Read} {xs ys : List ℕ} {e : Numbered}
    {ts' : List ℕ} {from' : ℕ} {ss' : List Trees} {first' : ℕ} {q : Read} {xs' ys' : List ℕ} (f : A × ℕ × ℕ → Parsed B)
    → Meets slot ts from P ss first r xs ys → r ≡ Err e → q ≡ Err e → Meets slot' ts' from' (P >>= f) ss' first' q xs' ys'
unfolding ◌>>=◌
pass {A} {B} {slot} {slot'} {ts} {from} {P} {ss} {first} {r} {xs} {ys} {e} {ts'} {from'} {ss'} {first'} {q} {xs'} {ys'} f m is out = record { met = go P m.met }
  where
    go : (Q : Parsed A) → Case slot ts from Q ss first r xs ys → Case slot' ts' from' (Q >>= f) ss' first' q xs' ys'
    go (refused a b) g = out ∙ sym is ∙ g
    go (read a at left) g = not_both r e (piece g.rows (head_ref (slot a) (after ss first)) at) is g.is

-- The definition's value may be put as another.
pub by_eq : {A : Type 0} {slot : A → Trees} {ts : List ℕ} {from : ℕ} {P Q : Parsed A} {ss : List Trees} {first : ℕ} {r : Read} {xs ys : List ℕ} → P ≡ Q
    → Meets slot ts from Q ss first r xs ys → Meets slot ts from P ss first r xs ys
by_eq e m = rw e m

-- A reader that begins with another.
pub record Starts {A B : Type 0} (X : Parsed B) (P : Parsed A) : Type 0 where
  pub rest : A × ℕ × ℕ → Parsed B
  pub eq : X ≡ (P >>= rest)

-- The other may begin at a place that is the same, and something that comes to nothing may stand before it.
abbrev pub starts_at : {A B : Type 0} (P : ℕ → Parsed A) (rest : A × ℕ × ℕ → Parsed B) {k d : ℕ} → d ≡ k → Starts (P k >>= rest) (P d)
starts_at P rest i = record { rest = rest; eq = ap (λ (j : ℕ). P j >>= rest) (sym i) }

abbrev pub starts_after : {A B : Type 0} {X Y : Parsed B} {P : Parsed A} → X ≡ Y → Starts Y P → Starts X P
starts_after e s = record { rest = s.rest; eq = e ∙ s.eq }

-- It passes the other's refusal on.
pub pass_on : {A B : Type 0} {slot : A → Trees} {slot' : B → Trees} {ts : List ℕ} {from : ℕ} {X : Parsed B} {P : Parsed A} {ss : List Trees} {first : ℕ} {r : Read} {xs ys : List ℕ} {e : Numbered}
    {ts' : List ℕ} {from' : ℕ} {ss' : List Trees} {first' : ℕ} {q : Read} {xs' ys' : List ℕ} → Starts X P
    → Meets slot ts from P ss first r xs ys → r ≡ Err e → q ≡ Err e → Meets slot' ts' from' X ss' first' q xs' ys'
pass_on s m is out = by_eq s.eq (pass s.rest m is out)

-- It goes on from what the other reads.
pub goes : {A B : Type 0} {X : Parsed B} {P : Parsed A} {a : A} {at left : ℕ} (s : Starts X P) → P ≡ read a at left → X ≡ s.rest (a, at, left)
unfolding ◌>>=◌
goes s e = s.eq ∙ rw e

-- A refusal of its own.
pub refuses : {A : Type 0} {slot : A → Trees} {ts : List ℕ} {from : ℕ} {ss : List Trees} {first : ℕ} {e : Numbered} {xs ys : List ℕ} (P : Parsed A) (n p : ℕ)
    → P ≡ refused n p → e ≡ refusal n p → Meets slot ts from P ss first (Err e) xs ys
refuses P n p is said = by_eq is (record { met = ap Err said })

-- The steps of a reader.
pub then_read : {A B : Type 0} {P : Parsed A} {a : A} {at left : ℕ} (f : A × ℕ × ℕ → Parsed B) → P ≡ read a at left → (P >>= f) ≡ f (a, at, left)
unfolding ◌>>=◌
then_read f e = rw e

pub then_refused : {A B : Type 0} {P : Parsed A} {n p : ℕ} (f : A × ℕ × ℕ → Parsed B) → P ≡ refused n p → (P >>= f) ≡ refused n p
unfolding ◌>>=◌
then_refused f e = rw e

pub then_eq : {A B : Type 0} {P Q : Parsed A} (f : A × ℕ × ℕ → Parsed B) → P ≡ Q → (P >>= f) ≡ (Q >>= f)
then_eq f e = rw e

pub need_met : {A : Type 0} {b : Bool} (n p : ℕ) (x : Parsed A) → b ≡ true → (need b n p >> x) ≡ x
unfolding need ◌>>◌
need_met n p x e = rw e

pub need_failed : {A : Type 0} {b : Bool} (n p : ℕ) (x : Parsed A) → b ≡ false → (need b n p >> x) ≡ refused n p
unfolding need ◌>>◌
need_failed n p x e = rw e

pub choose_true : {A : Type 0} {b : Bool} (x y : Unit {0} → Parsed A) → b ≡ true → choose b x y ≡ x tt
unfolding choose
choose_true x y e = rw e

pub choose_false : {A : Type 0} {b : Bool} (x y : Unit {0} → Parsed A) → b ≡ false → choose b x y ≡ y tt
unfolding choose
choose_false x y e = rw e

-- An answer of a reader that began later.
pub sooner : {A : Type 0} {slot : A → Trees} {ts : List ℕ} {from : ℕ} {P : Parsed A} {ss : List Trees} {first : ℕ} {r : Read} {xs ys : List ℕ} {from' : ℕ}
    → from' ≤ from → Meets slot ts from P ss first r xs ys → Meets slot ts from' P ss first r xs ys
sooner {A} {slot} {ts} {from} {P} {ss} {first} {r} {xs} {ys} {from'} le m = record { met = go P m.met }
  where
    go : (Q : Parsed A) → Case slot ts from Q ss first r xs ys → Case slot ts from' Q ss first r xs ys
    go (refused n p) q = q
    go (read a at left) g =
        let s = g.stands in
        let o = s.on in
        record { rows = g.rows; is = g.is; stands = record { front = s.front; ends = s.ends; spent = s.spent; on = omega arith; within = s.within } }

-- Nothing is read yet.
pub at_once : {ts : List ℕ} {at : ℕ} (first : ℕ) (xs : List ℕ) → at < length ts → Stands ts at [] first 0 (length xs / width) xs xs at
at_once first xs w = record { front = record { laid = refl; long = refl; fit = omega arith }; ends = omega arith; spent = omega arith; on = omega arith; within = w }

-- The cursor moves on.
pub onward : {ts : List ℕ} {from : ℕ} {ss : List Trees} {first k left : ℕ} {xs ys : List ℕ} {at at' : ℕ} → Stands ts from ss first k left xs ys at
    → at ≤ at' → at' < length ts → Stands ts from ss first k left xs ys at'
onward s le lt = let o = s.on in record { front = s.front; ends = s.ends; spent = s.spent; on = omega arith; within = lt }

-- The row that ends a tree is built, behind what stands before the tree.
pub built : {ts : List ℕ} {from : ℕ} {ss : List Trees} {first k left : ℕ} {xs ys zs : List ℕ} {at : ℕ} {kind m p c0 c1 c2 c3 : ℕ} {t : Tree} {r : Read} (bs : List Trees)
    → Stands ts from (bs ++ ss) first k left xs ys at → Ending t kind m p ss (after bs first) c0 c1 c2 c3
    → k < length ys / width → zs ≡ take (width * k) ys ++ (row kind m p c0 c1 c2 c3 0 at ++ drop (width * k + width) ys) → r ≡ Ok (piece (k + 1) (first + (k + 1)) at)
    → Meets one ts from (build t at left) bs first r xs zs
unfolding build lay
built {ts} {from} {ss} {first} {k} {left} {xs} {ys} {zs} {at} {kind} {m} {p} {c0} {c1} {c2} {c3} {t} {r} bs s end lt e is = record { met = go left refl }
  where
    same : length ys ≡ length xs
    same = front_same s.front

    go : (n : ℕ) → left ≡ n → Case one ts from (build t at n) bs first r xs zs
    go zero q =
        let y : ⊥ = omega (arith, s.spent, ap (λ (i : ℕ). i / width) same) in
        absurd y
    go (suc n) q =
        let g : ℕ = after bs first in
        let w : List ℕ = row kind m p c0 c1 c2 c3 0 at in
        let u : Tree = ended at t in
        let root = root_ended at end.root in
        let z : g + size u ≡ first + (k + 1) =
        root_size g root ∙ ap (λ (i : ℕ). i + 1) (after_four ss g end.few ∙ sym (after_behind bs ss first) ∙ sym s.ends) ∙ omega arith in
        let fr : Front (lay_slots (bs ++ ss) first ++ w) (k + 1) xs zs = front_more w 1 s.front refl (omega arith) e in
        let l : lay_slots (bs ++ ss) first ++ w ≡ lay_slots (bs ++ ((u ▸ nil) ∷ [])) first =
        ap (λ (v : List ℕ). v ++ w) (slots_behind bs ss first ∙ ap (λ (v : List ℕ). lay_slots bs first ++ v) (sym (slots_four ss g end.few)))
        ∙ append_assoc (lay_slots bs first) (lay_slots (four ss) g) w
        ∙ ap (λ (v : List ℕ). lay_slots bs first ++ v) (sym (root_laid g c0 c1 c2 c3 root end.refs) ∙ sym (append-nil (lay u g 0)))
        ∙ sym (slots_more bs (u ▸ nil) first) in
        record {
          rows = k + 1;
          is = is ∙ ap (λ (i : ℕ). Ok (piece (k + 1) i at)) (sym z);
          stands = record {
            front = front_eq l fr;
            ends = sym (after_more bs (u ▸ nil) first ∙ ap (λ (i : ℕ). g + i) (add-zero (size u)) ∙ z);
            spent = omega (arith, s.spent);
            on = s.on;
            within = s.within;
          };
        }

-- There is no row for it.
pub full : {ts : List ℕ} {from : ℕ} {ss : List Trees} {first k left : ℕ} {xs ys zs : List ℕ} {at : ℕ} {r : Read} (bs : List Trees) (t : Tree)
    → Stands ts from ss first k left xs ys at → length ys / width ≤ k → r ≡ Err (refusal 3 at) → Meets one ts from (build t at left) bs first r xs zs
unfolding build
full {ts} {from} {ss} {first} {k} {left} {xs} {ys} {zs} {at} {r} bs t s le is = record { met = go left refl }
  where
    go : (n : ℕ) → left ≡ n → Case one ts from (build t at n) bs first r xs zs
    go zero q = is
    go (suc n) q =
        let y : ⊥ = omega (arith, s.spent, ap (λ (i : ℕ). i / width) (front_same s.front)) in
        absurd y

-- The numbers of an answer.
pub bounded_tree : {ts xs : List ℕ} {at : ℕ} {t : Piece} → width * t.rows ≤ length xs → at ≤ t.next → t.next < length ts → Bounded ts xs at (Ok t)
bounded_tree a b c = record { bounded = (a, b, c) }

pub bounded_refused : {ts xs : List ℕ} {at : ℕ} {e : Numbered} → Bounded ts xs at (Err e)
bounded_refused = record { bounded = tt }

pub record Bounds (ts xs : List ℕ) (at k : ℕ) (d : ℕ) : Type 0 where
  pub fit : width * k ≤ length xs
  pub on : at ≤ d
  pub within : d < length ts

pub bounds : {ts xs : List ℕ} {at : ℕ} {r : Read} {t : Piece} → Bounded ts xs at r → r ≡ Ok t → Bounds ts xs at t.rows t.next
bounds {ts} {xs} {at} {r} {t} m e = let b : BoundedCase ts xs at (Ok t) = rw e at m.bounded in record { fit = b.0; on = b.1; within = b.2 }

-- An answer from a later place on, into a part as long.
pub later : {ts xs ys : List ℕ} {at at' : ℕ} {r : Read} → length ys ≡ length xs → at ≤ at' → Bounded ts ys at' r → Bounded ts xs at r
later {ts} {xs} {ys} {at} {at'} {r} same le m = record { bounded = go r m.bounded }
  where
    go : (q : Read) → BoundedCase ts ys at' q → BoundedCase ts xs at q
    go (Ok t) b = let f = b.0 in let o = b.1 in (omega arith, omega arith, b.2)
    go (Err e) b = tt

-- No list is read yet.
pub no_list : {ts : List ℕ} {at : ℕ} (first : ℕ) (xs : List ℕ) → at < length ts → Stands ts at (nil ∷ []) first 0 (length xs / width) xs xs at
unfolding lay
no_list first xs w = record { front = record { laid = refl; long = refl; fit = omega arith }; ends = refl; spent = omega arith; on = omega arith; within = w }

-- The answer may be put as another.
pub told : {A : Type 0} {slot : A → Trees} {ts : List ℕ} {from : ℕ} {P : Parsed A} {ss : List Trees} {first : ℕ} {r q : Read} {xs ys : List ℕ} → r ≡ q
    → Meets slot ts from P ss first r xs ys → Meets slot ts from P ss first q xs ys
told e m = rw e at m

pub bounded_told : {ts xs : List ℕ} {at : ℕ} {r : Read} {e : Numbered} → r ≡ Err e → Bounded ts xs at r
bounded_told is = rw is bounded_refused

-- An empty list was read.
pub read_none : {ts : List ℕ} {d : ℕ} (first : ℕ) (xs : List ℕ) → d < length ts
    → Meets (λ us. us) ts d (read nil d (length xs / width)) [] first (Ok (piece 0 0 d)) xs xs
read_none first xs w = record { met = record { rows = 0; is = refl; stands = no_list first xs w } }

-- What stands in the part is the answer.
pub read_on : {A : Type 0} {slot : A → Trees} {ts : List ℕ} {from : ℕ} {ss : List Trees} {first k h left : ℕ} {xs ys : List ℕ} {d : ℕ} {a : A}
    → h ≡ head_ref (slot a) (after ss first) → Stands ts from (ss ++ (slot a ∷ [])) first k left xs ys d
    → Meets slot ts from (read a d left) ss first (Ok (piece k h d)) xs ys
read_on {k = k} {d = d} e s = record { met = record { rows = k; is = ap (λ (i : ℕ). Ok (piece k i d)) e; stands = s } }

-- Nothing more is read behind the slots.
pub read_nothing : {ts : List ℕ} {from : ℕ} {ss : List Trees} {first k left : ℕ} {xs ys : List ℕ} {d : ℕ} → Stands ts from ss first k left xs ys d
    → Meets (λ us. us) ts from (read nil d left) ss first (Ok (piece k 0 d)) xs ys
unfolding lay
read_nothing {ss = ss} {first = first} {k = k} s =
    record {
      met = record {
        rows = k;
        is = refl;
        stands = record {
          front = front_eq (sym (slots_more ss nil first ∙ append-nil (lay_slots ss first))) s.front;
          ends = s.ends ∙ sym (after_more ss nil first ∙ add-zero (after ss first));
          spent = s.spent;
          on = s.on;
          within = s.within;
        };
      };
    }
