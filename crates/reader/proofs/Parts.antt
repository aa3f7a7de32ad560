-- A part of the pool that was lent from a row on, and came back.
use mathlib.Core.Path.{◌≡◌, sym, ap, ◌∙◌}
use mathlib.Core.List.{List, [], ◌∷◌, ◌++◌, append-nil}
use Prim.Native.Nat.{ℕ, ◌+◌, ◌*◌, ◌-◌, ◌/◌, ◌≤◌}
use native.Mathlib.Omega.{arith}
use lib.ListN.{length, take, drop, length-drop, drop_of_length-le}
use lib.Seq.{take_all, drop-drop}
use borrow.Rule.Slice.PartMut.{put_mid, same_len_mid}
use Rattle.grammar.specs.Tree.{Trees, sizes, lays, head_ref, width}
use Rattle.grammar.specs.Parsed.{Parsed, refused, read}
use Rattle.std.specs.Prelude.{Ok}
use Rattle.refusals.specs.Refusal.{refusal}
use Rattle.answer.specs.declared.Piece.{Piece}
use Rattle.answer.specs.Answer.{Read, piece}
use Rattle.reader.specs.Meets.{Ready, Front, Stands, Meets, Case, lay_slots, after}
use Rattle.reader.proofs.Fronts.{front_same, front_more, front_eq}
use Rattle.reader.proofs.Slots.{slots_more, after_more}
use Rattle.reader.proofs.Answers.{not_both, Taken, taken}

-- The part from row k on, as it is lent.
abbrev pub part : ℕ → List ℕ → List ℕ
part k ys = take (length ys - width * k) (drop (width * k) ys)

part_is : (k : ℕ) (ys : List ℕ) → part k ys ≡ drop (width * k) ys
part_is k ys = take_all (length ys - width * k) (drop (width * k) ys) (simp length-drop (omega arith))

pub part_length : (k : ℕ) (ys : List ℕ) → length (part k ys) ≡ length ys - width * k
part_length k ys = ap length (part_is k ys) ∙ length-drop (width * k) ys

-- The pool, with zs where the part was.
abbrev pub back : ℕ → List ℕ → List ℕ → List ℕ
back k ys zs = put_mid (width * k) (length ys - width * k) ys zs

back_is : (k : ℕ) (ys zs : List ℕ) → width * k ≤ length ys → back k ys zs ≡ take (width * k) ys ++ zs
back_is k ys zs le =
    let e : drop (length ys - width * k) (drop (width * k) ys) ≡ [] = drop_of_length-le (drop (width * k) ys) {i = length ys - width * k} (simp length-drop (omega arith)) in
    ap (λ (w : List ℕ). take (width * k) ys ++ (zs ++ w)) e ∙ ap (λ (w : List ℕ). take (width * k) ys ++ w) (append-nil zs)

-- A part from any word on goes back as long as it was.
pub back_same : (i : ℕ) (ys zs : List ℕ) → length zs ≡ length (take (length ys - i) (drop i ys)) → length (put_mid i (length ys - i) ys zs) ≡ length ys
back_same i ys zs e = same_len_mid i (length ys - i) ys zs e

-- Rows behind rows.
front_part : {p q : List ℕ} {k j : ℕ} {xs ys zs : List ℕ} → Front p k xs ys → Front q j (part k ys) zs → Front (p ++ q) (k + j) xs (back k ys zs)
front_part {p} {q} {k} {j} {xs} {ys} {zs} h g =
    let same = front_same h in
    let fit = h.fit in
    let gfit = g.fit in
    let pl = part_length k ys in
    front_more q j h g.long (omega arith)
    (back_is k ys zs (omega arith)
    ∙ ap (λ (w : List ℕ). take (width * k) ys ++ w) (g.laid ∙ ap (λ (w : List ℕ). q ++ drop (width * j) w) (part_is k ys) ∙ ap (λ (w : List ℕ). q ++ w) (drop-drop (width * j) (width * k) ys)))

-- What is asked of a part that is lent.
pub ready_lent : {ts ys : List ℕ} {first at : ℕ} (k : ℕ) → Ready ts ys first at → width * k ≤ length ys → Ready ts (part k ys) (first + k) at
ready_lent {ts} {ys} {first} k h le =
    let l = part_length k ys in
    let w = h.whole in
    record { sound = h.sound; within = h.within; whole = omega arith; fits = omega (arith, h.fits) }

-- The rows of the part are those that are left.
pub room_left : {ts : List ℕ} {from : ℕ} {ss : List Trees} {first k left : ℕ} {xs ys : List ℕ} {at : ℕ} → Stands ts from ss first k left xs ys at → left ≡ length (part k ys) / width
room_left {k = k} {ys = ys} s = omega (arith, s.spent, part_length k ys, front_same s.front, s.front.fit)

-- What was read into the part stands behind the slots.
pub back_read : {A : Type 0} {slot : A → Trees} {ts : List ℕ} {from : ℕ} {P : Parsed A} {ss : List Trees} {first k left : ℕ} {xs ys zs : List ℕ} {at : ℕ} {r : Read} {t : Piece}
    → Stands ts from ss first k left xs ys at → Meets slot ts at P [] (first + k) r (part k ys) zs → r ≡ Ok t
    → Meets slot ts from P ss first (Ok (piece (k + t.rows) t.head t.next)) xs (back k ys zs)
back_read {A} {slot} {ts} {from} {P} {ss} {first} {k} {left} {xs} {ys} {zs} {at} {r} {t} s m e = record { met = go P m.met }
  where
    go : (Q : Parsed A) → Case slot ts at Q [] (first + k) r (part k ys) zs → Case slot ts from Q ss first (Ok (piece (k + t.rows) t.head t.next)) xs (back k ys zs)
    go (refused n p) q = not_both r (refusal n p) t q e
    go (read a at' left') g =
        let q : Taken slot ts at (read a at' left') [] (first + k) t.rows t.head t.next (part k ys) zs = taken (record { met = g }) e in
        let v : slot q.value ≡ slot a = cc q.eq in
        let place : at' ≡ t.next = cc q.eq in
        let l : left' ≡ q.left = cc q.eq in
        let g' = q.stands in
        let fr = front_part s.front g'.front in
        let ends = s.ends in
        let eq : lay_slots ss first ++ (lays (slot q.value) (first + k) ++ []) ≡ lay_slots (ss ++ (slot a ∷ [])) first =
        rw (v, append-nil, ends) (sym (slots_more ss (slot a) first)) in
        record {
          rows = k + t.rows;
          is = ap (λ (i : ℕ). Ok (piece (k + t.rows) i t.next)) (q.head ∙ ap (λ (w : Trees). head_ref w (first + k)) v ∙ ap (head_ref (slot a)) ends) ∙ ap (λ (i : ℕ). Ok (piece (k + t.rows) (head_ref (slot a) (after ss first)) i)) (sym place);
          stands = record {
            front = front_eq eq fr;
            ends = omega (arith, g'.ends, ends, ap sizes v, after_more ss (slot a) first);
            spent = omega (arith, g'.spent, s.spent, s.front.fit, front_same s.front, part_length k ys, l);
            on = omega (arith, s.on, g'.on, place);
            within = rw place g'.within;
          };
        }

-- A reader of the part has the rows that are left.
pub in_part : {A : Type 0} {slot : A → Trees} {ts : List ℕ} {from : ℕ} {ss : List Trees} {first k left : ℕ} {xs ys : List ℕ} {at b f : ℕ} {r : Read} {vs ws : List ℕ} (reader : ℕ → Parsed A)
    → Stands ts from ss first k left xs ys at → Meets slot ts b (reader (length (part k ys) / width)) [] f r vs ws → Meets slot ts b (reader left) [] f r vs ws
in_part {slot = slot} {ts = ts} {b = b} {f = f} {r = r} {vs = vs} {ws = ws} reader s m = rw (room_left s) m
