-- From what a reader leaves in its part to what an entry answers and leaves in the whole pool.
use mathlib.Core.Path.{◌≡◌, refl, sym, ap, ◌∙◌}
use mathlib.Core.Bool.{Bool, true, false}
use mathlib.Core.List.{List, [], ◌++◌, append_assoc, append-nil}
use Prim.Native.Nat.{ℕ, zero, suc, ◌+◌, ◌*◌, ◌-◌, ◌/◌, ◌≤◌, ◌<◌}
use native.Mathlib.Omega.{arith}
use native.Mathlib.Nat.{sub-zero}
use lib.Dec.{ltb}
use lib.ListN.{length, take, drop, replicate, length-append, length-replicate, replicate-append-replicate}
use lib.Seq.{drop_at, take_at}
use borrow.Author.Tests.{ltb-true, lt-ltb}
use borrow.Rule.Slice.PartMut.{put_mid}
use Rattle.grammar.specs.Words.{Empty, is}
use Rattle.grammar.specs.Tree.{Tree, Trees, nil, ◌▸◌, sizes, head_ref, lay, lays, width}
use Rattle.grammar.specs.Parsed.{Parsed, refused, read, ◌>>=◌, Check, met, failed, need, ◌>>◌, choose, BadStart}
use Rattle.grammar.specs.Rules.{Rules}
use Rattle.grammar.specs.Statements as s
use Rattle.grammar.specs.Script.{both, array_good, rows, pool, whole_script}
use Rattle.grammar.proofs.Checks.{both_met, need_met}
use Rattle.words.proofs.Arrays as arrays
use Rattle.std.specs.Prelude.{Ok, Err}
use Rattle.refusals.specs.Refusal.{Numbered}
use Rattle.reader.specs.Meets.{Sound, Ready, Meets, Case, many}
use Rattle.reader.specs.declared.Entry.{Entry}
use Rattle.reader.specs.declared.Entry.TheVariants as what
use Rattle.answer.specs.Answer.{Read, Answer, Entered, ended, ended_pool, checks, start_of}
use Rattle.reader.specs.Entries.{reads, enters, script}
use Rattle.reader.proofs.Lists.{then_assoc}

-- A checked array is sound.
pub sound : {ts : List ℕ} → array_good ts ≡ met → Sound ts
sound h = let s = arrays.sound h in record { few = s.few; good = s.all_valid; ends = s.last }

-- ---- the check

-- What a start tells.
pub record Begins (ts : List ℕ) (at : ℕ) : Type 0 where
  pub good : array_good ts ≡ met
  pub within : at < length ts

pub passed : {A : Type 0} {ts : List ℕ} {at : ℕ} (x : Parsed A) → Begins ts at → (array_good ts >> (need (ltb at (length ts)) BadStart 0 >> x)) ≡ x
unfolding need ◌>>◌
passed {ts = ts} {at = at} x b = rw (b.good, lt-ltb at (length ts) b.within)

pub begins : (ts : List ℕ) (at : ℕ) {c : ℕ} → start_of (checks ts at) at ≡ Ok c → Begins ts at × (c ≡ at)
unfolding checks
begins ts at {c} e = go (checks ts at) refl e
  where
    go : (k : Check) → checks ts at ≡ k → start_of k at ≡ Ok c → Begins ts at × (c ≡ at)
    go met q r =
        let m = both_met (array_good ts) (need (ltb at (length ts)) BadStart 0) q in
        let here : at ≡ c = cc in
        (record { good = m.0; within = ltb-true _ _ (need_met _ _ _ m.1) }, sym here)
    go (failed n p) q r = let z : ◌≡◌ {A = ℕ} 0 1 = cc in absurd (omega arith)

-- What a refusal of the start tells.
failed_then : {A : Type 0} (a b : Check) (n p : ℕ) (x : Parsed A) → both a b ≡ failed n p → (a >> (b >> x)) ≡ refused n p
unfolding both ◌>>◌
failed_then met met n p x e = let z : ◌≡◌ {A = ℕ} 0 1 = cc in absurd (omega arith)
failed_then met (failed m q) n p x e = cc
failed_then (failed m q) b n p x e = cc

pub denied : {A : Type 0} (ts : List ℕ) (at : ℕ) {e : Numbered} (x : Parsed A) → start_of (checks ts at) at ≡ Err e
    → (array_good ts >> (need (ltb at (length ts)) BadStart 0 >> x)) ≡ refused e.number e.place
unfolding checks
denied {A} ts at {e} x is = go (checks ts at) refl is
  where
    go : (k : Check) → checks ts at ≡ k → start_of k at ≡ Err e → (array_good ts >> (need (ltb at (length ts)) BadStart 0 >> x)) ≡ refused e.number e.place
    go met q r = let z : ◌≡◌ {A = ℕ} 0 1 = cc in absurd (omega arith)
    go (failed m j) q r =
        let a : m ≡ e.number = cc in
        let b : j ≡ e.place = cc in
        rw (← a, ← b) (failed_then (array_good ts) (need (ltb at (length ts)) BadStart 0) m j x q)

-- ---- the pool

zeros_drop : (k n : ℕ) → k ≤ n → drop {A = ℕ} k (replicate n 0) ≡ replicate (n - k) 0
zeros_drop k n h =
    let e : k + (n - k) ≡ n = omega arith in
    ap (λ (i : ℕ). drop {A = ℕ} k (replicate i 0)) (sym e) ∙ ap (drop {A = ℕ} k) (sym (replicate-append-replicate k (n - k) 0)) ∙ drop_at (replicate k 0) (replicate (n - k) 0) k (length-replicate k 0)

zeros_take : (k n : ℕ) → k ≤ n → take {A = ℕ} k (replicate n 0) ≡ replicate k 0
zeros_take k n h =
    let e : k + (n - k) ≡ n = omega arith in
    ap (λ (i : ℕ). take {A = ℕ} k (replicate i 0)) (sym e) ∙ ap (take {A = ℕ} k) (sym (replicate-append-replicate k (n - k) 0)) ∙ take_at (replicate k 0) (replicate (n - k) 0) k (length-replicate k 0)

-- The part of a cleared pool that is lent, and the pool once it is back.
pub lent_zeros : {ys : List ℕ} (k n : ℕ) → ys ≡ replicate n 0 → k ≤ n → take (k - 0) (drop 0 ys) ≡ replicate k 0
lent_zeros k n e h = rw (e, sub-zero k) (zeros_take k n h)

pub back_zeros : {ys : List ℕ} (k n : ℕ) (zs : List ℕ) → ys ≡ replicate n 0 → k ≤ n → put_mid 0 (k - 0) ys zs ≡ zs ++ replicate (n - k) 0
back_zeros k n zs e h = rw (e, sub-zero k) (ap (λ (w : List ℕ). zs ++ w) (zeros_drop k n h))

-- How many words are lent.
pub few_words : (n : ℕ) → width * rows n ≤ n
unfolding rows
few_words n = omega arith

pub ready_whole : {ts xs : List ℕ} {at : ℕ} (n : ℕ) → array_good ts ≡ met → at < length ts → length xs ≡ width * rows n → Ready ts xs 0 at
unfolding rows
ready_whole n g w e = record { sound = sound g; within = w; whole = omega arith; fits = omega arith }

pub all_rows : {xs : List ℕ} (n : ℕ) → xs ≡ replicate (width * rows n) 0 → length xs / width ≡ rows n
all_rows n e = ap (λ (l : List ℕ). length l / width) e ∙ ap (λ (i : ℕ). i / width) (length-replicate (width * rows n) 0) ∙ omega arith

-- ---- the answer

-- What is read stands behind no row, so that its reference is the number of its rows.
abbrev pub Alone : Parsed Trees → Type 0
Alone P = (us : Trees) (at left : ℕ) → P ≡ read us at left → head_ref us 0 ≡ sizes us

-- A reader's answer and part, as an entry's answer and pool.
pub entered : {ts : List ℕ} {from : ℕ} {P : Parsed Trees} {r : Read} {xs ys : List ℕ} (n : ℕ) → Alone P → xs ≡ replicate (width * rows n) 0 → length ys ≡ length xs
    → Meets many ts from P [] 0 r xs ys → Entered P (ended r) n (ended_pool r (ys ++ replicate (n - width * rows n) 0))
unfolding pool lay
entered {ts} {from} {P} {r} {xs} {ys} n alone z same m = go P alone m.met
  where
    long : length ys ≡ width * rows n
    long = same ∙ ap length z ∙ length-replicate (width * rows n) 0

    go : (Q : Parsed Trees) → Alone Q → Case many ts from Q [] 0 r xs ys → Entered Q (ended r) n (ended_pool r (ys ++ replicate (n - width * rows n) 0))
    go (refused a b) al q =
        let e : length ys + length (replicate {A = ℕ} (n - width * rows n) 0) ≡ n = omega (arith, long, length-replicate {A = ℕ} (n - width * rows n) 0, few_words n) in
        rw q (record { answer = refl; left = ap (λ (i : ℕ). replicate i 0) (length-append ys (replicate (n - width * rows n) 0) ∙ e) })
    go (read us at left) al g =
        let st = g.stands in
        let rs : g.rows ≡ sizes us = omega (arith, st.ends) in
        let hd : head_ref us 0 ≡ sizes us = al us at left refl in
        let fit = st.front.fit in
        let k : width * sizes us ≤ width * rows n = omega (arith, rs, ap length z, length-replicate {A = ℕ} (width * rows n) 0) in
        let body : ys ≡ lays us 0 ++ replicate (width * rows n - width * sizes us) 0 =
        st.front.laid ∙ ap (λ (l : List ℕ). l ++ drop (width * g.rows) xs) (append-nil (lays us 0))
        ∙ ap (λ (i : ℕ). lays us 0 ++ drop (width * i) xs) rs ∙ ap (λ (l : List ℕ). lays us 0 ++ drop (width * sizes us) l) z
        ∙ ap (λ (l : List ℕ). lays us 0 ++ l) (zeros_drop (width * sizes us) (width * rows n) k) in
        let e : width * rows n - width * sizes us + (n - width * rows n) ≡ n - width * sizes us = omega (arith, few_words n) in
        rw g.is
        (record {
          answer = cc (rs, hd);
          left = ap (λ (l : List ℕ). l ++ replicate (n - width * rows n) 0) body ∙ append_assoc (lays us 0) _ _
              ∙ ap (λ (l : List ℕ). lays us 0 ++ l) (replicate-append-replicate (width * rows n - width * sizes us) (n - width * rows n) 0 ∙ ap (λ (i : ℕ). replicate i 0) e);
        })

-- One tree is alone.
pub one_alone : (Q : Parsed Tree) → Alone (Q >>= λ (t, at, room). read (t ▸ nil) at room)
unfolding ◌>>=◌
one_alone (refused n p) us at left e = let z : ◌≡◌ {A = ℕ} 0 1 = cc in absurd (omega arith)
one_alone (read t b l) us at left e =
    let q : t ▸ nil ≡ us = cc in
    rw (← q) (omega arith)

-- A statement is one tree, or none.
choose_alone : (b : Bool) (at room : ℕ) (Q : Parsed Tree) → Alone (choose b (λ _. read nil at room) (λ _. Q >>= λ (t, at, room). read (t ▸ nil) at room))
unfolding choose
choose_alone true at room Q us b left e = let q : nil ≡ us = cc in rw (← q) refl
choose_alone false at room Q us b left e = one_alone Q us b left e

pub statement_alone : (rules : Rules) (ts : List ℕ) (d at room : ℕ) → Alone (s.statement rules ts d at room)
unfolding s.statement s.level
statement_alone rules ts zero at room us b left e = let z : ◌≡◌ {A = ℕ} 0 1 = cc in absurd (omega arith)
statement_alone rules ts (suc d) at room us b left e = choose_alone (is ts at Empty) at room _ us b left e

pub alone_by : {P Q : Parsed Trees} → P ≡ Q → Alone Q → Alone P
alone_by e h us at left q = h us at left (sym e ∙ q)

-- What a reader did in the lent part, once the pool is back and finished with.
pub finished : {ts : List ℕ} {from : ℕ} {P : Parsed Trees} {r : Read} {xs zs : List ℕ} {a : Answer} {ys : List ℕ} (n k : ℕ) → xs ≡ replicate n 0 → k ≡ width * rows n → Alone P
    → length zs ≡ length (take (k - 0) (drop 0 xs)) → Meets many ts from P [] 0 r (take (k - 0) (drop 0 xs)) zs → a ≡ ended r → ys ≡ ended_pool r (put_mid 0 (k - 0) xs zs)
    → Entered P a n ys
finished {r = r} {xs = xs} {zs = zs} n k z e alone same m ea ey =
    let le : k ≤ n = omega (arith, few_words n) in
    let g = entered n alone (lent_zeros k n z le ∙ ap (λ (i : ℕ). replicate i 0) e) same m in
    record {
      answer = ea ∙ g.answer;
      left = ey ∙ ap (ended_pool r) (back_zeros k n zs z le ∙ ap (λ (i : ℕ). zs ++ replicate (n - i) 0) e) ∙ g.left;
    }

-- Nothing is read where the start is refused, and the pool is zero.
pub unread : {P : Parsed Trees} {e : Numbered} {a : Answer} {ys : List ℕ} (words : ℕ) → P ≡ refused e.number e.place → a ≡ Err e → ys ≡ replicate words 0 → Entered P a words ys
unfolding pool
unread words is ea ey = rw is (record { answer = ea; left = ey })

-- What an entry reads is alone.
pub reads_alone : (e : Entry) (rules : Rules) (ts : List ℕ) (at room : ℕ) → Alone (reads e rules ts at room)
unfolding reads
reads_alone what.Expression rules ts at room us b left e = one_alone _ us b left e
reads_alone what.Statement rules ts at room us b left e = statement_alone rules ts _ at room us b left e
reads_alone what.Script rules ts at room us b left e = one_alone _ us b left e

-- A good array has a place 0.
at_zero : {A : Type 0} (ts : List ℕ) (x y : Parsed A) → x ≡ y → (array_good ts >> x) ≡ (array_good ts >> (need (ltb 0 (length ts)) BadStart 0 >> y))
unfolding need ◌>>◌
at_zero {A} ts x y e = go (array_good ts) refl
  where
    go : (k : Check) → array_good ts ≡ k → (k >> x) ≡ (k >> (need (ltb 0 (length ts)) BadStart 0 >> y))
    go met q = rw (lt-ltb 0 (length ts) (arrays.sound q).some) e
    go (failed n p) q = refl

-- So a whole script is entered there.
pub whole_enters : (rules : Rules) (ts : List ℕ) (room : ℕ) → whole_script rules ts room ≡ enters what.Script rules ts 0 room
unfolding whole_script enters reads script
whole_enters rules ts room = at_zero ts _ _ (then_assoc _ _ _)
