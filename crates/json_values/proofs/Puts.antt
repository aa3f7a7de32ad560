-- Putting: one text behind another as far as there is room, and what the whole leaves.
use mathlib.Core.Path.{◌≡◌, refl, sym, ap, subst, ◌∙◌}
use mathlib.Core.List.{List, [], ◌∷◌, ◌++◌}
use Prim.Native.Nat.{ℕ, zero, suc, ◌+◌, ◌-◌, ◌≤◌, ◌<◌}
use native.Mathlib.Omega.{arith}
use lib.ListN.{length, drop, set, replicate, length-append, length-replicate}
use lib.Seq.{sets, sets-eq}
use borrow.Rule.Slice.PartMut.{put_mid}
use Rattle.std.proofs.Common.{take-append-drop}
use Rattle.std.proofs.lemmas.Slice.{take-put_mid, drop-put_mid}
use Rattle.std.specs.Prelude.{Result, Ok, Err, IsErr, IsErrAnd, ⊤}
use Rattle.std.proofs.lemmas.List.{set_past}
use Rattle.std.proofs.Math.Seq.{length-sets}
use Rattle.refusals.specs.declared.Reason.{Reason}
use Rattle.refusals.specs.declared.Reason.TheVariants.{TooShort}
use Rattle.json_values.specs.declared.output.Out.{Out}
use Rattle.json_values.specs.Puts.{room, Told, whole, cut, Puts}

-- Bytes that are stored one after another: those of one text and of another, and those for which there is no place.
sets_append : (l : List ℕ) (i : ℕ) (a b : List ℕ) → sets l i (a ++ b) ≡ sets (sets l i a) (i + length a) b
sets_append l i [] b = let e : i ≡ i + 0 = omega arith in ap (λ k. sets l k b) e
sets_append l i (x ∷ a) b = let e : suc i + length a ≡ i + length (x ∷ a) = omega arith in sets_append (set l i x) (suc i) a b ∙ ap (λ k. sets (sets (set l i x) (suc i) a) k b) e

sets_past : (l : List ℕ) (i : ℕ) (a : List ℕ) → length l ≤ i → sets l i a ≡ l
sets_past l i [] h = refl
sets_past l i (x ∷ a) h = rw (set_past l i x h) (sets_past l (suc i) a (omega arith))

-- A part of a slice that becomes such bytes.
stored : (xs ys : List ℕ) (a k : ℕ) → k ≡ length ys → a + length ys ≤ length xs → put_mid a k xs ys ≡ sets xs a ys
stored xs ys a k e h =
    let front = take-put_mid a k xs ys (a + k) (omega arith) (omega arith) in
    let rest = drop-put_mid a k xs ys (a + k) (omega arith) (omega arith) (sym e) in
    sym (take-append-drop (a + k) (put_mid a k xs ys)) ∙ rw (front, rest, e) (sym (sets-eq ys xs a h))

-- Where all of a text was put there was room, and elsewhere there was none.
pub fits : {t : List ℕ} {k : ℕ} {u : ⊤} → Told t k (Ok u) → length t ≤ k
fits (whole h) = h

pub lacks : {t : List ℕ} {k : ℕ} {e : Reason} → Told t k (Err e) → k < length t
lacks (cut h) = h

-- The only error.
pub why : {t : List ℕ} {k : ℕ} {e : Reason} → Told t k (Err e) → e ≡ TooShort
why (cut h) = refl

-- Nothing.
pub puts_none : {o : Out} → Puts [] o o (Ok tt)
puts_none = record { same_slice = refl; bytes = refl; place = omega arith; told = whole (omega arith) }

-- A part of the slice that became the text.
pub puts_part : {t : List ℕ} {o p : Out} (part : List ℕ) (k : ℕ) → p.bytes.ghost_name ≡ o.bytes.ghost_name → p.bytes.now ≡ put_mid o.at k o.bytes.now part → p.at ≡ o.at + length t
    → part ≡ t → k ≡ length t → o.at + length t ≤ length o.bytes.now → Puts t o p (Ok tt)
puts_part {t} {o} part k same e at is l h = record {
  same_slice = same;
  bytes = e ∙ ap (put_mid o.at k o.bytes.now) is ∙ stored o.bytes.now t o.at k l h;
  place = omega arith;
  told = whole (omega arith);
}

-- One text behind another.
pub puts_append : {a b : List ℕ} {o p q : Out} {u : ⊤} {r : Result ⊤ Reason} → Puts a o p (Ok u) → Puts b p q r → Puts (a ++ b) o q r
puts_append {a} {b} {o} {p} {q} {u} {r} x y =
    record {
      same_slice = y.same_slice ∙ x.same_slice;
      bytes = y.bytes ∙ ap (λ k. sets p.bytes.now k b) next ∙ ap (λ l. sets l (o.at + length a) b) x.bytes ∙ sym (sets_append o.bytes.now o.at a b);
      place = omega (arith, y.place, next, long, fits x.told, length-append a b);
      told = go y.told;
    }
  where
    long : length p.bytes.now ≡ length o.bytes.now
    long = ap length x.bytes ∙ length-sets o.bytes.now o.at a

    next : p.at ≡ o.at + length a
    next = omega (arith, x.place, fits x.told)

    go : {s : Result ⊤ Reason} → Told b (room p) s → Told (a ++ b) (room o) s
    go (whole h) = whole (omega (arith, h, next, long, fits x.told, length-append a b))
    go (cut h) = cut (omega (arith, h, next, long, fits x.told, length-append a b))

-- A text for which there is no room, and what would stand behind it.
pub puts_stop : {a : List ℕ} (b : List ℕ) {o p : Out} {e : Reason} → Puts a o p (Err e) → Puts (a ++ b) o p (Err e)
puts_stop {a} b {o} {p} {e} x =
    let l = lacks x.told in
    let both = length-append a b in
    record {
      same_slice = x.same_slice;
      bytes = x.bytes ∙ sym (sets_past (sets o.bytes.now o.at a) (o.at + length a) b (omega (arith, length-sets o.bytes.now o.at a))) ∙ sym (sets_append o.bytes.now o.at a b);
      place = omega (arith, x.place);
      told = go x.told;
    }
  where
    go : {f : Reason} → Told a (room o) (Err f) → Told (a ++ b) (room o) (Err f)
    go (cut h) = cut (omega (arith, h, length-append a b))

-- An error that `?` hands on is the one that it is given.
pub handed_on : {t : List ℕ} {o p : Out} {e : Reason} {r : Result ⊤ Reason} → Puts t o p (Err e) → IsErr r × IsErrAnd r (λ f. f ≡ e) → Puts t o p r
handed_on {t} {o} {p} {e} {r} x h = subst (λ s. Puts t o p s) (sym (go r h)) x
  where
    go : (s : Result ⊤ Reason) → IsErr s × IsErrAnd s (λ f. f ≡ e) → s ≡ Err e
    go (Ok u) g = absurd g.1
    go (Err f) g = ap Err g.1

-- What is put says the answer, the place and the slice.
one_told : {t : List ℕ} {k : ℕ} {r s : Result ⊤ Reason} → Told t k r → Told t k s → r ≡ s
one_told (whole h) (whole g) = refl
one_told (whole h) (cut g) = absurd (omega arith)
one_told (cut h) (whole g) = absurd (omega arith)
one_told (cut h) (cut g) = refl

pub one_puts : {t : List ℕ} {o p q : Out} {r s : Result ⊤ Reason} → Puts t o p r → Puts t o q s → (r ≡ s) × (p.bytes.now ≡ q.bytes.now) × (p.at ≡ q.at)
one_puts x y = (one_told x.told y.told, x.bytes ∙ sym y.bytes, x.place ∙ sym y.place)

abbrev zeros : ℕ → List ℕ
zeros n = replicate n 0

zeros_behind : (k n : ℕ) → drop k (zeros n) ≡ zeros (n - k)
zeros_behind zero n = let e : n ≡ n - 0 = omega arith in ap zeros e
zeros_behind (suc k) zero = let e : 0 ≡ 0 - suc k = omega arith in ap zeros e
zeros_behind (suc k) (suc n) = let e : n - k ≡ suc n - suc k = omega arith in zeros_behind k n ∙ ap zeros e

-- A text put into a slice of zeros: it stands in front, and the place is its length.
pub puts_all : (n : ℕ) {t : List ℕ} {o p : Out} {u : ⊤} → o.bytes.now ≡ replicate n 0 → o.at ≡ 0 → Puts t o p (Ok u)
    → (length t ≤ n) × (p.at ≡ length t) × (p.bytes.now ≡ t ++ replicate (n - length t) 0)
puts_all n {t} {o} {p} z a x =
    let long : length o.bytes.now ≡ n = ap length z ∙ length-replicate {A = ℕ} n 0 in
    let k : 0 + length t ≤ length (zeros n) = omega (arith, fits x.told, length-replicate {A = ℕ} n 0) in
    let same : 0 + length t ≡ length t = omega arith in (
      omega (arith, fits x.told),
      omega (arith, fits x.told, x.place),
      x.bytes ∙ rw (z, a, sets-eq t (zeros n) 0 k) (rw (same, zeros_behind (length t) n)),
    )

-- Where there was no room, the text is longer.
pub puts_not : (n : ℕ) {t : List ℕ} {o p : Out} {e : Reason} → o.bytes.now ≡ replicate n 0 → o.at ≡ 0 → Puts t o p (Err e) → n < length t
puts_not n {t} {o} z a x = omega (arith, lacks x.told, ap length z, length-replicate {A = ℕ} n 0)
