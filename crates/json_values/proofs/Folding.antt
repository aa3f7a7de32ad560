-- What a loop over a payload keeps that puts the folded text: what is put, and bytes behind it that stand as they are.
use mathlib.Core.Path.{◌≡◌, refl, sym, ap, ap₂, subst}
use mathlib.Core.List.{List, [], ◌∷◌, ◌++◌}
use Prim.Native.Nat.{ℕ, suc, ◌+◌, ◌-◌, ◌≤◌, ◌<◌}
use native.Mathlib.Omega.{arith}
use native.Mathlib.Numerals.{add-one}
use borrow.Author.Tests.{ne_eqb}
use lib.ListN.{length, take, drop, get_or}
use lib.Seq.{drop-cons, take-length}
use Rattle.std.specs.Prelude.{Result, Ok, ⊤}
use Rattle.refusals.specs.declared.Reason.{Reason}
use Rattle.text.specs.Fold.{folded, width_of}
use Rattle.text.proofs.Pass.{Pass, Turn, turned, ended}
use Rattle.json_text.specs.Values.{escape, escaped}
use Rattle.json_values.specs.declared.output.Out.{Out}
use Rattle.json_values.specs.Puts.{Puts}
use Rattle.json_values.proofs.Runs.{part, Run, none_yet, part_more, one_more, run_put}
use Rattle.json_values.proofs.Puts.{puts_append}
use Rattle.json_values.proofs.Turns.{escaped_turn}

-- so many bytes of the folded text are put, and those behind them, up to `met`, are the same bytes as in the payload
pub record Folding (bytes : List ℕ) (out₀ out : Out) (start i : ℕ) : Type 0 where
  pub count : ℕ
  pub met : ℕ
  pub pass : Pass bytes i met
  pub inside : start ≤ i
  pub run : Run (folded bytes) count met
  pub same : part bytes start i ≡ part (folded bytes) count met
  pub puts : Puts (escaped (take count (folded bytes))) out₀ out (Ok tt)

-- a byte that stands as it is is no backslash, and so it is folded alone
no_backslash : (b : ℕ) → escape b ≡ b ∷ [] → b ≡ 0x5C → ⊥
unfolding escape
no_backslash b e z = let f : ◌≡◌ {A = List ℕ} (0x5C ∷ 0x5C ∷ []) (0x5C ∷ []) = rw z at e in let two : ◌≡◌ {A = ℕ} 2 1 = ap length f in absurd (omega arith)

alone : (b : ℕ) (rest : List ℕ) → (b ≡ 0x5C → ⊥) → width_of (b ∷ rest) ≡ 1
unfolding width_of
alone b [] n = refl
alone b (c ∷ rest) n = rw (ne_eqb b 0x5C n)

pub one_wide : (bytes : List ℕ) (i : ℕ) → i < length bytes → escape (get_or bytes i 0) ≡ get_or bytes i 0 ∷ [] → 1 ≡ width_of (drop i bytes)
one_wide bytes i h e = rw (drop-cons bytes i 0 h) (sym (alone (get_or bytes i 0) (drop (suc i) bytes) (no_backslash (get_or bytes i 0) e)))

-- one such byte more
pub folding_more : (bytes : List ℕ) {o p : Out} (start i : ℕ) → Folding bytes o p start i → i < length bytes → escape (get_or bytes i 0) ≡ get_or bytes i 0 ∷ []
    → Folding bytes o p start (suc i)
folding_more bytes start i f h e =
    let next = turned bytes i f.met 1 f.pass h (one_wide bytes i h e) in
    record {
      count = f.count;
      met = suc f.met;
      pass = simp add-one at next.pass;
      inside = omega (arith, f.inside);
      run = one_more (folded bytes) f.count f.met f.run next.more (rw next.byte e);
      same = rw (part_more bytes start i f.inside h, part_more (folded bytes) f.count f.met f.run.inside next.more) (ap₂ (λ a b. a ++ (b ∷ [])) f.same (sym next.byte));
      puts = f.puts;
    }

-- the run put, and then a byte by its escape, whatever the width of what is folded into it
module _ (bytes : List ℕ) {o p : Out} (start i : ℕ) (f : Folding bytes o p start i) where
  pub folding_run : {q : Out} {r : Result ⊤ Reason} → Puts (part bytes start i) p q r → Puts (escaped (take f.met (folded bytes))) o q r
  folding_run x = run_put (folded bytes) f.count f.met f.run f.puts (rw f.same at x)

  module _ (h : i < length bytes) where
    its_turn : (width : ℕ) → width ≡ width_of (drop i bytes) → Turn bytes i f.met width
    its_turn width e = turned bytes i f.met width f.pass h e

    pub folding_escape : {q r : Out} {u : ⊤} {s : Result ⊤ Reason} → Puts (part bytes start i) p q (Ok u) → Puts (escape (get_or bytes i 0)) q r s
        → Puts (escaped (take (suc f.met) (folded bytes))) o r s
    folding_escape x y =
        let next = its_turn (width_of (drop i bytes)) refl in
        rw (escaped_turn (folded bytes) f.met next.more) (puts_append (folding_run x) (rw (← next.byte) at y))

    module _ {width : ℕ} (e : width ≡ width_of (drop i bytes)) where
      pub within : i + width ≤ length bytes
      within = (its_turn width e).pass.within

      pub on : i < i + width
      on = (its_turn width e).on

      pub folding_on : {q r : Out} {u v : ⊤} → Puts (part bytes start i) p q (Ok u) → Puts (escape (get_or bytes i 0)) q r (Ok v) → Folding bytes o r (i + width) (i + width)
      folding_on x y =
          let next = its_turn width e in
          record {
            count = suc f.met;
            met = suc f.met;
            pass = let e : f.met + 1 ≡ suc f.met = omega arith in subst (λ m. Pass bytes (i + width) m) e next.pass;
            inside = omega arith;
            run = none_yet (folded bytes) (suc f.met) next.more;
            same = ends (i + width) (suc f.met);
            puts = folding_escape x y;
          }
        where
          ends : (m n : ℕ) → part bytes m m ≡ part (folded bytes) n n
          ends m n = let a : m - m ≡ 0 = omega arith in let b : n - n ≡ 0 = omega arith in rw (a, b) refl

  -- all of it
  pub folding_all : length bytes ≤ i → {q : Out} {r : Result ⊤ Reason} → Puts (part bytes start (length bytes)) p q r → Puts (escaped (folded bytes)) o q r
  folding_all h x =
      let whole = ended bytes i f.met f.pass h in
      let at : i ≡ length bytes = omega (arith, f.pass.within) in
      rw (whole, take-length) at (folding_run (rw (← at) at x))
