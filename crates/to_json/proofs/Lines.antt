-- What is shown: of what the JSON writer answers, and of what the parser does.
use Prim.Native.Nat.{ℕ, suc, ◌+◌, ◌-◌, ◌≤◌, ◌<◌}
use native.Mathlib.Omega.{arith}
use mathlib.Core.Path.{◌≡◌, refl, sym, ap, ◌∙◌}
use mathlib.Core.List.{List, [], ◌∷◌, ◌++◌}
use lib.ListN.{length, take, drop, set}
use lib.Seq.{length-take-le, length_front, take-append-le, take-suc-set}
use Rattle.std.specs.Prelude.{Result, Ok, Err}
use Rattle.grammar.specs.Tree.{Trees, sizes}
use Rattle.grammar.specs.Parsed.{Parsed, read, refused}
use Rattle.grammar.specs.Script.{rows, pool}
use Rattle.answer.specs.declared.Accepted.{Accepted}
use Rattle.answer.specs.Answer.{Answer, accepted, answered}
use Rattle.refusals.specs.Refusal.{Numbered, refusal}
use Rattle.files.specs.Entry.{content}
use Rattle.payloads.specs.Fields.{fields_of}
use Rattle.json_text.specs.Json.{text}
use Rattle.json_writer.specs.Tells.{Tells, no_tree, too_deep, too_short, a_text}
use Rattle.to_json.specs.Shown.{outcome, no, printed, ShowsTree, told_of, Shows, no_script, a_script}

-- a text is no longer than the room
within : {pool file : List ℕ} {root room n : ℕ} {r : Result ℕ Numbered} {left : List ℕ} → Tells pool root file room r left → r ≡ Ok n → n ≤ room
within (no_tree v) e = let z : ◌≡◌ {A = ℕ} 0 1 = cc in absurd (omega arith)
within (too_deep v l) e = let z : ◌≡◌ {A = ℕ} 0 1 = cc in absurd (omega arith)
within (too_short t v l h s) e = let z : ◌≡◌ {A = ℕ} 0 1 = cc in absurd (omega arith)
within {file = file} {n = n} (a_text t v l h s) e = let q : length (text (fields_of file) t) ≡ n = cc in omega (arith, s, q)

-- what the writer answers and leaves, where it is lent all of a buffer but the last byte
module _ {pool file : List ℕ} {root : ℕ} {r : Result ℕ Numbered} {left : List ℕ} (out : List ℕ) (some : 0 < length out) (w : Tells pool root file (length (take (length out - 1) out)) r left)
    (kept : length left ≡ length (take (length out - 1) out)) where
  lent : length (take (length out - 1) out) ≡ length out - 1
  lent = length-take-le (length out - 1) out (omega arith)

  -- the buffer as it is then
  abbrev after : List ℕ
  after = left ++ drop (length out - 1) out

  pub as_long : length after ≡ length out
  as_long = length_front out left (length out - 1) kept

  -- the place behind a text is in it
  pub inside : {n : ℕ} → r ≡ Ok n → n < length out
  inside known = omega (arith, within w known, lent)

  shows : {shown : List ℕ} → shown ≡ printed r left → ShowsTree pool root file (length out - 1) shown
  shows q = rw (q) (told_of (rw (lent) at w))

  -- with a newline there, the text's line is in front
  pub text_line : {n : ℕ} → r ≡ Ok n → ShowsTree pool root file (length out - 1) (take (n + 1) (set after n 10))
  text_line {n} known =
      let i = inside known in
      let s : n + 1 ≡ suc n = omega arith in
      shows (
      ap (λ k. take k (set after n 10)) s
      ∙ take-suc-set after n 10 (omega (arith, i, as_long))
      ∙ ap (λ ks. ks ++ (10 ∷ [])) (take-append-le n left (drop (length out - 1) out) (omega (arith, i, kept, lent)))
      ∙ ap (λ t. printed t left) (sym known)
      )

  pub refusal_line : {e : Numbered} {shown : List ℕ} → r ≡ Err e → shown ≡ no e.number e.place → ShowsTree pool root file (length out - 1) shown
  refusal_line known q = shows (q ∙ ap (λ t. printed t left) (sym known))

module _ {bytes : List ℕ} {words size room : ℕ} {a : Answer} {shown : List ℕ} (e : a ≡ answered (outcome (content bytes words) (rows size))) where
  -- the refusal of the file or of the parser
  pub shows_refusal : {f : Numbered} → a ≡ Err f → shown ≡ no f.number f.place → Shows bytes words size room shown
  shows_refusal {f} known q = go (outcome (content bytes words) (rows size)) refl (sym e ∙ known)
    where
      go : (o : Parsed Trees) → outcome (content bytes words) (rows size) ≡ o → answered o ≡ Err f → Shows bytes words size room shown
      go (read us at left) o g = let z : ◌≡◌ {A = ℕ} 0 1 = cc in absurd (omega arith)
      go (refused m p) o g = let same : refusal m p ≡ f = cc in rw (q) (no_script (o ∙ ap (λ (k : Numbered). refused k.number k.place) same))

  -- what is shown of the tree in the pool that the parser leaves
  pub shows_script : {root used place : ℕ} {ys : List ℕ} → a ≡ Ok (accepted root used place)
      → ((us : Trees) (at left : ℕ) → outcome (content bytes words) (rows size) ≡ read us at left → ys ≡ pool size (read us at left))
      → ShowsTree ys root bytes room shown → Shows bytes words size room shown
  shows_script {root} {used} {place} {ys} known laid w = go (outcome (content bytes words) (rows size)) refl (sym e ∙ known)
    where
      go : (o : Parsed Trees) → outcome (content bytes words) (rows size) ≡ o → answered o ≡ Ok (accepted root used place) → Shows bytes words size room shown
      go (read us at left) f g =
          let same : accepted root used place ≡ accepted (sizes us) (sizes us) at = cc in
          let h : root ≡ sizes us = ap (λ (k : Accepted). k.root) same in
          a_script f (rw (h, laid us at left f) at w)
      go (refused m p) f g = let z : ◌≡◌ {A = ℕ} 0 1 = cc in absurd (omega arith)
