-- What is shown is one text, and the line of a refusal or JSON.
use Prim.Native.Nat.{ℕ}
use native.Mathlib.Omega.{arith}
use mathlib.Core.Path.{◌≡◌, refl, sym, ap, subst₂, ◌∙◌}
use mathlib.Core.List.{List, [], ◌∷◌, ◌++◌}
use mathlib.Core.Logic.{◌⊎◌, inl, inr}
use lib.Seq.{take-append_seam}
use Rattle.grammar.specs.Tree.{Trees, sizes}
use Rattle.grammar.specs.Parsed.{read}
use Rattle.grammar.specs.Script.{rows, pool}
use Rattle.files.specs.Entry.{content}
use Rattle.payloads.specs.Fields.{fields_of}
use Rattle.payloads.specs.Claims.{Bytes}
use Rattle.json_text.specs.Json.{text}
use Rattle.std.specs.Prelude.{Result}
use Rattle.refusals.specs.Refusal.{Numbered}
use Rattle.json_writer.specs.Tells.{no_tree, too_deep, too_short, a_text}
use Rattle.json_writer.specs.Claims.{Call}
use Rattle.json_writer.proofs.Outcomes.{one_telling}
use Rattle.json_writer.proofs.Same.{writes_json}
use Rattle.to_json.specs.Shown.{outcome, no, printed, ShowsTree, told_of, no_script, a_script}
use Rattle.to_json.specs.Claims.{OneText, Json, LineOrJson}

-- of a tree
one_line : {pool file : List ℕ} {root room : ℕ} {x y : List ℕ} → ShowsTree pool root file room x → ShowsTree pool root file room y → x ≡ y
one_line (told_of v) (told_of w) = ap (λ (o : Result ℕ Numbered × List ℕ). printed o.0 o.1) (one_telling v w)

-- of a file
same_read : {us vs : Trees} {at at' left left' : ℕ} → read us at left ≡ read vs at' left' → us ≡ vs
same_read e = cc

same_pool : {us vs : Trees} {at at' left left' : ℕ} (size : ℕ) → read us at left ≡ read vs at' left' → pool size (read us at left) ≡ pool size (read vs at' left')
same_pool size e = ap (pool size) e

pub one_text : OneText
one_text bytes words size room x y (no_script e) (no_script f) = let g = sym e ∙ f in cc
one_text bytes words size room x y (no_script e) (a_script f w) = let g = sym e ∙ f in let z : ◌≡◌ {A = ℕ} 0 1 = cc in absurd (omega arith)
one_text bytes words size room x y (a_script e v) (no_script f) = let g = sym e ∙ f in let z : ◌≡◌ {A = ℕ} 0 1 = cc in absurd (omega arith)
one_text bytes words size room x y (a_script e v) (a_script f w) =
    let g = sym e ∙ f in
    one_line (subst₂ (λ ys r. ShowsTree ys r bytes room x) (same_pool size g) (ap sizes (same_read g)) v) w

-- the line of a refusal, or the text of the tree
module _ (bytes : List ℕ) (words size room : ℕ) (are_bytes : Bytes bytes) {us : Trees} {at left : ℕ} (e : outcome (content bytes words) (rows size) ≡ read us at left) where
  line_or_json : {shown : List ℕ} → ShowsTree (pool size (read us at left)) (sizes us) bytes room shown
      → ((number : ℕ) × (place : ℕ) × (shown ≡ no number place)) ⊎ Json bytes words size shown
  line_or_json (told_of (no_tree v)) = inl (_, _, refl)
  line_or_json (told_of (too_deep v l)) = inl (_, _, refl)
  line_or_json (told_of (too_short t v l h s)) = inl (_, _, refl)
  line_or_json (told_of (a_text t v l h s)) =
      let c : Call = record { pool = _; root = _; file = bytes; room = room; long = _; out = _; are_bytes = are_bytes; tells = a_text t v l h s } in
      let (held, grammar, utf8) = writes_json c in
      let is = take-append_seam (text (fields_of bytes) t) _ in
      inr (record {
        us = us;
        at = at;
        left = left;
        tree = t;
        was_read = e;
        holds = h;
        is = ap (λ ks. ks ++ (10 ∷ [])) is;
        grammatical = rw (is) at grammar;
        utf8 = rw (is) at utf8;
      })

pub lines_or_json : LineOrJson
lines_or_json bytes words size room shown are_bytes (no_script e) = inl (_, _, refl)
lines_or_json bytes words size room shown are_bytes (a_script e w) = line_or_json bytes words size room are_bytes e w
