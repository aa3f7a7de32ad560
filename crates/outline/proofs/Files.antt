-- What is printed for a file: the script of its words, or its refusal.
use Prim.Native.Nat.{ℕ, ◌≤◌}
use mathlib.Core.Path.{◌≡◌, sym, ap, ◌∙◌}
use mathlib.Core.List.{List, flatten}
use native.Mathlib.Omega.{arith}
use lib.ListN.{take}
use lib.Seq.{take_at}
use Rattle.std.specs.Prelude.{Result, Ok, Err}
use Rattle.grammar.specs.Rules.{original}
use Rattle.grammar.specs.Script.{whole_script, rows}
use Rattle.refusals.specs.Refusal.{Numbered, refusal}
use Rattle.files.specs.File.{Content, read, refused}
use Rattle.files.specs.Entry.{content, answered, file_answer, file_buffer}
use Rattle.files.proofs.Outcomes.{Accepted, accepted}
use Rattle.answer.specs.Answer.{Answer, Entered}
use Rattle.lines.specs.Lines.{text, from}
use Rattle.outline.specs.Outlined.{outcome, outlined}

-- a count is no more than the buffer's words
pub fits : (bytes : List ℕ) (size : ℕ) {r : Result ℕ Numbered} {n : ℕ} → r ≡ file_answer bytes size → r ≡ Ok n → n ≤ size
fits bytes size answer known = (accepted bytes size (sym answer ∙ known)).fit

-- where a count is answered, the script is that of so many words of the buffer
script_of : (bytes left : List ℕ) (words size n : ℕ) {r : Answer} {ys : List ℕ} → Accepted bytes words n → left ≡ file_buffer bytes words
    → Entered (whole_script original (take n left) (rows size)) r size ys → text r ys ≡ outlined bytes words size
unfolding outlined outcome
script_of bytes left words size n a buffer entered =
    let e : take n left ≡ a.words = rw (buffer, a.given) (take_at a.words _ n a.counted) in
    rw (entered.answer, entered.left, e, a.given)

pub script : (bytes left : List ℕ) (words size n : ℕ) {f : Result ℕ Numbered} {r : Answer} {ys : List ℕ} → f ≡ file_answer bytes words → f ≡ Ok n → left ≡ file_buffer bytes words
    → Entered (whole_script original (take n left) (rows size)) r size ys → text r ys ≡ outlined bytes words size
script bytes left words size n answer known = script_of bytes left words size n (accepted bytes words (sym answer ∙ known))

-- a refusal is the file's
is_refused : (c : Content) {e : Numbered} → answered c ≡ Err e → c ≡ refused e.number e.place
is_refused (read words) q = let z : ◌≡◌ {A = ℕ} 0 1 = cc in absurd (omega arith)
is_refused (refused number place) {e} q = let same : refusal number place ≡ e = cc in ap (λ (k : Numbered). refused k.number k.place) same

-- where one is answered, its line is the text, whatever the pool
pub refusal_of : (bytes : List ℕ) (words size : ℕ) (ys : List ℕ) {f : Result ℕ Numbered} {e : Numbered} → f ≡ file_answer bytes words → f ≡ Err e
    → text (Err e) ys ≡ outlined bytes words size
unfolding outlined outcome text flatten from
refusal_of bytes words size ys answer known = rw (is_refused (content bytes words) (sym answer ∙ known))
