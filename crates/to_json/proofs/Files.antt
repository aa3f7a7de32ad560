-- What is read from a file: the script of its words, or its refusal.
use Prim.Native.Nat.{ℕ, ◌≤◌}
use mathlib.Core.Path.{◌≡◌, sym, ap, ◌∙◌}
use mathlib.Core.List.{List}
use native.Mathlib.Omega.{arith}
use lib.ListN.{take}
use lib.Seq.{take_at}
use Rattle.std.specs.Prelude.{Result, Ok, Err}
use Rattle.grammar.specs.Tree.{Trees}
use Rattle.grammar.specs.Parsed as parsed
use Rattle.grammar.specs.Rules.{original}
use Rattle.grammar.specs.Script.{whole_script, rows, pool}
use Rattle.refusals.specs.Refusal.{Numbered, refusal}
use Rattle.answer.specs.Answer.{Answer}
use Rattle.answer.specs.Answer as answer
use Rattle.files.specs.File.{Content, read, refused}
use Rattle.files.specs.Entry.{content, answered, file_answer, file_buffer}
use Rattle.files.proofs.Outcomes.{Accepted, accepted}
use Rattle.to_json.specs.Shown.{outcome}

-- a count is no more than the buffer's words
pub fits : (bytes : List ℕ) (size : ℕ) {r : Result ℕ Numbered} {n : ℕ} → r ≡ file_answer bytes size → r ≡ Ok n → n ≤ size
fits bytes size e known = (accepted bytes size (sym e ∙ known)).fit

-- what is answered and left for what a file gives
abbrev pub Answers : (bytes : List ℕ) (words size : ℕ) (r : Answer) (ys : List ℕ) → Type 0
Answers bytes words size r ys =
    (r ≡ answer.answered (outcome (content bytes words) (rows size)))
    × ((us : Trees) (at left : ℕ) → outcome (content bytes words) (rows size) ≡ parsed.read us at left → ys ≡ pool size (parsed.read us at left))

-- where a count is answered, the script is that of so many words of the buffer
same_script : (bytes left : List ℕ) (words size n : ℕ) → Accepted bytes words n → left ≡ file_buffer bytes words
    → outcome (content bytes words) (rows size) ≡ whole_script original (take n left) (rows size)
unfolding outcome
same_script bytes left words size n a buffer =
    let e : take n left ≡ a.words = rw (buffer, a.given) (take_at a.words _ n a.counted) in
    rw (a.given, e)

pub script : (bytes left : List ℕ) (words size n : ℕ) {f : Result ℕ Numbered} {r : Answer} {ys : List ℕ} → f ≡ file_answer bytes words → f ≡ Ok n → left ≡ file_buffer bytes words
    → answer.Entered (whole_script original (take n left) (rows size)) r size ys → Answers bytes words size r ys
script bytes left words size n e known buffer entered =
    let s = same_script bytes left words size n (accepted bytes words (sym e ∙ known)) buffer in
    (entered.answer ∙ sym (ap answer.answered s), λ us at rest q. entered.left ∙ ap (pool size) (sym s ∙ q))

-- a refusal is the file's
is_refused : (c : Content) {e : Numbered} → answered c ≡ Err e → c ≡ refused e.number e.place
is_refused (read words) q = let z : ◌≡◌ {A = ℕ} 0 1 = cc in absurd (omega arith)
is_refused (refused number place) {e} q = let same : refusal number place ≡ e = cc in ap (λ (k : Numbered). refused k.number k.place) same

no_words : (bytes : List ℕ) (words size n p : ℕ) → content bytes words ≡ refused n p → outcome (content bytes words) (rows size) ≡ parsed.refused n p
unfolding outcome
no_words bytes words size n p e = rw (e)

pub refusal_of : (bytes : List ℕ) (words size : ℕ) (ys : List ℕ) {f : Result ℕ Numbered} {e : Numbered} → f ≡ file_answer bytes words → f ≡ Err e → Answers bytes words size (Err e) ys
refusal_of bytes words size ys {e = e} given known =
    let s = no_words bytes words size e.number e.place (is_refused (content bytes words) (sym given ∙ known)) in
    (sym (ap answer.answered s), λ us at left q. let r = sym s ∙ q in let z : ◌≡◌ {A = ℕ} 0 1 = cc in absurd (omega arith))
