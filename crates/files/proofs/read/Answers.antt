-- `read` meets its contract: behind what was filled, the buffer is cleared.
use Rattle.std.proofs.Common.{◌≡◌, ℕ, ◌-◌, ◌≤◌, List, ◌++◌, Ok, Err, length, take, drop, replicate, drop_of_length-le, append-nil, length-drop, take_all, sym, ap, ◌∙◌, arith}
use lib.Seq.{take_at}
use borrow.Rule.Slice.PartMut.{put_mid}
use Rattle.refusals.specs.Refusal.{Numbered}
use Rattle.files.specs.File.{Content, read, refused}
use Rattle.files.specs.Entry.{content, answered, laid, file_answer, file_buffer}
use Rattle.files.proofs.Outcomes.{accepted}
use Rattle.files.proofs.read.Goals as goal
use Rattle.files.proofs.read.Goals.{in-Ok, in-Err}

-- a buffer that was cleared from a place on
abbrev cleared : (words : List ℕ) (from : ℕ) → List ℕ
cleared words from = take from words ++ replicate (length words - from) 0

-- what is cleared is the rest, and nothing is behind it
rest : (words zeros : List ℕ) (from : ℕ) → zeros ≡ replicate (length (take (length words - from) (drop from words))) 0
    → put_mid from (length words - from) words zeros ≡ cleared words from
rest words zeros from e =
    let ahead : length (drop from words) ≤ length words - from = simp length-drop (omega arith) in
    rw (e, take_all _ (drop from words) ahead, length-drop, drop_of_length-le (drop from words) {i = length words - from} ahead, append-nil (replicate {A = ℕ} (length words - from) 0))

module _ (buffer words : List ℕ) (same : length words ≡ length buffer) where
  -- after a refusal it is cleared whole
  none_laid : (c : Content) {e : Numbered} → answered c ≡ Err e → cleared words 0 ≡ laid (length buffer) c
  none_laid (read ws) e = let z : ◌≡◌ {A = ℕ} 0 1 = cc in absurd (omega arith)
  none_laid (refused number place) e =
      let all : length words - 0 ≡ length buffer = omega arith in
      rw all

  -- after a count it is cleared behind the words
  all_laid : (bytes : List ℕ) {count : ℕ} → file_answer bytes (length buffer) ≡ Ok count
      → ((ws : List ℕ) → content bytes (length buffer) ≡ read ws → words ≡ ws ++ drop (length ws) buffer)
      → cleared words count ≡ file_buffer bytes (length buffer)
  all_laid bytes {count} e front =
      let a = accepted bytes (length buffer) e in
      let kept : take count words ≡ a.words = ap (take count) (front a.words a.given) ∙ take_at a.words _ count a.counted in
      rw (a.given, a.counted, kept, same)

pub returns-clause-buffer : goal.returns-clause-buffer
returns-clause-buffer c =
    let e = c.fill-answer.ensures.answer in
    let kept : length c.fill-answer.new.words ≡ length c.args.words.now = c.fill-answer.auto.words in
    let filled : cleared c.fill-answer.new.words c.match-answer.count ≡ file_buffer c.args.bytes.now (length c.args.words.now) =
    elim c.match-answer.branch [
      | in-Ok w ↦ rw w.count-is (all_laid c.args.words.now c.fill-answer.new.words kept c.args.bytes.now (sym e ∙ w.in-Ok.is) c.fill-answer.ensures.front)
      | in-Err w ↦ rw w.count-is (none_laid c.args.words.now c.fill-answer.new.words kept (content c.args.bytes.now (length c.args.words.now)) (sym e ∙ w.in-Err.is))
    ] in
    rest c.fill-answer.new.words c.fill.new.self c.match-answer.count (c.fill.ensures.after (λ y k. k)) ∙ filled
