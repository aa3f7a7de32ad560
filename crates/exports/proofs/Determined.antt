-- For each public function: its contract determines what it answers and every lent word that it leaves.
use Prim.Native.Nat.{ℕ}
use mathlib.Core.Path.{◌≡◌, ap}
use mathlib.Core.List.{List}
use Rattle.grammar.specs.Once.{Determines}
use Rattle.trees.proofs.Unique.{one_answer}
use Rattle.std.specs.Prelude.{Result}
use Rattle.refusals.specs.Refusal.{Numbered}
use Rattle.writer.proofs.Outcomes.{one_outcome}
use Rattle.json_writer.proofs.Outcomes.{one_telling}
use Rattle.exports.specs.Trees.{Checks, Puts, Tells}
use Rattle.exports.proofs.shigthapul_one_expression.Reads as one_expression
use Rattle.exports.proofs.shigthapul_one_statement.Reads as one_statement
use Rattle.exports.proofs.shigthapul_whole_script.Reads as whole_script
use Rattle.exports.proofs.shigthapul_read_file.Reads as read-file
use Rattle.exports.proofs.shigthapul_fold.Reads as fold
use Rattle.exports.proofs.shigthapul_text.Reads as text
use Rattle.exports.proofs.shigthapul_check.Reads as check
use Rattle.exports.proofs.shigthapul_check_small.Reads as check-small
use Rattle.exports.proofs.shigthapul_write.Reads as write
use Rattle.exports.proofs.shigthapul_write_small.Reads as write-small
use Rattle.exports.proofs.shigthapul_json.Reads as json
use Rattle.exports.proofs.shigthapul_json_small.Reads as json-small

pub one_expression_determined : Determines {A = _ × _} one_expression.Post (λ κs r left. (left.1.1.1.1.0.now, left.1.0.now))
one_expression_determined κs args r r' left left' p q = cc

pub one_statement_determined : Determines {A = _ × _} one_statement.Post (λ κs r left. (left.1.1.1.1.0.now, left.1.0.now))
one_statement_determined κs args r r' left left' p q = cc

pub whole_script_determined : Determines {A = _ × _} whole_script.Post (λ κs r left. (left.1.1.1.0.now, left.1.0.now))
whole_script_determined κs args r r' left left' p q = cc

pub read_file_determined : Determines {A = _ × _} read-file.Post (λ κs r left. (left.1.1.0.now, left.1.0.now))
read_file_determined κs args r r' left left' p q = cc

pub fold_determined : Determines {A = _ × _} fold.Post (λ κs r left. (left.1.1.0.now, left.1.0.now))
fold_determined κs args r r' left left' p q = cc

pub text_determined : Determines text.Post (λ κs r left. left.1.1.0.now)
text_determined κs args r r' left left' p q = cc

-- the check has one answer
pub one_check : {pool : List ℕ} {root : ℕ} {slice left left' : List ℕ} → Checks pool root slice left → Checks pool root slice left' → left ≡ left'
one_check {pool} {root} c d =
    let same = one_answer pool root c.verdict d.verdict in
    let one = c.four in
    let other = d.four in
    cc

pub check_determined : Determines check.Post (λ κs r left. left.1.1.0.now)
check_determined κs args r r' left left' p q = one_check p q

pub check_small_determined : Determines check-small.Post (λ κs r left. left.1.1.0.now)
check_small_determined κs args r r' left left' p q = one_check p q

-- and so has the writer
pub one_put : {pool : List ℕ} {root : ℕ} {ws ps s ws' ps' s' ws'' ps'' s'' : List ℕ} → Puts pool root ws ps s ws' ps' s' → Puts pool root ws ps s ws'' ps'' s''
    → ◌≡◌ {A = List ℕ × List ℕ × List ℕ} (ws', ps', s') (ws'', ps'', s'')
one_put {ws' = ws'} {ps'} {ws'' = ws''} {ps''} p q =
    let same = one_outcome p.writes q.writes in
    let answer : p.answer ≡ q.answer = ap (λ (x : Result ℕ Numbered × List ℕ × List ℕ). x.0) same in
    let words : ws' ≡ ws'' = ap (λ (x : Result ℕ Numbered × List ℕ × List ℕ). x.1) same in
    let places : ps' ≡ ps'' = ap (λ (x : Result ℕ Numbered × List ℕ × List ℕ). x.2) same in
    let one = p.four in
    let other = q.four in
    cc

pub write_determined : Determines {A = _ × _ × _} write.Post (λ κs r left. (left.1.1.0.now, left.1.1.1.0.now, left.1.1.1.1.0.now))
write_determined κs args r r' left left' p q = one_put p q

pub write_small_determined : Determines {A = _ × _ × _} write-small.Post (λ κs r left. (left.1.1.0.now, left.1.1.1.0.now, left.1.1.1.1.0.now))
write_small_determined κs args r r' left left' p q = one_put p q

-- and so has writing as JSON
pub one_tell : {pool : List ℕ} {root : ℕ} {file text s text' s' text'' s'' : List ℕ} → Tells pool root file text s text' s' → Tells pool root file text s text'' s''
    → ◌≡◌ {A = List ℕ × List ℕ} (text', s') (text'', s'')
one_tell {text' = text'} {text'' = text''} p q =
    let same = one_telling p.tells q.tells in
    let answer : p.answer ≡ q.answer = ap (λ (x : Result ℕ Numbered × List ℕ). x.0) same in
    let bytes : text' ≡ text'' = ap (λ (x : Result ℕ Numbered × List ℕ). x.1) same in
    let one = p.four in
    let other = q.four in
    cc

pub json_determined : Determines {A = _ × _} json.Post (λ κs r left. (left.1.1.1.0.now, left.1.1.1.1.0.now))
json_determined κs args r r' left left' p q = one_tell p q

pub json_small_determined : Determines {A = _ × _} json-small.Post (λ κs r left. (left.1.1.1.0.now, left.1.1.1.1.0.now))
json_small_determined κs args r r' left left' p q = one_tell p q
