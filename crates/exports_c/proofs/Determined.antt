-- For each function of the archive: its contract determines what it answers and every lent word that it leaves.
use Rattle.grammar.specs.Once.{Determines}
use Rattle.exports.proofs.Determined.{one_check, one_put, one_tell}
use Rattle.exports_c.proofs.shigthapul_one_expression.Reads as one_expression
use Rattle.exports_c.proofs.shigthapul_one_statement.Reads as one_statement
use Rattle.exports_c.proofs.shigthapul_whole_script.Reads as whole_script
use Rattle.exports_c.proofs.shigthapul_read_file.Reads as read-file
use Rattle.exports_c.proofs.shigthapul_fold.Reads as fold
use Rattle.exports_c.proofs.shigthapul_text.Reads as text
use Rattle.exports_c.proofs.shigthapul_check.Reads as check
use Rattle.exports_c.proofs.shigthapul_check_small.Reads as check-small
use Rattle.exports_c.proofs.shigthapul_write.Reads as write
use Rattle.exports_c.proofs.shigthapul_write_small.Reads as write-small
use Rattle.exports_c.proofs.shigthapul_json.Reads as json
use Rattle.exports_c.proofs.shigthapul_json_small.Reads as json-small

pub one_expression_determined : Determines {A = _ × _} one_expression.Post (λ κs r left. (left.1.1.1.1.0.now, left.1.0.now))
one_expression_determined κs args r r' left left' p q = cc

pub one_statement_determined : Determines {A = _ × _} one_statement.Post (λ κs r left. (left.1.1.1.1.0.now, left.1.0.now))
one_statement_determined κs args r r' left left' p q = cc

pub whole_script_determined : Determines {A = _ × _} whole_script.Post (λ κs r left. (left.1.1.1.0.now, left.1.0.now))
whole_script_determined κs args r r' left left' p q = cc

pub read_file_determined : Determines {A = _ × _} read-file.Post (λ κs r left. (left.1.1.0.now, left.1.0.now))
read_file_determined κs args r r' left left' p q = cc

pub fold_determined : Determines {A = _ × _} fold.Post (λ κs r left. (left.1.1.0.now, left.1.0.now))
fold_determined κs args r r' left left' p q = cc

pub text_determined : Determines text.Post (λ κs r left. left.1.1.0.now)
text_determined κs args r r' left left' p q = cc

pub check_determined : Determines check.Post (λ κs r left. left.1.1.0.now)
check_determined κs args r r' left left' p q = one_check p q

pub check_small_determined : Determines check-small.Post (λ κs r left. left.1.1.0.now)
check_small_determined κs args r r' left left' p q = one_check p q

pub write_determined : Determines {A = _ × _ × _} write.Post (λ κs r left. (left.1.1.0.now, left.1.1.1.0.now, left.1.1.1.1.0.now))
write_determined κs args r r' left left' p q = one_put p q

pub write_small_determined : Determines {A = _ × _ × _} write-small.Post (λ κs r left. (left.1.1.0.now, left.1.1.1.0.now, left.1.1.1.1.0.now))
write_small_determined κs args r r' left left' p q = one_put p q

pub json_determined : Determines {A = _ × _} json.Post (λ κs r left. (left.1.1.1.0.now, left.1.1.1.1.0.now))
json_determined κs args r r' left left' p q = one_tell p q

pub json_small_determined : Determines {A = _ × _} json-small.Post (λ κs r left. (left.1.1.1.0.now, left.1.1.1.1.0.now))
json_small_determined κs args r r' left left' p q = one_tell p q
