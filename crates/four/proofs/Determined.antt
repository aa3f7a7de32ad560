-- For each public function: its contract determines what it answers and every lent word that it leaves.
use Rattle.grammar.specs.Once.{Determines}
use Rattle.four.proofs.put.Reads as put
use Rattle.four.proofs.put_count.Reads as put-count
use Rattle.four.proofs.put_checked.Reads as put-checked
use Rattle.four.proofs.put_answer.Reads as put-answer
use Rattle.four.proofs.put_text.Reads as put-text

pub put_determined : Determines put.Post (λ κs r left. left.0.now)
put_determined κs args r r' left left' p q = cc

pub put_count_determined : Determines put-count.Post (λ κs r left. left.0.now)
put_count_determined κs args r r' left left' p q = cc

pub put_checked_determined : Determines put-checked.Post (λ κs r left. left.0.now)
put_checked_determined κs args r r' left left' p q = cc

pub put_answer_determined : Determines put-answer.Post (λ κs r left. left.0.now)
put_answer_determined κs args r r' left left' p q = cc

pub put_text_determined : Determines put-text.Post (λ κs r left. left.0.now)
put_text_determined κs args r r' left left' p q = cc
