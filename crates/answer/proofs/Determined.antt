-- For each public function: its contract determines what it answers and every lent word that it leaves.
use Rattle.grammar.specs.Once.{Determines}
use Rattle.answer.proofs.check.Reads as check
use Rattle.answer.proofs.finish.Reads as finish

pub check_determined : Determines check.Post (λ κs r left. r)
check_determined κs args r r' left left' p q = cc

pub finish_determined : (e : _) (l : _) → Determines {A = _ × _} (finish.Post e l) (λ κs r left. (r, left.0.now))
finish_determined e l κs args r r' left left' p q = cc
