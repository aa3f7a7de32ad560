-- For the public function: its contract determines what it answers and every lent word that it leaves.
use Rattle.grammar.specs.Once.{Determines}
use Rattle.reader.proofs.enter.Reads as enter

pub enter_determined : Determines {A = _ × _} enter.Post (λ κs r left. (r, left.1.0.now))
enter_determined κs args r r' left left' p q = cc
