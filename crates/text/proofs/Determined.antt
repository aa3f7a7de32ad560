-- For each public function: its contract determines what it answers and every lent word that it leaves.
use Rattle.grammar.specs.Once.{Determines}
use Rattle.text.proofs.width.Reads as width
use Rattle.text.proofs.fold.Reads as fold
use Rattle.text.proofs.text.Reads as text

pub width_determined : Determines width.Post (λ κs r left. r)
width_determined κs args r r' left left' p q = cc

pub fold_determined : Determines {A = _ × _} fold.Post (λ κs r left. (r, left.1.0.now))
fold_determined κs args r r' left left' p q = cc

pub text_determined : Determines text.Post (λ κs r left. r.now)
text_determined κs args r r' left left' p q = cc
