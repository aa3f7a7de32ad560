-- The contract of `read` determines what is answered and every word of the lent buffer.
use Rattle.grammar.specs.Once.{Determines}
use Rattle.files.proofs.read.Reads as read

pub read_determined : Determines {A = _ × _} read.Post (λ κs r left. (r, left.1.0.now))
read_determined κs args r r' left left' p q = cc
