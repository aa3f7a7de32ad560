-- For each public function: its contract determines what it answers and every lent word that it leaves.
use Rattle.grammar.specs.Once.{Determines}
use Rattle.writer.proofs.Outcomes.{one_outcome}
use Rattle.writer.proofs.write_small.Reads as write-small
use Rattle.writer.proofs.write_large.Reads as write-large
use Rattle.writer.proofs.write.Reads as write

pub write_small_determined : Determines {A = _ × _ × _} write-small.Post (λ κs r left. (r, left.1.1.0.now, left.1.1.1.0.now))
write_small_determined κs args r r' left left' p q = one_outcome p q

pub write_large_determined : Determines {A = _ × _ × _} write-large.Post (λ κs r left. (r, left.1.1.0.now, left.1.1.1.0.now))
write_large_determined κs args r r' left left' p q = one_outcome p q

pub write_determined : Determines {A = _ × _ × _} write.Post (λ κs r left. (r, left.1.1.0.now, left.1.1.1.0.now))
write_determined κs args r r' left left' p q = one_outcome p q
