-- For each public function: its contract determines what it answers and every byte that it leaves.
use Rattle.grammar.specs.Once.{Determines}
use Rattle.json_writer.proofs.Outcomes.{one_telling}
use Rattle.json_writer.proofs.write_small.Reads as write-small
use Rattle.json_writer.proofs.write_large.Reads as write-large
use Rattle.json_writer.proofs.write.Reads as write

pub write_small_determined : Determines {A = _ × _} write-small.Post (λ κs r left. (r, left.1.1.1.0.now))
write_small_determined κs args r r' left left' p q = one_telling p q

pub write_large_determined : Determines {A = _ × _} write-large.Post (λ κs r left. (r, left.1.1.1.0.now))
write_large_determined κs args r r' left left' p q = one_telling p q

pub write_determined : Determines {A = _ × _} write.Post (λ κs r left. (r, left.1.1.1.0.now))
write_determined κs args r r' left left' p q = one_telling p q
