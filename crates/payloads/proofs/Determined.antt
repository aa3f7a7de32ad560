-- For each public function: its contract determines what it answers and every lent word that it leaves.
use Rattle.grammar.specs.Once.{Determines}
use Rattle.payloads.proofs.index.Reads as index
use Rattle.payloads.proofs.class_at.Reads as class_at
use Rattle.payloads.proofs.payload.Reads as payload
use Rattle.payloads.proofs.Indexed.class_at.Reads as indexed-class_at
use Rattle.payloads.proofs.Indexed.payload.Reads as indexed-payload

pub index_determined : Determines {A = _ × _} index.Post (λ κs r left. (r, left.1.0.now))
index_determined κs args r r' left left' p q = cc

pub class_at_determined : Determines class_at.Post (λ κs r left. r)
class_at_determined κs args r r' left left' p q = cc

pub payload_determined : Determines payload.Post (λ κs r left. r.now)
payload_determined κs args r r' left left' p q = cc

pub indexed_class_at_determined : Determines indexed-class_at.Post (λ κs r left. r)
indexed_class_at_determined κs args r r' left left' p q = cc

pub indexed_payload_determined : Determines indexed-payload.Post (λ κs r left. r.now)
indexed_payload_determined κs args r r' left left' p q = cc
