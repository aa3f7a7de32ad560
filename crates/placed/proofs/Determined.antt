-- For each public function: its contract determines what it answers and every lent word that it leaves.
use Rattle.grammar.specs.Once.{Determines}
use Rattle.placed.proofs.Unique.{one_left}
use Rattle.placed.proofs.needs.Reads as needs
use Rattle.placed.proofs.survey_large.Reads as survey-large
use Rattle.placed.proofs.survey_small.Reads as survey-small

pub needs_determined : Determines needs.Post (λ κs r left. r)
needs_determined κs args r r' left left' p q = cc

pub survey_large_determined : Determines {A = _ × _ × _ × _ × _} survey-large.Post (λ κs r left. (r, left.1.1.1.0.now, left.1.1.1.1.0.now.owners, left.1.1.1.1.0.now.words, left.1.1.1.1.0.now.queue))
survey_large_determined κs args r r' left left' p q = one_left p q

pub survey_small_determined : Determines {A = _ × _ × _ × _ × _} survey-small.Post (λ κs r left. (r, left.1.1.1.0.now, left.1.1.1.1.0.now.owners, left.1.1.1.1.0.now.words, left.1.1.1.1.0.now.queue))
survey_small_determined κs args r r' left left' p q = one_left p q
