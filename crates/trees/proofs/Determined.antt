-- For each public function: its contract determines what it answers and every lent word that it leaves.
use contract.Lifetimes.{Lfts}
use Rattle.std.proofs.Common.{ℕ, Fits, w64}
use Rattle.grammar.specs.Once.{Determines}
use Rattle.trees.proofs.Unique.{one_answer, one_leaving, one_zero}
use Rattle.trees.proofs.Links.new.Reads as new
use Rattle.trees.proofs.front.Reads as front
use Rattle.trees.proofs.survey_large.Reads as survey-large
use Rattle.trees.proofs.survey_small.Reads as survey-small
use Rattle.trees.proofs.check_small.Reads as check-small
use Rattle.trees.proofs.check_large.Reads as check-large
use Rattle.trees.proofs.check.Reads as check

pub new_determined : Determines {K = (N : ℕ) × Fits w64 N × Lfts 1} {A = _ × _ × _} (λ κs. new.Post κs.0 κs.1 κs.2) (λ κs r left. (r.owners, r.words, r.queue))
new_determined κs args r r' left left' p q =
    let a = one_zero p.no_owners q.no_owners in
    let b = one_zero p.no_words q.no_words in
    let e = one_zero p.no_queue q.no_queue in
    cc

pub front_determined : Determines front.Post (λ κs r left. r.now)
front_determined κs args r r' left left' p q = cc

pub survey_large_determined : Determines {A = _ × _ × _ × _} survey-large.Post (λ κs r left. (r, left.1.1.0.now.owners, left.1.1.0.now.words, left.1.1.0.now.queue))
survey_large_determined κs args r r' left left' p q = one_leaving p q

pub survey_small_determined : Determines {A = _ × _ × _ × _} survey-small.Post (λ κs r left. (r, left.1.1.0.now.owners, left.1.1.0.now.words, left.1.1.0.now.queue))
survey_small_determined κs args r r' left left' p q = one_leaving p q

pub check_small_determined : Determines check-small.Post (λ κs r left. r)
check_small_determined κs args r r' left left' p q = one_answer _ _ p q

pub check_large_determined : Determines check-large.Post (λ κs r left. r)
check_large_determined κs args r r' left left' p q = one_answer _ _ p q

pub check_determined : Determines check.Post (λ κs r left. r)
check_determined κs args r r' left left' p q = one_answer _ _ p q
