-- For each public function: its contract determines what it answers and every lent word that it leaves.
use Rattle.grammar.specs.Once.{Determines}
use Rattle.rows.proofs.count.Reads as count
use Rattle.rows.proofs.end.Reads as end
use Rattle.rows.proofs.build.Reads as build
use Rattle.rows.proofs.link.Reads as link
use Rattle.rows.proofs.mark.Reads as mark
use Rattle.rows.proofs.word.Reads as word
use Rattle.rows.proofs.clear.Reads as clear

pub count_determined : Determines count.Post (λ κs r left. r)
count_determined κs args r r' left left' p q = cc

pub end_determined : Determines end.Post (λ κs r left. r)
end_determined κs args r r' left left' p q = cc

pub build_determined : Determines {A = _ × _} build.Post (λ κs r left. (r, left.0.now))
build_determined κs args r r' left left' p q = cc

pub link_determined : Determines link.Post (λ κs r left. left.0.now)
link_determined κs args r r' left left' p q = cc

pub mark_determined : Determines mark.Post (λ κs r left. left.0.now)
mark_determined κs args r r' left left' p q = cc

pub word_determined : Determines word.Post (λ κs r left. r)
word_determined κs args r r' left left' p q = cc

pub clear_determined : Determines clear.Post (λ κs r left. left.0.now)
clear_determined κs args r r' left left' p q = cc
