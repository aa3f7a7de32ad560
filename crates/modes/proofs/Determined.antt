-- For each public function: its contract determines what it answers.
use Rattle.grammar.specs.Once.{Determines}
use Rattle.modes.proofs.nesting.Reads as nesting
use Rattle.modes.proofs.mode_of.Reads as Mode-of
use Rattle.modes.proofs.comes.Reads as comes

pub nesting_determined : Determines nesting.Post (λ κs r left. r)
nesting_determined κs args r r' left left' p q = cc

pub mode_of_determined : Determines Mode-of.Post (λ κs r left. r)
mode_of_determined κs args r r' left left' p q = cc

pub comes_determined : Determines comes.Post (λ κs r left. r)
comes_determined κs args r r' left left' p q = cc
