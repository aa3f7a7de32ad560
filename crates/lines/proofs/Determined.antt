-- For each public function: its contract determines what it answers and every lent byte that it leaves.
use Rattle.grammar.specs.Once.{Determines}
use Rattle.lines.proofs.number.Reads as number
use Rattle.lines.proofs.first_line.Reads as first_line
use Rattle.lines.proofs.row_line.Reads as row_Line

pub number_determined : Determines {A = _ × _} number.Post (λ κs r left. (r, left.1.0.now))
number_determined κs args r r' left left' p q = cc

pub first_line_determined : Determines {A = _ × _} first_line.Post (λ κs r left. (r, left.1.0.now))
first_line_determined κs args r r' left left' p q = cc

pub row_line_determined : Determines {A = _ × _} row_Line.Post (λ κs r left. (r, left.1.1.0.now))
row_line_determined κs args r r' left left' p q = cc
