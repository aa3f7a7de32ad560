-- For each public function: its contract determines what it answers and every lent word that it leaves.
use Rattle.grammar.specs.Once.{Determines}
use Rattle.parser.proofs.one_expression.Reads as one_expression
use Rattle.parser.proofs.one_statement.Reads as one_statement
use Rattle.parser.proofs.whole_script.Reads as whole_script

pub one_expression_determined : Determines {A = _ × _} one_expression.Post (λ κs r left. (r, left.1.0.now))
one_expression_determined κs args r r' left left' p q = cc

pub one_statement_determined : Determines {A = _ × _} one_statement.Post (λ κs r left. (r, left.1.0.now))
one_statement_determined κs args r r' left left' p q = cc

pub whole_script_determined : Determines {A = _ × _} whole_script.Post (λ κs r left. (r, left.1.0.now))
whole_script_determined κs args r r' left left' p q = cc
