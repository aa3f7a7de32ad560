-- For each public function: its contract determines what it answers.
use Rattle.grammar.specs.Once.{Determines}
use Rattle.tokens.proofs.class_of.Reads as class_of
use Rattle.tokens.proofs.code_of.Reads as code_of_lem
use Rattle.tokens.proofs.is_valid.Reads as is-valid
use Rattle.tokens.proofs.symbol_code.Reads as symbol_code
use Rattle.tokens.proofs.token_of.Reads as token-of
use Rattle.tokens.proofs.word_of.Reads as word_of

pub class_of_determined : Determines class_of.Post (λ κs r left. r)
class_of_determined κs args r r' left left' p q = cc

pub code_of_determined : Determines code_of_lem.Post (λ κs r left. r)
code_of_determined κs args r r' left left' p q = cc

pub is_valid_determined : Determines is-valid.Post (λ κs r left. r)
is_valid_determined κs args r r' left left' p q = cc

pub symbol_code_determined : Determines symbol_code.Post (λ κs r left. r)
symbol_code_determined κs args r r' left left' p q = cc

pub token_of_determined : Determines token-of.Post (λ κs r left. r)
token_of_determined κs args r r' left left' p q = cc

pub word_of_determined : Determines word_of.Post (λ κs r left. r)
word_of_determined κs args r r' left left' p q = cc
