-- For each public function: its contract determines what it answers.
use Rattle.grammar.specs.Once.{Determines}
use Rattle.words.proofs.current.Reads as current
use Rattle.words.proofs.iterate.Reads as iterate
use Rattle.words.proofs.next.Reads as next
use Rattle.words.proofs.current_is.Reads as current-is
use Rattle.words.proofs.next_is.Reads as next_is
use Rattle.words.proofs.current_symbol_is.Reads as current-symbol-is
use Rattle.words.proofs.next_symbol_is.Reads as next-symbol-is
use Rattle.words.proofs.next_keyword_is.Reads as next-keyword-is
use Rattle.words.proofs.is_identifier.Reads as is-identifier
use Rattle.words.proofs.check.Reads as check

pub current_determined : Determines current.Post (λ κs r left. r)
current_determined κs args r r' left left' p q = cc

pub iterate_determined : Determines iterate.Post (λ κs r left. r)
iterate_determined κs args r r' left left' p q = cc

pub next_determined : Determines next.Post (λ κs r left. r)
next_determined κs args r r' left left' p q = cc

pub current_is_determined : Determines current-is.Post (λ κs r left. r)
current_is_determined κs args r r' left left' p q = cc

pub next_is_determined : Determines next_is.Post (λ κs r left. r)
next_is_determined κs args r r' left left' p q = cc

pub current_symbol_is_determined : Determines current-symbol-is.Post (λ κs r left. r)
current_symbol_is_determined κs args r r' left left' p q = cc

pub next_symbol_is_determined : Determines next-symbol-is.Post (λ κs r left. r)
next_symbol_is_determined κs args r r' left left' p q = cc

pub next_keyword_is_determined : Determines next-keyword-is.Post (λ κs r left. r)
next_keyword_is_determined κs args r r' left left' p q = cc

pub is_identifier_determined : Determines is-identifier.Post (λ κs r left. r)
is_identifier_determined κs args r r' left left' p q = cc

pub check_determined : Determines check.Post (λ κs r left. r)
check_determined κs args r r' left left' p q = cc
