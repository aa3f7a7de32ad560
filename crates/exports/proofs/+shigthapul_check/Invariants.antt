-- What falls at the call of itself: the words that are lent for the answer.
use lib.ListN.{length}
use Rattle.exports.proofs.+shigthapul_check.Given as goal

abbrev pub decreases-shigthapul_check : goal.decreases-shigthapul_check
decreases-shigthapul_check l = length l.answer.now
