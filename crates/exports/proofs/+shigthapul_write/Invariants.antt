-- What falls at the call of itself: the words that are lent for the answer.
use lib.ListN.{length}
use Rattle.exports.proofs.+shigthapul_write.Given as goal

abbrev pub decreases-shigthapul_write : goal.decreases-shigthapul_write
decreases-shigthapul_write l = length l.answer.now
