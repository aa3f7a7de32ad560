-- What falls at the call of itself: the words that are lent for the answer.
use lib.ListN.{length}
use Rattle.exports.proofs.+shigthapul_json.Given as goal

abbrev pub decreases-shigthapul_json : goal.decreases-shigthapul_json
decreases-shigthapul_json l = length l.answer.now
