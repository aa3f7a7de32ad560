-- `four::put` meets its contract: as many of the four words as the slice has room for are in front.
use Rattle.std.proofs.Common.{ℕ, List, [], ◌∷◌, ◌++◌, ◌≡◌, length, take, drop, arith}
use Prim.Native.Nat.{min}
use Rattle.four.specs.Answers.{over}
use Rattle.four.proofs.put.Goals as goal

-- so many of four words, and what the slice holds behind them
front : (a b c d k : ℕ) (slice : List ℕ) → k ≡ min (length slice) 4 → take k (a ∷ b ∷ c ∷ d ∷ []) ++ drop k slice ≡ over (a ∷ b ∷ c ∷ d ∷ []) slice
unfolding over
front a b c d k [] e = rw (e)
front a b c d k (x ∷ []) e = rw (e)
front a b c d k (x ∷ y ∷ []) e = rw (e)
front a b c d k (x ∷ y ∷ z ∷ []) e = rw (e)
front a b c d k (x ∷ y ∷ z ∷ w ∷ slice) e = let four : k ≡ 4 = omega (arith, e) in rw (four)

pub returns : goal.returns
returns c = rw (c.copy_from_slice.ensures.after) (front c.args.first c.args.second c.args.third c.args.fourth _ c.args.words.now c.min-room.ensures)
