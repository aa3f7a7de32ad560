-- `onward` meets its contract: what the piece with the number does is done.
use Prim.Native.Nat.{◌+◌}
use lib.ListN.{drop}
use Rattle.writer.specs.Codes as codes
use Rattle.writer.specs.Walk as w
use Rattle.writer.proofs.Spelling.{after_text}
use Rattle.writer.proofs.moves.onward.Goals as goal

pub returns-in-Put : goal.returns-in-Put
returns-in-Put c = after_text c.args.pool.now c.args.r c.args.j c.piece_at-b.result (drop c.args.j (codes.shape (w.shown c.args.pool.now c.args.root c.args.r))) (drop (c.args.j + 1) (codes.shape (w.shown c.args.pool.now c.args.root c.args.r))) (rw (← c.shown.ensures) c.piece_at-b.ensures) c.if-b-eq0.false _ (rw c.in-Put.is at c.piece.ensures)

pub returns-in-Skip : goal.returns-in-Skip
returns-in-Skip c = after_text c.args.pool.now c.args.r c.args.j c.piece_at-b.result (drop c.args.j (codes.shape (w.shown c.args.pool.now c.args.root c.args.r))) (drop (c.args.j + 1) (codes.shape (w.shown c.args.pool.now c.args.root c.args.r))) (rw (← c.shown.ensures) c.piece_at-b.ensures) c.if-b-eq0.false _ (rw c.in-Skip.is at c.piece.ensures)
