-- `sometimes` meets its contract: each sign with what it waits on.
use native.Mathlib.Omega.{arith}
use mathlib.Core.Path.{◌≡◌}
use Prim.Native.Nat.{◌/◌, ◌%◌}
use Rattle.grammar.specs.Words.{SEq, SDot, KElse, KFinally, KThread, KAsync}
use Rattle.writer.specs.Codes as codes
use Rattle.writer.specs.Walk as w
use Rattle.writer.proofs.Spelling.{flag_done, some_done, div_one}
use Rattle.writer.proofs.pieces.sometimes.Goals as goal

pub returns-in-10 : goal.returns-in-10
unfolding codes.decoded codes.low
returns-in-10 c = flag_done c.args.pool.now c.args.r c.args.b 1 KThread (c.word-mark.result % 2) (w.done c.where_some.result) (rw c.in-10.is) (rw (c.word-mark.ensures, div_one)) c.where_some.ensures

pub returns-in-11 : goal.returns-in-11
unfolding codes.decoded codes.low
returns-in-11 c = flag_done c.args.pool.now c.args.r c.args.b 2 KAsync (c.word-mark.result / 2 % 2) (w.done c.where_some-in-11.result) (rw c.in-11.is) (rw c.word-mark.ensures) c.where_some-in-11.ensures

pub returns-in-12 : goal.returns-in-12
unfolding codes.decoded codes.low
returns-in-12 c = flag_done c.args.pool.now c.args.r c.args.b 1 SDot (c.word-mark.result % 2) (w.done c.where_some-in-12.result) (rw c.in-12.is) (rw (c.word-mark.ensures, div_one)) c.where_some-in-12.ensures

pub returns-in-13 : goal.returns-in-13
unfolding codes.decoded codes.low w.filled
returns-in-13 c = some_done c.args.pool.now c.args.r c.args.b 0 SEq c.word.result (w.done c.where_some-in-13.result) (rw c.in-13.is) (rw c.word.ensures) c.where_some-in-13.ensures

pub returns-in-14 : goal.returns-in-14
unfolding codes.decoded codes.low w.filled
returns-in-14 c = some_done c.args.pool.now c.args.r c.args.b 2 KElse c.word-in-14.result (w.done c.where_some-in-14.result) (rw c.in-14.is) (rw c.word-in-14.ensures) c.where_some-in-14.ensures

pub returns-in_default : goal.returns-in_default
unfolding codes.decoded codes.low w.filled
returns-in_default c = let e : c.args.b ≡ 15 = omega arith in some_done c.args.pool.now c.args.r c.args.b 3 KFinally c.word-in_default.result (w.done c.where_some-in_default.result) (rw e) (rw c.word-in_default.ensures) c.where_some-in_default.ensures
