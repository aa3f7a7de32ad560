-- The words of a row that is in the pool, as they are read.
use Prim.Native.Nat.{ℕ, suc, ◌*◌, ◌-◌, ◌≤◌, ◌<◌}
use native.Mathlib.Omega.{arith}
use mathlib.Core.Path.{◌≡◌}
use mathlib.Core.List.{List}
use lib.ListN.{length, take}
use Rattle.std.proofs.lemmas.List.{length-take}
use lib.Seq.{take_all}
use borrow.Author.Tests.{lt-ltb}
use Rattle.grammar.specs.Tree.{width}
use Rattle.grammar.specs.Script.{most_rows, rows, word_of}
use Rattle.rows.specs.Rows.{read}
use Rattle.rows.proofs.Laws.{is_inside}
use Rattle.trees.specs.Pool.{In}
use Rattle.trees.specs.Leaves.{few_rows, front}

-- a pool's rows are no more than the most
pub most : (n : ℕ) → rows n ≤ most_rows
unfolding rows
most n = omega arith

-- and lie in it
behind : (n r : ℕ) → r ≤ rows n → width * r ≤ n
unfolding rows
behind n r h = omega arith

pub read_in : (pool : List ℕ) (r k : ℕ) → In pool r → k < width → read pool r k ≡ word_of pool r k
unfolding read
read_in pool r k i h = rw (is_inside (length pool) r i.0 (behind (length pool) r i.1), lt-ltb k width h)

-- a front has few rows, and is the pool where that has few
pub few : (n : ℕ) → n < width * suc few_rows → rows n ≤ few_rows
unfolding rows
few n h = omega arith

pub few_front : (pool : List ℕ) → rows (length (front pool)) ≤ few_rows
unfolding front
few_front pool = few (length (front pool)) (simp length-take (omega arith))

pub whole_front : (pool : List ℕ) → length pool < width * suc few_rows → front pool ≡ pool
unfolding front
whole_front pool h = take_all (width * suc few_rows - 1) pool (omega arith)

pub front_by : (pool : List ℕ) {n : ℕ} → n ≡ width * suc few_rows → front pool ≡ take (n - 1) pool
unfolding front
front_by pool e = rw e
