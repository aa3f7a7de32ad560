-- The part of a pool from its first free row on, lent and given back.
use Prim.Native.Nat.{ℕ, ◌*◌, ◌-◌, ◌≤◌}
use native.Mathlib.Omega.{arith}
use mathlib.Core.Path.{◌≡◌}
use mathlib.Core.List.{List, ◌++◌, append-nil}
use lib.ListN.{length, take, drop, length-drop, drop_of_length-le}
use lib.Seq.{take_all, drop-drop}
use borrow.Rule.Slice.PartMut.{put_mid}
use Rattle.grammar.specs.Tree.{width}
use Rattle.rows.specs.Rows.{placed}

-- words that were written at the front of the part stand behind the first rows
pub given_back : (xs : List ℕ) (rows : ℕ) (ws zs : List ℕ) → width * rows ≤ length xs
    → zs ≡ ws ++ drop width (take (length xs - width * rows) (drop (width * rows) xs))
    → put_mid (width * rows) (length xs - width * rows) xs zs ≡ placed xs rows ws
given_back xs rows ws zs h e =
    let part : List ℕ = drop (width * rows) xs in
    let long : length part ≤ length xs - width * rows = simp length-drop (omega arith) in
    rw (drop_of_length-le part {i = length xs - width * rows} long, append-nil, e, take_all (length xs - width * rows) part long, drop-drop)
