-- A tree that fits as a root, by the entry that reads what is written of it.
use Prim.Native.Nat.{ℕ, ◌%◌}
use native.Mathlib.Omega.{arith}
use mathlib.Core.Path.{◌≡◌, refl}
use mathlib.Core.Bool.{Bool, true, false, ◌||◌}
use lib.Dec.{eqb}
use Rattle.grammar.specs.Tree.{Tree, infixed, node, Trees, nil}
use Rattle.grammar.specs.Examples.{X, S}
use Rattle.slots.specs.Slots.{Takes, expressions, statements, blocks, any-root, is_expression, is_statement, takes, fits}
use Rattle.written.specs.Written.{write, written}
use Rattle.written.specs.Claims.{above, beside, deep, deeps, entry_of, Rooted}
use Rattle.written.proofs.Shapes.{Fit, AllFit, row}
use Rattle.written.proofs.Stated.{Block, a_block, blocked}
use Rattle.written.proofs.Good.{ended}

pub data Root : Tree → Type 0 where
  an_expression : {t : Tree} → Fit expressions t → written t ≡ ended (write t) → entry_of t ≡ X → Root t
  a_statement : {t : Tree} → Fit statements t → written t ≡ ended (write t) → entry_of t ≡ S → Root t
  a_script : {m p end : ℕ} {us : Trees} → m % 256 ≡ 0 → AllFit statements us → Root (node 46 m p us nil nil nil end)

-- A row that any root takes, in the slot of its kind.
refit : {end : ℕ} (s : Takes) (k m p : ℕ) (x y z w : Trees) → Fit any-root (node k m p x y z w end) → takes s k m ≡ true → Fit s (node k m p x y z w end)
unfolding fits
refit s k m p x y z w o h = let e = (row any-root k m p x y z w o).taken in record { fit = rw h (rw e at o.fit) }

block_root : {n : ℕ} {t : Tree} → Block n t → Root t
block_root (a_block e o l) = a_script e o

module _ (k m p : ℕ) (x y z w : Trees) (end : ℕ) (f : Fit any-root (node k m p x y z w end)) where
  abbrev t : Tree
  t = node k m p x y z w end

  x_root : is_expression k ≡ true → eqb k 46 ≡ false → Root t
  unfolding written entry_of takes
  x_root e n = an_expression (refit expressions k m p x y z w f e) (rw n) (rw e)

  s_root : is_expression k ≡ false → eqb k 46 ≡ false → is_statement k ≡ true → Root t
  unfolding written entry_of takes
  s_root e n h = a_statement (refit statements k m p x y z w f h) (rw n) (rw (e, n))

  w_root : eqb k 46 ≡ true → Root t
  unfolding takes
  w_root n = block_root (blocked (deep t) t (refit blocks k m p x y z w f n) (omega arith))

  node_root : Root t
  unfolding takes
  node_root = go (is_expression k) refl (eqb k 46) refl (row any-root k m p x y z w f).taken
    where
      go : (c : Bool) → is_expression k ≡ c → (d : Bool) → eqb k 46 ≡ d → is_expression k || is_statement k || eqb k 46 ≡ true → Root t
      go c e true n h = w_root n
      go true e false n h = x_root e n
      go false e false n h = s_root e n (last (is_statement k) (rw (e, n) at h))
        where
          last : (i : Bool) → false || i || false ≡ true → i ≡ true
          last true h = refl
          last false h = h

-- Every tree that fits as a root is one of these.
pub root : (t : Tree) → Rooted t → Root t
unfolding written entry_of fits takes is_expression
root (infixed m p l r end) f = an_expression (record { fit = f }) refl refl
root (node k m p x y z w end) f = node_root k m p x y z w end (record { fit = f })

-- A block opens nothing of its own.
pub script_deep : (m p : ℕ) (us : Trees) (end : ℕ) → deep (node 46 m p us nil nil nil end) ≡ deeps us
unfolding deep deeps above beside
script_deep m p us end = omega arith
