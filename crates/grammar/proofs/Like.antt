-- Trees that are the same but for their places and ends, which correspond.
use Prim.Native.Nat.{ℕ}
use mathlib.Core.Path.{◌≡◌, refl}
use Rattle.grammar.specs.Tree.{Tree, infixed, node, Trees, nil, ◌▸◌, join, flagged, is_call}

infixr 50 ◌▸▸◌
mutual
  -- Two trees that are the same but for their places and ends, which correspond.
  pub data Like (At : ℕ → ℕ → Type 0) : Tree → Tree → Type 0 where
    infixes : {m p q y z : ℕ} {l r l' r' : Tree} → At p q → Like At l l' → Like At r r' → At y z → Like At (infixed m p l r y) (infixed m q l' r' z)
    nodes : {k m p q y z : ℕ} {a b c d a' b' c' d' : Trees} → At p q → Likes At a a' → Likes At b b' → Likes At c c' → Likes At d d' → At y z
        → Like At (node k m p a b c d y) (node k m q a' b' c' d' z)

  -- The same of the trees of two slots.
  pub data Likes (At : ℕ → ℕ → Type 0) : Trees → Trees → Type 0 where
    nils : Likes At nil nil
    ◌▸▸◌ : {t u : Tree} {ts us : Trees} → Like At t u → Likes At ts us → Likes At (t ▸ ts) (u ▸ us)

module _ {At : ℕ → ℕ → Type 0} where
  pub one_like : {t u : Tree} → Like At t u → Likes At (t ▸ nil) (u ▸ nil)
  one_like h = h ▸▸ nils

  pub join_like : {a b c d : Trees} → Likes At a b → Likes At c d → Likes At (join a c) (join b d)
  unfolding join
  join_like nils k = k
  join_like (h ▸▸ hs) k = h ▸▸ join_like hs k

  pub flag_like : (f : ℕ) {t u : Tree} → Like At t u → Like At (flagged f t) (flagged f u)
  unfolding flagged
  flag_like f (infixes p l r z) = infixes p l r z
  flag_like f (nodes p a b c d z) = nodes p a b c d z

  pub call_like : {t u : Tree} → Like At t u → is_call t ≡ is_call u
  unfolding is_call
  call_like (infixes p l r z) = refl
  call_like (nodes p a b c d z) = refl

-- Where the places are the same too, so are the trees.
mutual
  pub one_tree : (t u : Tree) → Like ◌≡◌ t u → t ≡ u
  one_tree t u (infixes p l r z) = rw (p, one_tree _ _ l, one_tree _ _ r, z)
  one_tree t u (nodes p a b c d z) = rw (p, one_list _ _ a, one_list _ _ b, one_list _ _ c, one_list _ _ d, z)

  pub one_list : (ts us : Trees) → Likes ◌≡◌ ts us → ts ≡ us
  one_list ts us nils = refl
  one_list ts us (h ▸▸ hs) = rw (one_tree _ _ h, one_list _ _ hs)
