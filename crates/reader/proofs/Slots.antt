-- How the words of slots are put together: one slot more, and a root behind its slots.
use mathlib.Core.Path.{◌≡◌, refl, sym, ap, ◌∙◌}
use mathlib.Core.List.{List, [], ◌∷◌, ◌++◌, append_assoc, append-nil}
use Prim.Native.Nat.{ℕ, ◌+◌, ◌<◌}
use native.Mathlib.Omega.{arith}
use native.Mathlib.Nat.{add-zero}
use Rattle.grammar.specs.Tree.{Tree, infixed, node, Trees, size, sizes, row, lay, lays, ended}
use Rattle.reader.specs.Meets.{lay_slots, after, four, Root, of_node, of_infix, Refs, Few}

pub some_rows : (t : Tree) → 0 < size t
some_rows (infixed m p l r z) = omega arith
some_rows (node k m p a b c d z) = omega arith

-- One slot more.
pub slots_more : (ss : List Trees) (b : Trees) (f : ℕ) → lay_slots (ss ++ (b ∷ [])) f ≡ lay_slots ss f ++ lays b (after ss f)
slots_more [] b f = append-nil (lays b f)
slots_more (a ∷ ss) b f = ap (λ (w : List ℕ). lays a f ++ w) (slots_more ss b (f + sizes a)) ∙ sym (append_assoc (lays a f) (lay_slots ss (f + sizes a)) (lays b (after ss (f + sizes a))))

-- Slots behind slots.
pub slots_behind : (bs ss : List Trees) (f : ℕ) → lay_slots (bs ++ ss) f ≡ lay_slots bs f ++ lay_slots ss (after bs f)
slots_behind [] ss f = refl
slots_behind (b ∷ bs) ss f = ap (λ (w : List ℕ). lays b f ++ w) (slots_behind bs ss (f + sizes b)) ∙ sym (append_assoc (lays b f) (lay_slots bs (f + sizes b)) (lay_slots ss (after bs (f + sizes b))))

pub after_behind : (bs ss : List Trees) (f : ℕ) → after (bs ++ ss) f ≡ after ss (after bs f)
after_behind [] ss f = refl
after_behind (b ∷ bs) ss f = after_behind bs ss (f + sizes b)

pub after_more : (ss : List Trees) (b : Trees) (f : ℕ) → after (ss ++ (b ∷ [])) f ≡ after ss f + sizes b
after_more [] b f = refl
after_more (a ∷ ss) b f = after_more ss b (f + sizes a)

-- Empty slots change nothing, where there are no more than four.
pub slots_four : (ss : List Trees) (f : ℕ) → Few ss → lay_slots (four ss) f ≡ lay_slots ss f
unfolding lay
slots_four [] f h = refl
slots_four (a ∷ []) f h = refl
slots_four (a ∷ b ∷ []) f h = refl
slots_four (a ∷ b ∷ c ∷ []) f h = refl
slots_four (a ∷ b ∷ c ∷ d ∷ []) f h = refl
slots_four (a ∷ b ∷ c ∷ d ∷ e ∷ ss) f h = absurd h

pub after_four : (ss : List Trees) (f : ℕ) → Few ss → after (four ss) f ≡ after ss f
after_four [] f h = omega arith
after_four (a ∷ []) f h = omega arith
after_four (a ∷ b ∷ []) f h = omega arith
after_four (a ∷ b ∷ c ∷ []) f h = omega arith
after_four (a ∷ b ∷ c ∷ d ∷ []) f h = refl
after_four (a ∷ b ∷ c ∷ d ∷ e ∷ ss) f h = absurd h

-- A root stands behind its slots.
pub root_size : {t : Tree} {k m p z : ℕ} {ss : List Trees} (f : ℕ) → Root t k m p z ss → f + size t ≡ after ss f + 1
root_size f of_node = omega arith
root_size f of_infix = omega arith

pub root_laid : {t : Tree} {k m p z : ℕ} {ss : List Trees} (f c0 c1 c2 c3 : ℕ) → Root t k m p z ss → Refs ss f c0 c1 c2 c3
    → lay t f 0 ≡ lay_slots ss f ++ row k m p c0 c1 c2 c3 0 z
unfolding lay
root_laid f c0 c1 c2 c3 of_node e = rw (e.0, e.1, e.2, e.3) (simp (append-nil, append_assoc))
root_laid f c0 c1 c2 c3 of_infix e = rw (e.0, e.1, e.2, e.3) (simp (append-nil, append_assoc, add-zero))

-- The root of a tree that ends at a place.
pub root_ended : {t : Tree} {k m p z : ℕ} {ss : List Trees} (at : ℕ) → Root t k m p z ss → Root (ended at t) k m p at ss
root_ended at of_node = of_node
root_ended at of_infix = of_infix
