-- Where written tokens stand in an array, and the pieces of a form one by one.
use Prim.Native.Nat.{ℕ, ◌+◌, ◌/◌, ◌%◌, ◌≤◌, ◌<◌}
use native.Mathlib.Omega.{arith}
use mathlib.Core.Path.{◌≡◌, refl}
use mathlib.Core.Bool.{Bool, true, false, cond}
use mathlib.Core.List.{List, [], ◌∷◌, ◌++◌}
use lib.Dec.{eqb, ltb}
use lib.ListN.{length, get_or}
use borrow.Author.Tests.{ltb-true}
use Rattle.grammar.specs.Words.{tok, step}
use Rattle.grammar.specs.Tree.{Tree, infixed, node, Trees, nil, ◌▸◌}
use Rattle.slots.specs.Slots.{how_many}
use Rattle.written.specs.Written.{Token, Piece, sign, payload, by_mark, flagged, where_some, child, children, form, joined, separated, empty_slot, piece, pieces, write, writes}

module _ (ts : List ℕ) where
  -- The words of tokens stand from a place on, up to a place.
  abbrev pub Stood : ℕ → List Token → ℕ → Type 0
  Stood at [] c = at ≡ c
  Stood at (x ∷ xs) c = (tok ts at ≡ x.0) × (at < step ts at) × Stood (step ts at) xs c

  pub cut : (at c : ℕ) (xs ys : List Token) → Stood at (xs ++ ys) c → (b : ℕ) × Stood at xs b × Stood b ys c
  cut at c [] ys h = (at, refl, h)
  cut at c (x ∷ xs) ys (a, b, h) = let (m, k, l) = cut (step ts at) c xs ys h in (m, (a, b, k), l)

  pub only : (at c : ℕ) (xs : List Token) → Stood at (xs ++ []) c → Stood at xs c
  only at c [] h = h
  only at c (x ∷ xs) (a, b, h) = (a, b, only (step ts at) c xs h)

  -- So many tokens are so many places.
  pub spans : (at c : ℕ) (xs : List Token) → Stood at xs c → at + length xs ≤ c
  spans at c [] h = omega arith
  spans at c (x ∷ xs) (a, b, h) = omega (arith, spans (step ts at) c xs h)

  -- Behind a step that goes on there is a token.
  pub step_inside : (at : ℕ) → at < step ts at → step ts at < length ts
  unfolding step
  step_inside at = go (ltb (at + 1) (length ts)) refl
    where
      go : (c : Bool) → ltb (at + 1) (length ts) ≡ c → at < cond c (at + 1) at → cond c (at + 1) at < length ts
      go true e h = ltb-true (at + 1) (length ts) e
      go false e h = absurd (omega arith)

  pub within : (at c : ℕ) (xs : List Token) → at < length ts → Stood at xs c → c < length ts
  within at c [] l h = rw h at l
  within at c (x ∷ xs) l (a, b, h) = within (step ts at) c xs (step_inside at b) h

  -- The word of a token stands at a place.
  abbrev pub Sign : (w at : ℕ) → Type 0
  Sign w at = (tok ts at ≡ w) × (at < step ts at)

  module _ (m : ℕ) (ss : List (List (List Token))) where
    -- The pieces of a form, from a place up to a place.
    abbrev pub Laid : List Piece → (at c : ℕ) → Type 0
    Laid [] at c = at ≡ c
    Laid (sign w ∷ qs) at c = Sign w at × Laid qs (step ts at) c
    Laid (payload w ∷ qs) at c = Sign w at × Laid qs (step ts at) c
    Laid (by_mark table ∷ qs) at c = Sign (get_or table (m % 256) 0) at × Laid qs (step ts at) c
    Laid (flagged f w ∷ qs) at c = (b : ℕ) × Stood at (cond (eqb (m / f % 2) 0) [] ((w, 0) ∷ [])) b × Laid qs b c
    Laid (where_some i w ∷ qs) at c = (b : ℕ) × Stood at (cond (empty_slot (get_or ss i [])) [] ((w, 0) ∷ [])) b × Laid qs b c
    Laid (child i ∷ qs) at c = (b : ℕ) × Stood at (joined (get_or ss i [])) b × Laid qs b c
    Laid (children i w ∷ qs) at c = (b : ℕ) × Stood at (separated w (get_or ss i [])) b × Laid qs b c

    pub laid : (qs : List Piece) (p at c : ℕ) → Stood at (pieces qs m p ss) c → Laid qs at c
    unfolding pieces piece
    laid [] p at c h = h
    laid (sign w ∷ qs) p at c (a, b, h) = ((a, b), laid qs p (step ts at) c h)
    laid (payload w ∷ qs) p at c (a, b, h) = ((a, b), laid qs p (step ts at) c h)
    laid (by_mark table ∷ qs) p at c (a, b, h) = ((a, b), laid qs p (step ts at) c h)
    laid (flagged f w ∷ qs) p at c h = let (b, k, l) = cut at c (piece (flagged f w) m p ss) (pieces qs m p ss) h in (b, k, laid qs p b c l)
    laid (where_some i w ∷ qs) p at c h = let (b, k, l) = cut at c (piece (where_some i w) m p ss) (pieces qs m p ss) h in (b, k, laid qs p b c l)
    laid (child i ∷ qs) p at c h = let (b, k, l) = cut at c (piece (child i) m p ss) (pieces qs m p ss) h in (b, k, laid qs p b c l)
    laid (children i w ∷ qs) p at c h = let (b, k, l) = cut at c (piece (children i w) m p ss) (pieces qs m p ss) h in (b, k, laid qs p b c l)

  -- The same of a tree, whose end doesn't show.
  abbrev pub Form : (k m : ℕ) (a b c d : Trees) (at e : ℕ) → Type 0
  Form k m a b c d at e = Laid m (writes a ∷ writes b ∷ writes c ∷ writes d ∷ []) (form k) at e

  pub formed : (k m p : ℕ) (a b c d : Trees) (at e : ℕ) → Stood at (write (node k m p a b c d 0)) e → Form k m a b c d at e
  unfolding write
  formed k m p a b c d at e h = laid m (writes a ∷ writes b ∷ writes c ∷ writes d ∷ []) (form k) p at e h

  pub infix_formed : (m p : ℕ) (l r : Tree) (at e : ℕ) → Stood at (write (infixed m p l r 0)) e → Laid m ((write l ∷ []) ∷ (write r ∷ []) ∷ []) (form 12) at e
  unfolding write
  infix_formed m p l r at e h = laid m ((write l ∷ []) ∷ (write r ∷ []) ∷ []) (form 12) p at e h

  pub single : (at c : ℕ) (t : Tree) → Stood at (joined (write t ∷ [])) c → Stood at (write t) c
  unfolding joined
  single at c t h = only at c (write t) h

  -- Trees with a sign between them: the first, and each other behind a sign.
  abbrev pub Behind : (w : ℕ) → Trees → (at c : ℕ) → Type 0
  Behind w nil at c = at ≡ c
  Behind w (t ▸ us) at c = Sign w at × ((b : ℕ) × Stood (step ts at) (write t) b × Behind w us b c)

  pub behind : (w at c : ℕ) (t : Tree) (us : Trees) → Stood at (separated w (writes (t ▸ us))) c → (b : ℕ) × Stood at (write t) b × Behind w us b c
  unfolding separated writes
  behind w at c t nil h = (c, h, refl)
  behind w at c t (u ▸ us) h =
      let (b, k, (e, f, l)) = cut at c (write t) ((w, 0) ∷ separated w (writes (u ▸ us))) h in
      (b, k, ((e, f), behind w (step ts b) c u us l))

  -- A list has fewer members than places.
  pub members : (w at c : ℕ) (us : Trees) → Behind w us at c → at + how_many us ≤ c
  members w at c nil h = omega arith
  members w at c (t ▸ us) ((e, f), (b, k, l)) = omega (arith, spans (step ts at) b (write t) k, members w b c us l)

  pub behind_within : (w at c : ℕ) (us : Trees) → at < length ts → Behind w us at c → c < length ts
  behind_within w at c nil l h = rw h at l
  behind_within w at c (t ▸ us) l ((e, f), (b, k, h)) = behind_within w b c us (within (step ts at) b (write t) (step_inside at f) k) h

  pub empty_list : (w at c : ℕ) → Stood at (separated w []) c → at ≡ c
  unfolding separated
  empty_list w at c h = h
