-- Folding keeps text: of the bytes of values it makes the bytes of the folded values, since a backslash's byte is in no other value's.
use mathlib.Core.Path.{◌≡◌, refl, sym, ap, ◌∙◌}
use mathlib.Core.Bool.{Bool, true, false, ◌&&◌}
use mathlib.Core.List.{List, [], ◌∷◌, ◌++◌}
use Prim.Native.Nat.{ℕ, ◌≤◌, ◌<◌}
use native.Mathlib.Decide.{dec_lt}
use native.Mathlib.Omega.{arith}
use borrow.Author.Tests.{eqb-true, eqb-false, ne_eqb}
use lib.Dec.{eqb, leb}
use lib.ListN.{length}
use Rattle.unicode_text.specs.Unicode.{sequences, well_formed, encode, encoded}
use Rattle.unicode_text.specs.Claims.{Scalars}
use Rattle.unicode_text.proofs.Values.{some, encode_1, encode_2, encode_3, encode_4}
use Rattle.unicode_text.proofs.Texts.{well_formed_texts}
use Rattle.text.specs.Fold.{choose, pair, has_pair, folded}
use Rattle.std.specs.Prelude.{Ok}
use Rattle.text.specs.Entries.{fold_answer, fold_buffer, text_of}
use Rattle.text.specs.Claims.{FoldKeeps, TextKeeps}
use Rattle.text.proofs.Entries.{fold_then_text}

-- bytes none of which is a backslash
Plain : List ℕ → Type 0
Plain [] = Unit
Plain (b ∷ bs) = (b ≡ 92 → ⊥) × Plain bs

-- one is followed by what is folded behind it
alone : (b : ℕ) (rest : List ℕ) → (b ≡ 92 → ⊥) → folded (b ∷ rest) ≡ b ∷ folded rest
unfolding folded
alone b [] h = refl
alone b (y ∷ rest) h = rw (ne_eqb b 92 h)

-- so are several
stay : (bs rest : List ℕ) → Plain bs → folded (bs ++ rest) ≡ bs ++ folded rest
unfolding Plain
stay [] rest p = refl
stay (b ∷ bs) rest p = alone b (bs ++ rest) p.0 ∙ ap (λ (l : List ℕ). b ∷ l) (stay bs rest p.1)

-- a backslash with no other behind it too
lone : (bs rest : List ℕ) → Plain bs → 0 < length bs → folded (92 ∷ (bs ++ rest)) ≡ 92 ∷ folded (bs ++ rest)
unfolding folded Plain
lone [] rest p h = absurd (omega arith)
lone (b ∷ bs) rest p h = rw (ne_eqb b 92 p.0)

-- a value that is no backslash has no byte that is one
plain : (c : ℕ) → (c ≡ 92 → ⊥) → Plain (encode c)
unfolding Plain
plain c n = at_1 (dec_lt c 0x80)
  where
    at_3 : 0x800 ≤ c → Dec (c < 0x10000) → Plain (encode c)
    at_3 l (yes h) = rw (encode_3 c l h) (λ e. omega arith, (λ e. omega arith, (λ e. omega arith, tt)))
    at_3 l (no h) = rw (encode_4 c (omega arith)) (λ e. omega arith, (λ e. omega arith, (λ e. omega arith, (λ e. omega arith, tt))))

    at_2 : 0x80 ≤ c → Dec (c < 0x800) → Plain (encode c)
    at_2 l (yes h) = rw (encode_2 c l h) (λ e. omega arith, (λ e. omega arith, tt))
    at_2 l (no h) = at_3 (omega arith) (dec_lt c 0x10000)

    at_1 : Dec (c < 0x80) → Plain (encode c)
    at_1 (yes h) = rw (encode_1 c h) (n, tt)
    at_1 (no h) = at_2 (omega arith) (dec_lt c 0x800)

-- the folded bytes of values are the bytes of the folded values
folds : (cs : List ℕ) → folded (encoded cs) ≡ encoded (folded cs)
unfolding folded encoded
folds [] = refl
folds (c ∷ []) = go (eqb c 92) refl
  where
    go : (t : Bool) → eqb c 92 ≡ t → folded (encode c ++ []) ≡ encode c ++ []
    go true e = rw (eqb-true c 92 e, encode_1 92 (omega arith))
    go false e = stay (encode c) [] (plain c (eqb-false c 92 e))
folds (c ∷ d ∷ cs) = go (eqb c 92) (eqb d 92) refl refl (folds cs) (folds (d ∷ cs))
  where
    go : (s t : Bool) → eqb c 92 ≡ s → eqb d 92 ≡ t → folded (encoded cs) ≡ encoded (folded cs) → folded (encoded (d ∷ cs)) ≡ encoded (folded (d ∷ cs))
        → folded (encode c ++ encoded (d ∷ cs)) ≡ encode c ++ encoded (choose (s && t) (folded cs) (folded (d ∷ cs)))
    go true true p q less more = rw (eqb-true c 92 p, eqb-true d 92 q, encode_1 92 (omega arith)) (ap (λ (l : List ℕ). 92 ∷ l) less)
    go true false p q less more =
        rw (eqb-true c 92 p, encode_1 92 (omega arith)) (lone (encode d) (encoded cs) (plain d (eqb-false d 92 q)) (some d) ∙ ap (λ (l : List ℕ). 92 ∷ l) more)
    go false t p q less more = stay (encode c) (encoded (d ∷ cs)) (plain c (eqb-false c 92 p)) ∙ ap (λ (l : List ℕ). encode c ++ l) more

-- folded values are scalar values still
scalars : (cs : List ℕ) → Scalars cs → Scalars (folded cs)
unfolding folded
scalars [] s = tt
scalars (c ∷ []) s = s
scalars (c ∷ d ∷ cs) s = (s.0, go (pair c d) (scalars cs s.1.1) (scalars (d ∷ cs) s.1))
  where
    go : (t : Bool) → Scalars (folded cs) → Scalars (folded (d ∷ cs)) → Scalars (choose t (folded cs) (folded (d ∷ cs)))
    go true p q = p
    go false p q = q

pub fold_keeps : FoldKeeps
fold_keeps payload e =
    let t = (well_formed_texts payload).0 e in
    (well_formed_texts (folded payload)).1 (record { values = folded t.values; scalars = scalars t.values t.scalars; bytes_of = sym (folds t.values) ∙ ap folded t.bytes_of })

-- no bytes are a text
empty : well_formed [] ≡ true
unfolding well_formed sequences
empty = refl

pub text_keeps : TextKeeps
text_keeps payload work e = go (has_pair payload) refl (leb (length (folded payload)) (length work)) refl
  where
    behind : {n : ℕ} → fold_answer payload work ≡ Ok n → well_formed (text_of payload (fold_buffer payload work)) ≡ true
    behind a = rw (fold_then_text payload work a).0 (fold_keeps payload e)

    go : (s : Bool) → has_pair payload ≡ s → (t : Bool) → leb (length (folded payload)) (length work) ≡ t → well_formed (text_of payload (fold_buffer payload work)) ≡ true
    go false h t q = behind {n = length payload} (rw h)
    go true h true q = behind {n = length (folded payload)} (rw (h, q))
    go true h false q = rw (h, q, q) empty
