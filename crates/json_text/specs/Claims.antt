-- What is claimed of texts.
use Rattle.std.specs.Prelude.{ℕ, ◌<◌, ◌≡◌, Bool, true, ◌&&◌, ◌⊎◌, List, [], ◌∷◌, ◌++◌, length}
use Rattle.grammar.specs.Tree.{Tree, infixed, node, Trees, nil, ◌▸◌}
use Rattle.slots.specs.Slots.{any-root, fits}
use Rattle.unicode_text.specs.Unicode.{well_formed}
use Rattle.payloads.specs.Fields.{Field, class_at, payload_at}
use Rattle.payloads.specs.Needs.{needs, placed}
use Rattle.payloads.specs.Claims.{Proper}
use Rattle.json_text.specs.Rfc.{Text}
use Rattle.json_text.specs.Json.{shown, value, text}

-- Whether each row's place names a field of the class that its kind needs.
unfoldable mutual
  pub all_placed : List Field → Tree → Bool
  all_placed fs (infixed m p l r z) = all_placed fs l && all_placed fs r
  all_placed fs (node k m p a b c d z) = placed fs k p && each_placed fs a && each_placed fs b && each_placed fs c && each_placed fs d

  pub each_placed : List Field → Trees → Bool
  each_placed fs nil = true
  each_placed fs (t ▸ ts) = all_placed fs t && each_placed fs ts

-- A tree that is written: it fits, each row's place names a field of the class that its kind needs, and all fields are such as the file reader lets pass.
pub record Ready (fs : List Field) (t : Tree) : Type 0 where
  pub tree : fits any-root t ≡ true
  pub places : all_placed fs t ≡ true
  pub fields : (p : ℕ) → p < length fs → Proper (class_at fs p) (payload_at fs p)

-- Trees alike: kinds, shape, marks and places agree row by row, and what is shown of the payloads; where the rows end isn't asked.
mutual
  pub data Alike (fs gs : List Field) : Tree → Tree → Type 0 where
    rows : {k m p z z' : ℕ} {a b c d a' b' c' d' : Trees}
        → ((needs k ≡ 0 → ⊥) → shown (needs k) (payload_at fs p) ≡ shown (needs k) (payload_at gs p))
        → EachAlike fs gs a a' → EachAlike fs gs b b' → EachAlike fs gs c c' → EachAlike fs gs d d'
        → Alike fs gs (node k m p a b c d z) (node k m p a' b' c' d' z')
    infixes : {m p z z' : ℕ} {l r l' r' : Tree} → Alike fs gs l l' → Alike fs gs r r' → Alike fs gs (infixed m p l r z) (infixed m p l' r' z')

  pub data EachAlike (fs gs : List Field) : Trees → Trees → Type 0 where
    none : EachAlike fs gs nil nil
    more : {t u : Tree} {ts us : Trees} → Alike fs gs t u → EachAlike fs gs ts us → EachAlike fs gs (t ▸ ts) (u ▸ us)

-- A payload's value says what is shown of it: signed numbers, 16 digits, characters, texts; strings after folding.
abbrev pub Values : Type 0
Values =
    (class : ℕ) (a b : List ℕ) → Proper class a → Proper class b → value class (shown class a) ≡ value class (shown class b) → shown class a ≡ shown class b

-- Two trees have the same text exactly where they are alike.
abbrev pub Injective : Type 0
Injective =
    (fs gs : List Field) (t u : Tree) → Ready fs t → Ready gs u
    → (text fs t ≡ text gs u → Alike fs gs t u) × (Alike fs gs t u → text fs t ≡ text gs u)

-- A text ends by its own form: whatever stands behind it.
abbrev pub Delimited : Type 0
Delimited =
    (fs gs : List Field) (t u : Tree) (x y : List ℕ) → Ready fs t → Ready gs u → text fs t ++ x ≡ text gs u ++ y → Alike fs gs t u × (x ≡ y)

-- Every text is one by the grammar of RFC 8259.
abbrev pub Grammatical : Type 0
Grammatical = (fs : List Field) (t : Tree) → Ready fs t → Text (text fs t)

-- And it is well-formed UTF-8.
abbrev pub WellFormed : Type 0
WellFormed = (fs : List Field) (t : Tree) → Ready fs t → well_formed (text fs t) ≡ true

-- And no byte in it is a control character but for the grammar's spaces.
abbrev pub Clear : List ℕ → Type 0
Clear [] = Unit {0}
Clear (b ∷ bs) = (b < 0x20 → (b ≡ 0x09) ⊎ ((b ≡ 0x0A) ⊎ (b ≡ 0x0D))) × Clear bs

abbrev pub NoControl : Type 0
NoControl = (fs : List Field) (t : Tree) → Ready fs t → Clear (text fs t)
