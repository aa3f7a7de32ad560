-- The values of payloads: a value ends by its own form, and says what is shown.
use mathlib.Core.Path.{◌≡◌, refl, sym, subst, ◌∙◌}
use mathlib.Core.Bool.{Bool, true, false, cond}
use mathlib.Core.List.{List, [], ◌∷◌, ◌++◌, append-nil}
use Prim.Native.Nat.{ℕ, zero, suc, ◌+◌, ◌*◌, ◌^◌, ◌<◌}
use native.Mathlib.Decide.{ℕ_discrete}
use native.Mathlib.Omega.{arith}
use lib.Dec.{eqb}
use lib.ListN.{length}
use borrow.Author.Tests.{ne_eqb, eqb-true}
use Rattle.unicode_text.specs.Unicode.{scalar, encode, encoded, well_formed}
use Rattle.unicode_text.proofs.Texts.{one_text}
use Rattle.grammar.specs.Words.{class}
use Rattle.fields.specs.Field.{allowed, number, unicode}
use Rattle.payloads.specs.Fields.{NoClass}
use Rattle.payloads.specs.Needs.{Integer, Str, Float, Char, Identifier, needs}
use Rattle.payloads.specs.Claims.{Bytes, Proper}
use Rattle.json_text.specs.Values.{hexes}
use Rattle.json_text.specs.Json.{shown, value}
use Rattle.json_text.specs.Claims.{Values}
use Rattle.json_text.proofs.Decimal.{Stops, signed_law}
use Rattle.json_text.proofs.Strings.{quoted_law, hexes_law}

-- The classes that kinds need.
pub data Class : ℕ → Type 0 where
  nothing : Class 0
  integer : Class Integer
  str : Class Str
  float : Class Float
  char : Class Char
  identifier : Class Identifier

pub class_of : (k : ℕ) → Class (needs k)
unfolding needs
class_of k = go (eqb k 2) (eqb k 3) (eqb k 4) (eqb k 5) (eqb k 6) (eqb k 18) (eqb k 34) (eqb k 35) (eqb k 40)
  where
    go : (a b c d e f g h i : Bool) → Class (cond a Identifier (cond b Integer (cond c Float (cond d Char (cond e Str (cond f Identifier (cond g Identifier (cond h Identifier (cond i Identifier 0)))))))))
    go true b c d e f g h i = identifier
    go false true c d e f g h i = integer
    go false false true d e f g h i = float
    go false false false true e f g h i = char
    go false false false false true f g h i = str
    go false false false false false true g h i = identifier
    go false false false false false false true h i = identifier
    go false false false false false false false true i = identifier
    go false false false false false false false false true = identifier
    go false false false false false false false false false = nothing

pub class_below : {c : ℕ} → Class c → c < NoClass
class_below nothing = omega arith
class_below integer = omega arith
class_below str = omega arith
class_below float = omega arith
class_below char = omega arith
class_below identifier = omega arith

-- payloads that go with their classes
pub proper_integer : (a : List ℕ) → Proper Integer a → length a ≡ 8
unfolding allowed class
proper_integer a p = eqb-true (length a) 8 p.right

pub proper_char : (a : List ℕ) → Proper Char a → (length a ≡ 4) × (scalar (number 0 a) ≡ true)
unfolding allowed unicode class
proper_char a p = (eqb-true (length a) 4 p.right, p.text)

pub proper_str : (a : List ℕ) → Proper Str a → well_formed a ≡ true
unfolding unicode class
proper_str a p = p.text

pub proper_identifier : (a : List ℕ) → Proper Identifier a → well_formed a ≡ true
unfolding unicode class
proper_identifier a p = p.text

-- bytes that make the same number are the same, where they are as many
pub number_law : (s r : ℕ) (a b : List ℕ) → length a ≡ length b → Bytes a → Bytes b → number s a ≡ number r b → (s ≡ r) × (a ≡ b)
unfolding number
number_law s r [] [] l h k e = (e, refl)
number_law s r [] (c ∷ b) l h k e = absurd (omega arith)
number_law s r (c ∷ a) [] l h k e = absurd (omega arith)
number_law s r (c ∷ a) (d ∷ b) l (p, h) (q, k) e =
    let (f, g) = number_law (s * 256 + c) (r * 256 + d) a b (omega arith) h k e in
    let w : c ≡ d = omega arith in
    (omega arith, rw (w, g))

-- and they make no more than as many bytes can
grown : ℕ → ℕ → ℕ
grown zero most = most
grown (suc n) most = grown n (most * 256)

number_below : (s most : ℕ) (a : List ℕ) → s < most → Bytes a → number s a < grown (length a) most
unfolding number grown
number_below s most [] l h = l
number_below s most (c ∷ a) l (p, h) = number_below (s * 256 + c) (most * 256) a (omega arith) h

eight_bytes : (a : List ℕ) → length a ≡ 8 → Bytes a → number 0 a < 2 ^ 64
unfolding grown
eight_bytes a l h = rw l at (number_below 0 1 a (omega arith) h)

-- a character is the only one with its bytes
encode_law : (c d : ℕ) → scalar c ≡ true → scalar d ≡ true → encode c ≡ encode d → c ≡ d
unfolding encoded
encode_law c d s t e =
    let f : encoded (c ∷ []) ≡ encoded (d ∷ []) = rw e refl in
    let g : c ∷ [] ≡ d ∷ [] = one_text (c ∷ []) (d ∷ []) (s, tt) (t, tt) f in
    cc

-- what is shown, and its value, by the class
module _ (c : ℕ) (a b x y : List ℕ) (p : Proper c a) (q : Proper c b) (s : Stops x) (t : Stops y) (e : value c (shown c a) ++ x ≡ value c (shown c b) ++ y) where
  as_text : eqb c Integer ≡ false → eqb c Float ≡ false → eqb c Char ≡ false → (shown c a ≡ shown c b) × (x ≡ y)
  unfolding value
  as_text i f h = quoted_law (shown c a) (shown c b) x y (rw (i, f, h) at e)

  as_char : c ≡ Char → (shown c a ≡ shown c b) × (x ≡ y)
  unfolding value shown
  as_char h =
      let (g, r) = quoted_law (encode (number 0 a)) (encode (number 0 b)) x y (rw h at e) in
      let (l, u) = proper_char a (subst (λ k. Proper k a) h p) in
      let (m, v) = proper_char b (subst (λ k. Proper k b) h q) in
      let w = encode_law (number 0 a) (number 0 b) u v g in
      let (n, same) = number_law 0 0 a b (l ∙ sym m) p.are_bytes q.are_bytes w in
      (rw same refl, r)

  as_float : c ≡ Float → (shown c a ≡ shown c b) × (x ≡ y)
  unfolding value shown
  as_float h =
      let (g, r) = quoted_law (hexes a) (hexes b) x y (rw h at e) in
      (rw (hexes_law a b g) refl, r)

  as_integer : c ≡ Integer → (shown c a ≡ shown c b) × (x ≡ y)
  unfolding value shown
  as_integer h =
      let l = proper_integer a (subst (λ k. Proper k a) h p) in
      let m = proper_integer b (subst (λ k. Proper k b) h q) in
      let (g, r) = signed_law (number 0 a) (number 0 b) x y (eight_bytes a l p.are_bytes) (eight_bytes b m q.are_bytes) s t (rw h at e) in
      let (n, same) = number_law 0 0 a b (l ∙ sym m) p.are_bytes q.are_bytes g in
      (rw same refl, r)

  pub value_law : (shown c a ≡ shown c b) × (x ≡ y)
  value_law = at_integer (ℕ_discrete c Integer)
    where
      at_char : eqb c Integer ≡ false → eqb c Float ≡ false → Dec (c ≡ Char) → (shown c a ≡ shown c b) × (x ≡ y)
      at_char i f (yes h) = as_char h
      at_char i f (no h) = as_text i f (ne_eqb c Char h)

      at_float : eqb c Integer ≡ false → Dec (c ≡ Float) → (shown c a ≡ shown c b) × (x ≡ y)
      at_float i (yes h) = as_float h
      at_float i (no h) = at_char i (ne_eqb c Float h) (ℕ_discrete c Char)

      at_integer : Dec (c ≡ Integer) → (shown c a ≡ shown c b) × (x ≡ y)
      at_integer (yes h) = as_integer h
      at_integer (no h) = at_float (ne_eqb c Integer h) (ℕ_discrete c Float)

pub values_say : Values
values_say c a b p q e = (value_law c a b [] [] p q tt tt (rw (append-nil (value c (shown c a)), append-nil (value c (shown c b))) e)).0
