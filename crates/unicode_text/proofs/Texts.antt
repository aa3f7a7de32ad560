-- Well-formed bytes are those of texts, and of one text each.
use mathlib.Core.Path.{◌≡◌, refl, sym, ap, ◌∙◌}
use mathlib.Core.Bool.{Bool, true, false}
use mathlib.Core.List.{List, [], ◌∷◌, ◌++◌}
use Prim.Native.Nat.{ℕ, zero, suc, ◌/◌, ◌≤◌, ◌<◌}
use native.Mathlib.Decide.{dec_lt}
use native.Mathlib.Omega.{arith}
use lib.ListN.{length, take, drop, length-drop, length-append}
use lib.Seq.{drop_at, take_at, drop-append_seam}
use Rattle.unicode_text.specs.Unicode.{table, first, sequences, well_formed, encode, encoded}
use Rattle.unicode_text.specs.Claims.{Scalars, Text, WellFormed, OneText}
use Rattle.unicode_text.proofs.Values.{value_2, value_3, value_4, some, encode_1, encode_2, encode_3, encode_4}
use Rattle.unicode_text.proofs.Takes.{takes}
use Rattle.unicode_text.proofs.Found.{found}
use Rattle.unicode_text.proofs.Turns.{turned, stopped}

-- well-formed bytes are those of a text
text_of : (k : ℕ) (bytes : List ℕ) → length bytes ≤ k → sequences k bytes ≡ true → Text bytes
unfolding encoded
text_of zero [] h e = record { values = []; scalars = tt; bytes_of = refl }
text_of zero (b ∷ bytes) h e = absurd (omega arith)
text_of (suc k) [] h e = record { values = []; scalars = tt; bytes_of = refl }
text_of (suc k) (b ∷ bytes) h e = go (first table (b ∷ bytes)) refl (text_of k)
  where
    go : (m : ℕ) → first table (b ∷ bytes) ≡ m → ((rest : List ℕ) → length rest ≤ k → sequences k rest ≡ true → Text rest) → Text (b ∷ bytes)
    go zero f rec =
        let no : ◌≡◌ {A = Bool} false true = sym (stopped k b bytes f) ∙ e in
        let z : ◌≡◌ {A = ℕ} 0 1 = cc in
        absurd (omega arith)
    go (suc n) f rec =
        let s = found (b ∷ bytes) n f in
        let behind : drop n bytes ≡ s.rest = ap (drop (suc n)) s.split ∙ drop_at (encode s.value) s.rest (suc n) s.long in
        let t = rec s.rest (rw (sym behind) (simp length-drop (omega arith))) (rw (sym behind) (sym (turned k b bytes f) ∙ e)) in
        record { values = s.value ∷ t.values; scalars = (s.good, t.scalars); bytes_of = rw t.bytes_of (sym s.split) }

-- the bytes of a text are well-formed
all_turn : (k : ℕ) (cs : List ℕ) → Scalars cs → sequences k (encoded cs) ≡ true
unfolding sequences encoded
all_turn zero cs s = refl
all_turn (suc k) [] s = refl
all_turn (suc k) (c ∷ cs) s = go (encode c) refl (all_turn k cs s.1)
  where
    go : (bs : List ℕ) → encode c ≡ bs → sequences k (encoded cs) ≡ true → sequences (suc k) (encode c ++ encoded cs) ≡ true
    go [] e rest = let one : 0 < 0 = rw e at (some c) in absurd (omega arith)
    go (b ∷ bs) e rest =
        let f : first table (b ∷ (bs ++ encoded cs)) ≡ suc (length bs) = rw e at (takes c (encoded cs) s.0) in
        rw e (turned k b (bs ++ encoded cs) f ∙ rw (drop-append_seam bs (encoded cs)) rest)

pub well_formed_texts : WellFormed
unfolding well_formed
well_formed_texts bytes =
    (λ e. text_of (length bytes) bytes (omega arith) e, λ t. rw (sym t.bytes_of) (all_turn (length (encoded t.values)) t.values t.scalars))

-- the value of the bytes of one
value : List ℕ → ℕ
value [] = 0
value (b ∷ []) = b
value (b ∷ x ∷ []) = value_2 b x
value (b ∷ x ∷ y ∷ []) = value_3 b x y
value (b ∷ x ∷ y ∷ z ∷ []) = value_4 b x y z
value (b ∷ x ∷ y ∷ z ∷ w ∷ bs) = 0

back : (c : ℕ) → value (encode c) ≡ c
unfolding value
back c = at_1 (dec_lt c 0x80)
  where
    q : c / 64 / 64 ≡ c / 4096
    q = omega arith

    r : c / 4096 / 64 ≡ c / 262144
    r = omega arith

    at_3 : 0x800 ≤ c → Dec (c < 0x10000) → value (encode c) ≡ c
    at_3 l (yes h) = rw (encode_3 c l h) (omega arith)
    at_3 l (no h) = rw (encode_4 c (omega arith)) (omega (arith, q, r))

    at_2 : 0x80 ≤ c → Dec (c < 0x800) → value (encode c) ≡ c
    at_2 l (yes h) = rw (encode_2 c l h) (omega arith)
    at_2 l (no h) = at_3 (omega arith) (dec_lt c 0x10000)

    at_1 : Dec (c < 0x80) → value (encode c) ≡ c
    at_1 (yes h) = rw (encode_1 c h)
    at_1 (no h) = at_2 (omega arith) (dec_lt c 0x800)

-- a text with a value has bytes
full : (c : ℕ) (cs : List ℕ) → 0 < length (encoded (c ∷ cs))
unfolding encoded
full c cs = simp length-append (omega (arith, some c))

pub one_text : OneText
unfolding encoded
one_text [] [] s t e = refl
one_text [] (d ∷ ds) s t e = let no : 0 < 0 = rw (sym e) at (full d ds) in absurd (omega arith)
one_text (c ∷ cs) [] s t e = let no : 0 < 0 = rw e at (full c cs) in absurd (omega arith)
one_text (c ∷ cs) (d ∷ ds) s t e =
    let long : length (encode c) ≡ length (encode d) = sym (takes c (encoded cs) s.0) ∙ ap (first table) e ∙ takes d (encoded ds) t.0 in
    let heads : encode c ≡ encode d = sym (take_at (encode c) (encoded cs) (length (encode c)) refl) ∙ ap (take (length (encode c))) e ∙ take_at (encode d) (encoded ds) _ (sym long) in
    let tails : encoded cs ≡ encoded ds = sym (drop_at (encode c) (encoded cs) (length (encode c)) refl) ∙ ap (drop (length (encode c))) e ∙ drop_at (encode d) (encoded ds) _ (sym long) in
    let same : c ≡ d = sym (back c) ∙ ap value heads ∙ back d in
    rw (same, one_text cs ds s.1 t.1 tails)
