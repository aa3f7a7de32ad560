-- What the grammar of RFC 8259 accepts is well-formed UTF-8, and so is every text.
use mathlib.Core.Path.{◌≡◌, refl, sym, ◌∙◌}
use mathlib.Core.Bool.{true}
use native.Mathlib.Decide.{dec_lt}
use mathlib.Core.Logic.{inl, inr}
use mathlib.Core.List.{List, [], ◌∷◌, ◌++◌, append_assoc}
use Prim.Native.Nat.{ℕ, ◌≤◌, ◌<◌}
use native.Mathlib.Omega.{arith}
use Rattle.unicode_text.specs.Unicode.{encode, encoded, well_formed}
use Rattle.unicode_text.specs.Claims.{Scalars, Text}
use Rattle.unicode_text.proofs.Values.{encode_1}
use Rattle.unicode_text.proofs.Texts.{well_formed_texts}
use Rattle.json_text.specs.Claims.{WellFormed, Clear, NoControl}
use Rattle.json_text.specs.Rfc as rfc
use Rattle.json_text.proofs.Texts.{ascii_text, char_text, High, encode_high}
use Rattle.json_text.proofs.Closed.{Plain, printed, tab, line, return, text}
use Rattle.json_text.proofs.Grammar.{grammatical}

scalars_append : (cs ds : List ℕ) → Scalars cs → Scalars ds → Scalars (cs ++ ds)
scalars_append [] ds s t = t
scalars_append (c ∷ cs) ds (a, s) t = (a, scalars_append cs ds s t)

encoded_append : (cs ds : List ℕ) → encoded (cs ++ ds) ≡ encoded cs ++ encoded ds
unfolding encoded
encoded_append [] ds = refl
encoded_append (c ∷ cs) ds = rw (encoded_append cs ds) (sym (append_assoc (encode c) (encoded cs) (encoded ds)))

text_then : (a b : List ℕ) → Text a → Text b → Text (a ++ b)
text_then a b s t = record {
  values = s.values ++ t.values;
  scalars = scalars_append s.values t.values s.scalars t.scalars;
  bytes_of = encoded_append s.values t.values ∙ rw (s.bytes_of, t.bytes_of);
}

byte : (b : ℕ) → Plain b → Text (b ∷ [])
byte b (printed l h) = ascii_text (b ∷ []) (h, tt)
byte b tab = ascii_text (0x09 ∷ []) (omega arith, tt)
byte b line = ascii_text (0x0A ∷ []) (omega arith, tt)
byte b return = ascii_text (0x0D ∷ []) (omega arith, tt)

pub json_utf8 : {x : List ℕ} → rfc.Text x → well_formed x ≡ true
json_utf8 {x} t = (well_formed_texts x).1 (text Text (ascii_text [] tt) text_then byte (λ c u s. char_text c s) t)

pub text_utf8 : WellFormed
text_utf8 fs t r = json_utf8 (grammatical fs t r)

-- No JSON text has a control character but the spaces.
clear_then : (a b : List ℕ) → Clear a → Clear b → Clear (a ++ b)
clear_then [] b h k = k
clear_then (c ∷ a) b (l, h) k = (l, clear_then a b h k)

clear_byte : (b : ℕ) → Plain b → Clear (b ∷ [])
clear_byte b (printed l h) = (λ k. absurd (omega arith), tt)
clear_byte b tab = (λ k. inl refl, tt)
clear_byte b line = (λ k. inr (inl refl), tt)
clear_byte b return = (λ k. inr (inr refl), tt)

clear_high : (bs : List ℕ) → High bs → Clear bs
clear_high [] h = tt
clear_high (b ∷ bs) (l, h) = (λ k. absurd (omega arith), clear_high bs h)

shown : {c : ℕ} → rfc.Unescaped c → 0x20 ≤ c
shown (rfc.first l h) = l
shown (rfc.second l h) = omega arith
shown (rfc.third l h) = omega arith

clear_plain : (c : ℕ) → rfc.Unescaped c → Clear (encode c)
clear_plain c u = go (dec_lt c 0x80)
  where
    go : Dec (c < 0x80) → Clear (encode c)
    go (yes h) = rw (encode_1 c h) (λ k. absurd (omega (arith, shown u)), tt)
    go (no h) = clear_high (encode c) (encode_high c (omega arith))

pub json_clear : {x : List ℕ} → rfc.Text x → Clear x
json_clear t = text Clear tt clear_then clear_byte (λ c u s. clear_plain c u) t

pub no_control : NoControl
no_control fs t r = json_clear (grammatical fs t r)
