-- A word's token has the word again where the word is valid, and is Invalid where it is not; a token's word has the token.
use Prim.Native.Nat.{ℕ, zero, suc, ◌+◌, ◌*◌, ◌%◌, ◌≤◌, ◌<◌}
use native.Mathlib.Nat.{div-add-mod', le_of_suc-le-suc, not-suc-le-zero}
use native.Mathlib.Omega.{arith}
use mathlib.Core.Path.{◌≡◌, refl, sym, ap, ◌∙◌}
use mathlib.Core.Bool.{Bool, true, false, ◌||◌}
use mathlib.Core.List.{List, [], ◌∷◌, map}
use lib.ListN.{length, get_or, get_or-eq_default}
use lib.Dec.{eqb, ltb}
use lib.Bits.{bit_and, and_mask}
use borrow.Author.Tests.{eqb-true, ltb-true, ltb-false, ne_eqb}
use Rattle.grammar.specs.Words as g
use Rattle.tokens.specs.declared.Symbol.TheVariants.{SInvalid}
use Rattle.tokens.specs.declared.Keyword.TheVariants.{KInvalid}
use Rattle.tokens.specs.declared.Token.{Token}
use Rattle.tokens.specs.declared.Token.TheVariants.{Invalid, Empty, EOF, Integer, Str, Float, Char, Identifier, Operator, Keyword, Unknown}
use Rattle.tokens.specs.Symbols.{symbol_code, keyword_code, symbols, keywords, symbol_at, keyword_at}
use Rattle.tokens.specs.Tokens.{word, tokens, token}
use Rattle.tokens.proofs.Tests.{below, under}
use Rattle.tokens.proofs.Arms.{symbol_coded, keyword_coded}

-- How many codes a class has.
abbrev pub count : ℕ → ℕ
count c = get_or g.codes c 0

-- Only operators and keywords have more than one code, and only a class of the table has one.
pub one_code : (k : ℕ) → k < 11 → (k ≡ 8 → ⊥) → (k ≡ 9 → ⊥) → count k ≡ 1
unfolding g.codes
one_code k l m n = eqb-true (count k) 1 (rw (ne_eqb k 8 m, ne_eqb k 9 n) at (under (λ k. eqb k 8 || (eqb k 9 || eqb (count k) 1)) 11 refl k l))

pub no_code : (k : ℕ) → 11 ≤ k → count k ≡ 0
unfolding g.codes
no_code k h = get_or-eq_default g.codes 0 h

pub ruleset counts = (one_code, no_code)

-- A mask of eight bits leaves the remainder by 256.
pub low_bits : (w : ℕ) → bit_and w 255 ≡ w % 256
low_bits w = and_mask w 8

-- The token of a class at a code.
abbrev pub entry : ℕ → ℕ → Token
entry c k = get_or (get_or tokens c []) k Invalid

-- Each entry of the table has the word of its class and code.
table_right : below (λ c. below (λ k. eqb (word (entry c k)) (c * 256 + k)) (count c)) 11 ≡ true
unfolding g.codes
table_right = refl

-- The table has as many tokens of a class as the class has codes.
table_full : below (λ c. eqb (length (get_or tokens c [])) (count c)) 11 ≡ true
unfolding g.codes
table_full = refl

-- Only a class of the table has a code.
pub few_classes : (c k : ℕ) → k < count c → c < 11
unfolding g.codes
few_classes c k h = go (ltb c 11) refl
  where
    go : (b : Bool) → ltb c 11 ≡ b → c < 11
    go true e = ltb-true c 11 e
    go false e = absurd (omega (arith, rw (get_or-eq_default g.codes 0 (ltb-false c 11 e)) at h))

full : (c : ℕ) → length (get_or tokens c []) ≡ count c
unfolding g.codes
full c = go (ltb c 11) refl
  where
    go : (b : Bool) → ltb c 11 ≡ b → length (get_or tokens c []) ≡ count c
    go true e = eqb-true (length (get_or tokens c [])) (count c) (under (λ c. eqb (length (get_or tokens c [])) (count c)) 11 table_full c (ltb-true c 11 e))
    go false e = rw (get_or-eq_default tokens [] (ltb-false c 11 e), get_or-eq_default g.codes 0 (ltb-false c 11 e))

-- A valid word is the word of its token.
pub word_token : (w : ℕ) → g.valid w ≡ true → word (token w) ≡ w
unfolding token g.valid g.class g.code
word_token w h =
    let k = ltb-true _ _ h in
    let c = few_classes (g.class w) (g.code w) k in
    eqb-true _ _ (under (λ k. eqb (word (entry (g.class w) k)) (g.class w * 256 + k)) (count (g.class w))
    (under (λ c. below (λ k. eqb (word (entry c k)) (c * 256 + k)) (count c)) 11 table_right (g.class w) c) (g.code w) k)
    ∙ div-add-mod' w 256

-- Any other word has the token Invalid.
pub bad_token : (w : ℕ) → g.valid w ≡ false → token w ≡ Invalid
unfolding token g.valid g.class g.code
bad_token w h = get_or-eq_default (get_or tokens (g.class w) []) Invalid (rw full (ltb-false _ _ h))

mapped : {A : Type 0} (f : A → Token) (xs : List A) (k : ℕ) (d : A) → k < length xs → get_or (map f xs) k Invalid ≡ f (get_or xs k d)
mapped f [] k d h = absurd (not-suc-le-zero h)
mapped f (x ∷ xs) zero d h = refl
mapped f (x ∷ xs) (suc k) d h = mapped f xs k d (le_of_suc-le-suc h)

-- The token of a word of the class of operators.
pub token_operator : (w : ℕ) → g.class w ≡ g.Operator → g.code w < length symbols → token w ≡ Operator (symbol_at (g.code w))
unfolding token
token_operator w c k = rw c (mapped Operator symbols (g.code w) SInvalid k)

-- The token of a word of the class of keywords.
pub token_keyword : (w : ℕ) → g.class w ≡ g.Keyword → g.code w < length keywords → token w ≡ Keyword (keyword_at (g.code w))
unfolding token
token_keyword w c k = rw c (mapped Keyword keywords (g.code w) KInvalid k)

-- The token of a valid word of a class that has one code.
pub token_plain : (w k : ℕ) → g.valid w ≡ true → g.class w ≡ k → count k ≡ 1 → token w ≡ entry k 0
unfolding token g.valid
token_plain w k h c one =
    let few : g.code w < 1 = rw (c, one) at (ltb-true (g.code w) (count (g.class w)) h) in
    let zero : g.code w ≡ 0 = omega arith in
    rw (c, zero)

-- The code of a valid word is one of its class.
pub few : (w : ℕ) → g.valid w ≡ true → g.code w < count (g.class w)
unfolding g.valid
few w h = ltb-true (g.code w) (count (g.class w)) h

pub valid_operator : (w : ℕ) → g.valid w ≡ true → g.class w ≡ g.Operator → token w ≡ Operator (symbol_at (g.code w))
unfolding g.codes
valid_operator w h c = token_operator w c (rw c at (few w h))

pub valid_keyword : (w : ℕ) → g.valid w ≡ true → g.class w ≡ g.Keyword → token w ≡ Keyword (keyword_at (g.code w))
unfolding g.codes
valid_keyword w h c = token_keyword w c (rw c at (few w h))

pub ruleset told = (few, few_classes, bad_token, valid_operator, valid_keyword, token_plain)

-- The class and the code of a word that is made of them.
split : (c k : ℕ) → k < 256 → (g.class (c * 256 + k) ≡ c) × (g.code (c * 256 + k) ≡ k)
unfolding g.class g.code
split c k h = (omega arith, omega arith)

-- A token is that of its word.
pub token_word : (t : Token) → token (word t) ≡ t
unfolding token g.class g.code
token_word Invalid = refl
token_word Empty = refl
token_word EOF = refl
token_word Integer = refl
token_word Str = refl
token_word Float = refl
token_word Char = refl
token_word Identifier = refl
token_word (Operator s) =
    let few = ltb-true (symbol_code s) 41 (symbol_coded s).1 in
    let it = split g.Operator (symbol_code s) (omega arith) in
    token_operator (word (Operator s)) it.0 (rw it.1 few) ∙ ap (λ k. Operator (symbol_at k)) it.1 ∙ ap Operator (sym (symbol_coded s).2)
token_word (Keyword k) =
    let few = ltb-true (keyword_code k) 28 (keyword_coded k).1 in
    let it = split g.Keyword (keyword_code k) (omega arith) in
    token_keyword (word (Keyword k)) it.0 (rw it.1 few) ∙ ap (λ k. Keyword (keyword_at k)) it.1 ∙ ap Keyword (sym (keyword_coded k).2)
token_word Unknown = refl
