-- What a test tells of the word of a token, from its values at the words of some classes.
use Prim.Native.Nat.{ℕ, ◌+◌, ◌*◌, ◌<◌}
use mathlib.Core.Path.{◌≡◌}
use mathlib.Core.Bool.{Bool, true, ◌&&◌, and-eq-true_iff}
use mathlib.Core.List.{List, [], ◌∷◌}
use mathlib.Core.Logic.{⊎_elim}
use lib.ListN.{get_or}
use lib.Dec.{lit<}
use borrow.Author.Tests.{ltb-true}
use types.Run.{OneOf}
use denote.Enum.Declared.{tag_of}
use Rattle.grammar.specs.Words as g
use Rattle.tokens.specs.declared.Token.{Token}
use Rattle.tokens.specs.declared.Token.TheVariants.{Invalid, Empty, EOF, Integer, Str, Float, Char, Identifier, Operator, Keyword, Unknown}
use Rattle.tokens.specs.Symbols.{symbol_code, keyword_code}
use Rattle.tokens.specs.Tokens.{word}
use Rattle.tokens.specs.contracts.Token as token
use Rattle.tokens.proofs.Tests.{all, below, under}
use Rattle.tokens.proofs.Arms.{symbol_coded, keyword_coded}

-- What holds of each number of a list holds of one of them.
each : (p : ℕ → Bool) (ks : List ℕ) (x : ℕ) → OneOf ks x → all p ks ≡ true → p x ≡ true
each p [] x o h = absurd o
each p (k ∷ []) x o h = rw o ((and-eq-true_iff (p k) true).0 h).0
each p (k ∷ j ∷ ks) x o h =
    let both = (and-eq-true_iff (p k) (all p (j ∷ ks))).0 h in
    ⊎_elim (λ e. rw e both.0) (λ l. each p (j ∷ ks) x l both.1) o

-- The test passes at each word of a class.
abbrev pub of_class : (ℕ → Bool) → ℕ → Bool
of_class p c = below (λ k. p (c * 256 + k)) (get_or g.codes c 0)

class_arm : (p : ℕ → Bool) (t : Token) → of_class p (tag_of token.the_type t) ≡ true → p (word t) ≡ true
unfolding g.codes
class_arm p Invalid h = under (λ k. p (0 * 256 + k)) 1 h 0 (lit< tt)
class_arm p Empty h = under (λ k. p (1 * 256 + k)) 1 h 0 (lit< tt)
class_arm p EOF h = under (λ k. p (2 * 256 + k)) 1 h 0 (lit< tt)
class_arm p Integer h = under (λ k. p (3 * 256 + k)) 1 h 0 (lit< tt)
class_arm p Str h = under (λ k. p (4 * 256 + k)) 1 h 0 (lit< tt)
class_arm p Float h = under (λ k. p (5 * 256 + k)) 1 h 0 (lit< tt)
class_arm p Char h = under (λ k. p (6 * 256 + k)) 1 h 0 (lit< tt)
class_arm p Identifier h = under (λ k. p (7 * 256 + k)) 1 h 0 (lit< tt)
class_arm p (Operator s) h = under (λ k. p (8 * 256 + k)) 41 h (symbol_code s) (ltb-true _ _ (symbol_coded s).1)
class_arm p (Keyword k) h = under (λ k. p (9 * 256 + k)) 28 h (keyword_code k) (ltb-true _ _ (keyword_coded k).1)
class_arm p Unknown h = under (λ k. p (10 * 256 + k)) 1 h 0 (lit< tt)

-- An arm on a token's class.
pub token_arm : (p : ℕ → Bool) (tags : List ℕ) (t : Token) → OneOf tags (tag_of token.the_type t) → all (of_class p) tags ≡ true → p (word t) ≡ true
token_arm p tags t o h = class_arm p t (each (of_class p) tags (tag_of token.the_type t) o h)
