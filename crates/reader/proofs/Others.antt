-- The words of the tokens that the `_` arms of the readers of expressions take.
use Rattle.std.proofs.Common.{◌+◌, ◌*◌, ◌≡◌, true, false, not, refl}
use borrow.Author.Tests.{ltb-true, not-true}
use Rattle.grammar.specs.Words.{class, code, codes, by_code, infixes, infix_of, operates}
use Rattle.tokens.specs.declared.Symbol.{Symbol}
use Rattle.tokens.specs.declared.Keyword.{Keyword as Key}
use Rattle.tokens.specs.declared.Token.{Token}
use Rattle.tokens.specs.declared.Token.TheVariants.{Invalid, Empty, EOF, Integer, Str, Float, Char, Identifier, Operator, Keyword, Unknown}
use Rattle.tokens.specs.Symbols.{keyword_code}
use Rattle.tokens.specs.Tokens.{word}
use Rattle.tokens.proofs.Arms.{keyword_coded}
use Rattle.tokens.proofs.Tests.{under}
use Rattle.reader.proofs.Matches.{no_start}

-- No expression begins with another token.
pub token_unstarted : (t : Token) → (t ≡ Integer → ⊥) → (t ≡ Str → ⊥) → (t ≡ Float → ⊥) → (t ≡ Char → ⊥) → (t ≡ Identifier → ⊥) → ((s : Symbol) → t ≡ Operator s → ⊥) → ((k : Key) → t ≡ Keyword k → ⊥) → no_start 11 (word t) ≡ true
unfolding class codes
token_unstarted Invalid _ _ _ _ _ _ _ = refl
token_unstarted Empty _ _ _ _ _ _ _ = refl
token_unstarted EOF _ _ _ _ _ _ _ = refl
token_unstarted Integer n _ _ _ _ _ _ = absurd (n refl)
token_unstarted Str _ n _ _ _ _ _ = absurd (n refl)
token_unstarted Float _ _ n _ _ _ _ = absurd (n refl)
token_unstarted Char _ _ _ n _ _ _ = absurd (n refl)
token_unstarted Identifier _ _ _ _ n _ _ = absurd (n refl)
token_unstarted Unknown _ _ _ _ _ _ _ = refl
token_unstarted (Operator s) _ _ _ _ _ n _ = absurd (n s refl)
token_unstarted (Keyword k) _ _ _ _ _ _ n = absurd (n k refl)

-- No other token operates.
pub token_idle : (t : Token) → ((s : Symbol) → t ≡ Operator s → ⊥) → operates (word t) ≡ false
unfolding operates infix_of by_code class code infixes codes
token_idle Invalid _ = refl
token_idle Empty _ = refl
token_idle EOF _ = refl
token_idle Integer _ = refl
token_idle Str _ = refl
token_idle Float _ = refl
token_idle Char _ = refl
token_idle Identifier _ = refl
token_idle Unknown _ = refl
token_idle (Operator s) n = absurd (n s refl)
token_idle (Keyword k) _ = not-true _ (under (λ j. not (operates (9 * 256 + j))) 28 refl (keyword_code k) (ltb-true _ _ (keyword_coded k).1))
