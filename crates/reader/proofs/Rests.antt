-- The words that a match's last arm takes: those of no token and no keyword that another arm has.
use Rattle.std.proofs.Common.{◌≡◌, true, false, refl, eqb}
use Rattle.grammar.specs.Words as g
use Rattle.tokens.specs.Tokens.{word}
use Rattle.tokens.specs.declared.Symbol.{Symbol}
use Rattle.tokens.specs.declared.Symbol.TheVariants.{SInvalid}
use Rattle.tokens.specs.declared.Keyword.{Keyword as Key}
use Rattle.tokens.specs.declared.Keyword.TheVariants.{KInvalid, KIf, KWhile, KFor, KBreak, KContinue, KConst, KVar, KFunc, KReturn, KTry, KThrow, KForEach, KAssert}
use Rattle.tokens.specs.declared.Token.{Token}
use Rattle.tokens.specs.declared.Token.TheVariants.{Empty, Operator, Keyword}
use Rattle.reader.proofs.Lists.{plain}

-- No keyword is the empty token's word.
pub some_keyword : (k : Key) → eqb (word (Keyword k)) g.Empty ≡ false
some_keyword KInvalid = refl
some_keyword _ = refl

some_symbol : (s : Symbol) → eqb (word (Operator s)) g.Empty ≡ false
some_symbol SInvalid = refl
some_symbol _ = refl

pub some_token : (t : Token) → ((t ≡ Empty) → ⊥) → eqb (word t) g.Empty ≡ false
some_token Empty h = absurd (h refl)
some_token (Operator s) h = some_symbol s
some_token (Keyword k) h = some_keyword k
some_token _ h = refl

-- No symbol begins a statement of its own.
plain_symbol : (s : Symbol) → plain (word (Operator s)) ≡ true
plain_symbol SInvalid = refl
plain_symbol _ = refl

pub plain_token : (t : Token) → ((k : Key) → (t ≡ Keyword k) → ⊥) → plain (word t) ≡ true
plain_token (Operator s) h = plain_symbol s
plain_token (Keyword k) h = absurd (h k refl)
plain_token _ h = refl

-- A keyword that no arm of the statements has.
pub record Other (k : Key) : Type 0 where
  pub not_break : (k ≡ KBreak) → ⊥
  pub not_continue : (k ≡ KContinue) → ⊥
  pub not_var : (k ≡ KVar) → ⊥
  pub not_const : (k ≡ KConst) → ⊥
  pub not_if : (k ≡ KIf) → ⊥
  pub not_assert : (k ≡ KAssert) → ⊥
  pub not_while : (k ≡ KWhile) → ⊥
  pub not_return : (k ≡ KReturn) → ⊥
  pub not_func : (k ≡ KFunc) → ⊥
  pub not_for : (k ≡ KFor) → ⊥
  pub not_throw : (k ≡ KThrow) → ⊥
  pub not_try : (k ≡ KTry) → ⊥
  pub not_for_each : (k ≡ KForEach) → ⊥

pub plain_keyword : (k : Key) → Other k → plain (word (Keyword k)) ≡ true
plain_keyword KBreak h = absurd (h.not_break refl)
plain_keyword KContinue h = absurd (h.not_continue refl)
plain_keyword KVar h = absurd (h.not_var refl)
plain_keyword KConst h = absurd (h.not_const refl)
plain_keyword KIf h = absurd (h.not_if refl)
plain_keyword KAssert h = absurd (h.not_assert refl)
plain_keyword KWhile h = absurd (h.not_while refl)
plain_keyword KReturn h = absurd (h.not_return refl)
plain_keyword KFunc h = absurd (h.not_func refl)
plain_keyword KFor h = absurd (h.not_for refl)
plain_keyword KThrow h = absurd (h.not_throw refl)
plain_keyword KTry h = absurd (h.not_try refl)
plain_keyword KForEach h = absurd (h.not_for_each refl)
plain_keyword _ h = refl
