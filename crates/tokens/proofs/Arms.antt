-- A symbol and a keyword by their codes: the tag is the code, and each stands at its code.
use Prim.Native.Nat.{ℕ}
use mathlib.Core.Path.{◌≡◌, refl}
use mathlib.Core.Bool.{true}
use lib.ListN.{length}
use lib.Dec.{ltb}
use denote.Enum.Declared.{tag_of}
use Rattle.tokens.specs.declared.Symbol.{Symbol}
use Rattle.tokens.specs.declared.Symbol.TheVariants.{SInvalid, SPlus, SMinus, SMul, SDiv, SLParen, SRparen, SLt, SGt, SLte, SGte, SSemiColon, SComma, SMod, SExcl, SEq, SEeq, SNe, SLBrace, SRBrace, SAnd, SOr, SAndEq, SOrEq, SNeg, SLAnd, SLOr, SPlusEq, SMinusEq, SIncr, SDecr, SMulEq, SDivEq, SModEq, SLBox, SRBox, SImpl, SColon, SDot, SResolve, SDollar}
use Rattle.tokens.specs.declared.Keyword.{Keyword as Key}
use Rattle.tokens.specs.declared.Keyword.TheVariants.{KInvalid, KIf, KElse, KWhile, KFor, KBreak, KContinue, KConst, KVar, KNone, KFunc, KReturn, KTry, KCatch, KFinally, KRethrow, KThrow, KAs, KTrue, KFalse, KForEach, KIn, KUse, KPure, KLambda, KAssert, KThread, KAsync}
use Rattle.tokens.specs.Symbols.{symbol_code, keyword_code, symbols, keywords, symbol_at, keyword_at}
use Rattle.tokens.specs.contracts.Symbol as symbol
use Rattle.tokens.specs.contracts.Keyword as keyword

-- A variant's tag is its code, one of so many, and the variant stands there in the list of all.
abbrev pub Coded : {A : Type 0} → (tag code count : ℕ) (x there : A) → Type 0
Coded tag code count x there = (tag ≡ code) × (ltb code count ≡ true) × (x ≡ there)

-- A symbol stands at its code among the symbols.
pub symbol_coded : (x : Symbol) → Coded (tag_of symbol.the_type x) (symbol_code x) (length symbols) x (symbol_at (symbol_code x))
symbol_coded SInvalid = (refl, refl, refl)
symbol_coded SPlus = (refl, refl, refl)
symbol_coded SMinus = (refl, refl, refl)
symbol_coded SMul = (refl, refl, refl)
symbol_coded SDiv = (refl, refl, refl)
symbol_coded SLParen = (refl, refl, refl)
symbol_coded SRparen = (refl, refl, refl)
symbol_coded SLt = (refl, refl, refl)
symbol_coded SGt = (refl, refl, refl)
symbol_coded SLte = (refl, refl, refl)
symbol_coded SGte = (refl, refl, refl)
symbol_coded SSemiColon = (refl, refl, refl)
symbol_coded SComma = (refl, refl, refl)
symbol_coded SMod = (refl, refl, refl)
symbol_coded SExcl = (refl, refl, refl)
symbol_coded SEq = (refl, refl, refl)
symbol_coded SEeq = (refl, refl, refl)
symbol_coded SNe = (refl, refl, refl)
symbol_coded SLBrace = (refl, refl, refl)
symbol_coded SRBrace = (refl, refl, refl)
symbol_coded SAnd = (refl, refl, refl)
symbol_coded SOr = (refl, refl, refl)
symbol_coded SAndEq = (refl, refl, refl)
symbol_coded SOrEq = (refl, refl, refl)
symbol_coded SNeg = (refl, refl, refl)
symbol_coded SLAnd = (refl, refl, refl)
symbol_coded SLOr = (refl, refl, refl)
symbol_coded SPlusEq = (refl, refl, refl)
symbol_coded SMinusEq = (refl, refl, refl)
symbol_coded SIncr = (refl, refl, refl)
symbol_coded SDecr = (refl, refl, refl)
symbol_coded SMulEq = (refl, refl, refl)
symbol_coded SDivEq = (refl, refl, refl)
symbol_coded SModEq = (refl, refl, refl)
symbol_coded SLBox = (refl, refl, refl)
symbol_coded SRBox = (refl, refl, refl)
symbol_coded SImpl = (refl, refl, refl)
symbol_coded SColon = (refl, refl, refl)
symbol_coded SDot = (refl, refl, refl)
symbol_coded SResolve = (refl, refl, refl)
symbol_coded SDollar = (refl, refl, refl)

-- A keyword stands at its code among the keywords.
pub keyword_coded : (x : Key) → Coded (tag_of keyword.the_type x) (keyword_code x) (length keywords) x (keyword_at (keyword_code x))
keyword_coded KInvalid = (refl, refl, refl)
keyword_coded KIf = (refl, refl, refl)
keyword_coded KElse = (refl, refl, refl)
keyword_coded KWhile = (refl, refl, refl)
keyword_coded KFor = (refl, refl, refl)
keyword_coded KBreak = (refl, refl, refl)
keyword_coded KContinue = (refl, refl, refl)
keyword_coded KConst = (refl, refl, refl)
keyword_coded KVar = (refl, refl, refl)
keyword_coded KNone = (refl, refl, refl)
keyword_coded KFunc = (refl, refl, refl)
keyword_coded KReturn = (refl, refl, refl)
keyword_coded KTry = (refl, refl, refl)
keyword_coded KCatch = (refl, refl, refl)
keyword_coded KFinally = (refl, refl, refl)
keyword_coded KRethrow = (refl, refl, refl)
keyword_coded KThrow = (refl, refl, refl)
keyword_coded KAs = (refl, refl, refl)
keyword_coded KTrue = (refl, refl, refl)
keyword_coded KFalse = (refl, refl, refl)
keyword_coded KForEach = (refl, refl, refl)
keyword_coded KIn = (refl, refl, refl)
keyword_coded KUse = (refl, refl, refl)
keyword_coded KPure = (refl, refl, refl)
keyword_coded KLambda = (refl, refl, refl)
keyword_coded KAssert = (refl, refl, refl)
keyword_coded KThread = (refl, refl, refl)
keyword_coded KAsync = (refl, refl, refl)
