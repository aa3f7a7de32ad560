-- The symbols of operators and of keywords by their codes.
use Rattle.std.specs.Prelude.{ℕ, List, [], ◌∷◌, get_or}
use Rattle.tokens.specs.declared.Symbol.{Symbol}
use Rattle.tokens.specs.declared.Symbol.TheVariants.{SInvalid, SPlus, SMinus, SMul, SDiv, SLParen, SRparen, SLt, SGt, SLte, SGte, SSemiColon, SComma, SMod, SExcl, SEq, SEeq, SNe, SLBrace, SRBrace, SAnd, SOr, SAndEq, SOrEq, SNeg, SLAnd, SLOr, SPlusEq, SMinusEq, SIncr, SDecr, SMulEq, SDivEq, SModEq, SLBox, SRBox, SImpl, SColon, SDot, SResolve, SDollar}
use Rattle.tokens.specs.declared.Keyword.{Keyword}
use Rattle.tokens.specs.declared.Keyword.TheVariants.{KInvalid, KIf, KElse, KWhile, KFor, KBreak, KContinue, KConst, KVar, KNone, KFunc, KReturn, KTry, KCatch, KFinally, KRethrow, KThrow, KAs, KTrue, KFalse, KForEach, KIn, KUse, KPure, KLambda, KAssert, KThread, KAsync}

-- The code of a symbol.
abbrev pub symbol_code : Symbol → ℕ
symbol_code SInvalid = 0
symbol_code SPlus = 1
symbol_code SMinus = 2
symbol_code SMul = 3
symbol_code SDiv = 4
symbol_code SLParen = 5
symbol_code SRparen = 6
symbol_code SLt = 7
symbol_code SGt = 8
symbol_code SLte = 9
symbol_code SGte = 10
symbol_code SSemiColon = 11
symbol_code SComma = 12
symbol_code SMod = 13
symbol_code SExcl = 14
symbol_code SEq = 15
symbol_code SEeq = 16
symbol_code SNe = 17
symbol_code SLBrace = 18
symbol_code SRBrace = 19
symbol_code SAnd = 20
symbol_code SOr = 21
symbol_code SAndEq = 22
symbol_code SOrEq = 23
symbol_code SNeg = 24
symbol_code SLAnd = 25
symbol_code SLOr = 26
symbol_code SPlusEq = 27
symbol_code SMinusEq = 28
symbol_code SIncr = 29
symbol_code SDecr = 30
symbol_code SMulEq = 31
symbol_code SDivEq = 32
symbol_code SModEq = 33
symbol_code SLBox = 34
symbol_code SRBox = 35
symbol_code SImpl = 36
symbol_code SColon = 37
symbol_code SDot = 38
symbol_code SResolve = 39
symbol_code SDollar = 40

-- The code of a keyword.
abbrev pub keyword_code : Keyword → ℕ
keyword_code KInvalid = 0
keyword_code KIf = 1
keyword_code KElse = 2
keyword_code KWhile = 3
keyword_code KFor = 4
keyword_code KBreak = 5
keyword_code KContinue = 6
keyword_code KConst = 7
keyword_code KVar = 8
keyword_code KNone = 9
keyword_code KFunc = 10
keyword_code KReturn = 11
keyword_code KTry = 12
keyword_code KCatch = 13
keyword_code KFinally = 14
keyword_code KRethrow = 15
keyword_code KThrow = 16
keyword_code KAs = 17
keyword_code KTrue = 18
keyword_code KFalse = 19
keyword_code KForEach = 20
keyword_code KIn = 21
keyword_code KUse = 22
keyword_code KPure = 23
keyword_code KLambda = 24
keyword_code KAssert = 25
keyword_code KThread = 26
keyword_code KAsync = 27

-- Every symbol, in the order of the codes.
abbrev pub symbols : List Symbol
symbols =
    SInvalid ∷ SPlus ∷ SMinus ∷ SMul ∷ SDiv ∷ SLParen ∷ SRparen ∷ SLt ∷ SGt ∷ SLte ∷ SGte ∷ SSemiColon ∷ SComma ∷ SMod ∷ SExcl ∷ SEq ∷ SEeq ∷ SNe ∷ SLBrace ∷ SRBrace ∷ SAnd ∷ SOr ∷ SAndEq ∷ SOrEq ∷ SNeg ∷ SLAnd ∷ SLOr ∷ SPlusEq ∷ SMinusEq ∷ SIncr ∷ SDecr ∷ SMulEq ∷ SDivEq ∷ SModEq ∷ SLBox ∷ SRBox ∷ SImpl ∷ SColon ∷ SDot ∷ SResolve ∷ SDollar ∷ []

-- Every keyword, in the order of the codes.
abbrev pub keywords : List Keyword
keywords =
    KInvalid ∷ KIf ∷ KElse ∷ KWhile ∷ KFor ∷ KBreak ∷ KContinue ∷ KConst ∷ KVar ∷ KNone ∷ KFunc ∷ KReturn ∷ KTry ∷ KCatch ∷ KFinally ∷ KRethrow ∷ KThrow ∷ KAs ∷ KTrue ∷ KFalse ∷ KForEach ∷ KIn ∷ KUse ∷ KPure ∷ KLambda ∷ KAssert ∷ KThread ∷ KAsync ∷ []

-- The symbol at a code, the first past the last code.
abbrev pub symbol_at : ℕ → Symbol
symbol_at n = get_or symbols n SInvalid

-- The keyword at a code, the first past the last code.
abbrev pub keyword_at : ℕ → Keyword
keyword_at n = get_or keywords n KInvalid
