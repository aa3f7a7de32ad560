-- The word of a token and the token of a word.
use Rattle.std.specs.Prelude.{ℕ, ◌+◌, ◌*◌, List, [], ◌∷◌, map, get_or}
use Rattle.grammar.specs.Words as g
use Rattle.tokens.specs.declared.Token.{Token}
use Rattle.tokens.specs.declared.Token.TheVariants.{Invalid, Empty, EOF, Integer, Str, Float, Char, Identifier, Operator, Keyword, Unknown}
use Rattle.tokens.specs.Symbols.{symbol_code, keyword_code, symbols, keywords}

-- The word of a token: the class times 256 and the code.
abbrev pub word : Token → ℕ
word Invalid = 0
word Empty = g.Empty
word EOF = g.EOF
word Integer = g.Integer
word Str = g.Str
word Float = g.Float
word Char = g.Char
word Identifier = g.Identifier
word (Operator s) = g.Operator * 256 + symbol_code s
word (Keyword k) = g.Keyword * 256 + keyword_code k
word Unknown = 10 * 256

-- The tokens of each class by their codes.
abbrev pub tokens : List (List Token)
tokens =
    (Invalid ∷ [])
    ∷ (Empty ∷ [])
    ∷ (EOF ∷ [])
    ∷ (Integer ∷ [])
    ∷ (Str ∷ [])
    ∷ (Float ∷ [])
    ∷ (Char ∷ [])
    ∷ (Identifier ∷ [])
    ∷ map Operator symbols
    ∷ map Keyword keywords
    ∷ (Unknown ∷ [])
    ∷ []

-- The token of a word; a bad class or code gives Invalid.
unfoldable pub token : ℕ → Token
token w = get_or (get_or tokens (g.class w) []) (g.code w) Invalid
