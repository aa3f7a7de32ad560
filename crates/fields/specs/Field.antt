-- One field of a token file: a tag, a length and a payload, and the token word that it gives.
use Rattle.std.specs.Prelude.{ℕ, ◌+◌, ◌*◌, Bool, true, cond, ◌&&◌, ◌||◌, List, [], ◌∷◌, Result, Ok, Err, eqb, leb, length, take, get_or}
use Rattle.grammar.specs.Words.{Operator, Keyword, Integer, Str, Float, Char, Identifier, class}
use Rattle.unicode_text.specs.Unicode.{scalar, well_formed}
use Rattle.refusals.specs.declared.Reason.{Reason}
use Rattle.refusals.specs.declared.Reason.TheVariants.{BadField, NotUnicode}
use Rattle.fields.specs.declared.Field.{Field}

-- The last class, Unknown.
abbrev pub Unknown : ℕ
Unknown = 10

-- How many bytes the tag and the length of a field take.
abbrev pub head : ℕ
head = 3

-- Whether the payload of a tag is a code: that of an operator or a keyword.
abbrev pub coded : (tag : ℕ) → Bool
coded tag = eqb tag Operator || eqb tag Keyword

-- Whether the payload of a tag is text: that of Str, Identifier and Unknown.
abbrev pub text : (tag : ℕ) → Bool
text tag = eqb tag (class Str) || eqb tag (class Identifier) || eqb tag Unknown

-- Whether a length goes with a tag: 1 for a code, 8 for Integer and Float, 4 for Char, any for text, 0 for the other classes.
unfoldable pub allowed : (tag size : ℕ) → Bool
allowed tag size =
    cond (coded tag) (eqb size 1)
    (cond (eqb tag (class Integer) || eqb tag (class Float)) (eqb size 8)
    (cond (eqb tag (class Char)) (eqb size 4)
    (cond (text tag) true
    (leb tag Unknown && eqb size 0))))

-- The number that bytes give, the high one first, behind what those before them gave.
unfoldable pub number : (before : ℕ) → List ℕ → ℕ
number before [] = before
number before (b ∷ bytes) = number (before * 256 + b) bytes

-- Whether what a payload holds is Unicode: the number of a Char a scalar value, a text well-formed UTF-8. No other is asked.
unfoldable pub unicode : (tag : ℕ) (payload : List ℕ) → Bool
unicode tag payload = cond (eqb tag (class Char)) (scalar (number 0 payload)) (cond (text tag) (well_formed payload) true)

-- The word of a field: its class in the upper eight bits and its code, where it has one, in the lower eight.
abbrev pub word : (tag : ℕ) (payload : List ℕ) → ℕ
word tag payload = tag * 256 + cond (coded tag) (get_or payload 0 0) 0

-- A good field: its word, and how many bytes it takes.
abbrev pub good : (word width : ℕ) → Field
good word width = record { word = word; width = width }

-- The field of a tag and its payload, or why it is refused: a payload of a wrong length or a tag above the classes, then one that is not Unicode.
unfoldable pub whole : (tag : ℕ) (payload : List ℕ) → Result Field Reason
whole tag payload =
    cond (allowed tag (length payload))
    (cond (unicode tag payload) (Ok (good (word tag payload) (head + length payload))) (Err NotUnicode))
    (Err BadField)

-- The first field: a tag, a length with its high byte first, and a payload of that length.
unfoldable pub first : List ℕ → Result Field Reason
first [] = Err BadField
first (tag ∷ []) = Err BadField
first (tag ∷ high ∷ []) = Err BadField
first (tag ∷ high ∷ low ∷ rest) =
    let size = high * 256 + low in
    cond (leb size (length rest)) (whole tag (take size rest)) (Err BadField)
