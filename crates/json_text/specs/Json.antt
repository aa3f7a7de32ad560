-- The JSON text of a tree over the fields of a token file, member by member.
use Rattle.std.specs.Prelude.{ℕ, ◌+◌, ◌-◌, cond, List, [], ◌∷◌, ◌++◌, eqb, ltb, get_or}
use Rattle.grammar.specs.Tree.{Tree, infixed, node, Trees, nil, ◌▸◌}
use Rattle.slots.specs.Slots.{Many, no, one, at_most_one, any, some, slot}
use Rattle.text.specs.Fold.{folded}
use Rattle.unicode_text.specs.Unicode.{encode}
use Rattle.lines.specs.Decimal.{decimal}
use Rattle.lines.specs.Lines.{letters}
use Rattle.fields.specs.Field.{number}
use Rattle.payloads.specs.Fields.{Field, payload_at}
use Rattle.payloads.specs.Needs.{Integer, Str, Float, Char, needs}
use Rattle.json_text.specs.Values.{signed, hexes, quoted}

-- The names of the kinds from 0 and from 32 on: document 01's.
unfoldable pub expression_names : List (List ℕ)
expression_names =
    [] ∷ letters "none" ∷ letters "identifier" ∷ letters "int" ∷ letters "float" ∷ letters "char" ∷ letters "string" ∷ letters "bool"
    ∷ letters "array" ∷ letters "hash" ∷ letters "index" ∷ letters "call" ∷ letters "infix" ∷ letters "prefix" ∷ letters "suffix" ∷ letters "lambda"
    ∷ letters "shell" ∷ letters "attribute" ∷ letters "name" ∷ letters "pair" ∷ []

unfoldable pub statement_names : List (List ℕ)
statement_names =
    letters "break" ∷ letters "continue" ∷ letters "var" ∷ letters "const" ∷ letters "return" ∷ letters "throw" ∷ letters "expression" ∷ letters "try"
    ∷ letters "function" ∷ letters "for" ∷ letters "while" ∷ letters "assert" ∷ letters "if" ∷ letters "foreach" ∷ letters "block" ∷ []

-- The name of a kind; empty for a number that is no kind's.
unfoldable pub name : ℕ → List ℕ
name k = cond (ltb k 32) (get_or expression_names k []) (get_or statement_names (k - 32) [])

-- What is shown of a payload: of a string the folded text, of all else the bytes.
unfoldable pub shown : (class : ℕ) → List ℕ → List ℕ
shown c bytes = cond (eqb c Str) (folded bytes) bytes

-- The JSON value of what is shown: a number, 16 digits, a character, or a text.
unfoldable pub value : (class : ℕ) → List ℕ → List ℕ
value c bytes =
    cond (eqb c Integer) (signed (number 0 bytes))
    (cond (eqb c Float) (quoted (hexes bytes))
    (cond (eqb c Char) (quoted (encode (number 0 bytes)))
    (quoted bytes)))

-- The member with the payload, where the kind has one.
unfoldable pub paid : List Field → (kind place : ℕ) → List ℕ
paid fs k p = cond (eqb (needs k) 0) [] (letters ",\"payload\":" ++ value (needs k) (shown (needs k) (payload_at fs p)))

-- The first members.
unfoldable pub head : List Field → (kind mark place : ℕ) → List ℕ
head fs k m p =
    letters "{\"kind\":" ++ (quoted (name k) ++ (letters ",\"mark\":" ++ (decimal m ++ (letters ",\"place\":" ++ (decimal p ++ paid fs k p)))))

-- The texts of a list, with commas between them; an array; one object or none.
unfoldable pub listed : List (List ℕ) → List ℕ
listed [] = []
listed (t ∷ []) = t
listed (t ∷ u ∷ ts) = t ++ (0x2C ∷ listed (u ∷ ts))

unfoldable pub array : List (List ℕ) → List ℕ
array ts = 0x5B ∷ (listed ts ++ (0x5D ∷ []))

unfoldable pub object_or_null : List (List ℕ) → List ℕ
object_or_null [] = letters "null"
object_or_null (t ∷ ts) = t

-- The member of a slot, c0 to c3.
unfoldable pub child : (i : ℕ) → List ℕ → List ℕ
child i v = letters ",\"c" ++ ((48 + i) ∷ (letters "\":" ++ v))

-- A slot by how many trees it takes: an object or null, an array; no member where the kind has no such slot.
unfoldable pub member : (i : ℕ) → Many → List (List ℕ) → List ℕ
member i no ts = []
member i one ts = child i (object_or_null ts)
member i at_most_one ts = child i (object_or_null ts)
member i any ts = child i (array ts)
member i some ts = child i (array ts)

unfoldable mutual
  -- The text of a tree.
  pub text : List Field → Tree → List ℕ
  text fs (infixed m p l r z) = head fs 12 m p ++ (member 0 one (text fs l ∷ []) ++ (member 1 one (text fs r ∷ []) ++ (0x7D ∷ [])))
  text fs (node k m p a b c d z) =
      head fs k m p
      ++ (member 0 (slot k 0).many (texts fs a)
      ++ (member 1 (slot k 1).many (texts fs b)
      ++ (member 2 (slot k 2).many (texts fs c)
      ++ (member 3 (slot k 3).many (texts fs d)
      ++ (0x7D ∷ [])))))

  pub texts : List Field → Trees → List (List ℕ)
  texts fs nil = []
  texts fs (t ▸ ts) = text fs t ∷ texts fs ts
