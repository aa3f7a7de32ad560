-- Examples of texts, each as the bytes of a quoted text.
use Prim.Native.Nat.{ℕ, zero, suc}
use native.Mathlib.Omega.{arith}
use lib.ListN.{length}
use mathlib.Core.Path.{◌≡◌, refl}
use mathlib.Core.List.{List, [], ◌∷◌, ◌++◌}
use Rattle.grammar.specs.Words.{class}
use Rattle.grammar.specs.Tree.{infixed, nil, ◌▸◌, leaf, identifier, int, float, char, bool, name, attribute, var, return, expression_statement, block}
use Rattle.slots.specs.Slots.{kind_of, slot, of_expressions, of_statements, fits, takes, is_expression, is_statement, marked, counts}
use Rattle.text.specs.Fold.{folded}
use Rattle.unicode_text.specs.Unicode.{encode}
use Rattle.lines.specs.Decimal.{digits, decimal}
use Rattle.lines.specs.Lines.{letters}
use Rattle.fields.specs.Field.{number, allowed, unicode}
use Rattle.payloads.specs.Fields.{Field, payload_at, class_at}
use Rattle.payloads.specs.Needs.{Integer, Str, Float, Char, Identifier, needs, placed}
use Rattle.json_text.specs.Values.{signed, hex, hexes, escape, escaped, quoted}
use Rattle.json_text.specs.Json.{name as name_of, expression_names, statement_names, shown, value, paid, head, listed, array, object_or_null, child, member, text}
use Rattle.json_text.specs.Claims.{Ready, all_placed}

-- a tree without a payload has the same text for any fields
row_return : (fs : List Field) → text fs (return 7 nil) ≡ letters "{\"kind\":\"return\",\"mark\":0,\"place\":7,\"c0\":null}"
unfolding text head name_of expression_names statement_names quoted escaped escape decimal digits paid needs member child object_or_null slot kind_of of_statements
row_return fs = refl

row_block : (fs : List Field) → text fs (block 0 nil) ≡ letters "{\"kind\":\"block\",\"mark\":0,\"place\":0,\"c0\":[]}"
unfolding text head name_of expression_names statement_names quoted escaped escape decimal digits paid needs member child object_or_null array listed slot kind_of of_statements
row_block fs = refl

row_bool : (fs : List Field) → text fs (bool 1 99) ≡ letters "{\"kind\":\"bool\",\"mark\":1,\"place\":99}"
unfolding text head name_of expression_names quoted escaped escape decimal digits paid needs member slot kind_of of_expressions
row_bool fs = refl

row_int : text ((Integer, 255 ∷ 255 ∷ 255 ∷ 255 ∷ 255 ∷ 255 ∷ 255 ∷ 255 ∷ []) ∷ []) (int 0) ≡ letters "{\"kind\":\"int\",\"mark\":0,\"place\":0,\"payload\":-1}"
unfolding text head name_of expression_names quoted escaped escape decimal digits paid needs payload_at shown value signed number member slot kind_of of_expressions
row_int = refl

row_least : text ((Integer, 128 ∷ 0 ∷ 0 ∷ 0 ∷ 0 ∷ 0 ∷ 0 ∷ 0 ∷ []) ∷ []) (int 0) ≡ letters "{\"kind\":\"int\",\"mark\":0,\"place\":0,\"payload\":-9223372036854775808}"
unfolding text head name_of expression_names quoted escaped escape decimal digits paid needs payload_at shown value signed number member slot kind_of of_expressions
row_least = refl

row_float : text ((2, []) ∷ (Float, 0x3F ∷ 0xF8 ∷ 0 ∷ 0 ∷ 0 ∷ 0 ∷ 0 ∷ 0 ∷ []) ∷ []) (float 1) ≡ letters "{\"kind\":\"float\",\"mark\":0,\"place\":1,\"payload\":\"3FF8000000000000\"}"
unfolding text head name_of expression_names quoted escaped escape decimal digits paid needs payload_at shown value hexes hex member slot kind_of of_expressions
row_float = refl

row_char : text ((Char, 0 ∷ 0 ∷ 0 ∷ 0x0A ∷ []) ∷ []) (char 0) ≡ letters "{\"kind\":\"char\",\"mark\":0,\"place\":0,\"payload\":\"\\n\"}"
unfolding text head name_of expression_names quoted escaped escape decimal digits paid needs payload_at shown value number encode member slot kind_of of_expressions
row_char = refl

row_smile : text ((Char, 0 ∷ 1 ∷ 0xF6 ∷ 0 ∷ []) ∷ []) (char 0)
    ≡ letters "{\"kind\":\"char\",\"mark\":0,\"place\":0,\"payload\":\"" ++ (0xF0 ∷ 0x9F ∷ 0x98 ∷ 0x80 ∷ letters "\"}")
unfolding text head name_of expression_names quoted escaped escape decimal digits paid needs payload_at shown value number encode member slot kind_of of_expressions
row_smile = refl

row_string : text ((Str, letters "a\\\\b\"\n\u{1}/\u{7f}") ∷ []) (leaf 6 256 0) ≡ letters "{\"kind\":\"string\",\"mark\":256,\"place\":0,\"payload\":\"a\\\\b\\\"\\n\\u0001/\u{7f}\"}"
unfolding text head name_of expression_names quoted escaped escape decimal digits paid needs payload_at shown folded value hex member slot kind_of of_expressions
row_string = refl

row_var : text ((Identifier, letters "x") ∷ []) (var 0 nil) ≡ letters "{\"kind\":\"var\",\"mark\":0,\"place\":0,\"payload\":\"x\",\"c0\":null}"
unfolding text head name_of expression_names statement_names quoted escaped escape decimal digits paid needs payload_at shown value member child object_or_null slot kind_of of_statements
row_var = refl

row_attribute : text ((Identifier, letters "a") ∷ (Identifier, letters "b") ∷ []) (attribute 9 (identifier 1) (name 0 ▸ nil))
    ≡ letters "{\"kind\":\"attribute\",\"mark\":0,\"place\":9,\"c0\":{\"kind\":\"identifier\",\"mark\":0,\"place\":1,\"payload\":\"b\"},\"c1\":[{\"kind\":\"name\",\"mark\":0,\"place\":0,\"payload\":\"a\"}]}"
unfolding text head name_of expression_names quoted escaped escape decimal digits paid needs payload_at shown value member child object_or_null array listed slot kind_of of_expressions
row_attribute = refl

row_infix : text ((Identifier, letters "a") ∷ (8, 1 ∷ []) ∷ (Identifier, letters "b") ∷ (8, 3 ∷ []) ∷ (Identifier, letters "c") ∷ []) (infixed 2 3 (identifier 2) (identifier 4) 4)
    ≡ letters "{\"kind\":\"infix\",\"mark\":2,\"place\":3,\"c0\":{\"kind\":\"identifier\",\"mark\":0,\"place\":2,\"payload\":\"b\"},\"c1\":{\"kind\":\"identifier\",\"mark\":0,\"place\":4,\"payload\":\"c\"}}"
unfolding text head name_of expression_names quoted escaped escape decimal digits paid needs payload_at shown value member child object_or_null slot kind_of of_expressions
row_infix = refl

-- a whole script, a + b * c, has 345 bytes; a name alone 54
whole_script : length (text ((Identifier, letters "a") ∷ (8, 1 ∷ []) ∷ (Identifier, letters "b") ∷ (8, 3 ∷ []) ∷ (Identifier, letters "c") ∷ [])
    (block 0 (expression_statement 0 (infixed 0 1 (identifier 0) (infixed 2 3 (identifier 2) (identifier 4) 4) 4) ▸ nil))) ≡ 345
unfolding text head name_of expression_names statement_names quoted escaped escape decimal digits paid needs payload_at shown value member child object_or_null array listed slot kind_of of_expressions of_statements
whole_script = refl

one_name : length (text ((Identifier, letters "a") ∷ []) (identifier 0)) ≡ 54
unfolding text head name_of expression_names quoted escaped escape decimal digits paid needs payload_at shown value member slot kind_of of_expressions
one_name = refl

-- an identifier isn't folded
row_not_folded : text ((Identifier, letters "\\\\") ∷ []) (identifier 0) ≡ letters "{\"kind\":\"identifier\",\"mark\":0,\"place\":0,\"payload\":\"\\\\\\\\\"}"
unfolding text head name_of expression_names quoted escaped escape decimal digits paid needs payload_at shown value member slot kind_of of_expressions
row_not_folded = refl

-- the kinds with a payload: 2 to 6, 18, 34, 35, 40
needed : ℕ → List ℕ
needed zero = []
needed (suc k) = needed k ++ (needs k ∷ [])

all_needed : needed 48
    ≡ 0 ∷ 0 ∷ 7 ∷ 3 ∷ 5 ∷ 6 ∷ 4 ∷ 0 ∷ 0 ∷ 0 ∷ 0 ∷ 0 ∷ 0 ∷ 0 ∷ 0 ∷ 0 ∷ 0 ∷ 0 ∷ 7 ∷ 0 ∷ 0 ∷ 0 ∷ 0 ∷ 0 ∷ 0 ∷ 0 ∷ 0 ∷ 0 ∷ 0 ∷ 0 ∷ 0 ∷ 0
    ∷ 0 ∷ 0 ∷ 7 ∷ 7 ∷ 0 ∷ 0 ∷ 0 ∷ 0 ∷ 7 ∷ 0 ∷ 0 ∷ 0 ∷ 0 ∷ 0 ∷ 0 ∷ 0 ∷ []
unfolding needed needs
all_needed = refl

-- a tree that is ready to be written: the claims speak of something
some_ready : Ready ((Integer, 255 ∷ 255 ∷ 255 ∷ 255 ∷ 255 ∷ 255 ∷ 255 ∷ 255 ∷ []) ∷ []) (int 0)
unfolding fits takes is_expression is_statement marked counts slot kind_of of_expressions all_placed placed needs class_at payload_at allowed unicode class
some_ready = record {
  tree = refl;
  places = refl;
  fields = λ p h. let e : p ≡ 0 = omega arith in rw e (record {
    are_bytes = (omega arith, (omega arith, (omega arith, (omega arith, (omega arith, (omega arith, (omega arith, (omega arith, tt))))))));
    right = refl;
    text = refl;
  });
}
