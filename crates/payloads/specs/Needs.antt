-- Which kinds have a payload, and the class of the field that it is.
use Rattle.std.specs.Prelude.{ℕ, Bool, cond, ◌||◌, List, Option, None, eqb}
use Rattle.fields.specs.Classes.{tag, class_of}
use Rattle.fields.specs.declared.classes.Class.{Class}
use Rattle.fields.specs.declared.classes.Class.TheVariants as class
use Rattle.payloads.specs.Fields.{Field, class_at}

-- The classes of the fields with a payload to show, which are their tags in a file.
abbrev pub Integer : ℕ
Integer = tag class.Integer

abbrev pub Str : ℕ
Str = tag class.Str

abbrev pub Float : ℕ
Float = tag class.Float

abbrev pub Char : ℕ
Char = tag class.Char

abbrev pub Identifier : ℕ
Identifier = tag class.Identifier

-- The class of the field that a kind's place has to name; 0 for a kind without a payload.
unfoldable pub needs : (kind : ℕ) → ℕ
needs k =
    cond (eqb k 2) Identifier
    (cond (eqb k 3) Integer
    (cond (eqb k 4) Float
    (cond (eqb k 5) Char
    (cond (eqb k 6) Str
    (cond (eqb k 18) Identifier
    (cond (eqb k 34) Identifier
    (cond (eqb k 35) Identifier
    (cond (eqb k 40) Identifier 0))))))))

-- That class itself, of a kind with a payload.
abbrev pub needed : (kind : ℕ) → Option Class
needed k = cond (eqb (needs k) 0) None (class_of (needs k))

-- Whether a row's place is the number of a field of the class that its kind needs; of a kind without a payload it isn't asked.
unfoldable pub placed : List Field → (kind place : ℕ) → Bool
placed fs k p = eqb (needs k) 0 || eqb (class_at fs p) (needs k)
