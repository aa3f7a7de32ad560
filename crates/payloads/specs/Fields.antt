-- The fields of a token file by their numbers: the class and the payload of each.
use Rattle.std.specs.Prelude.{ℕ, zero, suc, ◌+◌, ◌*◌, List, [], ◌∷◌, length, take, drop, get_or}

-- A field: its class, which is its tag, and the bytes of its payload.
abbrev pub Field : Type 0
Field = ℕ × List ℕ

-- No class.
abbrev pub NoClass : ℕ
NoClass = 11

-- The fields of bytes: a tag, a length with its high byte first, and a payload of that length, one behind the other. No more fields than bytes: the bound.
unfoldable pub cut : (bound : ℕ) → List ℕ → List Field
cut zero bytes = []
cut (suc bound) [] = []
cut (suc bound) (tag ∷ []) = []
cut (suc bound) (tag ∷ high ∷ []) = []
cut (suc bound) (tag ∷ high ∷ low ∷ rest) =
    let size = high * 256 + low in
    (tag, take size rest) ∷ cut bound (drop size rest)

-- The fields of a file.
unfoldable pub fields_of : List ℕ → List Field
fields_of bytes = cut (length bytes) bytes

-- The class and the payload of the field with a number; no class and no bytes where there is no such field.
unfoldable pub class_at : List Field → ℕ → ℕ
class_at fs p = (get_or fs p (NoClass, [])).0

unfoldable pub payload_at : List Field → ℕ → List ℕ
payload_at fs p = (get_or fs p (NoClass, [])).1
