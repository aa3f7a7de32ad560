-- The classes, and their tags.
use Rattle.std.specs.Prelude.{ℕ, List, [], ◌∷◌, Option, slice_get}
use Rattle.fields.specs.declared.classes.Class.{Class}
use Rattle.fields.specs.declared.classes.Class.TheVariants.{Invalid, Empty, Eof, Integer, Str, Float, Char, Identifier, Operator, Keyword, Unknown}

-- The tag of a class.
abbrev pub tag : Class → ℕ
tag Invalid = 0
tag Empty = 1
tag Eof = 2
tag Integer = 3
tag Str = 4
tag Float = 5
tag Char = 6
tag Identifier = 7
tag Operator = 8
tag Keyword = 9
tag Unknown = 10

-- The classes in the order of their tags.
abbrev pub classes : List Class
classes = Invalid ∷ Empty ∷ Eof ∷ Integer ∷ Str ∷ Float ∷ Char ∷ Identifier ∷ Operator ∷ Keyword ∷ Unknown ∷ []

-- The class with a tag.
abbrev pub class_of : ℕ → Option Class
class_of n = slice_get classes n
