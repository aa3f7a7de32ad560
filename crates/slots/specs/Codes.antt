-- Slots and kinds as numbers.
use Rattle.std.specs.Prelude.{ℕ, ◌+◌, ◌*◌, ◌/◌, ◌%◌, [], ◌∷◌, get_or}
use Rattle.slots.specs.Slots.{Takes, expressions, statements, blocks, pairs, names, plain-identifier, any-root, Many, no, one, at_most_one, any, some, Slot, ◌of◌, kind_of, slot}

-- The number for how many trees a slot takes, and the number for their kinds.
abbrev pub many_code : Many → ℕ
many_code no = 0
many_code one = 1
many_code at_most_one = 2
many_code any = 3
many_code some = 4

abbrev pub kinds_code : Takes → ℕ
kinds_code names = 0
kinds_code expressions = 1
kinds_code statements = 2
kinds_code blocks = 3
kinds_code pairs = 4
kinds_code plain-identifier = 5
kinds_code any-root = 6

-- The number of a slot: a hexadecimal digit for each of the two.
unfoldable pub code : Slot → ℕ
code s = 16 * many_code s.many + kinds_code s.kinds

-- The number of a kind: two digits for how many marks it has, and two for each of its four slots.
unfoldable pub packed : ℕ → ℕ
packed k = ((((kind_of k).marks * 256 + code (slot k 0)) * 256 + code (slot k 1)) * 256 + code (slot k 2)) * 256 + code (slot k 3)

-- The slot that a number stands for, if any; a digit that stands for nothing is as 0.
unfoldable pub many_of : ℕ → Many
many_of i = get_or (no ∷ one ∷ at_most_one ∷ any ∷ some ∷ []) i no

unfoldable pub kinds_of : ℕ → Takes
kinds_of i = get_or (names ∷ expressions ∷ statements ∷ blocks ∷ pairs ∷ plain-identifier ∷ any-root ∷ []) i names

abbrev pub slot_of : ℕ → Slot
slot_of x = many_of (x / 16) of kinds_of (x % 16)
