-- What a slot asks of the words of a row: of the child word for the slot, and of a row that stands in it.
use Rattle.std.specs.Prelude.{ℕ, Bool, true, false, ◌&&◌, ◌||◌, eqb, ltb, leb}
use Rattle.slots.specs.Slots.{Many, no, one, at_most_one, any, some, Slot, takes}

-- Whether a slot is unused, and whether it takes a list.
abbrev pub is_no : Many → Bool
is_no no = true
is_no one = false
is_no at_most_one = false
is_no any = false
is_no some = false

abbrev pub is_list : Many → Bool
is_list no = false
is_list one = false
is_list at_most_one = false
is_list any = true
is_list some = true

-- Whether the word of row r for a slot is as the slot wants it: unused words 0, a child where one must be, and children earlier rows.
abbrev pub child_fine : Many → (r c : ℕ) → Bool
child_fine no r c = eqb c 0
child_fine one r c = ltb 0 c && ltb c r
child_fine at_most_one r c = ltb c r
child_fine any r c = ltb c r
child_fine some r c = ltb 0 c && ltb c r

-- Whether a next word of row r is 0 or a later row of n.
unfoldable pub next_fine : (n r next : ℕ) → Bool
next_fine n r next = eqb next 0 || (ltb r next && leb next n)

-- Whether a slot takes a row of this kind, mark and next. An unused slot asks nothing.
unfoldable pub taken : Slot → (kind mark next : ℕ) → Bool
taken s kind mark next = is_no s.many || (takes s.kinds kind mark && (is_list s.many || eqb next 0))
