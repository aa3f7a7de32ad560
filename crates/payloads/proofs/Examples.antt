-- Files worked out by computing the definitions.
use mathlib.Core.Path.{◌≡◌, refl}
use mathlib.Core.List.{List, [], ◌∷◌}
use Prim.Native.Nat.{ℕ}
use lib.ListN.{replicate}
use Rattle.grammar.specs.Words.{class}
use Rattle.unicode_text.specs.Unicode.{table, begins as led, first as sequence, sequences, well_formed}
use Rattle.fields.specs.Field.{allowed, unicode, whole, first}
use Rattle.files.specs.File.{read, refused, before, fields}
use Rattle.std.specs.Prelude.{Ok, Err}
use Rattle.refusals.specs.Refusal.{refusal}
use Rattle.files.specs.Entry.{within, content, answered}
use Rattle.payloads.specs.Fields.{NoClass, cut, fields_of}
use Rattle.payloads.specs.Index.{held, begins, laid, class_by, size_by, payload_by}

-- the identifier ab and then EOF
abbrev pub two : List ℕ
two = 7 ∷ 0 ∷ 2 ∷ 0x61 ∷ 0x62 ∷ 2 ∷ 0 ∷ 0 ∷ []

-- it has two fields, which begin at 0 and at 5
pub two_held : held two ≡ read (1792 ∷ 512 ∷ [])
unfolding allowed class unicode well_formed sequences sequence table led whole first before fields within content
two_held = refl

pub two_indexed : (answered (held two) ≡ Ok 2) × (laid two (held two) ≡ 0 ∷ 5 ∷ replicate 19998 0)
unfolding begins cut fields_of
two_indexed = (rw two_held, rw two_held)

-- by number: the first, the second, and none behind them
abbrev places : List ℕ
places = 0 ∷ 5 ∷ replicate 19998 0

pub two_first : (class_by two places 2 0 ≡ 7) × (payload_by two places 2 0 ≡ 0x61 ∷ 0x62 ∷ [])
unfolding class_by size_by payload_by
two_first = (refl, refl)

pub two_second : (class_by two places 2 1 ≡ 2) × (payload_by two places 2 1 ≡ [])
unfolding class_by size_by payload_by
two_second = (refl, refl)

pub two_none : (class_by two places 2 2 ≡ NoClass) × (payload_by two places 2 2 ≡ [])
unfolding class_by payload_by
two_none = (refl, refl)

-- an index that is not the file's: behind the bytes there is no class, and a payload ends with the bytes
pub astray : (class_by two (9 ∷ []) 1 0 ≡ NoClass) × (payload_by two (0 ∷ []) 1 0 ≡ 0x61 ∷ 0x62 ∷ []) × (payload_by (4 ∷ 1 ∷ 0 ∷ 0x61 ∷ []) (0 ∷ []) 1 0 ≡ 0x61 ∷ [])
unfolding class_by size_by payload_by
astray = (refl, refl, refl)

-- EOF and a Char of three bytes is refused at field 1, and no place is left
abbrev pub bad : List ℕ
bad = 2 ∷ 0 ∷ 0 ∷ 6 ∷ 0 ∷ 3 ∷ 1 ∷ 2 ∷ 3 ∷ []

pub bad_held : held bad ≡ refused 5 1
unfolding allowed class unicode whole first before fields within content
bad_held = refl

pub bad_indexed : (answered (held bad) ≡ Err (refusal 5 1)) × (laid bad (held bad) ≡ replicate 20000 0)
bad_indexed = (rw bad_held, rw bad_held)

-- so is a Str of a lone byte FF behind EOF, with 33
pub foreign_held : held (2 ∷ 0 ∷ 0 ∷ 4 ∷ 0 ∷ 1 ∷ 0xFF ∷ []) ≡ refused 33 1
unfolding allowed class unicode well_formed sequences sequence table led whole first before fields within content
foreign_held = refl
