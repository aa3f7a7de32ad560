-- What is claimed of folding and of text.
use Rattle.std.specs.Prelude.{ℕ, ◌≡◌, true, List}
use Rattle.unicode_text.specs.Unicode.{well_formed}
use Rattle.text.specs.Fold.{folded}
use Rattle.text.specs.Entries.{fold_buffer, text_of}

-- Folding keeps text: of well-formed UTF-8 it makes well-formed UTF-8.
abbrev pub FoldKeeps : Type 0
FoldKeeps = (payload : List ℕ) → well_formed payload ≡ true → well_formed (folded payload) ≡ true

-- So do the two entries together, whatever the work buffer: what is handed back behind a folding is well-formed.
abbrev pub TextKeeps : Type 0
TextKeeps = (payload work : List ℕ) → well_formed payload ≡ true → well_formed (text_of payload (fold_buffer payload work)) ≡ true
