-- The modes of reading: their rules, and when a sign is due.
use Rattle.std.specs.Prelude.{ℕ, Bool, true, false, List}
use Rattle.grammar.specs.Words.{next_is}
use Rattle.grammar.specs.Rules.{Rules, fits}
use Rattle.modes.specs.declared.Mode.{Mode}
use Rattle.modes.specs.declared.Mode.TheVariants.{Old, Strict}
use Rattle.modes.specs.declared.Due.{Due}
use Rattle.modes.specs.declared.Due.TheVariants.{Always, By}

-- Whether a mode is strict.
abbrev pub is_strict : Mode → Bool
is_strict Old = false
is_strict Strict = true

-- The rules of a mode.
abbrev pub by : Mode → Rules
by mode = record { strict = is_strict mode }

-- The mode that is strict, or not.
abbrev pub chosen : Bool → Mode
chosen true = Strict
chosen false = Old

-- Whether a sign is due.
abbrev pub asked : Due → Bool
asked Always = true
asked (By mode) = is_strict mode

-- Whether a sign comes next, where it is due.
abbrev pub comes : Due → List ℕ → (at w : ℕ) → Bool
comes Always ts at w = next_is ts at w
comes (By mode) ts at w = fits (by mode) ts at w
