-- What the definition reads of a source, where so many more may be open.
use Rattle.std.specs.Prelude.{ℕ}
use Rattle.grammar.specs.Tree.{Trees}
use Rattle.grammar.specs.Parsed.{Reader}
use Rattle.grammar.specs.Expressions.{Rec, expression}
use Rattle.grammar.specs.Statements.{statement}
use Rattle.modes.specs.Modes.{by}
use Rattle.reader.specs.declared.source.Source.{Source}

-- Its expressions.
abbrev pub expr : Source → ℕ → Rec
expr s n = expression (by s.mode) s.tokens.now n

-- Its statements.
abbrev pub stmt : Source → ℕ → Reader Trees
stmt s n = statement (by s.mode) s.tokens.now n
