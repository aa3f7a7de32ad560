-- Document 01's example, computed.
use mathlib.Core.Path.{refl}
use mathlib.Core.List.{flatten}
use Rattle.grammar.specs.Tree.{lay, lays}
use Rattle.grammar.specs.Script.{pool}
use Rattle.rows.specs.Rows.{is_row, read}
use Rattle.lines.specs.Decimal.{digits, decimal}
use Rattle.lines.specs.Lines.{line, from, text}
use Rattle.lines.specs.Example.{Example}

pub example : Example
unfolding flatten is_row read lay lays pool digits decimal line from text
example = refl
