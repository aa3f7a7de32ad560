-- The numbers of the kinds.
use Rattle.std.specs.Prelude.{ℕ}
use Rattle.reader.specs.declared.kind.Kind.{Kind}
use Rattle.reader.specs.declared.kind.Kind.TheVariants as a

-- The number of a kind, as it stands in a row.
abbrev pub code : Kind → ℕ
code a.None = 1
code a.Identifier = 2
code a.Int = 3
code a.Float = 4
code a.Char = 5
code a.String = 6
code a.Bool = 7
code a.Array = 8
code a.Hash = 9
code a.Index = 10
code a.Call = 11
code a.Infix = 12
code a.Prefix = 13
code a.Suffix = 14
code a.Lambda = 15
code a.Shell = 16
code a.Attribute = 17
code a.Name = 18
code a.Pair = 19
code a.Break = 32
code a.Continue = 33
code a.Var = 34
code a.Const = 35
code a.Return = 36
code a.Throw = 37
code a.Expression = 38
code a.Try = 39
code a.Function = 40
code a.For = 41
code a.While = 42
code a.Assert = 43
code a.If = 44
code a.ForEach = 45
code a.Block = 46
