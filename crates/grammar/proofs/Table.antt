-- The table of examples, proved by computing the definition.
use mathlib.Core.Path.{refl}
use Rattle.grammar.specs.Words.{tok, step, is, next_is, class, code, by_code, orders, infixes, order, infix_of, operates, goes_on, codes, valid}
use Rattle.grammar.specs.Tree.{lay, lays, join, flag, flagged, is_call}
use Rattle.grammar.specs.Parsed.{◌>>=◌, ◌>>◌, need, build, choose, match, turns}
use Rattle.grammar.specs.Rules.{fits}
use Rattle.grammar.specs.Expressions as e
use Rattle.grammar.specs.Statements as s
use Rattle.grammar.specs.Script.{nesting, longest, both, words_good, array_good, one_expression, one_statement, whole_script, answer, pool}
use Rattle.grammar.specs.Examples.{entered, found, expected, TableHolds}

pub table_holds : TableHolds
unfolding tok step is next_is class code by_code orders infixes order infix_of operates goes_on codes valid lay lays join flag flagged is_call
    ◌>>=◌ ◌>>◌ need build choose match turns nesting longest both words_good array_good one_expression one_statement whole_script answer pool entered found expected fits
    e.get_identifier e.dots e.dot_expression e.no_prefix e.entries e.list_expr e.pair e.hash_literal e.array e.lambda e.started e.prefix e.sub_expression e.command e.shell
    e.prefix_part e.infix_expression e.suffix_expression e.call e.index e.operation e.climb e.level e.expression
    s.statements s.opened s.block s.assert s.function s.else s.if s.value s.var s.const s.while s.return s.foreach s.for s.throw s.finally s.try s.expression_statement
    s.alone s.begun s.kept s.level s.statement
table_holds = refl
