-- A sum as it is written, and every kind written and read back, by computing.
use mathlib.Core.Path.{◌≡◌, refl}
use Prim.Native.Nat.{◌+◌, ◌*◌}
use mathlib.Core.Bool.{true}
use mathlib.Core.List.{[], ◌∷◌}
use Rattle.grammar.specs.Words.{Operator, EOF, Identifier, SLParen, SRparen, SSemiColon}
use Rattle.grammar.specs.Words.{tok, step, is, next_is, class, code, by_code, orders, infixes, order, infix_of, operates, goes_on, codes, valid}
use Rattle.grammar.specs.Tree as t
use Rattle.grammar.specs.Tree.{Tree, infixed, Trees, nil, ◌▸◌, join, flag, flagged, is_call}
use Rattle.grammar.specs.Parsed.{Parsed, refused, read, ◌>>=◌, ◌>>◌, need, build, choose, match, turns}
use Rattle.grammar.specs.Expressions as e
use Rattle.grammar.specs.Statements as s
use Rattle.grammar.specs.Script.{nesting, longest, both, words_good, array_good, one_expression, one_statement, whole_script}
use Rattle.grammar.specs.Rules.{original, fits as r-fits}
use Rattle.slots.specs.Slots.{of_expressions, of_statements, kind_of, slot, is_expression, is_statement, takes, counts, marked, fits, all_fit, any-root}
use Rattle.written.specs.Written.{infix_signs, forms, look, form, joined, separated, empty_slot, piece, pieces, write, writes, written}
use Rattle.written.specs.Claims.{plain, plains, entry_of, asked, reread}

abbrev x : Tree
x = t.identifier 9

-- a + b * c is written ( a + ( b * c ) ) ; with the places of its names.
sum : written (t.block 0 (t.expression_statement 0 (infixed 0 1 (t.identifier 0) (infixed 2 3 (t.identifier 2) (t.identifier 4) 0) 0) ▸ nil))
    ≡ (SLParen, 0) ∷ (Identifier, 0) ∷ (Operator * 256 + 1, 0) ∷ (SLParen, 0) ∷ (Identifier, 2) ∷ (Operator * 256 + 3, 0) ∷ (Identifier, 4) ∷ (SRparen, 0) ∷ (SRparen, 0)
    ∷ (SSemiColon, 0) ∷ (EOF, 0) ∷ []
unfolding infix_signs forms look form joined separated empty_slot piece pieces write writes written
sum = refl

abbrev dotted : Tree
dotted = t.attribute 3 x (t.name 5 ▸ t.name 7 ▸ nil)

abbrev body : Tree
body = t.block 1 (t.break 2 ▸ t.continue 3 ▸ nil)

abbrev all : Tree
all = t.block 0 (
    t.expression_statement 0 (t.hash 4 (t.pair 1 x (t.none 2) ▸ t.pair 1 dotted (t.array 2 (t.int 3 ▸ t.float 4 ▸ nil)) ▸ nil))
    ▸ t.expression_statement 0 (flagged 256 (infixed 7 8 (infixed 0 1 x x 0) (t.lambda 4 (x ▸ x ▸ nil) (t.char 5)) 0))
    ▸ t.expression_statement 0 (flagged 1 (flagged 2 (t.call 7 (t.index 2 (t.array 1 nil) (t.string 7)) (t.bool 1 4 ▸ t.bool 0 4 ▸ nil))))
    ▸ t.expression_statement 0 (t.call 7 (t.prefix 2 2 x) nil)
    ▸ t.expression_statement 0 (t.suffix 1 7 (t.shell 1 2 (t.shell 0 3 (t.hash 4 nil))))
    ▸ t.var 4 nil ▸ t.var 4 (x ▸ nil) ▸ t.const 5 (x ▸ nil) ▸ t.return 6 nil ▸ t.return 6 (x ▸ nil) ▸ t.throw 7 x
    ▸ t.try 1 body x (t.block 1 nil) nil ▸ t.try 1 body (t.hash 4 nil) (t.block 1 nil) (body ▸ nil)
    ▸ t.function 1 nil body ▸ t.function 1 (x ▸ dotted ▸ nil) body ▸ t.for 1 x dotted body ▸ t.while 1 x body ▸ t.assert 1 x x
    ▸ t.if 4 x body nil ▸ t.if 4 x body (body ▸ nil) ▸ t.foreach 3 x x x body ▸ nil)

-- What was read, without places, ends and grouped marks.
unfoldable plainly : Parsed Trees → Parsed Trees
plainly (refused n p) = refused n p
plainly (read us at room) = read (plains us) at room

all_fits : fits any-root all ≡ true
unfolding flag flagged fits all_fit of_expressions of_statements kind_of slot is_expression is_statement takes counts marked
all_fits = refl

back : plainly (reread original all 200) ≡ read (plain all ▸ nil) 222 86
unfolding tok step is next_is class code by_code orders infixes order infix_of operates goes_on codes valid join flag flagged is_call
    ◌>>=◌ ◌>>◌ need build choose match turns nesting longest both words_good array_good one_expression one_statement whole_script asked r-fits
    e.get_identifier e.dots e.dot_expression e.no_prefix e.entries e.list_expr e.pair e.hash_literal e.array e.lambda e.started e.prefix e.sub_expression e.command e.shell
    e.prefix_part e.infix_expression e.suffix_expression e.call e.index e.operation e.climb e.level e.expression
    s.statements s.opened s.block s.assert s.function s.else s.if s.value s.var s.const s.while s.return s.foreach s.for s.throw s.finally s.try s.expression_statement
    s.alone s.begun s.kept s.level s.statement
    is_expression infix_signs forms look form joined separated empty_slot piece pieces write writes written plain plains entry_of plainly
back = refl
