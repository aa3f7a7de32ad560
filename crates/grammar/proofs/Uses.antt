-- The theorems used, on arrays written out; and that ten open expressions are needed, that a statement counts among what is open, that all the
-- rows are needed that are said to be enough, and that strict rules refuse.
use Prim.Native.Nat.{ℕ, zero, suc, ◌+◌, ◌-◌, ◌*◌, ◌≤◌}
use mathlib.Core.Path.{◌≡◌, refl}
use mathlib.Core.List.{List, [], ◌∷◌, ◌++◌}
use native.Mathlib.Omega.{arith}
use lib.ListN.{replicate}
use Rattle.grammar.specs.Words.{Operator, EOF, Identifier, SLParen, SRparen, SSemiColon, SComma, SExcl, SEq, SLBrace, SRBrace, SIncr, SLBox, SRBox, SImpl, KWhile, KTry, KCatch, KFinally}
use Rattle.grammar.specs.Words.{KForEach, Zero, tok, step, is, next_is, class, code, by_code, orders, infixes, order, infix_of, operates, goes_on, codes, valid}
use Rattle.grammar.specs.Tree.{infixed, ended, identifier, call, index, Trees, nil, ◌▸◌, join, flag, flagged, is_call}
use Rattle.grammar.specs.Parsed.{Parsed, refused, ◌>>=◌, ◌>>◌, need, build, choose, match, turns, TooDeep, NoRow}
use Rattle.grammar.specs.Rules.{Rules, original, fits}
use Rattle.grammar.specs.Expressions as e
use Rattle.grammar.specs.Statements as s
use Rattle.grammar.specs.Script.{nesting, longest, both, words_good, array_good, one_expression, one_statement, whole_script, answer}
use Rattle.grammar.specs.Claims.{operand, sign, Grouping, one, more, an_identifier, by_semicolons, final, further, rows_of, tokens_from, expression_rows, statement_rows, script_rows}
use Rattle.grammar.proofs.Chains.{chains}
use Rattle.grammar.proofs.Operands.{operands}
use Rattle.grammar.proofs.Strict.{strict}

abbrev a : ℕ
a = Identifier

abbrev sym : ℕ → ℕ
sym code = Operator * 256 + code

-- a + a * a ; ;
abbrev sum : List ℕ
sum = a ∷ sym 1 ∷ a ∷ sym 3 ∷ a ∷ SSemiColon ∷ SSemiColon ∷ EOF ∷ []

two_semicolons : (j : ℕ) → j ≤ 1 → tok sum (4 + 1 + j) ≡ SSemiColon
unfolding tok
two_semicolons zero h = refl
two_semicolons (suc zero) h = refl
two_semicolons (suc (suc j)) h = absurd (omega arith)

sum_grouped : Grouping original sum 10 0 5 5 (operand (ended 0 (identifier 0)) ∷ sign 0 1 ∷ operand (ended 2 (identifier 2)) ∷ sign 2 3 ∷ operand (ended 4 (identifier 4)) ∷ [])
unfolding tok class code by_code orders infixes order infix_of codes valid need longest both words_good array_good
sum_grouped =
    chains original sum 0 3 5 _ refl (more an_identifier refl (more an_identifier refl (one an_identifier))) (by_semicolons 1 two_semicolons refl (λ e. omega arith))

-- a ( a ) - ( a - a ) * a [ a ]
abbrev mixed : List ℕ
mixed = a ∷ SLParen ∷ a ∷ SRparen ∷ sym 2 ∷ SLParen ∷ a ∷ sym 2 ∷ a ∷ SRparen ∷ sym 3 ∷ a ∷ SLBox ∷ a ∷ SRBox ∷ EOF ∷ []

mixed_grouped : Grouping original mixed 12 0 14 11
    (operand (ended 3 (call 1 (ended 0 (identifier 0)) (ended 2 (identifier 2) ▸ nil)))
    ∷ sign 1 4 ∷ operand (infixed 257 7 (ended 6 (identifier 6)) (ended 8 (identifier 8)) 8)
    ∷ sign 2 10 ∷ operand (ended 14 (index 12 (ended 11 (identifier 11)) (ended 13 (identifier 13)))) ∷ [])
unfolding tok step is next_is class code by_code orders infixes order infix_of operates goes_on codes valid join flag flagged is_call rows_of nesting
    ◌>>=◌ ◌>>◌ need build choose match turns longest both words_good array_good
    e.get_identifier e.dots e.dot_expression e.no_prefix e.entries e.list_expr e.pair e.hash_literal e.array e.lambda e.started e.prefix e.sub_expression e.command e.shell fits
    e.prefix_part e.infix_expression e.suffix_expression e.call e.index e.operation e.climb e.level e.expression
mixed_grouped = operands original mixed 3 0 14 _ refl (further refl (λ e. omega arith) refl refl (further refl (λ e. omega arith) refl refl (final refl))) refl (omega arith)

-- a = a || a && a | a & a == a < a + a * a, with its nine orders rising
abbrev rising : List ℕ
rising = a ∷ SEq ∷ a ∷ sym 26 ∷ a ∷ sym 25 ∷ a ∷ sym 21 ∷ a ∷ sym 20 ∷ a ∷ sym 16 ∷ a ∷ sym 7 ∷ a ∷ sym 1 ∷ a ∷ sym 3 ∷ a ∷ EOF ∷ []

nine_refused : e.expression original rising 9 Zero 0 19 ≡ refused TooDeep 18
unfolding tok step is next_is class code by_code orders infixes order infix_of operates goes_on ◌>>=◌ ◌>>◌ need build choose match turns
    e.get_identifier e.dot_expression e.prefix_part e.infix_expression e.operation e.climb e.level e.expression
nine_refused = refl

-- A statement counts too: where an expression may have sixty-three ! before a name, a statement may not.
counted : one_statement original (replicate 63 SExcl ++ (a ∷ EOF ∷ [])) 0 64 ≡ refused TooDeep 63
unfolding tok step is next_is class code by_code orders infixes order infix_of operates goes_on codes valid ◌>>=◌ ◌>>◌ need build choose match turns
    nesting longest both words_good array_good one_statement e.prefix_part e.prefix e.level e.expression s.expression_statement s.kept s.level s.statement
counted = refl

-- One row fewer than is always enough, and a row is lacking: a ++ ++; then a ++ ++ and try { a a a a as statements; and a a.
abbrev signs : List ℕ
signs = a ∷ SIncr ∷ SIncr ∷ EOF ∷ []

abbrev names : List ℕ
names = a ∷ a ∷ EOF ∷ []

abbrev block : List ℕ
block = KTry ∷ SLBrace ∷ a ∷ a ∷ a ∷ a ∷ EOF ∷ []

lacking : (one_expression original signs 0 (expression_rows (tokens_from signs 0) - 1) ≡ refused NoRow 2)
    × (one_statement original signs 0 (statement_rows (tokens_from signs 0) - 1) ≡ refused NoRow 2)
    × (one_statement original block 0 (statement_rows (tokens_from block 0) - 1) ≡ refused NoRow 5)
    × (whole_script original names (script_rows (tokens_from names 0) - 1) ≡ refused NoRow 2)
unfolding tok step is next_is class code by_code orders infixes order infix_of operates goes_on codes valid join ◌>>=◌ ◌>>◌ need build choose match turns
    nesting longest both words_good array_good one_expression one_statement whole_script e.get_identifier e.dot_expression e.prefix_part e.suffix_expression e.operation
    e.climb e.level e.expression s.statements s.opened s.block s.try s.expression_statement s.begun s.kept s.level s.statement
lacking = (refl, refl, refl, refl)

-- What an entry answers by strict rules, and by the original's.
abbrev Answers : (Rules → Parsed Trees) → (strictly originally : List ℕ) → Type 0
Answers entry s o = (answer (entry strict) ≡ s) × (answer (entry original) ≡ o)

-- a ( a a; while ( a ) a }; foreach a , a , a => a }; try { } catch a { } finally a }; and while ( a ) { a ( a } } and while ( a ) { a ( a ) }
abbrev unclosed : List ℕ
unclosed = a ∷ SLParen ∷ a ∷ a ∷ EOF ∷ []

abbrev while_open : List ℕ
while_open = KWhile ∷ SLParen ∷ a ∷ SRparen ∷ a ∷ SRBrace ∷ EOF ∷ []

abbrev foreach_open : List ℕ
foreach_open = KForEach ∷ a ∷ SComma ∷ a ∷ SComma ∷ a ∷ SImpl ∷ a ∷ SRBrace ∷ EOF ∷ []

abbrev finally_open : List ℕ
finally_open = KTry ∷ SLBrace ∷ SRBrace ∷ KCatch ∷ a ∷ SLBrace ∷ SRBrace ∷ KFinally ∷ a ∷ SRBrace ∷ EOF ∷ []

-- A call in a block, with this closer.
abbrev inside : ℕ → List ℕ
inside closer = KWhile ∷ SLParen ∷ a ∷ SRparen ∷ SLBrace ∷ a ∷ SLParen ∷ a ∷ closer ∷ SRBrace ∷ EOF ∷ []

-- Strict rules refuse by 30, at the token before the wrong one, what the original's accept: the call, each body, and the call in a block. With two
-- rows 30 comes before 3. With the right closer both accept.
told_apart : Answers (λ rules. one_expression rules unclosed 0 3) (30 ∷ 2 ∷ 0 ∷ 0 ∷ []) (0 ∷ 3 ∷ 3 ∷ 3 ∷ [])
    × Answers (λ rules. one_statement rules while_open 0 9) (30 ∷ 3 ∷ 0 ∷ 0 ∷ []) (0 ∷ 3 ∷ 3 ∷ 5 ∷ [])
    × Answers (λ rules. one_statement rules foreach_open 0 9) (30 ∷ 6 ∷ 0 ∷ 0 ∷ []) (0 ∷ 5 ∷ 5 ∷ 8 ∷ [])
    × Answers (λ rules. one_statement rules finally_open 0 9) (30 ∷ 7 ∷ 0 ∷ 0 ∷ []) (0 ∷ 5 ∷ 5 ∷ 9 ∷ [])
    × Answers (λ rules. one_statement rules (inside SRBrace) 0 9) (30 ∷ 7 ∷ 0 ∷ 0 ∷ []) (0 ∷ 7 ∷ 7 ∷ 9 ∷ [])
    × Answers (λ rules. one_expression rules unclosed 0 2) (30 ∷ 2 ∷ 0 ∷ 0 ∷ []) (3 ∷ 3 ∷ 0 ∷ 0 ∷ [])
    × Answers (λ rules. one_statement rules (inside SRparen) 0 9) (0 ∷ 7 ∷ 7 ∷ 9 ∷ []) (0 ∷ 7 ∷ 7 ∷ 9 ∷ [])
unfolding tok step is next_is class code by_code orders infixes order infix_of operates goes_on codes valid join ◌>>=◌ ◌>>◌ need build choose match turns answer
    nesting longest both words_good array_good one_expression one_statement fits e.get_identifier e.dot_expression e.prefix_part e.entries e.list_expr e.call e.operation
    e.climb e.level e.expression s.statements s.opened s.block s.while s.foreach s.finally s.try s.expression_statement s.begun s.kept s.level s.statement
told_apart = ((refl, refl), (refl, refl), (refl, refl), (refl, refl), (refl, refl), (refl, refl), (refl, refl))
