-- `width` meets its contract: by the row that the first byte leads. Left are the bytes that lead nothing behind them.
use Rattle.std.proofs.Common.{sym, ◌∙◌, arith}
use Rattle.unicode_text.proofs.Leads.{led, row_1, no_row, no_row_behind}
use Rattle.unicode_text.proofs.width.Goals as goal

pub returns-in-0-to-127 : goal.returns-in-0-to-127
returns-in-0-to-127 c = sym (led _ c.in-Some.ensures.value ∙ row_1 _ _ (omega arith))

pub returns-in_default-lead : goal.returns-in_default-lead
returns-in_default-lead c = sym (led _ c.in-Some.ensures.value ∙ no_row _ _ (omega arith) (omega arith))

pub returns-in_default-lead-2 : goal.returns-in_default-lead-2
returns-in_default-lead-2 c = sym (led _ c.in-Some.ensures.value ∙ no_row_behind _ _ (omega arith))
