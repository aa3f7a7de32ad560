-- `orders::is_infix` meets its contract: the constant has a bit at the code of each symbol that has a mark, and at no other. Assumes nothing.
use Rattle.std.proofs.Common.{ℕ, ◌+◌, ◌*◌, ◌/◌, ◌^◌, ◌≡◌, refl, sym, Bool, true, false, eqb, ltb}
use mathlib.Core.Bool.{beq}
use lib.Bits.{bit_and}
use borrow.Author.Tests.{ltb-true}
use Rattle.grammar.specs.Words.{Operator, class, code, by_code, infixes, infix_of}
use Rattle.tokens.specs.declared.Symbol.{Symbol}
use Rattle.tokens.specs.Symbols.{symbol_code}
use Rattle.tokens.proofs.Tests.{below, under}
use Rattle.tokens.proofs.Arms.{symbol_coded}
use Rattle.orders.proofs.is_infix.Goals as goal

-- Whether a number has the bit at a code.
abbrev bit : (bits k : ℕ) → Bool
bit bits k = eqb (bit_and (bits / 2 ^ k) 1) 1

-- Whether a word has a mark.
abbrev marked : ℕ → Bool
marked w = ltb 0 (infix_of w)

-- Whether the bit at a code says of its operator what the mark says.
abbrev right : (bits k : ℕ) → Bool
right bits k = beq (bit bits k) (marked (Operator * 256 + k))

-- Two tests that compare as equal are equal.
alike : (a b : Bool) → beq a b ≡ true → a ≡ b
alike true true h = refl
alike true false h = sym h
alike false true h = h
alike false false h = refl

-- A number that is right at all 41 codes tells of any symbol whether it has a mark.
told : (bits : ℕ) → below (right bits) 41 ≡ true → (s : Symbol) → bit bits (symbol_code s) ≡ marked (Operator * 256 + symbol_code s)
told bits h s = alike _ _ (under (right bits) 41 h (symbol_code s) (ltb-true _ _ (symbol_coded s).1))

pub returns : goal.returns
unfolding class code by_code infixes infix_of
returns c = rw (c.symbol_code.ensures, c.in-Operator.is) (told _ refl c.in-Operator.s)
