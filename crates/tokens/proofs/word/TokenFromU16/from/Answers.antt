-- A word's token: what is left is that a valid word of no other class has class 0.
use Rattle.std.proofs.Common.{◌≡◌, ◌<◌, true, refl, sym, ◌∙◌, arith}
use Rattle.grammar.specs.Words.{class, codes, valid}
use Rattle.tokens.proofs.Round.{few, few_classes, token_plain}
use Rattle.tokens.proofs.word.TokenFromU16.from.Goals as goal

pub returns-in_default : goal.returns-in_default
unfolding codes
returns-in_default c =
    let good : valid c.args.word ≡ true = sym c.is_valid.ensures ∙ c.if-not-is_valid.false in
    let under : class c.args.word < 11 = few_classes _ _ (few c.args.word good) in
    let is0 : class c.args.word ≡ 0 = omega (arith, c.class_of-class.ensures) in
    sym (token_plain c.args.word 0 good is0 refl)
