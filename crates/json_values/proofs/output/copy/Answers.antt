-- `copy` meets its contract: a byte more each turn.
use Rattle.std.proofs.Common.{refl, sym, ap, ◌∙◌, List, ℕ, [], ◌∷◌, ◌++◌, get_or, add-one, arith}
use lib.Seq.{take-suc, take-suc-set}
use Rattle.std.proofs.lemmas.List.{take_all}
use Rattle.json_values.proofs.output.copy.Goals as goal

pub loop-i-init : goal.loop-i-init
loop-i-init c = refl

pub loop-i-preserved : goal.loop-i-preserved
loop-i-preserved c =
    let i = c.loop-i.i in
    let bytes = c.args.bytes.now in
    rw add-one
    (take-suc-set c.loop-i.to i (get_or bytes i 0) (omega arith) ∙ ap (λ (front : List ℕ). front ++ (get_or bytes i 0 ∷ [])) c.loop-i.invariant ∙ sym (take-suc bytes i 0 (omega arith)))

pub returns : goal.returns
returns c =
    let i = c.loop-i.i in
    sym (take_all i c.loop-i.to (omega arith)) ∙ c.loop-i.invariant ∙ take_all i c.args.bytes.now (omega arith)
