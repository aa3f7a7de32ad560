-- `leaves`: one more number is `other`.
use Rattle.std.proofs.Common.{◌≡◌, ℕ, ◌+◌, ◌<◌, List, [], ◌∷◌, ◌++◌, length, drop, replicate, set, sym, ap, ◌∙◌, append_assoc}
use Rattle.std.proofs.lemmas.List.{drop_more, set_at, replicate_more, length-replicate}
use Rattle.recorded.proofs.leaves.Goals as goal

one_more : {A : Type 0} (xs ys : List A) (i : ℕ) (y : A) → i < length ys → xs ≡ replicate i y ++ drop i ys → set xs i y ≡ replicate (i + 1) y ++ drop (i + 1) ys
one_more xs ys i y h e =
    ap (λ zs. set zs i y) (e ∙ ap (λ zs. replicate i y ++ zs) (drop_more ys i y h))
    ∙ set_at (replicate i y) _ (drop (i + 1) ys) y i (length-replicate i y)
    ∙ sym (append_assoc (replicate i y) (y ∷ []) (drop (i + 1) ys))
    ∙ ap (λ zs. zs ++ drop (i + 1) ys) (replicate_more i y)

pub loop-number-preserved : goal.loop-number-preserved
loop-number-preserved g c = one_more _ _ _ _ c.loop-number-test.true c.loop-number.invariant
