-- `put_row` meets its contract: a row built behind the slots ends their tree.
use Rattle.std.proofs.Common.{ℕ, ◌+◌, ◌∙◌, ap, arith, Ok, Err}
use Rattle.rows.proofs.Laws.{when_built, when_refused}
use Rattle.answer.specs.Answer.{piece}
use Rattle.reader.proofs.Answers.{built, full, bounded_tree, bounded_told, exit, same_refusal}
use Rattle.reader.proofs.part.put_row.Goals as goal

pub overflow_add-result : goal.overflow_add-result
overflow_add-result c = let b = when_built c.build.ensures c.in_ok-k.was in omega (arith, b.count, b.fit, c.requires.0)

pub overflow_cast-result : goal.overflow_cast-result
overflow_cast-result c = let b = when_built c.build.ensures c.in_ok-k.was in omega (arith, b.count, b.fit, c.requires.0)

pub returns-in_err-k : goal.returns-in_err-k
returns-in_err-k c ts lt =
    let b = when_refused c.build.ensures c.in_err-k.was in
    let out = exit c.from_residual.ensures.1 in
    (bounded_told out, λ from bs slots t zs left s e. full bs t s (omega (arith, b.full)) (out ∙ ap Err (same_refusal b.number b.at)))

pub returns : goal.returns
returns c ts lt =
    let b = when_built c.build.ensures c.in_ok-k.was in (
      bounded_tree (omega (arith, b.count, b.fit)) (omega arith) lt,
      λ from bs slots t zs left s e. built bs s (rw c.code.ensures e) (omega (arith, b.fit)) b.pool (ap (λ (k : ℕ). Ok (piece k (c.args.first + k) c.args.c)) b.count),
    )
