-- `enter` meets its contract: checked, read into the rows of a cleared pool, and finished with.
use Rattle.std.proofs.Common.{ap, arith, length, replicate, sym, ℕ, ◌*◌, ◌∙◌, ◌≡◌}
use lib.ListN.{length-replicate}
use Rattle.grammar.specs.Script.{rows}
use Rattle.reader.specs.Entries.{enters}
use Rattle.reader.proofs.Answers.{by_eq, exit}
use Rattle.reader.proofs.Wholes.{begins, passed, denied, few_words, lent_zeros, ready_whole, all_rows, reads_alone, alone_by, finished, unread}
use Rattle.grammar.specs.Tree.{width}
use Rattle.reader.proofs.enter.Goals as goal

pub slice_bounds-read-end : goal.slice_bounds-read-end
slice_bounds-read-end c = omega (arith, c.end-n.ensures ∙ ap (λ (i : ℕ). width * i) (c.count.ensures ∙ ap rows c.clear.auto.pool), few_words (length c.args.pool.now), c.clear.auto.pool)

pub read-r-requires : goal.read-r-requires
read-r-requires c =
    let n : ℕ = length c.args.pool.now in
    let room : c.end-n.result ≡ width * rows n = c.end-n.ensures ∙ ap (λ (i : ℕ). width * i) (c.count.ensures ∙ ap rows c.clear.auto.pool) in
    let begun = begins c.args.tokens.now c.args.start (sym c.check.ensures ∙ c.in_ok-c.was) in
    let lent = lent_zeros c.end-n.result n c.clear.ensures (omega (arith, room, few_words n)) ∙ ap (λ (i : ℕ). replicate {A = ℕ} i 0) room in
    ready_whole n begun.0.good (rw begun.1 begun.0.within) (ap length lent ∙ length-replicate (width * rows n) 0)

pub returns : goal.returns
unfolding enters
returns c =
    let n : ℕ = length c.args.pool.now in
    let room : c.end-n.result ≡ width * rows n = c.end-n.ensures ∙ ap (λ (i : ℕ). width * i) (c.count.ensures ∙ ap rows c.clear.auto.pool) in
    let begun = begins c.args.tokens.now c.args.start (sym c.check.ensures ∙ c.in_ok-c.was) in
    let lent = lent_zeros c.end-n.result n c.clear.ensures (omega (arith, room, few_words n)) ∙ ap (λ (i : ℕ). replicate {A = ℕ} i 0) room in
    finished n c.end-n.result c.clear.ensures room (alone_by (passed _ begun.0) (reads_alone _ _ _ _ _)) c.read-r.auto.pool
    (by_eq (passed _ begun.0) (rw (begun.1, all_rows n lent) at c.read-r.ensures)) c.finish.ensures.0 c.finish.ensures.1

pub returns-in_err-c : goal.returns-in_err-c
unfolding enters
returns-in_err-c c = unread (length c.args.pool.now) (denied c.args.tokens.now c.args.start _ (sym c.check.ensures ∙ c.in_err-c.was)) (exit c.from_residual.ensures.1) c.clear.ensures
