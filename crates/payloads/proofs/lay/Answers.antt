-- `lay` meets its contract: each turn lays where a field begins, and goes on behind its payload.
use Rattle.std.proofs.Common.{◌≡◌, ℕ, List, Ok, length, take, length-take-le, sym, ◌∙◌, arith}
use Rattle.files.specs.Entry.{answered}
use Rattle.payloads.specs.Index.{held, most_fields}
use Rattle.payloads.proofs.Hop.{begun, few, ended, next}
use Rattle.payloads.proofs.lay.Goals as goal

-- the front of the index has as many words as the file has fields
front : (file starts : List ℕ) {count : ℕ} → answered (held file) ≡ Ok count → length starts ≡ most_fields → length (take count starts) ≡ count
front file starts {count} e h = length-take-le count starts (omega (arith, few file e))

pub slice_bounds-start-items-end : goal.slice_bounds-start-items-end
slice_bounds-start-items-end c = omega (arith, few c.args.file.now c.requires)

pub slice_bounds-start-items-end-2 : goal.slice_bounds-start-items-end-2
slice_bounds-start-items-end-2 c = sym (front c.args.file.now c.args.starts.now c.requires c.told-starts)

pub loop-start-init : goal.loop-start-init
loop-start-init c = begun c.args.file.now _ c.args.count c.requires

pub overflow_cast-start : goal.overflow_cast-start
overflow_cast-start c =
    let all = front c.args.file.now c.args.starts.now c.requires c.told-starts in
    let n = next c.loop-start.invariant (omega (arith, all, c.loop-start-test.true)) in
    omega (arith, n.inside, c.loop-start.invariant.short)

pub overflow_add-at : goal.overflow_add-at
overflow_add-at c =
    let all = front c.args.file.now c.args.starts.now c.requires c.told-starts in
    let n = next c.loop-start.invariant (omega (arith, all, c.loop-start-test.true)) in
    record { fits = omega (arith, n.ends, c.size_at.ensures ∙ n.is) }

pub overflow_add-at-in-loop-start : goal.overflow_add-at-in-loop-start
overflow_add-at-in-loop-start c =
    let all = front c.args.file.now c.args.starts.now c.requires c.told-starts in
    let n = next c.loop-start.invariant (omega (arith, all, c.loop-start-test.true)) in
    record { fits = omega (arith, n.ends, c.size_at.ensures ∙ n.is) }

pub loop-start-preserved : goal.loop-start-preserved
loop-start-preserved c =
    let all = front c.args.file.now c.args.starts.now c.requires c.told-starts in
    let n = next c.loop-start.invariant (omega (arith, all, c.loop-start-test.true)) in
    rw (c.size_at.ensures ∙ n.is) (n.on c.loop-start-test.true)

pub returns : goal.returns
returns c =
    let all = front c.args.file.now c.args.starts.now c.requires c.told-starts in
    rw (ended c.loop-start.invariant (omega (arith, all, c.loop-start-test.false)) all)
