-- The answer and the words of the pool: what 0 means, what a larger pool changes, and what stands there for a chain.
use Prim.Native.Nat.{ℕ, ◌+◌, ◌-◌, ◌*◌, ◌/◌, ◌≤◌}
use native.Mathlib.Nat.{add-zero, div-mul-le_self, le-div_iff_mul-le}
use native.Mathlib.Omega.{arith}
use mathlib.Core.Path.{◌≡◌, refl, ap}
use mathlib.Core.List.{append-nil, append_assoc}
use lib.ListN.{replicate-append-replicate}
use Rattle.grammar.specs.Tree.{Trees, nil, ◌▸◌, sizes, lays, width}
use Rattle.grammar.specs.Parsed.{Parsed, refused, read, Unreached}
use Rattle.grammar.specs.Script.{one_expression, one_statement, whole_script, rows, answer, pool}
use Rattle.grammar.specs.Claims.{AnswersChains, Accepts, Accepted, ZeroAccepts, InLargerPool, MoreWords}
use Rattle.grammar.proofs.Laws as laws
use Rattle.grammar.proofs.More.{rows_more}
use Rattle.grammar.proofs.Laws.{never_unreached}

accepts : (p : Parsed Trees) → ((place : ℕ) → ¬ (p ≡ refused Unreached place)) → Accepts p → Accepted p
unfolding answer
accepts (refused n p) h e = absurd (h p (ap (λ (k : ℕ). refused k p) e))
accepts (read us at left) h e = record { trees = us; at = at; left = left; accepted = refl }

pub zero_accepts : ZeroAccepts
zero_accepts rules ts start room = (
  accepts (one_expression rules ts start room) (λ place. (never_unreached rules ts start room place).0),
  accepts (one_statement rules ts start room) (λ place. (never_unreached rules ts start room place).1),
  accepts (whole_script rules ts room) (λ place. (never_unreached rules ts start room place).2),
)

-- A pool's rows hold no more words than it has, and more words are no fewer rows.
rows_fit : (words : ℕ) → width * rows words ≤ words
unfolding rows
rows_fit words = omega (arith, div-mul-le_self words width)

rows_grow : (words more : ℕ) → rows words ≤ rows (words + more)
unfolding rows
rows_grow words more =
    let h : words / width ≤ (words + more) / width =
    (le-div_iff_mul-le {k = width} {x = words / width} {y = words + more} (omega arith)).1 (omega (arith, div-mul-le_self words width)) in
    omega arith

module _ (entry : (room : ℕ) → Parsed Trees)
    (number : (room place : ℕ) → ¬ (entry room ≡ refused Unreached place))
    (spends : (room : ℕ) (us : Trees) (at left : ℕ) → entry room ≡ read us at left → sizes us + left ≡ room)
    (grows : (room more : ℕ) (us : Trees) (at left : ℕ) → entry room ≡ read us at left → entry (room + more) ≡ read us at (left + more))
  where
    larger : InLargerPool entry
    unfolding answer pool
    larger words more h =
        let record { trees = us; at = at; left = left; accepted = e } = accepts (entry (rows words)) (number (rows words)) h in
        let n : sizes us + left ≡ rows words = spends (rows words) us at left e in
        let q : rows words + (rows (words + more) - rows words) ≡ rows (words + more) = omega (arith, rows_grow words more) in
        let z : words + more - width * sizes us ≡ words - width * sizes us + more = omega (arith, rows_fit words) in
        let e' : entry (rows (words + more)) ≡ read us at (left + (rows (words + more) - rows words)) =
        rw q at (grows (rows words) (rows (words + more) - rows words) us at left e) in
        (rw (e, e'), rw (e, e', z) (rw append_assoc (rw replicate-append-replicate)))

pub words_more : MoreWords
words_more rules ts start = (
  larger (λ room. one_expression rules ts start room) (λ room place. (never_unreached rules ts start room place).0)
      (λ room us at left. (laws.rows rules ts start room us at left).0) (λ room more us at left. (rows_more rules ts start room more us at left).0),
  larger (λ room. one_statement rules ts start room) (λ room place. (never_unreached rules ts start room place).1)
      (λ room us at left. (laws.rows rules ts start room us at left).1) (λ room more us at left. (rows_more rules ts start room more us at left).1),
  larger (λ room. whole_script rules ts room) (λ room place. (never_unreached rules ts start room place).2)
      (λ room us at left. (laws.rows rules ts start room us at left).2) (λ room more us at left. (rows_more rules ts start room more us at left).2),
)

pub answers : AnswersChains
unfolding answer pool lays
answers rules ts deep s at used parts g words h =
    let e : one_expression rules ts s (rows words) ≡ read (g.tree ▸ nil) at (rows words - used) = g.accepted (rows words) (rows words - used) (omega arith) in
    (rw (e, add-zero, g.rows_used), rw (e, add-zero, g.rows_used, append-nil))
