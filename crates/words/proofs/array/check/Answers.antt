-- `words::check` meets its contract. Assumes nothing.
use Rattle.std.proofs.Common.{ℕ, ◌+◌, ◌-◌, ◌≤◌, ◌<◌, ◌≡◌, sym, ◌∙◌, true, false, List, length, get_or, take, drop, arith, Err, Result}
use Rattle.std.proofs.lemmas.List.{length-take-le, get_or-take}
use borrow.Author.Tests.{eqb-true, lt-ltb, lt-leb, ne_eqb, eqb-false}
use lib.Dec.{eqb}
use Rattle.grammar.specs.Words.{EOF, class, code, codes, valid}
use Rattle.grammar.specs.Parsed.{need, BadArray}
use Rattle.grammar.specs.Script.{both, words_good, array_good, longest}
use Rattle.refusals.specs.Refusal.{Numbered, refusal, checked}
use Rattle.words.proofs.Arrays.{inner, sized, good_on, bad_here, good_last}
use Rattle.words.proofs.array.check.Goals.{then-is_empty-via-then-is_empty, then-is_empty-via-else-is_empty+then-tokens-gt-LONGEST, then-word-eq-EOF-via-then-word-eq-EOF, then-word-eq-EOF-via-else-word-eq-EOF+then-not-is_valid}
use Rattle.words.proofs.array.check.Goals as goal

-- One of the words before the last is a word of the array that another follows.
inside : (ts : List ℕ) (at : ℕ) → at < length (take (length ts - 1) ts) → (at + 1 < length ts) × (get_or (take (length ts - 1) ts) at 0 ≡ get_or ts at 0)
inside ts at more =
    let e = length-take-le (length ts - 1) ts (omega arith) in
    let here : at < length ts - 1 = omega arith in
    (omega arith, get_or-take (length ts - 1) ts at 0 here)

-- The check of an array whose words before a place are good is that of the words from there on.
whole : (ts : List ℕ) (at : ℕ) → eqb (length ts) 0 ≡ false → length ts ≤ 32768 → words_good 0 ts ≡ words_good at (drop at ts) → array_good ts ≡ words_good at (drop at ts)
whole ts at some few rest = sized ts (omega (arith, eqb-false (length ts) 0 some)) few ∙ rest

-- A word that may not stand before the last.
wrong : (ts : List ℕ) (at : ℕ) → eqb (length ts) 0 ≡ false → length ts ≤ 32768 → words_good 0 ts ≡ words_good at (drop at ts)
    → at < length (take (length ts - 1) ts) → inner (get_or (take (length ts - 1) ts) at 0) ≡ false → ◌≡◌ {A = Result Unit Numbered} (Err (refusal BadArray at)) (checked (array_good ts) tt)
wrong ts at some few rest more here =
    let i = inside ts at more in
    rw (whole ts at some few rest, bad_here ts at i.0 (rw i.1 at here))

-- All words before the last are good.
ended : (ts : List ℕ) (at : ℕ) → eqb (length ts) 0 ≡ false → length ts ≤ 32768 → words_good 0 ts ≡ words_good at (drop at ts)
    → at ≤ length (take (length ts - 1) ts) → length (take (length ts - 1) ts) ≤ at
    → array_good ts ≡ need (eqb (get_or ts (length ts - 1) 0) EOF) BadArray (length ts - 1)
ended ts at some few rest here out =
    let more : 0 < length ts = omega (arith, eqb-false (length ts) 0 some) in
    let e = length-take-le (length ts - 1) ts (omega arith) in
    let at_last : at ≡ length ts - 1 = omega arith in
    let last : length ts - 1 + 1 ≡ length ts = omega arith in
    rw at_last at (whole ts at some few rest) ∙ good_last ts (length ts - 1) last

pub returns-then-is_empty : goal.returns-then-is_empty
unfolding array_good longest both need
returns-then-is_empty c = elim c.then-is_empty.branch [
  | then-is_empty-via-then-is_empty w ↦ c.bad.ensures ∙ rw (eqb-true (length c.args.tokens.now) 0 (sym c.is_empty.ensures ∙ w.if-is_empty.true))
  | then-is_empty-via-else-is_empty+then-tokens-gt-LONGEST w ↦ (let some : 0 < length c.args.tokens.now = omega arith in c.bad.ensures ∙ rw (lt-ltb _ _ some, lt-leb _ _ w.if-tokens-gt-LONGEST.true))
]

pub returns-then-word-eq-EOF : goal.returns-then-word-eq-EOF
unfolding valid class code codes
returns-then-word-eq-EOF c =
    c.bad-then-word-eq-EOF.ensures ∙ wrong c.args.tokens.now c.loop-at.at (sym c.is_empty.ensures ∙ c.if-is_empty.false) c.if-tokens-gt-LONGEST.false c.loop-at.invariant c.loop-at-test.true
    (elim c.then-word-eq-EOF.branch [
      | then-word-eq-EOF-via-then-word-eq-EOF w ↦ rw w.if-word-eq-EOF.true
      | then-word-eq-EOF-via-else-word-eq-EOF+then-not-is_valid w ↦ rw (sym w.is_valid.ensures ∙ w.if-not-is_valid.true)
    ])

pub loop-at-preserved : goal.loop-at-preserved
loop-at-preserved c =
    let ts : List ℕ = c.args.tokens.now in
    let i = inside c.args.tokens.now c.loop-at.at c.loop-at-test.true in
    let good : inner (get_or (take (length c.args.tokens.now - 1) c.args.tokens.now) c.loop-at.at 0) ≡ true = rw (sym c.is_valid.ensures ∙ c.if-not-is_valid.false, ne_eqb _ _ c.if-word-eq-EOF.false) in
    c.loop-at.invariant ∙ good_on c.args.tokens.now c.loop-at.at i.0 (rw i.1 at good)

pub returns-then-tokens-last-eq-EOF : goal.returns-then-tokens-last-eq-EOF
unfolding need
returns-then-tokens-last-eq-EOF c =
    rw (ended c.args.tokens.now c.loop-at.at (sym c.is_empty.ensures ∙ c.if-is_empty.false) c.if-tokens-gt-LONGEST.false c.loop-at.invariant c.loop-at.auto.at-end c.loop-at-test.false, c.if-tokens-last-eq-EOF.true)

pub returns-else-tokens-last-eq-EOF : goal.returns-else-tokens-last-eq-EOF
unfolding need
returns-else-tokens-last-eq-EOF c =
    c.bad-else-tokens-last-eq-EOF.ensures ∙ rw (ended c.args.tokens.now c.loop-at.at (sym c.is_empty.ensures ∙ c.if-is_empty.false) c.if-tokens-gt-LONGEST.false c.loop-at.invariant c.loop-at.auto.at-end c.loop-at-test.false, ne_eqb _ _ c.if-tokens-last-eq-EOF.false)
