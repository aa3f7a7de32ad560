-- `fill` meets its contract: a pass over the fields, each word stored behind those before it.
use Rattle.std.proofs.Common.{rules, ◌≡◌, ℕ, ◌-◌, ◌≤◌, ◌<◌, true, false, List, ◌++◌, Result, Ok, Err, length, take, drop, length-set, length-drop, take_all, refl, sym, ap, ◌∙◌, arith}
use borrow.Author.Tests.{le-leb, lt-leb}
use Rattle.std.specs.Result.{MatchResult, IsErrAnd, is_ok}
use Rattle.std.proofs.lemmas.Result.{err_from_is_err_and}
use Rattle.refusals.specs.Refusal.{Numbered, refusal}
use Rattle.refusals.specs.Reasons.{number as number_of}
use Rattle.refusals.specs.declared.Reason.{Reason}
use Rattle.fields.specs.declared.Field.{Field}
use Rattle.fields.specs.Field.{first}
use Rattle.files.specs.File.{Content, read, refused, NoRoom, TooLong, most, fields}
use Rattle.files.specs.Entry.{within, content, answered}
use Rattle.files.proofs.Pass.{begun, ended, stopped, on, turned}
use Rattle.files.proofs.fill.Goals as goal
use Rattle.files.proofs.fill.Goals.{then-count-words, else-count-words}

-- what is promised of an answer and of the buffer then
abbrev Promised : Content → Result ℕ Numbered → (buffer words : List ℕ) → Type 0
Promised c r buffer words = (r ≡ answered c) × ((ws : List ℕ) → c ≡ read ws → words ≡ ws ++ drop (length ws) buffer)

-- a refusal keeps it, whatever the buffer
refuses : {n place : ℕ} {c : Content} → c ≡ refused n place → {e : Numbered} → e ≡ refusal n place → (buffer words : List ℕ) → Promised c (Err e) buffer words
refuses e f buffer words =
    (rw (e, f), λ ws f. let z : ◌≡◌ {A = ℕ} 0 1 = cc in absurd (omega arith))

-- words that stand at the front of the buffer keep it, with their count
accepts : {done : List ℕ} {count : ℕ} {c : Content} → c ≡ read done → length done ≡ count → (buffer words : List ℕ)
    → words ≡ done ++ drop count buffer → Promised c (Ok count) buffer words
accepts {done} e counted buffer words f = (rw (e, counted), λ ws g. let same : ws ≡ done = cc in rw (same, counted) f)

-- what a file gives: too long, a bad field, too many fields, and fields that the buffer has room for
module _ (bytes : List ℕ) (room : ℕ) where
  long : most < length bytes → content bytes room ≡ refused TooLong 0
  unfolding content
  long h = rw (lt-leb _ most h)

  module _ (h : length bytes ≤ most) where
    bad : {n number : ℕ} → fields (length bytes) 0 bytes ≡ refused n number → content bytes room ≡ refused n number
    unfolding content within
    bad e = rw (le-leb _ most h, e)

    short : {ws : List ℕ} → fields (length bytes) 0 bytes ≡ read ws → room < length ws → content bytes room ≡ refused NoRoom 0
    unfolding content within
    short e l = rw (le-leb _ most h, e, lt-leb _ _ l)

    whole : {ws : List ℕ} → fields (length bytes) 0 bytes ≡ read ws → length ws ≤ room → content bytes room ≡ read ws
    unfolding content within
    whole e l = rw (le-leb _ most h, e, le-leb _ _ l)

-- the field that a pass sees from where it stands, and what is made of it
module _ (bytes : List ℕ) (at : ℕ) {r : Result Field Reason} (e : r ≡ first (take (length bytes - at) (drop at bytes))) where
  seen : r ≡ first (drop at bytes)
  seen =
      let ahead : length (drop at bytes) ≤ length bytes - at = simp length-drop (omega arith) in
      e ∙ rw (take_all _ (drop at bytes) ahead)

  -- a good one is answered as it is, and a bad one otherwise
  module _ {m : Result Field Numbered} (Q : Reason → Type 0) where
    good : (s : Result Field Reason) → r ≡ s → MatchResult s (λ x. m ≡ Ok x) Q → is_ok m ≡ is_ok s → {f : Field} → m ≡ Ok f → first (drop at bytes) ≡ Ok f
    good (Ok x) g k v {f} h = let same : x ≡ f = cc in sym seen ∙ g ∙ ap Ok same
    good (Err d) g k v h = let z : false ≡ true = cc in absurd (grind arith)

  module _ {m : Result Field Numbered} (R : Reason → Numbered → Type 0) (count : ℕ) where
    refusal_of : (s : Result Field Reason) → r ≡ s → MatchResult s (λ x. m ≡ Ok x) (λ x. IsErrAnd m (R x)) → ((x : Reason) (d : Numbered) → R x d → d ≡ refusal (number_of x) count)
        → {d : Numbered} → m ≡ Err d → (x : Reason) × (first (drop at bytes) ≡ Err x) × (d ≡ refusal (number_of x) count)
    refusal_of (Ok x) g k t h = let z : false ≡ true = cc in absurd (grind arith)
    refusal_of (Err x) g k t {d} h =
        let p = err_from_is_err_and m k in
        let same : p.0 ≡ d = cc (p.1, h) in
        (x, sym seen ∙ g, sym same ∙ t x p.0 p.2)

pub returns-then-bytes-gt-MOST : goal.returns-then-bytes-gt-MOST
returns-then-bytes-gt-MOST c =
    let p = refuses (long c.args.bytes.now (length c.args.words.now) c.if-bytes-gt-MOST.true) c.new.ensures c.args.words.now c.args.words.now in
    record { answer = p.0; front = p.1 }

pub loop-at-init : goal.loop-at-init
loop-at-init c = begun c.args.bytes.now c.args.words.now

pub returns-in_err-field : goal.returns-in_err-field
returns-in_err-field c =
    let b = refusal_of c.args.bytes.now c.loop-at.at c.first_field-found.ensures _ c.loop-at.count _ refl c.map_err.ensures.cases (λ x d k. search rules) c.in_err-field.was in
    let p = err_from_is_err_and c.from_residual.result c.from_residual.ensures.1 in
    let given = bad c.args.bytes.now (length c.args.words.now) c.if-bytes-gt-MOST.false (stopped c.loop-at.invariant c.loop-at-test.true b.1) in
    let q = refuses given (p.2 ∙ b.2) c.args.words.now c.loop-at.words in
    record { answer = p.1 ∙ q.0; front = q.1 }

pub overflow_add-at : goal.overflow_add-at
overflow_add-at c =
    let found = good c.args.bytes.now c.loop-at.at c.first_field-found.ensures _ _ refl c.map_err.ensures.cases c.map_err.ensures.variant c.in_ok-field.was in
    omega (arith, on c.loop-at.invariant c.loop-at-test.true found)

pub loop-at-smaller : goal.loop-at-smaller
loop-at-smaller c =
    let found = good c.args.bytes.now c.loop-at.at c.first_field-found.ensures _ _ refl c.map_err.ensures.cases c.map_err.ensures.variant c.in_ok-field.was in
    omega (arith, on c.loop-at.invariant c.loop-at-test.true found)

pub loop-at-preserved : goal.loop-at-preserved
loop-at-preserved c =
    let pass = c.loop-at.invariant in
    let found = good c.args.bytes.now c.loop-at.at c.first_field-found.ensures _ _ refl c.map_err.ensures.cases c.map_err.ensures.variant c.in_ok-field.was in
    let go = turned pass c.loop-at-test.true found c.if-count-words.words in
    elim c.if-count-words.branch [
      | then-count-words w ↦ go (rw w.words-is (simp length-set pass.same)) (λ h. w.words-is)
      | else-count-words w ↦ go (rw w.words-is pass.same) (λ h. absurd (omega (arith, w.if-count-words.false, pass.same)))
    ]

pub returns-then-words-count : goal.returns-then-words-count
returns-then-words-count c =
    let pass = c.loop-at.invariant in
    let less : length c.args.words.now < length pass.done = omega (arith, pass.counted, pass.same, c.if-words-count.true) in
    let given = short c.args.bytes.now (length c.args.words.now) c.if-bytes-gt-MOST.false (ended pass c.loop-at-test.false) less in
    let p = refuses given c.new-then-words-count.ensures c.args.words.now c.loop-at.words in
    record { answer = p.0; front = p.1 }

pub returns : goal.returns
returns c =
    let pass = c.loop-at.invariant in
    let fit : length pass.done ≤ length c.args.words.now = omega (arith, pass.counted, pass.same, c.if-words-count.false) in
    let given = whole c.args.bytes.now (length c.args.words.now) c.if-bytes-gt-MOST.false (ended pass c.loop-at-test.false) fit in
    let p = accepts given pass.counted c.args.words.now c.loop-at.words (pass.front (omega (arith, pass.counted))) in
    record { answer = p.0; front = p.1 }
