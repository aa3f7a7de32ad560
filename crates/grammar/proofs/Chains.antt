-- The grouping condition: a chain of values is a chain of operands, so all that holds of those holds of it.
use Prim.Native.Nat.{ℕ, zero, suc, ◌+◌, ◌-◌, ◌*◌, ◌≤◌, ◌<◌}
use native.Mathlib.Omega.{arith}
use native.Mathlib.Decide.{dec_lt}
use mathlib.Core.Path.{◌≡◌, refl, sym, ap, ◌∙◌}
use mathlib.Core.Bool.{Bool, true, false, cond}
use mathlib.Core.List.{List}
use lib.Dec.{eqb, ltb}
use lib.ListN.{length, get_or-eq_default}
use borrow.Author.Tests.{lt-ltb, le-ltb, eqb-false, ne_eqb}
use Rattle.grammar.specs.Words.{EOF, SSemiColon, SDot, tok, step, is, next_is, class, code, by_code, orders, Zero, order, infix_of, goes_on}
use Rattle.grammar.specs.Tree.{Tree, ended, size}
use Rattle.grammar.specs.Parsed.{read, ◌>>=◌, ◌>>◌, need, build, choose, match, turns}
use Rattle.grammar.specs.Rules.{Rules}
use Rattle.grammar.specs.Expressions.{Rec, get_identifier, dot_expression, prefix_part, level, expression}
use Rattle.grammar.specs.Script.{nesting}
use Rattle.grammar.specs.Claims.{Part, Value, an_identifier, an_integer, a_float, a_char, a_string, a_true, a_false, a_none, Chain, one, more}
use Rattle.grammar.specs.Claims.{Ended, plainly, by_semicolons, GroupsChains, DivMulMod, Operands, final, further, rows_of}
use Rattle.grammar.proofs.Steps.{others, zero_stops, no_infix, infix_goes_on, infix_facts}
use Rattle.grammar.proofs.Operands.{stopped, operands}

-- A value's word has the order Zero and is neither a semicolon nor EOF; it takes one row, and is read so where no dot follows.
record Valued (w : ℕ) (row : ℕ → Tree) : Type 0 where
  zero_order : order w ≡ Zero
  no_semicolon : eqb w SSemiColon ≡ false
  no_end : eqb w EOF ≡ false
  one_row : (s : ℕ) → size (ended s (row s)) ≡ 1
  reads : (rules : Rules) (ts : List ℕ) (rec : Rec) (s m : ℕ) → tok ts s ≡ w → eqb (tok ts (step ts s)) SDot ≡ false → prefix_part rules ts rec s (suc m) ≡ read (ended s (row s)) s m

valued : {w : ℕ} {row : ℕ → Tree} → Value w row → Valued w row
unfolding order by_code orders class code prefix_part match choose build dot_expression get_identifier need ◌>>◌ ◌>>=◌ is next_is
valued an_identifier = record { zero_order = refl; no_semicolon = refl; no_end = refl; one_row = λ s. refl; reads = λ rules ts rec s m e h. rw (e, h) }
valued an_integer = record { zero_order = refl; no_semicolon = refl; no_end = refl; one_row = λ s. refl; reads = λ rules ts rec s m e h. rw e }
valued a_float = record { zero_order = refl; no_semicolon = refl; no_end = refl; one_row = λ s. refl; reads = λ rules ts rec s m e h. rw e }
valued a_char = record { zero_order = refl; no_semicolon = refl; no_end = refl; one_row = λ s. refl; reads = λ rules ts rec s m e h. rw e }
valued a_string = record { zero_order = refl; no_semicolon = refl; no_end = refl; one_row = λ s. refl; reads = λ rules ts rec s m e h. rw e }
valued a_true = record { zero_order = refl; no_semicolon = refl; no_end = refl; one_row = λ s. refl; reads = λ rules ts rec s m e h. rw e }
valued a_false = record { zero_order = refl; no_semicolon = refl; no_end = refl; one_row = λ s. refl; reads = λ rules ts rec s m e h. rw e }
valued a_none = record { zero_order = refl; no_semicolon = refl; no_end = refl; one_row = λ s. refl; reads = λ rules ts rec s m e h. rw e }

-- A loop has turns. A semicolon stops it, and no dot has the order Zero.
some_turns : turns ≡ suc (turns - 1)
unfolding turns
some_turns = refl

semicolon_stops : (pre w : ℕ) → w ≡ SSemiColon → goes_on pre w ≡ false
unfolding goes_on
semicolon_stops pre w e = rw e

zero_dot : (w : ℕ) → order w ≡ Zero → eqb w SDot ≡ false
unfolding order by_code orders class code
zero_dot w e = ne_eqb w SDot (λ q. let z : ◌≡◌ {A = ℕ} 14 0 = rw q at e in omega arith)

module _ (rules : Rules) (ts : List ℕ) where
  -- What holds of the word at a place and of the one behind it holds of the next.
  next : (P : ℕ → Type 0) (at : ℕ) → P (tok ts at) → P (tok ts (at + 1)) → P (tok ts (step ts at))
  unfolding step
  next P at h k = go (ltb (at + 1) (length ts))
    where
      go : (b : Bool) → P (tok ts (cond b (at + 1) at))
      go true = k
      go false = h

  inside : (p : ℕ) → ¬ (tok ts p ≡ EOF) → p < length ts
  unfolding tok
  inside p h = go (dec_lt p (length ts))
    where
      go : Dec (p < length ts) → p < length ts
      go (yes lt) = lt
      go (no ge) = let le : length ts ≤ p = omega arith in absurd (h (get_or-eq_default ts EOF le))

  steps : (at : ℕ) → at + 1 < length ts → step ts at ≡ at + 1
  unfolding step
  steps at h = rw (lt-ltb (at + 1) (length ts) h)

  -- A value is an operand: where an operator or an end follows, and where a semicolon does.
  module _ (s : ℕ) (row : ℕ → Tree) (v : Valued (tok ts s) row) where
    value_operand : eqb (tok ts (step ts s)) SDot ≡ false → eqb (tok ts (step ts s)) SSemiColon ≡ false → goes_on DivMulMod (tok ts (step ts s)) ≡ false
        → expression rules ts 1 DivMulMod s (size (ended s (row s))) ≡ read (ended s (row s)) s 0
    unfolding expression level next_is is choose ◌>>=◌
    value_operand dot semi stop =
        rw (v.one_row s, v.reads rules ts (expression rules ts 0) s 0 refl dot, semi, some_turns) (stopped rules ts (expression rules ts 0) DivMulMod (turns - 1) (ended s (row s)) s 0 stop)

    value_semicolon : tok ts (step ts s) ≡ SSemiColon → expression rules ts 1 DivMulMod s (size (ended s (row s))) ≡ read (ended s (row s)) (step ts s) 0
    unfolding expression level next_is is choose ◌>>=◌
    value_semicolon semi = rw (v.one_row s, v.reads rules ts (expression rules ts 0) s 0 refl (rw semi), semi)

  -- Behind the last value: where the reader stands, and that the loop stops there.
  record Last (s c : ℕ) (row : ℕ → Tree) : Type 0 where
    last : expression rules ts 1 DivMulMod s (size (ended s (row s))) ≡ read (ended s (row s)) c 0
    stops : goes_on Zero (tok ts (step ts c)) ≡ false

  at_end : (s c : ℕ) (row : ℕ → Tree) → Valued (tok ts s) row → Ended ts s c → Last s c row
  at_end s c row v (plainly z n dot) =
      let z' : order (tok ts (step ts s)) ≡ Zero = next (λ w. order w ≡ Zero) s v.zero_order z in
      let n' : eqb (tok ts (step ts s)) SSemiColon ≡ false = next (λ w. eqb w SSemiColon ≡ false) s v.no_semicolon (ne_eqb _ SSemiColon n) in
      record { last = value_operand s row v (zero_dot _ z') n' (zero_stops DivMulMod _ z'); stops = zero_stops Zero _ z' }
  at_end s c row v (by_semicolons i h z n) =
      let here : s + 1 + 0 ≡ s + 1 = omega arith in
      let first : tok ts (s + 1) ≡ SSemiColon = rw here at (h 0 (omega arith)) in
      let on : step ts s ≡ s + 1 = steps s (inside (s + 1) (λ q. let e : EOF ≡ SSemiColon = sym q ∙ first in omega arith)) in
      record {
        last = rw on at (value_semicolon s row v (rw on first));
        stops = next (λ w. goes_on Zero w ≡ false) (s + 1) (semicolon_stops Zero _ first) (behind i h z);
      }
    where
      behind : (i : ℕ) → ((j : ℕ) → j ≤ i → tok ts (s + 1 + j) ≡ SSemiColon) → order (tok ts (s + 2 + i)) ≡ Zero → goes_on Zero (tok ts (s + 1 + 1)) ≡ false
      behind zero h z = let e : s + 2 + 0 ≡ s + 1 + 1 = omega arith in zero_stops Zero (tok ts (s + 1 + 1)) (rw e at z)
      behind (suc i) h z = semicolon_stops Zero (tok ts (s + 1 + 1)) (h 1 (omega arith))

  -- A chain of n values starts in the array and takes 2n - 1 rows.
  places : {s n : ℕ} {parts : List Part} → Chain ts s n parts → (1 ≤ n) × (s < length ts) × (rows_of parts + 1 ≡ 2 * n)
  unfolding rows_of
  places {s} (one v) = let x = valued v in (omega arith, inside s (eqb-false _ _ x.no_end), omega (arith, x.one_row s))
  places {s} (more v i c) = let x = valued v in (omega arith, inside s (eqb-false _ _ x.no_end), omega (arith, places c, x.one_row s))

  chain_operands : {s n : ℕ} {parts : List Part} (e c : ℕ) → Chain ts s n parts → s + 2 * n ≡ e + 2 → Ended ts e c
      → Operands rules ts 1 s c parts × (goes_on Zero (tok ts (step ts c)) ≡ false)
  chain_operands {s} e c (one {row} v) q h =
      let here : e ≡ s = omega arith in
      let l = at_end s c row (valued v) (rw here at h) in
      (final l.last, l.stops)
  chain_operands {s} e c (more {mark} {row} {parts} v i r) q h =
      let x = chain_operands e c r (omega arith) h in
      let w : ℕ = tok ts (s + 1) in
      let some : ltb 0 (infix_of w) ≡ true = lt-ltb 0 (infix_of w) (omega arith) in
      let on : step ts s ≡ s + 1 = steps s (inside (s + 1) (λ z. omega (arith, others.eof, ap infix_of z))) in
      let on' : step ts (s + 1) ≡ s + 2 = steps (s + 1) (omega (arith, places r)) ∙ omega arith in
      let high : goes_on DivMulMod w ≡ false = infix_goes_on DivMulMod w some ∙ le-ltb DivMulMod (order w) (infix_facts w (omega arith)).most in
      let first =
      value_operand s row (valued v) (rw on (no_infix SDot w others.dot some)) (rw on (no_infix SSemiColon w others.semicolon some))
      (rw on high) in
      let rest : Operands rules ts 1 (step ts (s + 1)) c parts = rw on' x.0 in
      (further first (eqb-false _ _ (valued v).no_semicolon) on i rest, x.1)

pub chains : GroupsChains
unfolding nesting
chains rules ts s n at parts valid chain end =
    let p = places rules ts chain in
    let x = chain_operands rules ts (s + 2 * n - 2) at chain (omega (arith, p)) end in
    let e : 2 * n - 1 ≡ rows_of parts = omega (arith, p) in
    rw e (operands rules ts 1 s at parts valid x.0 x.1 (omega arith))
