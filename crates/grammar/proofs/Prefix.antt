-- What is read above all infix operators is what a reading above a lower order begins with.
use Prim.Native.Nat.{ℕ, zero, suc, ◌+◌, ◌≤◌, ◌<◌}
use mathlib.Core.Path.{◌≡◌, refl, sym, ◌∙◌}
use mathlib.Core.Bool.{Bool, true, false}
use mathlib.Core.List.{List}
use mathlib.Core.Logic.{◌⊎◌, inl, inr}
use native.Mathlib.Omega.{arith}
use lib.Dec.{eqb}
use borrow.Author.Tests.{eqb-true}
use Rattle.grammar.specs.Words.{SSemiColon, tok, step, is, next_is, goes_on}
use Rattle.grammar.specs.Tree.{Tree}
use Rattle.grammar.specs.Parsed.{Parsed, refused, read, ◌>>=◌, choose, turns}
use Rattle.grammar.specs.Rules.{Rules}
use Rattle.grammar.specs.Expressions.{Rec, prefix_part, operation, climb, level}
use Rattle.grammar.specs.Claims.{DivMulMod}
use Rattle.grammar.proofs.Steps.{goes_on_up}
use Rattle.grammar.proofs.Post.{Post}
use Rattle.grammar.proofs.Turns.{Valid, goes_forward, no_end}
use Rattle.grammar.proofs.Runs.{Above, Shut, Behind, shut_behind, operation_runs, prefix_part_runs}
use lib.ListN.{length}

-- Where the loop goes on, it goes on above every lower order too.
lower : (pre pre' w : ℕ) → pre ≤ pre' → goes_on pre' w ≡ true → goes_on pre w ≡ true
lower pre pre' w h e = go (goes_on pre w) refl
  where
    go : (b : Bool) → goes_on pre w ≡ b → b ≡ true
    go true q = refl
    go false q = sym (goes_on_up pre pre' w h q) ∙ e

module _ (rules : Rules) (ts : List ℕ) (rec : Rec) (pre : ℕ) where
  -- y is the loop with the tree t in hand, and of F turns at the place s no more are spent than places were passed.
  pub record Led (F s : ℕ) (t : Tree) (c m : ℕ) (y : Parsed Tree) : Type 0 where
    pub turn : ℕ
    pub same : y ≡ climb rules ts rec pre (suc turn) t c m
    pub enough : F + s ≤ suc turn + c

  -- The same, where x accepts.
  abbrev Leads : (F s : ℕ) → Parsed Tree → Parsed Tree → Type 0
  Leads F s (refused n p) y = Unit {0}
  Leads F s (read t c m) y = Led F s t c m y

  -- The same from an expression's start: or else both end on the semicolon behind its prefix part.
  abbrev pub Begins : (s : ℕ) → Parsed Tree → Parsed Tree → Type 0
  Begins s (refused n p) y = Unit {0}
  Begins s (read t c m) y = ((y ≡ read t c m) × (tok ts c ≡ SSemiColon)) ⊎ Led turns s t c m y

  leads_more : (F s s' : ℕ) (x y : Parsed Tree) → s < s' → Leads F s' x y → Leads (suc F) s x y
  leads_more F s s' (refused n p) y h l = tt
  leads_more F s s' (read t c m) y h l = record { turn = l.turn; same = l.same; enough = omega (arith, l.enough) }

  turn_leads : (F s r s' n : ℕ) (x : Parsed Tree) (f g : Tree × ℕ × ℕ → Parsed Tree) → s < s' → Post (Behind ts DivMulMod r s' n) x
      → ((t : Tree) (c m : ℕ) → Behind ts DivMulMod r s' n t c m → Leads F c (f (t, c, m)) (g (t, c, m))) → Leads (suc F) s (x >>= f) (x >>= g)
  unfolding ◌>>=◌
  turn_leads F s r s' n (refused e p) f g lt h k = tt
  turn_leads F s r s' n (read t c m) f g lt h k = leads_more F s c (f (t, c, m)) (g (t, c, m)) (omega (arith, h.run.on)) (k t c m h)

  led : (s s' : ℕ) (x y : Parsed Tree) → s ≤ s' → Leads turns s' x y → Begins s x y
  led s s' (refused n p) y h l = tt
  led s s' (read t c m) y h l = inr (record { turn = l.turn; same = l.same; enough = omega (arith, l.enough) })

  begins_then : (s n : ℕ) (x : Parsed Tree) (f g : Tree × ℕ × ℕ → Parsed Tree) → Post (Shut ts s s n) x
      → ((t : Tree) (c m : ℕ) → Shut ts s s n t c m → Begins s (f (t, c, m)) (g (t, c, m))) → Begins s (x >>= f) (x >>= g)
  unfolding ◌>>=◌
  begins_then s n (refused e p) f g h k = tt
  begins_then s n (read t c m) f g h k = k t c m h

module _ (rules : Rules) (ts : List ℕ) (v : Valid ts) (rec : Rec) (ih : (pre at room : ℕ) → at < length ts → Post (Above ts pre at room) (rec pre at room))
    (pre : ℕ) (small : pre ≤ DivMulMod)
  where
    climb_leads : (i s p n : ℕ) (t : Tree) (at room : ℕ) → Behind ts DivMulMod s p n t at room
        → Leads rules ts rec pre i at (climb rules ts rec DivMulMod i t at room) (climb rules ts rec pre i t at room)
    unfolding climb choose
    climb_leads zero s p n t at room b = tt
    climb_leads (suc i) s p n t at room b = go (goes_on DivMulMod (tok ts (step ts at))) refl (climb_leads i s (step ts at) n)
      where
        again : (pre : ℕ) → Tree × ℕ × ℕ → Parsed Tree
        again pre (t, at, room) = climb rules ts rec pre i t at room

        go : (b : Bool) → goes_on DivMulMod (tok ts (step ts at)) ≡ b
            → ((t : Tree) (c m : ℕ) → Behind ts DivMulMod s (step ts at) n t c m → Leads rules ts rec pre i c (climb rules ts rec DivMulMod i t c m) (climb rules ts rec pre i t c m))
            → Leads rules ts rec pre (suc i) at (choose b (λ _. operation rules ts rec t (step ts at) room >>= again DivMulMod) (λ _. read t at room))
            (climb rules ts rec pre (suc i) t at room)
        go true e more =
            let w : ℕ = tok ts (step ts at) in
            rw (lower pre DivMulMod w small e)
            (turn_leads rules ts rec pre i at s (step ts at) n _ _ _ (goes_forward ts v at b.run.within (inr (no_end DivMulMod w e)))
            (operation_runs ts v rules rec ih DivMulMod s p n t at room b e) more)
        go false e more = record { turn = i; same = refl; enough = omega arith }

    pub level_begins : (s room : ℕ) → s < length ts → Begins rules ts rec pre s (level rules ts rec DivMulMod s room) (level rules ts rec pre s room)
    unfolding level next_is is choose
    level_begins s room h =
        begins_then rules ts rec pre s room (prefix_part rules ts rec s room) _ _ (prefix_part_runs ts v rules rec ih s room h)
        (λ t c m q. go t c m q (eqb (tok ts (step ts c)) SSemiColon) refl)
      where
        go : (t : Tree) (c m : ℕ) → Shut ts s s room t c m → (b : Bool) → eqb (tok ts (step ts c)) SSemiColon ≡ b
            → Begins rules ts rec pre s (choose b (λ _. read t (step ts c) m) (λ _. climb rules ts rec DivMulMod turns t c m))
            (choose b (λ _. read t (step ts c) m) (λ _. climb rules ts rec pre turns t c m))
        go t c m q true e = inl (refl, eqb-true _ _ e)
        go t c m q false e =
            led rules ts rec pre s c (climb rules ts rec DivMulMod turns t c m) (climb rules ts rec pre turns t c m) q.run.on (climb_leads turns s s room t c m (shut_behind ts DivMulMod q))
