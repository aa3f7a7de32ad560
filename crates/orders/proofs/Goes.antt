-- Whether the loop goes on, by the tests of the body: a semicolon has the lowest order, so it needs no test of its own.
use Rattle.std.proofs.Common.{ℕ, zero-le, ◌≡◌, refl, sym, ◌∙◌, Bool, true, false, not, ◌&&◌, ◌||◌, eqb, ltb}
use mathlib.Core.Bool.{true≢false, or_assoc, or_comm}
use borrow.Author.Tests.{eqb-true, le-ltb}
use Rattle.grammar.specs.Words as g

-- Whether a word is a suffix operator, and whether it opens a call or an index.
abbrev pub suffix : ℕ → Bool
suffix w = eqb w g.SIncr || eqb w g.SDecr

abbrev pub opens : ℕ → Bool
opens w = eqb w g.SLParen || eqb w g.SLBox

-- A semicolon has the lowest order.
semicolon : (pre w : ℕ) → eqb w g.SSemiColon ≡ true → ltb pre (g.order w) ≡ true → ⊥
unfolding g.order g.by_code g.class g.code g.orders
semicolon pre w e h = true≢false (sym (rw (eqb-true w g.SSemiColon e) at h) ∙ le-ltb pre 0 zero-le)

pub goes : (pre w : ℕ) → g.goes_on pre w ≡ (ltb pre (g.order w) && ((suffix w || opens w) || ltb 0 (g.infix_of w)))
unfolding g.goes_on g.operates
goes pre w = go (eqb w g.SSemiColon) (ltb pre (g.order w)) (ltb 0 (g.infix_of w)) (eqb w g.SIncr) (eqb w g.SDecr) (eqb w g.SLParen) (eqb w g.SLBox) (semicolon pre w)
  where
    go : (s o i a b p l : Bool) → (s ≡ true → o ≡ true → ⊥) → (not s && o && (i || a || b || p || l)) ≡ (o && (((a || b) || (p || l)) || i))
    go true true i a b p l never = absurd (never refl refl)
    go true false i a b p l never = refl
    go false false i a b p l never = refl
    go false true i a b p l never = simp or_assoc (or_comm i (a || (b || (p || l))) ∙ simp or_assoc)
