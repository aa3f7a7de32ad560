-- What answers that are the same have in common.
use Rattle.std.proofs.Common.{◌≡◌, ℕ, ap}
use Rattle.std.specs.Prelude.{Result, Ok}
use Rattle.refusals.specs.Refusal.{Numbered}
use Rattle.answer.specs.declared.Piece.{Piece}
use Rattle.answer.specs.declared.Accepted.{Accepted}
use Rattle.answer.specs.Answer.{piece, accepted}

same : {A : Type 0} {x y : A} → ◌≡◌ {A = Result A Numbered} (Ok x) (Ok y) → x ≡ y
same q = cc

module _ {k h d k' h' d' : ℕ} (e : ◌≡◌ {A = Result Piece Numbered} (Ok (piece k h d)) (Ok (piece k' h' d'))) where
  pub same_rows : k ≡ k'
  same_rows = ap (λ (t : Piece). t.rows) (same e)

  pub same_head : h ≡ h'
  same_head = ap (λ (t : Piece). t.head) (same e)

  pub same_next : d ≡ d'
  same_next = ap (λ (t : Piece). t.next) (same e)

module _ {r k p r' k' p' : ℕ} (e : ◌≡◌ {A = Result Accepted Numbered} (Ok (accepted r k p)) (Ok (accepted r' k' p'))) where
  pub same_root : r ≡ r'
  same_root = ap (λ (a : Accepted). a.root) (same e)

  pub same_used : k ≡ k'
  same_used = ap (λ (a : Accepted). a.rows) (same e)

  pub same_place : p ≡ p'
  same_place = ap (λ (a : Accepted). a.place) (same e)
