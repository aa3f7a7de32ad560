-- `payloads::payload` meets its contract: no bytes, or as many as there are behind the head.
use Rattle.std.proofs.Common.{◌≡◌, sym, ap, ◌∙◌, refl, List, [], ℕ, ◌+◌, ◌-◌, ◌≤◌, ◌<◌, Option, Some, None, Bor, arith, lt-ltb, le-ltb, length, drop, length-drop, drop_of_length-le, take_all}
use mathlib.Core.Logic.{◌⊎◌, ⊎_elim}
use Rattle.std.specs.List.{slice_range}
use Rattle.std.specs.Option.{MatchOption, unwrap_or}
use Rattle.std.proofs.lemmas.List.{take_min}
use Rattle.payloads.specs.Index.{payload_by}
use Rattle.payloads.proofs.Indexed.payload.Goals as goal

-- the part of the bytes from a place on, or nothing
part : (bytes : List ℕ) (at : ℕ) (r : Option (Bor (List ℕ))) (other : Bor (List ℕ)) → other.now ≡ []
    → MatchOption r ((length bytes < at) ⊎ (length bytes < length bytes)) (λ x. (at ≤ length bytes) × (length bytes ≤ length bytes) × (x.now ≡ slice_range bytes at (length bytes)) × (length x.now + at ≡ length bytes))
    → (unwrap_or r other).now ≡ drop at bytes
part bytes at (Some x) other e k =
    let ahead : length (drop at bytes) ≤ length bytes - at = simp length-drop (omega arith) in
    k.2 ∙ take_all _ (drop at bytes) ahead
part bytes at None other e k = e ∙ sym (drop_of_length-le bytes {i = at} (⊎_elim (λ h. omega arith) (λ h. omega arith) k))

pub returns-then-count-place : goal.returns-then-count-place
unfolding payload_by
returns-then-count-place c = rw (le-ltb _ _ c.if-count-place.true)

pub returns : goal.returns
unfolding payload_by
returns c =
    let e = ap (λ b. b.now) c.unwrap_or-part.ensures ∙ part c.args.self.file.now _ c.get.result _ refl c.get.ensures.lookup.0 in
    rw (c.min.ensures, e, lt-ltb _ _ c.if-count-place.false, ← c.start_at-start.ensures, c.size_at.ensures) (take_min _ _)
