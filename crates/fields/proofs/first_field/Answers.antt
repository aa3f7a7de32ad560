-- `first_field` meets its contract: its head, and then its payload where that is whole.
use Rattle.std.proofs.Common.{◌≡◌, ℕ, ◌+◌, ◌*◌, ◌-◌, ◌≤◌, ◌<◌, cond, List, [], ◌∷◌, Err, leb, length, get_or, take, drop, length-drop, refl, sym, ◌∙◌, arith}
use borrow.Author.Tests.{le-leb, lt-leb}
use Rattle.refusals.specs.declared.Reason.TheVariants.{BadField}
use Rattle.fields.specs.Field.{whole, first}
use Rattle.fields.proofs.first_field.Goals as goal

-- a field whose head is cut
cut : (part : List ℕ) → length part < 3 → first part ≡ Err BadField
unfolding first
cut [] h = refl
cut (tag ∷ []) h = refl
cut (tag ∷ high ∷ []) h = refl
cut (tag ∷ high ∷ low ∷ rest) h = absurd (omega arith)

-- behind a whole head the payload decides: one that is cut, and one that is not
module _ (size : ℕ) where
  headed : (part : List ℕ) → 3 ≤ length part → size ≡ get_or part 1 0 * 256 + get_or part 2 0
      → first part ≡ cond (leb size (length (drop 3 part))) (whole (get_or part 0 0) (take size (drop 3 part))) (Err BadField)
  unfolding first
  headed [] h e = absurd (omega arith)
  headed (tag ∷ []) h e = absurd (omega arith)
  headed (tag ∷ high ∷ []) h e = absurd (omega arith)
  headed (tag ∷ high ∷ low ∷ rest) h e = rw e

  module _ (part : List ℕ) (h : 3 ≤ length part) (e : size ≡ get_or part 1 0 * 256 + get_or part 2 0) where
    short : length part - 3 < size → first part ≡ Err BadField
    short s = headed part h e ∙ rw (length-drop, lt-leb size (length part - 3) s)

    held : size ≤ length part - 3 → first part ≡ whole (get_or part 0 0) (take size (drop 3 part))
    held s = headed part h e ∙ rw (length-drop, le-leb size (length part - 3) s)

  -- what is lent of the part is as long as the length says
  lent : 3 + size - 3 ≡ size
  lent = omega arith

pub returns-then-part-lt-HEAD : goal.returns-then-part-lt-HEAD
returns-then-part-lt-HEAD c = sym (cut c.args.part.now c.if-part-lt-HEAD.true)

pub returns-then-part-size : goal.returns-then-part-size
returns-then-part-size c =
    sym (short c.from_be_bytes-size.result c.args.part.now c.if-part-lt-HEAD.false c.from_be_bytes-size.ensures c.if-part-size.true)

pub returns : goal.returns
returns c =
    let size = c.from_be_bytes-size.result in
    c.of_payload.ensures ∙ rw (lent size) (sym (held size c.args.part.now c.if-part-lt-HEAD.false c.from_be_bytes-size.ensures c.if-part-size.false))
