-- What the reader of token files answers and leaves, with room for the words of any file.
use mathlib.Core.Path.{◌≡◌, refl, ◌∙◌}
use mathlib.Core.Bool.{Bool, true, false, cond}
use mathlib.Core.List.{List, ◌++◌}
use Prim.Native.Nat.{ℕ, ◌-◌}
use borrow.Author.Tests.{le-leb}
use lib.Dec.{leb}
use lib.ListN.{length, drop, replicate}
use lib.Seq.{drop_at}
use Rattle.std.specs.Prelude.{Ok, Err}
use Rattle.refusals.specs.Refusal.{Numbered}
use Rattle.files.specs.File.{Content, read, refused, TooLong, most, fields}
use Rattle.files.specs.Entry.{within, content, answered, file_answer, file_buffer}
use Rattle.payloads.specs.Fields.{fields_of}
use Rattle.payloads.specs.Index.{most_fields, held, begins, laid}
use Rattle.payloads.proofs.Held.{Given, fields_given, counted, turned_down}
use Rattle.payloads.proofs.Lined.{fields_few}

-- the words of any file have room in an index
pub enough : (bytes : List ℕ) → content bytes most_fields ≡ held bytes
unfolding content within
enough bytes = go (leb (length bytes) most) refl
  where
    whole : (c : Content) → Given (length bytes) c → held bytes ≡ within (length bytes) c → within most_fields c ≡ within (length bytes) c
    whole (read words) k e =
        let it : held bytes ≡ read words = e ∙ rw (le-leb (length words) (length bytes) k) in
        rw (le-leb (length words) (length bytes) k, le-leb (length words) most_fields (fields_few bytes words it))
    whole (refused number place) k e = refl

    go : (t : Bool) → leb (length bytes) most ≡ t
        → cond t (within most_fields (fields (length bytes) 0 bytes)) (refused TooLong 0) ≡ cond t (within (length bytes) (fields (length bytes) 0 bytes)) (refused TooLong 0)
    go true e = whole (fields (length bytes) 0 bytes) (fields_given (length bytes) 0 bytes) (rw e)
    go false e = refl

-- so the reader answers what the file holds, and leaves it
module _ (bytes : List ℕ) {room : ℕ} (long : room ≡ most_fields) where
  pub said : file_answer bytes room ≡ answered (held bytes)
  said = rw (long, enough bytes)

  -- after a refusal the words are zeros, as the index is
  pub none_laid : {e : Numbered} → answered (held bytes) ≡ Err e → file_buffer bytes room ≡ laid bytes (held bytes)
  none_laid e = let r = turned_down bytes e in rw (long, enough bytes, r)

  -- where the fields begin, over the front of their words, is the index
  pub all_laid : {n : ℕ} → answered (held bytes) ≡ Ok n → begins 0 (fields_of bytes) ++ drop n (file_buffer bytes room) ≡ laid bytes (held bytes)
  all_laid {n} e =
      let c = counted bytes e in
      rw (long, enough bytes, c.given, drop_at c.words (replicate (most_fields - length c.words) 0) n c.counted)
