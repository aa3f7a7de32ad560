-- One pass over a file's fields: the words behind it, the fields left, and the buffer so far.
use mathlib.Core.Path.{◌≡◌, refl, ◌∙◌}
use mathlib.Core.List.{List, [], ◌∷◌, ◌++◌, append_assoc, append-nil}
use Prim.Native.Nat.{ℕ, zero, suc, ◌+◌, ◌-◌, ◌≤◌, ◌<◌}
use native.Mathlib.Numerals.{add-one}
use native.Mathlib.Omega.{arith}
use lib.ListN.{length, drop, set, length-append, length-drop, drop_of_length-le}
use lib.Seq.{drop-cons, drop-drop, append_snoc, set_at}
use Rattle.std.specs.Prelude.{Ok, Err}
use Rattle.refusals.specs.declared.Reason.{Reason}
use Rattle.refusals.specs.Reasons.{number as number_of}
use Rattle.fields.specs.declared.Field.{Field}
use Rattle.fields.specs.Field.{first}
use Rattle.files.specs.File.{Content, read, refused, before, fields}
use Rattle.files.proofs.Good.{taken}

-- words, and then those that follow; a refusal stays
unfoldable pub join : List ℕ → Content → Content
join done (read words) = read (done ++ words)
join done (refused number place) = refused number place

join_none : (c : Content) → join [] c ≡ c
unfolding join
join_none (read words) = refl
join_none (refused number place) = refl

join_more : (done : List ℕ) (w : ℕ) (c : Content) → join done (before w c) ≡ join (done ++ (w ∷ [])) c
unfolding join before
join_more done w (read words) = rw append_assoc
join_more done w (refused number place) = refl

-- without bytes there are no fields
pub none_left : (bound number : ℕ) → fields bound number [] ≡ read []
unfolding fields
none_left zero number = refl
none_left (suc bound) number = refl

-- behind a good field come those of the bytes behind it
pub good_next : (bound number : ℕ) (part : List ℕ) {f : Field} → 0 < length part → first part ≡ Ok f
    → fields (suc bound) number part ≡ before f.word (fields bound (suc number) (drop f.width part))
unfolding fields
good_next bound number [] h e = absurd (omega arith)
good_next bound number (b ∷ part) h e = rw (e, fields)

-- a bad field is refused with its number
pub bad_next : (bound number : ℕ) (part : List ℕ) {r : Reason} → 0 < length part → first part ≡ Err r → fields (suc bound) number part ≡ refused (number_of r) number
unfolding fields
bad_next bound number [] h e = absurd (omega arith)
bad_next bound number (b ∷ part) h e = rw (e, fields)

-- a pass stands at a byte, with `count` fields behind it; `done` are their words, which stand at the front of the buffer where it has room
pub record Pass (bytes buffer words : List ℕ) (at count : ℕ) : Type 0 where
  pub done : List ℕ
  pub counted : length done ≡ count
  pub left : fields (length bytes) 0 bytes ≡ join done (fields (length bytes - count) count (drop at bytes))
  pub inside : at ≤ length bytes
  pub behind : count ≤ at
  pub front : count ≤ length buffer → words ≡ done ++ drop count buffer
  pub same : length words ≡ length buffer

-- a pass begins with nothing behind it
pub begun : (bytes buffer : List ℕ) → Pass bytes buffer buffer 0 0
begun bytes buffer =
    let all : length bytes - 0 ≡ length bytes = omega arith in
    record {
      done = [];
      counted = refl;
      left = rw (all, join_none);
      inside = omega arith;
      behind = omega arith;
      front = λ h. refl;
      same = refl;
    }

module _ {bytes buffer words : List ℕ} {at count : ℕ} (pass : Pass bytes buffer words at count) where
  -- behind the last field, the words are those of the file
  pub ended : length bytes ≤ at → fields (length bytes) 0 bytes ≡ read pass.done
  unfolding join
  ended end = pass.left ∙ rw (drop_of_length-le bytes {i = at} end, none_left, append-nil)

  module _ (more : at < length bytes) where
    -- the bound has a field left, and the file a byte
    bound : length bytes - count ≡ suc (length bytes - (count + 1))
    bound = omega (arith, pass.behind)

    some_left : 0 < length (drop at bytes)
    some_left = simp length-drop (omega arith)

    -- a bad field stops it
    pub stopped : {r : Reason} → first (drop at bytes) ≡ Err r → fields (length bytes) 0 bytes ≡ refused (number_of r) count
    unfolding join
    stopped e = pass.left ∙ rw (bound, bad_next (length bytes - (count + 1)) count (drop at bytes) some_left e)

    module _ {f : Field} (e : first (drop at bytes) ≡ Ok f) where
      -- a good field takes the pass on, and ends within the file
      pub on : (0 < f.width) × (at + f.width ≤ length bytes)
      on =
          let t = taken (drop at bytes) e in
          let held : f.width ≤ length bytes - at = simp length-drop at t.held in
          (t.some, omega arith)

      -- its word comes behind those before it
      pub turned : (words' : List ℕ) → length words' ≡ length buffer → (count < length buffer → words' ≡ set words count f.word)
          → Pass bytes buffer words' (at + f.width) (count + 1)
      turned words' same stored = record {
        done = pass.done ++ (f.word ∷ []);
        counted = simp length-append (omega (arith, pass.counted));
        left = pass.left ∙ rw (bound, good_next (length bytes - (count + 1)) count (drop at bytes) some_left e, join_more, drop-drop, add-one count);
        inside = on.1;
        behind = omega (arith, pass.behind, on.0);
        front = λ h. stored (omega arith)
            ∙ rw (pass.front (omega arith), drop-cons buffer count 0 (omega arith), set_at pass.done _ _ _ count pass.counted, append_snoc, add-one count);
        same = same;
      }
