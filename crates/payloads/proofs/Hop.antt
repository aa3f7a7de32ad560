-- Going over the heads of an accepted file's fields: what is laid of the index, and what is left of the fields.
use mathlib.Core.Path.{◌≡◌, refl, ap, ◌∙◌}
use mathlib.Core.List.{List, [], ◌∷◌, ◌++◌, append-nil}
use Prim.Native.Nat.{ℕ, ◌+◌, ◌-◌, ◌≤◌, ◌<◌}
use native.Mathlib.Numerals.{add-one}
use native.Mathlib.Omega.{arith}
use lib.ListN.{length, drop, set, length-set, length-append, length-drop, drop_of_length-le}
use lib.Seq.{drop-cons, append_snoc, set_at}
use Rattle.fields.specs.Field.{head}
use Rattle.std.specs.Prelude.{Ok}
use Rattle.files.specs.File.{most}
use Rattle.files.specs.Entry.{answered}
use Rattle.payloads.specs.Fields.{Field, fields_of}
use Rattle.payloads.specs.Index.{held, begins, size_by, most_fields}
use Rattle.payloads.proofs.Held.{counted}
use Rattle.payloads.proofs.Lined.{Lined, end, then, accepted, fields_counted, fields_few}
use Rattle.payloads.proofs.Lies.{Lies, behind, its_size}

-- the way stands at a byte, with i fields behind it; where they begin stands at the front of the index
pub record Hop (bytes index starts : List ℕ) (count at i : ℕ) : Type 0 where
  pub fs : List Field
  pub lined : Lined (drop at bytes) fs
  pub done : List ℕ
  pub counted : length done ≡ i
  pub left : begins 0 (fields_of bytes) ≡ done ++ begins at fs
  pub many : i + length fs ≡ count
  pub front : starts ≡ done ++ drop i index
  pub same : length starts ≡ length index
  pub short : length bytes ≤ most

-- it begins with no field behind it
pub begun : (bytes index : List ℕ) (count : ℕ) → answered (held bytes) ≡ Ok count → Hop bytes index index count 0 0
begun bytes index count e =
    let c = counted bytes e in
    let a = accepted bytes c.words c.given in
    record {
      fs = fields_of bytes;
      lined = a.lined;
      done = [];
      counted = refl;
      left = refl;
      many = omega (arith, fields_counted bytes c.words c.given, c.counted);
      front = refl;
      same = refl;
      short = a.short;
    }

-- there are no more fields than the index has room for
pub few : (bytes : List ℕ) {count : ℕ} → answered (held bytes) ≡ Ok count → count ≤ most_fields
few bytes e = let c = counted bytes e in omega (arith, fields_few bytes c.words c.given, c.counted)

module _ {bytes index starts : List ℕ} {count at i : ℕ} (hop : Hop bytes index starts count at i) where
  -- behind the last field all are laid, where there is a word for each and no other
  pub ended : count ≤ i → length index ≡ count → starts ≡ begins 0 (fields_of bytes)
  unfolding begins
  ended h long = go hop.fs hop.left hop.many
    where
      go : (fs : List Field) → begins 0 (fields_of bytes) ≡ hop.done ++ begins at fs → i + length fs ≡ count → starts ≡ begins 0 (fields_of bytes)
      go [] l m =
          let all : drop i index ≡ [] = drop_of_length-le index {i = i} (omega arith) in
          rw (l, append-nil hop.done) (hop.front ∙ rw (all, append-nil hop.done))
      go (f ∷ fs) l m = absurd (omega arith)

  -- a field more
  module _ (h : i < count) where
    pub record Next : Type 0 where
      pub size : ℕ
      pub is : size_by bytes at ≡ size
      pub inside : at < length bytes
      pub ends : at + (head + size) ≤ length bytes
      pub on : i < length index → Hop bytes index (set starts i at) count (at + (head + size)) (i + 1)

    pub next : Next
    unfolding begins
    next = go hop.lined refl hop.left hop.many
      where
        go : {part : List ℕ} {fs : List Field} → Lined part fs → drop at bytes ≡ part → begins 0 (fields_of bytes) ≡ hop.done ++ begins at fs → i + length fs ≡ count → Next
        go end q l m = absurd (omega arith)
        go (then tag high low payload rest fs e a u k) q l m =
            let lies : Lies bytes at (tag, payload) = record { high = high; low = low; rest = rest; there = q; long = e } in
            let whole : length (drop at bytes) ≡ 3 + (length payload + length rest) = ap length q ∙ simp length-append (omega arith) in
            let cut : length (drop at bytes) ≡ length bytes - at = length-drop at bytes in
            record {
              size = length payload;
              is = its_size bytes lies;
              inside = omega arith;
              ends = omega arith;
              on = λ room. record {
                fs = fs;
                lined = rw (behind bytes tag high low payload rest at q) k;
                done = hop.done ++ (at ∷ []);
                counted = simp length-append (omega (arith, hop.counted));
                left = l ∙ rw append_snoc;
                many = omega arith;
                front = rw (hop.front, drop-cons index i 0 room, set_at hop.done _ _ _ i hop.counted, append_snoc, add-one i);
                same = simp length-set hop.same;
                short = hop.short;
              };
            }
