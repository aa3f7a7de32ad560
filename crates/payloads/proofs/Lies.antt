-- A field that lies in bytes from a place on: its class, its length and its payload, read off the bytes there.
use mathlib.Core.Path.{◌≡◌, sym, ap, ◌∙◌}
use mathlib.Core.List.{List, [], ◌∷◌, ◌++◌}
use Prim.Native.Nat.{ℕ, zero, suc, ◌+◌, ◌*◌, ◌<◌}
use native.Mathlib.Nat.{add-zero}
use native.Mathlib.Omega.{arith}
use lib.ListN.{length, take, drop, get_or}
use lib.Seq.{get_or-drop, drop-drop, drop-append_seam, take-append_seam}
use Rattle.fields.specs.Field.{head}
use Rattle.payloads.specs.Fields.{Field, NoClass}
use Rattle.payloads.specs.Index.{begins, size_by}
use Rattle.payloads.proofs.Lined.{Lined, end, then}

-- that a field lies in bytes from a place on
pub record Lies (bytes : List ℕ) (start : ℕ) (f : Field) : Type 0 where
  pub high : ℕ
  pub low : ℕ
  pub rest : List ℕ
  pub there : drop start bytes ≡ f.0 ∷ high ∷ low ∷ (f.1 ++ rest)
  pub long : length f.1 ≡ high * 256 + low

module _ (bytes : List ℕ) where
  -- behind a field is what is behind its payload
  pub behind : (tag high low : ℕ) (payload rest : List ℕ) (at : ℕ) → drop at bytes ≡ tag ∷ high ∷ low ∷ (payload ++ rest) → drop (at + (head + length payload)) bytes ≡ rest
  behind tag high low payload rest at q =
      let whole = tag ∷ high ∷ low ∷ (payload ++ rest) in
      sym (drop-drop (head + length payload) at bytes) ∙ ap (drop (head + length payload)) q ∙ sym (drop-drop (length payload) head whole) ∙ drop-append_seam payload rest

  -- each lies where it begins
  pub lies : {part : List ℕ} {fs : List Field} → Lined part fs → (at : ℕ) → drop at bytes ≡ part → (p : ℕ) → p < length fs
      → Lies bytes (get_or (begins at fs) p 0) (get_or fs p (NoClass, []))
  unfolding begins
  lies end at q p h = absurd (omega arith)
  lies (then tag high low payload rest fs e a u k) at q zero h = record { high = high; low = low; rest = rest; there = q; long = e }
  lies (then tag high low payload rest fs e a u k) at q (suc p) h =
      lies k (at + (head + length payload)) (behind tag high low payload rest at q) p (omega arith)

  module _ {start : ℕ} {f : Field} (l : Lies bytes start f) where
    -- the byte so far behind its start
    byte : (i d : ℕ) → get_or bytes (start + i) d ≡ get_or (f.0 ∷ l.high ∷ l.low ∷ (f.1 ++ l.rest)) i d
    byte i d = sym (get_or-drop start bytes i d) ∙ ap (λ part. get_or part i d) l.there

    -- its class, its length and its payload
    pub its_class : get_or bytes start NoClass ≡ f.0
    its_class = rw add-zero at (byte 0 NoClass)

    pub its_size : size_by bytes start ≡ length f.1
    unfolding size_by
    its_size = rw (byte 1 0, byte 2 0) (sym l.long)

    pub its_payload : take (size_by bytes start) (drop (start + head) bytes) ≡ f.1
    its_payload = rw (its_size, ← drop-drop head start bytes, l.there) (take-append_seam f.1 l.rest)
