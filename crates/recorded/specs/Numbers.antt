-- The numbers of bytes, by their index: each has its low byte first, and behind the last whole one they are 0.
use Rattle.std.specs.Prelude.{ℕ, ◌+◌, ◌*◌, ◌/◌, cond, Bool, List, IsTrue, EachIndex, ltb, length, get_or, slice_index}

-- A number of one byte.
abbrev pub byte : (bytes : List ℕ) (i : ℕ) → ℕ
byte bytes i = cond (ltb i (length bytes)) (slice_index bytes i) 0

-- Two bytes.
abbrev pub half : (bytes : List ℕ) (i : ℕ) → ℕ
half bytes i = cond (ltb i (length bytes / 2)) (slice_index bytes (2 * i) + 256 * slice_index bytes (2 * i + 1)) 0

-- Four bytes.
abbrev pub word : (bytes : List ℕ) (i : ℕ) → ℕ
word bytes i =
    cond (ltb i (length bytes / 4))
    (slice_index bytes (4 * i) + 256 * slice_index bytes (4 * i + 1) + 65536 * slice_index bytes (4 * i + 2) + 16777216 * slice_index bytes (4 * i + 3))
    0

-- A slice has, by an equality, the numbers that stand at its indices.
abbrev pub Holds : {A : Type 0} → (eq : A → A → Bool) → (at : ℕ → A) → (slice : List A) → Type 0
Holds eq at slice = EachIndex slice (λ i. IsTrue (eq (get_or slice i (at i)) (at i)))
