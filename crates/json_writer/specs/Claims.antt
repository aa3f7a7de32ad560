-- What is claimed of the writer: of two accepted calls, and of what is written.
use Rattle.std.specs.Prelude.{ℕ, ◌≡◌, true, List, take, Ok}
use Rattle.grammar.specs.Tree.{Tree}
use Rattle.unicode_text.specs.Unicode.{well_formed}
use Rattle.payloads.specs.Fields.{fields_of}
use Rattle.payloads.specs.Claims.{Bytes}
use Rattle.trees.specs.Pool.{Holds}
use Rattle.json_text.specs.Rfc.{Text}
use Rattle.json_text.specs.Claims.{Alike}
use Rattle.json_writer.specs.Tells.{Tells}

-- An accepted call: its pool, root and file, the room that it was given, the length that it answered, and the bytes that it left.
pub record Call : Type 0 where
  pub pool : List ℕ
  pub root : ℕ
  pub file : List ℕ
  pub room : ℕ
  pub long : ℕ
  pub out : List ℕ
  pub are_bytes : Bytes file
  pub tells : Tells pool root file room (Ok long) out

-- The text that it wrote.
abbrev pub wrote : Call → List ℕ
wrote c = take c.long c.out

-- Two accepted calls write the same bytes exactly where their trees are alike: shape, kinds, marks and places agree, and what is shown of the payloads.
abbrev pub SameBytes : Type 0
SameBytes =
    (c d : Call) (t u : Tree) → Holds c.pool c.root t → Holds d.pool d.root u
    → (wrote c ≡ wrote d → Alike (fields_of c.file) (fields_of d.file) t u) × (Alike (fields_of c.file) (fields_of d.file) t u → wrote c ≡ wrote d)

-- There is a tree, and what is written is a JSON text by the grammar of RFC 8259, in well-formed UTF-8.
abbrev pub WritesJson : Type 0
WritesJson = (c : Call) → ((t : Tree) × Holds c.pool c.root t) × Text (wrote c) × (well_formed (wrote c) ≡ true)
