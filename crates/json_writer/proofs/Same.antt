-- Of accepted calls: the same bytes exactly where trees are alike, and every text is JSON.
use Prim.Native.Nat.{ℕ}
use native.Mathlib.Omega.{arith}
use mathlib.Core.Path.{◌≡◌, refl, sym, ◌∙◌}
use mathlib.Core.List.{List}
use lib.ListN.{length}
use lib.Seq.{take_at}
use Rattle.grammar.specs.Tree.{Tree}
use Rattle.payloads.specs.Fields.{fields_of}
use Rattle.payloads.proofs.Same.{same_fields}
use Rattle.trees.specs.Pool.{Holds, start}
use Rattle.trees.proofs.Unique.{one_tree}
use Rattle.placed.specs.Over.{Over}
use Rattle.json_text.specs.Json.{text}
use Rattle.json_text.specs.Claims.{Ready}
use Rattle.json_text.proofs.Injective.{injective}
use Rattle.json_text.proofs.Grammar.{grammatical}
use Rattle.json_text.proofs.Utf8.{text_utf8}
use Rattle.std.specs.Prelude.{Result, Ok}
use Rattle.refusals.specs.Refusal.{Numbered}
use Rattle.json_writer.specs.Tells.{Tells, no_tree, too_deep, too_short, a_text}
use Rattle.json_writer.specs.Claims.{Call, wrote, SameBytes, WritesJson}
use Rattle.json_writer.proofs.Checked.{the_tree, tree_placed}

-- the tree of a call: it is ready, and its text is what was written
record Written (c : Call) : Type 0 where
  tree : Tree
  holds : Holds c.pool c.root tree
  ready : Ready (fields_of c.file) tree
  is : wrote c ≡ text (fields_of c.file) tree

written : (c : Call) → Written c
written c = go c.tells refl refl
  where
    ready_of : {count : ℕ} (t : Tree) → Over c.pool c.root c.file (Ok count) → Holds c.pool c.root t → Ready (fields_of c.file) t
    ready_of t v h =
        let i = the_tree v in
        let same : i.tree ≡ t = one_tree c.pool i.holds h in
        record {
          tree = rw (← same) i.fitting;
          places = tree_placed i.right start h;
          fields = (same_fields c.file i.words i.given c.are_bytes).2;
        }

    go : {r : Result ℕ Numbered} {out : List ℕ} → Tells c.pool c.root c.file c.room r out → r ≡ Ok c.long → out ≡ c.out → Written c
    go (no_tree v) e f = absurd (let z : ◌≡◌ {A = ℕ} 0 1 = cc in omega arith)
    go (too_deep v l) e f = absurd (let z : ◌≡◌ {A = ℕ} 0 1 = cc in omega arith)
    go (too_short t v l h s) e f = absurd (let z : ◌≡◌ {A = ℕ} 0 1 = cc in omega arith)
    go (a_text t v l h s) e f =
        let n : length (text (fields_of c.file) t) ≡ c.long = cc in
        record { tree = t; holds = h; ready = ready_of t v h; is = rw (← f) (take_at (text (fields_of c.file) t) _ c.long n) }

pub same_bytes : SameBytes
same_bytes c d t u h k =
    let a = written c in
    let b = written d in
    let x : a.tree ≡ t = one_tree c.pool a.holds h in
    let y : b.tree ≡ u = one_tree d.pool b.holds k in
    let both = injective (fields_of c.file) (fields_of d.file) a.tree b.tree a.ready b.ready in
    rw (← x, ← y) (λ e. both.0 (sym a.is ∙ e ∙ b.is), λ e. a.is ∙ both.1 e ∙ sym b.is)

pub writes_json : WritesJson
writes_json c =
    let a = written c in
    ((a.tree, a.holds), rw a.is (grammatical (fields_of c.file) a.tree a.ready), rw a.is (text_utf8 (fields_of c.file) a.tree a.ready))
