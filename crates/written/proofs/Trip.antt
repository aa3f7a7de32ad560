-- The round trip: what is written of a tree that fits is read back by the entry for its root.
use Prim.Native.Nat.{ℕ, suc, ◌+◌, ◌%◌, ◌≤◌, ◌<◌}
use native.Mathlib.Omega.{arith}
use mathlib.Core.Path.{◌≡◌, refl, sym, ◌∙◌}
use mathlib.Core.Bool.{Bool, true, false, cond}
use mathlib.Core.List.{List}
use lib.Dec.{ltb}
use lib.ListN.{length}
use Rattle.grammar.specs.Words.{EOF, Zero, step}
use Rattle.grammar.specs.Tree.{Tree, node, Trees, nil, ◌▸◌, size, join}
use Rattle.grammar.specs.Parsed.{Parsed, read, ◌>>=◌, ◌>>◌, need, build, turns}
use Rattle.grammar.specs.Rules.{Rules}
use Rattle.grammar.specs.Examples.{X, S}
use Rattle.grammar.specs.Script.{longest, nesting, one_expression, one_statement, whole_script}
use Rattle.slots.specs.Slots.{expressions, statements, is_expression, how_many}
use Rattle.written.specs.Written.{joined, write, writes, written, words}
use Rattle.written.specs.Claims.{plain, plains, deep, deeps, entry_of, asked, back_from_end, Back, RoundTrip}
use Rattle.written.proofs.Dress.{plain_of, plains_of}
use Rattle.written.proofs.Shapes.{Fit, AllFit}
use Rattle.written.proofs.Signs.{closes, by_eof}
use Rattle.written.proofs.Exprs.{wholes}
use Rattle.written.proofs.Says.{Ends, says, run, many}
use Rattle.written.proofs.Good.{fine_write, fine_statements, ended, ended_length, Array, array}
use Rattle.written.proofs.Roots.{Root, an_expression, a_statement, a_script, root, script_deep}

pub eof_ends : Ends EOF
eof_ends = record { no_else = refl; no_finally = refl }

one_on : (ts : List ℕ) (at : ℕ) → at < step ts at → step ts at ≡ at + 1
unfolding step
one_on ts at = go (ltb (at + 1) (length ts))
  where
    go : (c : Bool) → at < cond c (at + 1) at → cond c (at + 1) at ≡ at + 1
    go true h = refl
    go false h = absurd (omega arith)

-- What an entry gives, where EOF is at c.
record Got (p : Parsed Trees) (left n c : ℕ) (t : Tree) : Type 0 where
  trees : Trees
  at : ℕ
  reads : p ≡ read trees at left
  same : plains trees ≡ plain t ▸ nil
  place : at + n ≡ c + 1

-- The three entries over an array in which the tokens stand.
module _ (rules : Rules) (ts : List ℕ) (c room left : ℕ) where
  by_expression : (t : Tree) → Array ts (write t) c → Fit expressions t → deep t ≤ nesting → size t + left ≡ room → Got (one_expression rules ts 0 room) left 2 c t
  unfolding one_expression need ◌>>◌ ◌>>=◌ plains
  by_expression t a o l q =
      let u = wholes rules ts a.short nesting Zero t 0 c o l a.stood (rw a.eof (closes by_eof)) in
      record {
        trees = u.tree ▸ nil;
        at = u.last;
        reads = rw (a.checked, a.some, u.reads room left q);
        same = rw (plain_of u.tree t u.same);
        place = omega (arith, one_on ts u.last u.on, u.stops);
      }

  by_statement : (t : Tree) → Array ts (write t) c → Fit statements t → deep t ≤ nesting → size t + left ≡ room → Got (one_statement rules ts 0 room) left 2 c t
  unfolding one_statement need ◌>>◌ ◌>>=◌ plains
  by_statement t a o l q =
      let u = says rules ts a.short nesting t 0 c o l a.stood (rw a.eof eof_ends) in
      record {
        trees = u.tree ▸ nil;
        at = u.last;
        reads = rw (a.checked, a.some, u.reads room left q);
        same = rw (plain_of u.tree t u.same);
        place = omega (arith, one_on ts u.last u.on, u.stops);
      }

  by_script : (m p : ℕ) (us : Trees) (end : ℕ) → Array ts (joined (writes us)) c → m % 256 ≡ 0 → AllFit statements us → deeps us ≤ nesting
      → size (node 46 m p us nil nil nil end) + left ≡ room → Got (whole_script rules ts room) left 1 c (node 46 m p us nil nil nil end)
  unfolding whole_script need ◌>>◌ ◌>>=◌ build plains plain join
  by_script m p us end a e o l q =
      let in-range : how_many us < turns = omega (arith, many ts us 0 c o a.stood, a.short, a.inside) in
      let u = run rules ts a.short nesting nesting EOF (says rules ts a.short nesting) eof_ends refl us nil turns 0 c a.stood a.eof o l in-range in
      record {
        trees = node 46 0 0 u.trees nil nil nil c ▸ nil;
        at = c;
        reads = rw (a.checked, u.reads room (suc left) (omega arith));
        same = rw (plains_of u.trees us u.same, e);
        place = refl;
      }

-- The entry for a root.
module _ (rules : Rules) (room left : ℕ) where
  x_back : (t : Tree) → Fit expressions t → written t ≡ ended (write t) → entry_of t ≡ X → length (written t) ≤ longest → size t + left ≡ room → deep t ≤ nesting → Back rules t room left
  unfolding asked back_from_end
  x_back t o w e short q l =
      let g = by_expression rules (words (ended (write t))) (length (write t)) room left t (array (write t) (fine_write t) (rw w at short)) o l q in
      record { trees = g.trees; at = g.at; reads = rw (w, e) g.reads; same = g.same; place = rw (w, e) (g.place ∙ sym (ended_length (write t))) }

  s_back : (t : Tree) → Fit statements t → written t ≡ ended (write t) → entry_of t ≡ S → length (written t) ≤ longest → size t + left ≡ room → deep t ≤ nesting → Back rules t room left
  unfolding asked back_from_end
  s_back t o w e short q l =
      let g = by_statement rules (words (ended (write t))) (length (write t)) room left t (array (write t) (fine_write t) (rw w at short)) o l q in
      record { trees = g.trees; at = g.at; reads = rw (w, e) g.reads; same = g.same; place = rw (w, e) (g.place ∙ sym (ended_length (write t))) }

  root_back : {t : Tree} → Root t → length (written t) ≤ longest → size t + left ≡ room → deep t ≤ nesting → Back rules t room left
  unfolding written entry_of asked back_from_end is_expression
  root_back (an_expression {t} o w e) short q l = x_back t o w e short q l
  root_back (a_statement {t} o w e) short q l = s_back t o w e short q l
  root_back (a_script {m} {p} {end} {us} e o) short q l =
      let xs = joined (writes us) in
      let g = by_script rules (words (ended xs)) (length xs) room left m p us end (array xs (fine_statements us) short) e o (rw (script_deep m p us end) at l) q in
      record { trees = g.trees; at = g.at; reads = g.reads; same = g.same; place = g.place ∙ sym (ended_length xs) }

pub round_trip : RoundTrip
round_trip rules t room left f short q l = root_back rules room left (root t f) short q l
