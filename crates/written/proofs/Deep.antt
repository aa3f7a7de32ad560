-- Where more would have to be open than may, what is written is refused as too deep; so a written tree comes back, or is refused so.
use Prim.Native.Nat.{ℕ, suc, ◌+◌, ◌≤◌, ◌<◌}
use native.Mathlib.Omega.{arith}
use native.Mathlib.Decide.{dec_lt}
use mathlib.Core.Path.{◌≡◌, refl, sym, ap, ◌∙◌}
use mathlib.Core.List.{List}
use mathlib.Core.Logic.{◌⊎◌, inl, inr}
use lib.ListN.{length}
use Rattle.grammar.specs.Words.{EOF, Zero, tok}
use Rattle.grammar.specs.Tree.{Tree, Trees, nil, ◌▸◌, size, sizes, join}
use Rattle.grammar.specs.Parsed.{Parsed, refused, read, ◌>>=◌, ◌>>◌, need, turns, TooDeep}
use Rattle.grammar.specs.Rules.{Rules}
use Rattle.grammar.specs.Expressions as e
use Rattle.grammar.specs.Statements as s
use Rattle.grammar.specs.Examples.{X, S}
use Rattle.grammar.specs.Script.{longest, nesting, one_expression, one_statement, whole_script}
use Rattle.grammar.specs.Claims.{Unless}
use Rattle.slots.specs.Slots.{expressions, statements, is_expression, how_many}
use Rattle.written.specs.Written.{joined, write, writes, written, words}
use Rattle.written.specs.Claims.{deep, deeps, entry_of, asked, Back, Deeper, DeepRefused, ReadBack, DeepExactly}
use Rattle.written.proofs.Dress.{seen, seens, dressed, dresseds}
use Rattle.written.proofs.Stood.{Stood}
use Rattle.written.proofs.Shapes.{Fit, AllFit}
use Rattle.written.proofs.Signs.{Closes, closes, by_eof}
use Rattle.written.proofs.Exprs.{wholes}
use Rattle.written.proofs.Says.{Ends, says, run, many}
use Rattle.written.proofs.Good.{fine_write, fine_statements, ended, words_length, ended_length, Array, array}
use Rattle.written.proofs.Roots.{Root, an_expression, a_statement, a_script, root, script_deep}
use Rattle.written.proofs.Accepts.{Gives}
use Rattle.written.proofs.Opens.{opens, opens_of, opens_seen, opens_of_seen, opens_dressed, opens_of_dressed, lows_nil}
use Rattle.written.proofs.Lows.{LowAt, LowsAt, expression_reads, statement_low, statements_low}
use Rattle.written.proofs.Nested.{less_expression, less_statement, less_statements, Placed, expression_placed, statement_placed, statements_placed}
use Rattle.written.proofs.Trip.{eof_ends, round_trip}

deep_of : (u t : Tree) → seen u ≡ dressed t → opens u ≡ deep t
deep_of u t e = sym (opens_seen u) ∙ ap opens e ∙ opens_dressed t

deeps_of : (us ts : Trees) → seens us ≡ dresseds ts → opens_of us ≡ deeps ts
deeps_of us ts e = sym (opens_of_seen us) ∙ ap opens_of e ∙ opens_of_dressed ts

-- What is refused as too deep, at a place in the array.
record TooMuch {A : Type 0} (ts : List ℕ) (x : Parsed A) : Type 0 where
  place : ℕ
  refuses : x ≡ refused TooDeep place
  inside : place < length ts

less_deep : {A : Type 0} (ts : List ℕ) (x y : Parsed A) (a : A) (at room : ℕ) → Unless TooDeep x y → Placed ts x → y ≡ read a at room → ¬ (x ≡ read a at room) → TooMuch ts x
less_deep ts (refused n p) y a at room (inl h) i e other = record { place = p; refuses = rw h; inside = i }
less_deep ts (read b bt m) y a at room (inl h) i e other = absurd h
less_deep ts x y a at room (inr h) i e other = absurd (other (h ∙ e))

module _ (rules : Rules) (ts : List ℕ) (short : length ts ≤ turns) (d : ℕ) where
  not_expression : (t u : Tree) (pre at c room left : ℕ) → d < deep t → seen u ≡ dressed t → ¬ (e.expression rules ts d pre at room ≡ read u c left)
  not_expression t u pre at c room left l e h =
      let z : Gives (LowAt d) (read u c left) = rw h at (expression_reads rules ts d pre at room) in
      omega (arith, z.low, deep_of u t e)

  expression_deep : (t : Tree) (at c room left : ℕ) → at < length ts → Fit expressions t → d < deep t → Stood ts at (write t) c → Closes (tok ts c) → size t + left ≡ room
      → TooMuch ts (e.expression rules ts d Zero at room)
  expression_deep t at c room left i o l h close q =
      let u = wholes rules ts short (deep t) Zero t at c o (omega arith) h close in
      less_deep ts _ _ u.tree u.last left (less_expression rules ts d (deep t) (omega arith) Zero at room) (expression_placed rules ts d Zero at room i) (u.reads room left q)
      (not_expression t u.tree Zero at u.last room left l u.same)

  not_statement : (t u : Tree) (at c room left : ℕ) → d < deep t → seen u ≡ dressed t → ¬ (s.statement rules ts d at room ≡ read (u ▸ nil) c left)
  unfolding opens_of
  not_statement t u at c room left l e h =
      let z : Gives (LowsAt d) (read (u ▸ nil) c left) = rw h at (statement_low rules ts d at room) in
      omega (arith, z.low, deep_of u t e)

  statement_deep : (t : Tree) (at c room left : ℕ) → at < length ts → Fit statements t → d < deep t → Stood ts at (write t) c → Ends (tok ts c) → size t + left ≡ room
      → TooMuch ts (s.statement rules ts d at room)
  statement_deep t at c room left i o l h ends q =
      let u = says rules ts short (deep t) t at c o (omega arith) h ends in
      less_deep ts _ _ (u.tree ▸ nil) u.last left (less_statement rules ts d (deep t) (omega arith) at room) (statement_placed rules ts d at room i) (u.reads room left q)
      (not_statement t u.tree at u.last room left l u.same)

  not_statements : (ts' us : Trees) (close at c room left : ℕ) → d < deeps ts' → seens us ≡ dresseds ts'
      → ¬ (s.statements rules ts (e.expression rules ts d) (s.statement rules ts d) close turns nil at room ≡ read (join nil us) c left)
  unfolding join
  not_statements ts' us close at c room left l i h =
      let z : Gives (LowsAt d) (read us c left) =
      rw h at (statements_low rules ts d (e.expression rules ts d) (expression_reads rules ts d) (s.statement rules ts d) (statement_low rules ts d) close turns nil at room lows_nil) in
      omega (arith, z.low, deeps_of us ts' i)

  statements_deep : (us : Trees) (at c room left : ℕ) → at < length ts → AllFit statements us → d < deeps us → how_many us < turns → Stood ts at (joined (writes us)) c → tok ts c ≡ EOF
      → sizes us + left ≡ room → TooMuch ts (s.statements rules ts (e.expression rules ts d) (s.statement rules ts d) EOF turns nil at room)
  statements_deep us at c room left i o l n h eof q =
      let u = run rules ts short (deeps us) (deeps us) EOF (says rules ts short (deeps us)) eof_ends refl us nil turns at c h eof o (omega arith) n in
      less_deep ts _ _ (join nil u.trees) c left (less_statements rules ts d (deeps us) EOF (omega arith) at room) (statements_placed rules ts d EOF at room i) (u.reads room left q)
      (not_statements us u.trees EOF at c room left l u.same)

-- The three entries over an array in which the tokens stand.
module _ (rules : Rules) (ts : List ℕ) (c room left : ℕ) where
  by_expression : (t : Tree) → Array ts (write t) c → Fit expressions t → nesting < deep t → size t + left ≡ room → TooMuch ts (one_expression rules ts 0 room)
  unfolding one_expression need ◌>>◌ ◌>>=◌
  by_expression t a o l q =
      let z = expression_deep rules ts a.short nesting t 0 c room left (omega (arith, a.inside)) o l a.stood (rw a.eof (closes by_eof)) q in
      record { place = z.place; refuses = rw (a.checked, a.some, z.refuses); inside = z.inside }

  by_statement : (t : Tree) → Array ts (write t) c → Fit statements t → nesting < deep t → size t + left ≡ room → TooMuch ts (one_statement rules ts 0 room)
  unfolding one_statement need ◌>>◌ ◌>>=◌
  by_statement t a o l q =
      let z = statement_deep rules ts a.short nesting t 0 c room left (omega (arith, a.inside)) o l a.stood (rw a.eof eof_ends) q in
      record { place = z.place; refuses = rw (a.checked, a.some, z.refuses); inside = z.inside }

  by_script : (us : Trees) → Array ts (joined (writes us)) c → AllFit statements us → nesting < deeps us → sizes us + suc left ≡ room → TooMuch ts (whole_script rules ts room)
  unfolding whole_script need ◌>>◌ ◌>>=◌
  by_script us a o l q =
      let in-range : how_many us < turns = omega (arith, many ts us 0 c o a.stood, a.short, a.inside) in
      let z = statements_deep rules ts a.short nesting us 0 c room (suc left) (omega (arith, a.inside)) o l in-range a.stood a.eof q in
      record { place = z.place; refuses = rw (a.checked, z.refuses); inside = z.inside }

-- The entry for a root.
module _ (rules : Rules) (room left : ℕ) where
  x_deeper : (t : Tree) → Fit expressions t → written t ≡ ended (write t) → entry_of t ≡ X → length (written t) ≤ longest → size t + left ≡ room → nesting < deep t → Deeper rules t room
  unfolding asked
  x_deeper t o w e short q l =
      let z = by_expression rules (words (ended (write t))) (length (write t)) room left t (array (write t) (fine_write t) (rw w at short)) o l q in
      record { place = z.place; refuses = rw (w, e) z.refuses; inside = rw w (omega (arith, z.inside, words_length (write t), ended_length (write t))) }

  s_deeper : (t : Tree) → Fit statements t → written t ≡ ended (write t) → entry_of t ≡ S → length (written t) ≤ longest → size t + left ≡ room → nesting < deep t → Deeper rules t room
  unfolding asked
  s_deeper t o w e short q l =
      let z = by_statement rules (words (ended (write t))) (length (write t)) room left t (array (write t) (fine_write t) (rw w at short)) o l q in
      record { place = z.place; refuses = rw (w, e) z.refuses; inside = rw w (omega (arith, z.inside, words_length (write t), ended_length (write t))) }

  root_deeper : {t : Tree} → Root t → length (written t) ≤ longest → size t + left ≡ room → nesting < deep t → Deeper rules t room
  unfolding written entry_of asked is_expression
  root_deeper (an_expression {t} o w e) short q l = x_deeper t o w e short q l
  root_deeper (a_statement {t} o w e) short q l = s_deeper t o w e short q l
  root_deeper (a_script {m} {p} {end} {us} e o) short q l =
      let xs = joined (writes us) in
      let z = by_script rules (words (ended xs)) (length xs) room left us (array xs (fine_statements us) short) o (rw (script_deep m p us end) at l) (omega arith) in
      record { place = z.place; refuses = z.refuses; inside = omega (arith, z.inside, words_length xs, ended_length xs) }

pub deep_refused : DeepRefused
deep_refused rules t room left f short q l = root_deeper rules room left (root t f) short q l

-- Each tree comes back or is too deep, and by its depth.
pub read_back : ReadBack
read_back rules t room left f short q = go (dec_lt nesting (deep t))
  where
    go : Dec (nesting < deep t) → Back rules t room left ⊎ Deeper rules t room
    go (yes l) = inr (deep_refused rules t room left f short q l)
    go (no l) = inl (round_trip rules t room left f short q (omega arith))

-- No answer is both.
other : (rules : Rules) (t : Tree) (room left : ℕ) → Back rules t room left → Deeper rules t room → ⊥
other rules t room left b d = apart b.trees b.at left d.place (sym b.reads ∙ d.refuses)
  where
    apart : (us : Trees) (at left place : ℕ) → read us at left ≡ refused TooDeep place → ⊥
    apart us at left place e = let z : ◌≡◌ {A = ℕ} 0 1 = cc in omega arith

pub deep_exactly : DeepExactly
deep_exactly rules t room left f short q = (λ h. go h (dec_lt nesting (deep t)), deep_refused rules t room left f short q)
  where
    go : Deeper rules t room → Dec (nesting < deep t) → nesting < deep t
    go h (yes l) = l
    go h (no l) = absurd (other rules t room left (round_trip rules t room left f short q (omega arith)) h)
