-- The turns of the loop that puts the rows of a list.
use Prim.Native.Nat.{ℕ}
use native.Mathlib.Omega.{arith}
use mathlib.Core.Path.{◌≡◌, refl, sym, ◌∙◌}
use mathlib.Core.List.{List, [], ◌∷◌}
use Rattle.grammar.specs.Tree.{Tree, Trees}
use Rattle.grammar.specs.Script.{word_of}
use Rattle.payloads.specs.Fields.{fields_of}
use Rattle.trees.specs.Pool.{Holds, HoldsAll, none, more}
use Rattle.json_text.specs.Json.{listed, text, texts}
use Rattle.json_text.proofs.Rows.{commas, listed_commas}
use Rattle.std.specs.Prelude.{Result, Ok, Err, ⊤}
use Rattle.refusals.specs.declared.Reason.{Reason}
use Rattle.json_values.specs.declared.output.Out.{Out}
use Rattle.json_values.specs.Puts.{Puts}
use Rattle.json_values.proofs.Puts.{puts_append, puts_none, puts_stop}
use Rattle.json_writer.specs.Ready.{AllReady}
use Rattle.json_writer.proofs.Parts.{rest_ready}

-- what is left of a list: its trees, with which behind what was put all of the list is put
record Rest (pool file : List ℕ) (r : ℕ) (ts : Trees) (o₀ o : Out) : Type 0 where
  trees : Trees
  holds : HoldsAll pool r trees
  whole : {q : Out} {s : Result ⊤ Reason} → Puts (commas (texts (fields_of file) trees)) o q s → Puts (commas (texts (fields_of file) ts)) o₀ q s

-- what holds at each turn: r₀ is the row behind the first of the list
pub record Going (pool file : List ℕ) (r₀ r left : ℕ) (o₀ o : Out) : Type 0 where
  pub rest : AllReady pool file r left
  goes : (ts : Trees) → HoldsAll pool r₀ ts → Rest pool file r ts o₀ o

-- an empty list
pub none_put : {pool : List ℕ} (file : List ℕ) {c : ℕ} {o : Out} → c ≡ 0 → (ts : Trees) → HoldsAll pool c ts → Puts (listed (texts (fields_of file) ts)) o o (Ok tt)
unfolding listed text
none_put file z ts (none y q) = rw q puts_none
none_put file z ts (more t us i h hs q) = absurd (omega (arith, i))

-- the first row of a list and those behind it
pub list_put : {pool : List ℕ} (file : List ℕ) {c r₀ : ℕ} {o p q : Out} {u : ⊤} {s : Result ⊤ Reason} → (c ≡ 0 → ⊥) → r₀ ≡ word_of pool c 7
    → ((t : Tree) → Holds pool c t → Puts (text (fields_of file) t) o p (Ok u)) → ((ts : Trees) → HoldsAll pool r₀ ts → Puts (commas (texts (fields_of file) ts)) p q s)
    → (ts : Trees) → HoldsAll pool c ts → Puts (listed (texts (fields_of file) ts)) o q s
unfolding text
list_put file n e first rest ts (none z q) = absurd (n z)
list_put file n e first rest ts (more t us i h hs q) =
    rw (q, listed_commas (text (fields_of file) t) (texts (fields_of file) us)) (puts_append (first t h) (rest us (rw e hs)))

pub list_stop : {pool : List ℕ} (file : List ℕ) {c : ℕ} {o p : Out} {e : Reason} → (c ≡ 0 → ⊥) → ((t : Tree) → Holds pool c t → Puts (text (fields_of file) t) o p (Err e))
    → (ts : Trees) → HoldsAll pool c ts → Puts (listed (texts (fields_of file) ts)) o p (Err e)
unfolding text
list_stop file n first ts (none z q) = absurd (n z)
list_stop file n first ts (more t us i h hs q) = rw (q, listed_commas (text (fields_of file) t) (texts (fields_of file) us)) (puts_stop _ (first t h))

module _ {pool file : List ℕ} {r₀ left : ℕ} {o₀ : Out} where
  -- behind the first row
  pub begun : AllReady pool file r₀ left → Going pool file r₀ r₀ left o₀ o₀
  begun y = record { rest = y; goes = λ ts h. record { trees = ts; holds = h; whole = λ p. p } }

  -- behind the last row
  pub ended : {o : Out} {r : ℕ} → Going pool file r₀ r left o₀ o → r ≡ 0 → (ts : Trees) → HoldsAll pool r₀ ts → Puts (commas (texts (fields_of file) ts)) o₀ o (Ok tt)
  unfolding text commas
  ended {o} {r} g z ts h = go (g.goes ts h)
    where
      go : Rest pool file r ts o₀ o → Puts (commas (texts (fields_of file) ts)) o₀ o (Ok tt)
      go w = last w.holds refl
        where
          last : {us : Trees} → HoldsAll pool r us → us ≡ w.trees → Puts (commas (texts (fields_of file) ts)) o₀ o (Ok tt)
          last (none y q) s = w.whole (rw (sym s ∙ q) puts_none)
          last (more t us i k hs q) s = absurd (omega (arith, i))

  module _ {o p : Out} {r : ℕ} (g : Going pool file r₀ r left o₀ o) (n : r ≡ 0 → ⊥) where
    -- no room for a comma
    pub comma_stop : {e : Reason} → Puts (0x2C ∷ []) o p (Err e) → (ts : Trees) → HoldsAll pool r₀ ts → Puts (commas (texts (fields_of file) ts)) o₀ p (Err e)
    unfolding text commas
    comma_stop {e} comma ts h = go (g.goes ts h)
      where
        go : Rest pool file r ts o₀ o → Puts (commas (texts (fields_of file) ts)) o₀ p (Err e)
        go w = at_row w.holds refl
          where
            at_row : {us : Trees} → HoldsAll pool r us → us ≡ w.trees → Puts (commas (texts (fields_of file) ts)) o₀ p (Err e)
            at_row (none z q) s = absurd (n z)
            at_row (more t us i k hs q) s = w.whole (rw (sym s ∙ q) (puts_stop _ comma))

    -- a comma, and no room for the row
    pub row_stop : {u : ⊤} {q : Out} {e : Reason} → Puts (0x2C ∷ []) o p (Ok u) → ((t : Tree) → Holds pool r t → Puts (text (fields_of file) t) p q (Err e))
        → (ts : Trees) → HoldsAll pool r₀ ts → Puts (commas (texts (fields_of file) ts)) o₀ q (Err e)
    unfolding text commas
    row_stop {q = q} {e} comma put ts h = go (g.goes ts h)
      where
        go : Rest pool file r ts o₀ o → Puts (commas (texts (fields_of file) ts)) o₀ q (Err e)
        go w = at_row w.holds refl
          where
            at_row : {us : Trees} → HoldsAll pool r us → us ≡ w.trees → Puts (commas (texts (fields_of file) ts)) o₀ q (Err e)
            at_row (none z x) s = absurd (n z)
            at_row (more t us i k hs x) s = w.whole (rw (sym s ∙ x) (puts_append comma (puts_stop _ (put t k))))

    -- a comma and a row more
    pub gone : {u v : ⊤} {q : Out} {next : ℕ} → next ≡ word_of pool r 7 → Puts (0x2C ∷ []) o p (Ok u)
        → ((t : Tree) → Holds pool r t → Puts (text (fields_of file) t) p q (Ok v)) → Going pool file r₀ next left o₀ q
    unfolding text commas
    gone {q = q} {next} e comma put = record { rest = rw e (rest_ready g.rest n); goes = λ ts h. on ts (g.goes ts h) }
      where
        on : (ts : Trees) → Rest pool file r ts o₀ o → Rest pool file next ts o₀ q
        on ts w = go w.holds refl
          where
            go : {us : Trees} → HoldsAll pool r us → us ≡ w.trees → Rest pool file next ts o₀ q
            go (none z x) s = absurd (n z)
            go (more t us i h hs x) s = record {
              trees = us;
              holds = rw e hs;
              whole = λ y. w.whole (rw (sym s ∙ x) (puts_append comma (puts_append (put t h) y)));
            }
