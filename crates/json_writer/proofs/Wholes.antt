-- Texts from their parts: what is put for a payload, a head, a slot and a row.
use Prim.Native.Nat.{ℕ, ◌+◌, ◌*◌, ◌≤◌, ◌<◌}
use native.Mathlib.Omega.{arith}
use mathlib.Core.Path.{◌≡◌, refl, ap, ◌∙◌}
use mathlib.Core.Bool.{true, false}
use mathlib.Core.List.{List, [], ◌∷◌, ◌++◌, append_assoc}
use Rattle.grammar.specs.Tree.{Tree, Trees, nil, ◌▸◌}
use Rattle.grammar.specs.Script.{word_of}
use Rattle.slots.specs.Slots.{Slot, Many, no as nowhere, one as single, at_most_one, any, some, Takes, names, expressions, statements, blocks, pairs, plain-identifier, any-root, ◌of◌, slot}
use Rattle.slots.specs.Fine.{is_list}
use Rattle.slots.specs.Codes.{many_code, kinds_code, code}
use Rattle.files.specs.File.{read}
use Rattle.lines.specs.Lines.{letters}
use Rattle.payloads.specs.Fields.{Field, fields_of, payload_at}
use Rattle.payloads.specs.Needs.{needs, placed}
use Rattle.payloads.specs.Index.{laid, payload_by}
use Rattle.payloads.proofs.Same.{same_fields}
use Rattle.payloads.proofs.LooksUp.{looks_up}
use Rattle.trees.specs.Pool.{Holds, infix_row, row, HoldsAll, none, more}
use Rattle.trees.proofs.Sound.{infix_slots}
use Rattle.json_text.specs.Json.{shown, value, paid, head, listed, array, object_or_null, child, member, text, texts}
use Rattle.json_text.proofs.Rows.{paid_some}
use Rattle.json_text.proofs.Injective.{placed_proper}
use denote.Enum.Declared.{tag_of}
use Rattle.fields.specs.contracts.classes.Class.{the_type}
use Rattle.fields.specs.declared.classes.Class.{Class}
use Rattle.fields.specs.declared.classes.Class.TheVariants.{Invalid, Empty, Eof, Integer, Str, Float, Char, Identifier, Operator, Keyword, Unknown}
use Rattle.fields.specs.Classes.{tag}
use Rattle.std.specs.Prelude.{Result, Ok, Err, ⊤}
use Rattle.refusals.specs.declared.Reason.{Reason}
use Rattle.json_values.specs.declared.output.Out.{Out}
use Rattle.json_values.specs.Puts.{Puts}
use Rattle.json_values.specs.Valued.{valued}
use Rattle.json_values.proofs.Puts.{puts_append, puts_none, puts_stop}
use Rattle.json_values.proofs.Valued.{as_value}
use Rattle.json_writer.specs.Ready.{first_members, key, Indexes}

-- The number of a class is its tag.
pub tag_number : (c : Class) → tag_of the_type c ≡ tag c
tag_number Invalid = refl
tag_number Empty = refl
tag_number Eof = refl
tag_number Integer = refl
tag_number Str = refl
tag_number Float = refl
tag_number Char = refl
tag_number Identifier = refl
tag_number Operator = refl
tag_number Keyword = refl
tag_number Unknown = refl

-- The value that is put for a payload that is looked up.
pub value_by : {file starts : List ℕ} {count : ℕ} (k p : ℕ) → Indexes file starts count → placed (fields_of file) k p ≡ true → (needs k ≡ 0 → ⊥)
    → valued (needs k) (payload_by file starts count p) ≡ value (needs k) (shown (needs k) (payload_at (fields_of file) p))
value_by {file} {starts} {count} k p x e n =
    let found : payload_by file starts count p ≡ payload_at (fields_of file) p =
    ap (λ s. payload_by file s count p) x.index ∙ ap (λ c. payload_by file (laid file (read x.words)) c p) x.counted ∙ (looks_up file x.words p x.given).1 in
    let proper = placed_proper (fields_of file) (same_fields file x.words x.given x.are_bytes).2 k p e n in
    ap (valued (needs k)) found ∙ as_value (needs k) (payload_at (fields_of file) p) proper

head_parts : (fs : List Field) (k m p : ℕ) → first_members k m p ++ paid fs k p ≡ head fs k m p
unfolding first_members head
head_parts fs k m p = simp append_assoc

-- A key and what stands behind it.
child_parts : (i : ℕ) (v : List ℕ) → key i ++ v ≡ child i v
unfolding key child
child_parts i v = refl

module _ {o p q : Out} {u : ⊤} {r : Result ⊤ Reason} where
  pub paid_by : {file starts : List ℕ} {count : ℕ} (k i : ℕ) → Indexes file starts count → placed (fields_of file) k i ≡ true → (needs k ≡ 0 → ⊥)
      → Puts (letters ",\"payload\":") o p (Ok u) → Puts (valued (needs k) (payload_by file starts count i)) p q r
      → Puts (paid (fields_of file) k i) o q r
  paid_by {file} {starts} {count} k i x e n a b = rw (paid_some (fields_of file) k i n) (puts_append a (rw (← (value_by k i x e n)) b))

  pub head_by : (fs : List Field) (k m i : ℕ) → Puts (first_members k m i) o p (Ok u) → Puts (paid fs k i) p q r → Puts (head fs k m i) o q r
  head_by fs k m i a b = rw (← (head_parts fs k m i)) (puts_append a b)

  pub child_by : (i : ℕ) (v : List ℕ) → Puts (key i) o p (Ok u) → Puts v p q r → Puts (child i v) o q r
  child_by i v a b = rw (← (child_parts i v)) (puts_append a b)

-- Where there is no room for the first part.
module _ {o p : Out} {e : Reason} where
  pub paid_stop : (fs : List Field) (k i : ℕ) → (needs k ≡ 0 → ⊥) → Puts (letters ",\"payload\":") o p (Err e) → Puts (paid fs k i) o p (Err e)
  paid_stop fs k i n a = rw (paid_some fs k i n) (puts_stop _ a)

  pub head_stop : (fs : List Field) (k m i : ℕ) → Puts (first_members k m i) o p (Err e) → Puts (head fs k m i) o p (Err e)
  head_stop fs k m i a = rw (← (head_parts fs k m i)) (puts_stop _ a)

  -- that of a member, whatever its slot takes
  pub key_stop : (i : ℕ) (m : Many) (fs : List Field) → (m ≡ nowhere → ⊥) → (ts : Trees) → Puts (key i) o p (Err e) → Puts (member i m (texts fs ts)) o p (Err e)
  unfolding member child key
  key_stop i nowhere fs n ts a = absurd (n refl)
  key_stop i single fs n ts a = puts_stop _ a
  key_stop i at_most_one fs n ts a = puts_stop _ a
  key_stop i any fs n ts a = puts_stop _ a
  key_stop i some fs n ts a = puts_stop _ a

-- Slots by their numbers.
low_kinds : (s : Takes) → kinds_code s < 16
low_kinds expressions = omega arith
low_kinds statements = omega arith
low_kinds blocks = omega arith
low_kinds pairs = omega arith
low_kinds names = omega arith
low_kinds plain-identifier = omega arith
low_kinds any-root = omega arith

pub no_slot : (s : Slot) → code s < 16 → s.many ≡ nowhere
unfolding code
no_slot s h = go s.many h
  where
    go : (m : Many) → 16 * many_code m + kinds_code s.kinds < 16 → m ≡ nowhere
    go nowhere l = refl
    go single l = absurd (omega arith)
    go at_most_one l = absurd (omega arith)
    go any l = absurd (omega arith)
    go some l = absurd (omega arith)

pub a_slot : (s : Slot) → 16 ≤ code s → s.many ≡ nowhere → ⊥
unfolding code
a_slot s h e =
    let l = low_kinds s.kinds in
    let g : 16 ≤ 16 * many_code nowhere + kinds_code s.kinds = rw e at h in
    omega arith

-- no member where the kind has no such slot
pub nothing_by : (i : ℕ) (m : Many) (fs : List Field) {o : Out} → m ≡ nowhere → (ts : Trees) → Puts (member i m (texts fs ts)) o o (Ok tt)
unfolding member
nothing_by i m fs e ts = rw e puts_none

module _ {o p : Out} {r : Result ⊤ Reason} (i : ℕ) (m : Many) (fs : List Field) where
  -- an array
  pub array_by : is_list m ≡ true → (ts : Trees) → Puts (child i (array (texts fs ts))) o p r → Puts (member i m (texts fs ts)) o p r
  unfolding member
  array_by l ts x = go m l
    where
      go : (n : Many) → is_list n ≡ true → Puts (member i n (texts fs ts)) o p r
      go nowhere e = let z : ◌≡◌ {A = ℕ} 0 1 = cc in absurd (omega arith)
      go single e = let z : ◌≡◌ {A = ℕ} 0 1 = cc in absurd (omega arith)
      go at_most_one e = let z : ◌≡◌ {A = ℕ} 0 1 = cc in absurd (omega arith)
      go any e = x
      go some e = x

  -- an object or null
  pub object_by : is_list m ≡ false → (m ≡ nowhere → ⊥) → (ts : Trees) → Puts (child i (object_or_null (texts fs ts))) o p r → Puts (member i m (texts fs ts)) o p r
  unfolding member
  object_by l n ts x = go m l n
    where
      go : (k : Many) → is_list k ≡ false → (k ≡ nowhere → ⊥) → Puts (member i k (texts fs ts)) o p r
      go nowhere e n = absurd (n refl)
      go single e n = x
      go at_most_one e n = x
      go any e n = let z : ◌≡◌ {A = ℕ} 0 1 = cc in absurd (omega arith)
      go some e n = let z : ◌≡◌ {A = ℕ} 0 1 = cc in absurd (omega arith)

module _ {pool : List ℕ} {o p : Out} {r : Result ⊤ Reason} {c : ℕ} (fs : List Field) where
  pub null_by : c ≡ 0 → (ts : Trees) → HoldsAll pool c ts → Puts (letters "null") o p r → Puts (object_or_null (texts fs ts)) o p r
  unfolding object_or_null text
  null_by z ts (none y q) x = rw q x
  null_by z ts (more t us j h hs q) x = absurd (omega (arith, j))

  pub row_by : (c ≡ 0 → ⊥) → (ts : Trees) → HoldsAll pool c ts → ((t : Tree) → Holds pool c t → Puts (text fs t) o p r)
      → Puts (object_or_null (texts fs ts)) o p r
  unfolding object_or_null text
  row_by n ts (none y q) x = absurd (n y)
  row_by n ts (more t us j h hs q) x = rw q (x t h)

-- An array from its brackets and its list.
module _ (ts : List (List ℕ)) {o p : Out} where
  pub bracket_stop : {e : Reason} → Puts (0x5B ∷ []) o p (Err e) → Puts (array ts) o p (Err e)
  unfolding array
  bracket_stop x = puts_stop _ x

  module _ {u : ⊤} (x : Puts (0x5B ∷ []) o p (Ok u)) where
    pub listed_stop : {q : Out} {e : Reason} → Puts (listed ts) p q (Err e) → Puts (array ts) o q (Err e)
    unfolding array
    listed_stop y = puts_append x (puts_stop _ y)

    pub brackets_by : {v : ⊤} {q r : Out} {s : Result ⊤ Reason} → Puts (listed ts) p q (Ok v) → Puts (0x5D ∷ []) q r s → Puts (array ts) o r s
    unfolding array
    brackets_by y z = puts_append x (puts_append y z)

-- A row's text from its head, its slots and the brace behind them.
pub record RowParts (pool : List ℕ) (fs : List Field) (r : ℕ) (t : Tree) : Type 0 where
  pub a : Trees
  pub b : Trees
  pub c : Trees
  pub d : Trees
  pub in_0 : HoldsAll pool (word_of pool r 3) a
  pub in_1 : HoldsAll pool (word_of pool r 4) b
  pub in_2 : HoldsAll pool (word_of pool r 5) c
  pub in_3 : HoldsAll pool (word_of pool r 6) d
  pub is : text fs t ≡ head fs (word_of pool r 0) (word_of pool r 1) (word_of pool r 2)
      ++ (member 0 (slot (word_of pool r 0) 0).many (texts fs a)
      ++ (member 1 (slot (word_of pool r 0) 1).many (texts fs b)
      ++ (member 2 (slot (word_of pool r 0) 2).many (texts fs c)
      ++ (member 3 (slot (word_of pool r 0) 3).many (texts fs d) ++ (0x7D ∷ [])))))

pub row_parts : (pool : List ℕ) (fs : List Field) (r : ℕ) (t : Tree) → Holds pool r t → RowParts pool fs r t
unfolding text member
row_parts pool fs r t (infix_row l k w hl hk h2 h3 q) = record {
  a = l ▸ nil;
  b = k ▸ nil;
  c = nil;
  d = nil;
  in_0 = hl;
  in_1 = hk;
  in_2 = h2;
  in_3 = h3;
  is = rw q (sides (infix_slots (word_of pool r 0) w));
}
  where
    sides : (slot (word_of pool r 0) 0 ≡ single of expressions) × (slot (word_of pool r 0) 1 ≡ single of expressions)
        × (slot (word_of pool r 0) 2 ≡ nowhere of names) × (slot (word_of pool r 0) 3 ≡ nowhere of names)
        → head fs 12 (word_of pool r 1) (word_of pool r 2) ++ (member 0 single (text fs l ∷ []) ++ (member 1 single (text fs k ∷ []) ++ (0x7D ∷ [])))
        ≡ head fs (word_of pool r 0) (word_of pool r 1) (word_of pool r 2)
        ++ (member 0 (slot (word_of pool r 0) 0).many (text fs l ∷ [])
        ++ (member 1 (slot (word_of pool r 0) 1).many (text fs k ∷ [])
        ++ (member 2 (slot (word_of pool r 0) 2).many []
        ++ (member 3 (slot (word_of pool r 0) 3).many [] ++ (0x7D ∷ [])))))
    sides (e₀, e₁, e₂, e₃) = rw (e₀, e₁, e₂, e₃, w)
row_parts pool fs r t (row a b c d n ha hb hc hd q) = record { a = a; b = b; c = c; d = d; in_0 = ha; in_1 = hb; in_2 = hc; in_3 = hd; is = rw q }
