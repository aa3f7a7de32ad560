-- Every text is a JSON text by the grammar of RFC 8259.
use mathlib.Core.Path.{◌≡◌, refl, sym, ap, subst, ◌∙◌}
use mathlib.Core.Bool.{Bool, true, ◌&&◌, and-eq-true_iff}
use mathlib.Core.Logic.{inl, inr}
use mathlib.Core.List.{List, [], ◌∷◌, ◌++◌, append_assoc, append-nil}
use Prim.Native.Nat.{ℕ, ◌+◌, ◌/◌, ◌%◌, ◌<◌}
use native.Mathlib.Decide.{dec_lt, ℕ_discrete}
use native.Mathlib.Omega.{arith}
use lib.Dec.{ltb}
use borrow.Author.Tests.{lt-ltb, le-ltb, ltb-true}
use Rattle.grammar.specs.Tree.{Tree, infixed, node, Trees, nil, ◌▸◌}
use Rattle.slots.specs.Slots.{Many, no as nowhere, one as single, at_most_one, any, some, slot}
use Rattle.text.specs.Fold.{folded}
use Rattle.unicode_text.specs.Unicode.{encode}
use Rattle.unicode_text.proofs.Texts.{well_formed_texts}
use Rattle.text.proofs.Keeps.{fold_keeps}
use Rattle.lines.specs.Decimal.{decimal}
use Rattle.lines.specs.Lines.{letters}
use Rattle.fields.specs.Field.{number}
use Rattle.payloads.specs.Fields.{Field, payload_at}
use Rattle.payloads.specs.Needs.{needs}
use Rattle.payloads.specs.Claims.{Bytes, Proper}
use Rattle.json_text.specs.Values.{hex, hexes, escape, escaped, quoted}
use Rattle.json_text.specs.Json.{name, expression_names, statement_names, shown, value, paid, head, listed, array, object_or_null, child, member, text, texts}
use Rattle.json_text.specs.Claims.{Grammatical}
use Rattle.json_text.specs.Rfc as rfc
use Rattle.json_text.proofs.Names.{all_below, one_below, Known}
use Rattle.json_text.proofs.Payloads.{Class, nothing, integer, str, float, char, identifier, class_of, proper_char, proper_str, proper_identifier}
use Rattle.json_text.proofs.Rows.{Row, paid_none, paid_some, commas, behind_commas, listed_behind}
use Rattle.json_text.proofs.Trees.{infix_row, Good, Goods}
use Rattle.json_text.proofs.Injective.{ready}
use Rattle.json_text.proofs.Texts.{Ascii, ascii_text, string_of, char_text, number_of, signed_of}

-- ASCII, by a test
ascii : List ℕ → Bool
ascii [] = true
ascii (b ∷ bs) = ltb b 0x80 && ascii bs

ascii_true : (bs : List ℕ) → ascii bs ≡ true → Ascii bs
unfolding ascii
ascii_true [] e = tt
ascii_true (b ∷ bs) e = let (a, r) = (and-eq-true_iff (ltb b 0x80) (ascii bs)).0 e in (ltb-true b 0x80 a, ascii_true bs r)

-- The names of the kinds are strings: one computed test.
all_ascii : all_below 47 (λ k. ascii (name k)) ≡ true
unfolding all_below ascii name expression_names statement_names
all_ascii = refl

below_47 : (k : ℕ) → Known k → k < 47
below_47 k (inl h) = omega arith
below_47 k (inr h) = omega arith

name_string : (k : ℕ) → Known k → rfc.String (quoted (name k))
name_string k h = string_of (name k) (ascii_text (name k) (ascii_true (name k) (one_below 47 (λ k. ascii (name k)) k all_ascii (below_47 k h))))

-- Keys.
key : (bs : List ℕ) → ascii bs ≡ true → rfc.String (quoted bs)
key bs e = string_of bs (ascii_text bs (ascii_true bs e))

key_kind : rfc.String (letters "\"kind\"")
unfolding quoted escaped escape ascii
key_kind = key (letters "kind") refl

key_mark : rfc.String (letters "\"mark\"")
unfolding quoted escaped escape ascii
key_mark = key (letters "mark") refl

key_place : rfc.String (letters "\"place\"")
unfolding quoted escaped escape ascii
key_place = key (letters "place") refl

key_payload : rfc.String (letters "\"payload\"")
unfolding quoted escaped escape ascii
key_payload = key (letters "payload") refl

abbrev KeyOf : ℕ → Type 0
KeyOf i = rfc.String (0x22 ∷ 0x63 ∷ (48 + i) ∷ 0x22 ∷ [])

key_0 : KeyOf 0
unfolding quoted escaped escape ascii
key_0 = key (letters "c0") refl

key_1 : KeyOf 1
unfolding quoted escaped escape ascii
key_1 = key (letters "c1") refl

key_2 : KeyOf 2
unfolding quoted escaped escape ascii
key_2 = key (letters "c2") refl

key_3 : KeyOf 3
unfolding quoted escaped escape ascii
key_3 = key (letters "c3") refl

-- A sign without spaces, a member, a comma and a member, members behind members.
mark : (b : ℕ) → rfc.Sign b (b ∷ [])
mark b = rfc.sign rfc.no_ws rfc.no_ws

a_member : (s v : List ℕ) → rfc.String s → rfc.Value v → rfc.Member (s ++ (0x3A ∷ v))
a_member s v h k = rfc.member h (mark 0x3A) k

one_more : (s v : List ℕ) → rfc.String s → rfc.Value v → rfc.Members (0x2C ∷ (s ++ (0x3A ∷ v)))
one_more s v h k = subst (λ m. rfc.Members (0x2C ∷ m)) (append-nil (s ++ (0x3A ∷ v))) (rfc.more_members (mark 0x2C) (a_member s v h k) rfc.no_members)

members_append : {a b : List ℕ} → rfc.Members a → rfc.Members b → rfc.Members (a ++ b)
members_append rfc.no_members k = k
members_append {b = b} (rfc.more_members {s = s} {m = m} {r = r} c h rest) k =
    subst rfc.Members (sym (simp append_assoc)) (rfc.more_members c h (members_append rest k))

-- Payloads.
hex_ascii : (d : ℕ) → d < 16 → hex d < 0x80
unfolding hex
hex_ascii d h = go (dec_lt d 10)
  where
    go : Dec (d < 10) → hex d < 0x80
    go (yes l) = rw (lt-ltb d 10 l) (omega arith)
    go (no l) = rw (le-ltb d 10 (omega arith)) (omega arith)

hexes_ascii : (bs : List ℕ) → Bytes bs → Ascii (hexes bs)
unfolding hexes
hexes_ascii [] h = tt
hexes_ascii (b ∷ bs) (l, h) = (hex_ascii (b / 16) (omega arith), (hex_ascii (b % 16) (omega arith), hexes_ascii bs h))

payload_value : {c : ℕ} (bs : List ℕ) → Class c → (c ≡ 0 → ⊥) → Proper c bs → rfc.Value (value c (shown c bs))
unfolding value shown
payload_value bs nothing h p = absurd (h refl)
payload_value bs integer h p = rfc.a_number (signed_of (number 0 bs))
payload_value bs str h p = rfc.a_string (string_of (folded bs) ((well_formed_texts (folded bs)).0 (fold_keeps bs (proper_str bs p))))
payload_value bs float h p = rfc.a_string (string_of (hexes bs) (ascii_text (hexes bs) (hexes_ascii bs p.are_bytes)))
payload_value bs char h p = rfc.a_string (string_of (encode (number 0 bs)) (char_text (number 0 bs) (proper_char bs p).1))
payload_value bs identifier h p = rfc.a_string (string_of bs ((well_formed_texts bs).0 (proper_identifier bs p)))

paid_members : (fs : List Field) (k p : ℕ) → Row fs k p → rfc.Members (paid fs k p)
paid_members fs k p r = go (ℕ_discrete (needs k) 0)
  where
    go : Dec (needs k ≡ 0) → rfc.Members (paid fs k p)
    go (yes h) = rw (paid_none fs k p h) rfc.no_members
    go (no h) = rw (paid_some fs k p h) (one_more (letters "\"payload\"") _ key_payload (payload_value (payload_at fs p) (class_of k) h (r.proper h)))

-- Slots.
abbrev AllValues : List (List ℕ) → Type 0
AllValues [] = Unit {0}
AllValues (t ∷ ts) = rfc.Value t × AllValues ts

object_value : (ts : List (List ℕ)) → AllValues ts → rfc.Value (object_or_null ts)
unfolding object_or_null
object_value [] h = rfc.is_null
object_value (t ∷ ts) (v, h) = v

values_of : (ts : List (List ℕ)) → AllValues ts → rfc.Values (commas ts)
unfolding commas
values_of [] h = rfc.no_values
values_of (t ∷ ts) (v, h) = rfc.more_values (mark 0x2C) v (values_of ts h)

array_value : (ts : List (List ℕ)) → AllValues ts → rfc.Value (array ts)
unfolding array listed
array_value [] h = rfc.empty_array (mark 0x5B) (mark 0x5D)
array_value (t ∷ ts) (v, h) =
    subst (λ l. rfc.Value (0x5B ∷ l)) (sym (listed_behind t ts [] ∙ ap (λ l. t ++ l) (behind_commas ts []))) (rfc.array (mark 0x5B) v (values_of ts h) (mark 0x5D))

child_members : (i : ℕ) (v : List ℕ) → KeyOf i → rfc.Value v → rfc.Members (child i v)
unfolding child
child_members i v h k = one_more (0x22 ∷ 0x63 ∷ (48 + i) ∷ 0x22 ∷ []) v h k

slot_members : (i : ℕ) (m : Many) (ts : List (List ℕ)) → KeyOf i → AllValues ts → rfc.Members (member i m ts)
unfolding member
slot_members i nowhere ts h k = rfc.no_members
slot_members i single ts h k = child_members i (object_or_null ts) h (object_value ts k)
slot_members i at_most_one ts h k = child_members i (object_or_null ts) h (object_value ts k)
slot_members i any ts h k = child_members i (array ts) h (array_value ts k)
slot_members i some ts h k = child_members i (array ts) h (array_value ts k)

-- Rows.
regroup : (k q m n p o d r z : List ℕ) → k ++ q ++ (m ++ n ++ (p ++ o ++ (d ++ r)) ++ z) ≡ k ++ (q ++ (m ++ (n ++ (p ++ (o ++ d))))) ++ (r ++ z)
regroup k q m n p o d r z = simp append_assoc

row_value : (fs : List Field) (k m p : ℕ) (r : List ℕ) → Row fs k p → rfc.Members r → rfc.Value (head fs k m p ++ (r ++ (0x7D ∷ [])))
unfolding head
row_value fs k m p r row h =
    let marks = one_more (letters "\"mark\"") (decimal m) key_mark (rfc.a_number (number_of m)) in
    let places = one_more (letters "\"place\"") (decimal p) key_place (rfc.a_number (number_of p)) in
    let rest = members_append marks (members_append places (members_append (paid_members fs k p row) h)) in
    let kind = a_member (letters "\"kind\"") (quoted (name k)) key_kind (rfc.a_string (name_string k row.known)) in
    subst rfc.Value (regroup (letters "{\"kind\":") (quoted (name k)) (letters ",\"mark\":") (decimal m) (letters ",\"place\":") (decimal p) (paid fs k p) r (0x7D ∷ []))
    (rfc.object (mark 0x7B) kind rest (mark 0x7D))

node_value : (fs : List Field) (k m p z : ℕ) (a b c d : Trees) → Row fs k p → AllValues (texts fs a) → AllValues (texts fs b) → AllValues (texts fs c) → AllValues (texts fs d)
    → rfc.Value (text fs (node k m p a b c d z))
unfolding text
node_value fs k m p z a b c d r va vb vc vd =
    let h = members_append (slot_members 0 (slot k 0).many (texts fs a) key_0 va)
    (members_append (slot_members 1 (slot k 1).many (texts fs b) key_1 vb)
    (members_append (slot_members 2 (slot k 2).many (texts fs c) key_2 vc) (slot_members 3 (slot k 3).many (texts fs d) key_3 vd))) in
    subst rfc.Value (simp append_assoc) (row_value fs k m p _ r h)

infix_value : (fs : List Field) (m p z : ℕ) (l r : Tree) → rfc.Value (text fs l) → rfc.Value (text fs r) → rfc.Value (text fs (infixed m p l r z))
unfolding text
infix_value fs m p z l r vl vr =
    let h = members_append (slot_members 0 single (text fs l ∷ []) key_0 (vl, tt)) (slot_members 1 single (text fs r ∷ []) key_1 (vr, tt)) in
    subst rfc.Value (simp append_assoc) (row_value fs 12 m p _ (infix_row fs p) h)

module _ (fs : List Field) where
  mutual
    unfolding text

    pub tree_value : (t : Tree) → Good fs t → rfc.Value (text fs t)
    tree_value (infixed m p l r z) (g, h) = infix_value fs m p z l r (tree_value l g) (tree_value r h)
    tree_value (node k m p a b c d z) g =
        node_value fs k m p z a b c d g.0 (trees_values a g.3) (trees_values b g.4) (trees_values c g.5) (trees_values d g.6)

    trees_values : (ts : Trees) → Goods fs ts → AllValues (texts fs ts)
    trees_values nil g = tt
    trees_values (t ▸ ts) (g, gs) = (tree_value t g, trees_values ts gs)

pub grammatical : Grammatical
grammatical fs t r = subst rfc.Text (append-nil (text fs t)) (rfc.text rfc.no_ws (tree_value fs t (ready fs t r)) rfc.no_ws)
