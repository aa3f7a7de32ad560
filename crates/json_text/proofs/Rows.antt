-- The members of a row: each ends by its own form.
use mathlib.Core.Path.{◌≡◌, refl, sym, ap, ◌∙◌}
use mathlib.Core.List.{List, [], ◌∷◌, ◌++◌, append_assoc, append-nil, append_cancel_left as cancel}
use Prim.Native.Nat.{ℕ}
use native.Mathlib.Decide.{ℕ_discrete}
use native.Mathlib.Omega.{arith}
use borrow.Author.Tests.{ne_eqb}
use Rattle.slots.specs.Slots.{Many, no as nowhere, one as single, at_most_one, any, some}
use Rattle.lines.specs.Decimal.{decimal}
use Rattle.lines.specs.Lines.{letters}
use Rattle.payloads.specs.Fields.{Field, payload_at}
use Rattle.payloads.specs.Needs.{needs}
use Rattle.payloads.specs.Claims.{Proper}
use Rattle.json_text.specs.Values.{quoted}
use Rattle.json_text.specs.Json.{name, shown, value, paid, head, listed, child, member}
use Rattle.json_text.proofs.Decimal.{Stops, decimal_law}
use Rattle.json_text.proofs.Strings.{quoted_law}
use Rattle.json_text.proofs.Names.{Known, names_law}
use Rattle.json_text.proofs.Payloads.{value_law}

-- A row that is written: a known kind, and where it has a payload one that is proper.
pub record Row (fs : List Field) (k p : ℕ) : Type 0 where
  pub known : Known k
  pub proper : (needs k ≡ 0 → ⊥) → Proper (needs k) (payload_at fs p)

-- What is shown of a row's payload is the same.
abbrev pub Same : (fs gs : List Field) (k p : ℕ) → Type 0
Same fs gs k p = (needs k ≡ 0 → ⊥) → shown (needs k) (payload_at fs p) ≡ shown (needs k) (payload_at gs p)

pub paid_none : (fs : List Field) (k p : ℕ) → needs k ≡ 0 → paid fs k p ≡ []
unfolding paid
paid_none fs k p h = rw h

pub paid_some : (fs : List Field) (k p : ℕ) → (needs k ≡ 0 → ⊥) → paid fs k p ≡ letters ",\"payload\":" ++ value (needs k) (shown (needs k) (payload_at fs p))
unfolding paid
paid_some fs k p h = rw (ne_eqb (needs k) 0 h)

pub paid_same : (fs gs : List Field) (k p : ℕ) → Same fs gs k p → paid fs k p ≡ paid gs k p
paid_same fs gs k p s = go (ℕ_discrete (needs k) 0)
  where
    go : Dec (needs k ≡ 0) → paid fs k p ≡ paid gs k p
    go (yes h) = paid_none fs k p h ∙ sym (paid_none gs k p h)
    go (no h) = paid_some fs k p h ∙ ap (λ v. letters ",\"payload\":" ++ value (needs k) v) (s h) ∙ sym (paid_some gs k p h)

pub stops_paid : (fs : List Field) (k p : ℕ) (x : List ℕ) → Stops x → Stops (paid fs k p ++ x)
stops_paid fs k p x s = go (ℕ_discrete (needs k) 0)
  where
    go : Dec (needs k ≡ 0) → Stops (paid fs k p ++ x)
    go (yes h) = rw (paid_none fs k p h) s
    go (no h) = rw (paid_some fs k p h) (λ a b. omega arith)

paid_law : (fs gs : List Field) (k p : ℕ) (x y : List ℕ) → Row fs k p → Row gs k p → Stops x → Stops y → paid fs k p ++ x ≡ paid gs k p ++ y → Same fs gs k p × (x ≡ y)
paid_law fs gs k p x y r s u v e = go (ℕ_discrete (needs k) 0)
  where
    go : Dec (needs k ≡ 0) → Same fs gs k p × (x ≡ y)
    go (yes h) = (λ n. absurd (n h), rw (paid_none fs k p h, paid_none gs k p h) at e)
    go (no h) =
        let f : letters ",\"payload\":" ++ (value (needs k) (shown (needs k) (payload_at fs p)) ++ x) ≡ letters ",\"payload\":" ++ (value (needs k) (shown (needs k) (payload_at gs p)) ++ y) =
        rw (paid_some fs k p h, paid_some gs k p h) at e in
        let (same, rest) = value_law (needs k) (payload_at fs p) (payload_at gs p) x y (r.proper h) (s.proper h) u v (cancel (letters ",\"payload\":") _ _ f) in
        (λ n. same, rest)

-- The first members, and what stands behind them.
pub head_whole : (fs : List Field) (k m p : ℕ) (x : List ℕ)
    → head fs k m p ++ x ≡ letters "{\"kind\":" ++ (quoted (name k) ++ (letters ",\"mark\":" ++ (decimal m ++ (letters ",\"place\":" ++ (decimal p ++ (paid fs k p ++ x))))))
unfolding head
head_whole fs k m p x = simp append_assoc

pub record Heads (fs gs : List Field) (k j m n p q : ℕ) (x y : List ℕ) : Type 0 where
  pub kinds : k ≡ j
  pub marks : m ≡ n
  pub places : p ≡ q
  pub same : Same fs gs k p
  pub behind : x ≡ y

pub head_law : (fs gs : List Field) (k j m n p q : ℕ) (x y : List ℕ) → Row fs k p → Row gs j q → Stops x → Stops y
    → head fs k m p ++ x ≡ head gs j n q ++ y → Heads fs gs k j m n p q x y
head_law fs gs k j m n p q x y r s u v e =
    let f = cancel (letters "{\"kind\":") _ _ (sym (head_whole fs k m p x) ∙ e ∙ head_whole gs j n q y) in
    let (a, g) = quoted_law (name k) (name j) _ _ f in
    let kind : k ≡ j = names_law k j r.known s.known a in
    let h = cancel (letters ",\"mark\":") _ _ g in
    let (mark, i) = decimal_law m n _ _ (λ a b. omega arith) (λ a b. omega arith) h in
    let l = cancel (letters ",\"place\":") _ _ i in
    let (place, w) = decimal_law p q _ _ (stops_paid fs k p x u) (stops_paid gs j q y v) l in
    let s' : Row gs k p = rw (kind, place) s in
    let w' : paid fs k p ++ x ≡ paid gs k p ++ y = rw (← kind, ← place) at w in
    let (same, rest) = paid_law fs gs k p x y r s' u v w' in
    record { kinds = kind; marks = mark; places = place; same = same; behind = rest }

-- The member of a slot.
pub child_law : (i : ℕ) (v w x y : List ℕ) → child i v ++ x ≡ child i w ++ y → v ++ x ≡ w ++ y
unfolding child
child_law i v w x y e = cc

pub stops_child : (i : ℕ) (v x : List ℕ) → Stops (child i v ++ x)
unfolding child
stops_child i v x a b = omega arith

pub stops_member : (i : ℕ) (m : Many) (ts : List (List ℕ)) (x : List ℕ) → Stops x → Stops (member i m ts ++ x)
unfolding member
stops_member i nowhere ts x s = s
stops_member i single ts x s = stops_child i _ x
stops_member i at_most_one ts x s = stops_child i _ x
stops_member i any ts x s = stops_child i _ x
stops_member i some ts x s = stops_child i _ x

-- A list behind its first text.
unfoldable pub behind : List (List ℕ) → List ℕ → List ℕ
behind [] x = 0x5D ∷ x
behind (t ∷ ts) x = 0x2C ∷ (t ++ behind ts x)

pub listed_behind : (t : List ℕ) (ts : List (List ℕ)) (x : List ℕ) → listed (t ∷ ts) ++ (0x5D ∷ x) ≡ t ++ behind ts x
unfolding listed behind
listed_behind t [] x = refl
listed_behind t (u ∷ ts) x = append_assoc t (0x2C ∷ listed (u ∷ ts)) (0x5D ∷ x) ∙ ap (λ l. t ++ (0x2C ∷ l)) (listed_behind u ts x)

-- The texts of a list, each behind a comma.
unfoldable pub commas : List (List ℕ) → List ℕ
commas [] = []
commas (t ∷ ts) = 0x2C ∷ (t ++ commas ts)

pub behind_commas : (ts : List (List ℕ)) (x : List ℕ) → behind ts x ≡ commas ts ++ (0x5D ∷ x)
unfolding commas behind
behind_commas [] x = refl
behind_commas (t ∷ ts) x = rw (behind_commas ts x) (ap (λ l. 0x2C ∷ l) (sym (append_assoc t (commas ts) (0x5D ∷ x))))

pub listed_commas : (t : List ℕ) (ts : List (List ℕ)) → listed (t ∷ ts) ≡ t ++ commas ts
unfolding listed commas
listed_commas t [] = sym (append-nil t)
listed_commas t (u ∷ ts) = ap (λ l. t ++ (0x2C ∷ l)) (listed_commas u ts)
