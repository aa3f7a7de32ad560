-- What a test tells of the word of an operator or a keyword that is one of some, or none of them.
use Rattle.std.proofs.Common.{ℕ, ◌+◌, ◌*◌, ◌<◌, ◌≡◌, Bool, true, false, ◌||◌, List, [], ◌∷◌, refl, sym, ap}
use mathlib.Core.Bool.{and-eq-true_iff}
use mathlib.Core.Logic.{◌⊎◌, ⊎_elim}
use lib.Dec.{eqb}
use borrow.Author.Tests.{eqb-true, ltb-true}
use Rattle.grammar.specs.Words as g
use Rattle.tokens.specs.declared.Symbol.{Symbol}
use Rattle.tokens.specs.declared.Keyword.{Keyword as Key}
use Rattle.tokens.specs.declared.Token.{Token}
use Rattle.tokens.specs.declared.Token.TheVariants.{Operator, Keyword}
use Rattle.tokens.specs.Symbols.{symbol_code, keyword_code, symbol_at, keyword_at}
use Rattle.tokens.specs.Tokens.{word}
use Rattle.tokens.proofs.Tests.{all, below, has, under}
use Rattle.tokens.proofs.Arms.{symbol_coded, keyword_coded}

-- One of those at some numbers: an arm `A | B`.
abbrev pub OneAt : {A : Type 0} (there : ℕ → A) → List ℕ → A → Type 0
OneAt there [] x = ⊥
OneAt there (k ∷ []) x = x ≡ there k
OneAt there (k ∷ j ∷ ks) x = (x ≡ there k) ⊎ OneAt there (j ∷ ks) x

-- None of those at some numbers: an arm `_`.
abbrev pub NoneAt : {A : Type 0} (there : ℕ → A) → List ℕ → A → Type 0
NoneAt there [] x = Unit
NoneAt there (k ∷ ks) x = (x ≡ there k → ⊥) × NoneAt there ks x

one_at : {A : Type 0} (there : ℕ → A) (q : A → Bool) (ks : List ℕ) (x : A) → OneAt there ks x → all (λ k. q (there k)) ks ≡ true → q x ≡ true
one_at there q [] x o h = absurd o
one_at there q (k ∷ []) x o h = rw o ((and-eq-true_iff (q (there k)) true).0 h).0
one_at there q (k ∷ j ∷ ks) x o h =
    let both = (and-eq-true_iff (q (there k)) (all (λ k. q (there k)) (j ∷ ks))).0 h in
    ⊎_elim (λ e. rw e both.0) (λ l. one_at there q (j ∷ ks) x l both.1) o

none_at : {A : Type 0} (there : ℕ → A) (ks : List ℕ) (n : ℕ) → NoneAt there ks (there n) → has ks n ≡ false
none_at there [] n o = refl
none_at there (k ∷ ks) n o = go (none_at there ks n o.1) (eqb k n) refl
  where
    go : has ks n ≡ false → (b : Bool) → eqb k n ≡ b → (b || has ks n) ≡ false
    go f true e = absurd (o.0 (ap there (sym (eqb-true k n e))))
    go f false e = f

-- The test passes at each number below another that a list does not have.
abbrev pub besides : (ℕ → Bool) → List ℕ → ℕ → Bool
besides p ks n = below (λ k. has ks k || p k) n

passes : (p : ℕ → Bool) (ks : List ℕ) (n : ℕ) → besides p ks n ≡ true → (k : ℕ) → k < n → has ks k ≡ false → p k ≡ true
passes p ks n h k l f = rw f at (under (λ k. has ks k || p k) n h k l)

-- An operator that is one of some.
pub one_operator : (p : ℕ → Bool) (ks : List ℕ) {t : Token} {s : Symbol} → t ≡ Operator s → OneAt symbol_at ks s → all (λ k. p (word (Operator (symbol_at k)))) ks ≡ true
    → p (word t) ≡ true
one_operator p ks {t} {s} e o h = rw e (one_at symbol_at (λ s. p (word (Operator s))) ks s o h)

-- An operator that is none of some.
pub other_operator : (p : ℕ → Bool) (ks : List ℕ) {t : Token} {s : Symbol} → t ≡ Operator s → NoneAt symbol_at ks s → besides (λ k. p (g.Operator * 256 + k)) ks 41 ≡ true
    → p (word t) ≡ true
other_operator p ks {t} {s} e o h =
    let c = symbol_coded s in
    let none : has ks (symbol_code s) ≡ false = none_at symbol_at ks (symbol_code s) (rw c.2 at o) in
    rw e (passes (λ k. p (g.Operator * 256 + k)) ks 41 h (symbol_code s) (ltb-true _ _ c.1) none)

-- A keyword that is one of some.
pub one_keyword : (p : ℕ → Bool) (ks : List ℕ) {t : Token} {k : Key} → t ≡ Keyword k → OneAt keyword_at ks k → all (λ k. p (word (Keyword (keyword_at k)))) ks ≡ true
    → p (word t) ≡ true
one_keyword p ks {t} {k} e o h = rw e (one_at keyword_at (λ k. p (word (Keyword k))) ks k o h)

-- A keyword that is none of some.
pub other_keyword : (p : ℕ → Bool) (ks : List ℕ) {t : Token} {k : Key} → t ≡ Keyword k → NoneAt keyword_at ks k → besides (λ k. p (g.Keyword * 256 + k)) ks 28 ≡ true
    → p (word t) ≡ true
other_keyword p ks {t} {k} e o h =
    let c = keyword_coded k in
    let none : has ks (keyword_code k) ≡ false = none_at keyword_at ks (keyword_code k) (rw c.2 at o) in
    rw e (passes (λ k. p (g.Keyword * 256 + k)) ks 28 h (keyword_code k) (ltb-true _ _ c.1) none)
