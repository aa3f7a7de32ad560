-- What the definition of `at_keyword` reads, one reading after another.
use Rattle.std.proofs.Common.{Bool, List, ap, eqb, false, not, refl, true, ℕ, ◌&&◌, ◌||◌, ◌∙◌, ◌≡◌}
use borrow.Author.Tests.{eqb-true}
use Rattle.grammar.specs.Words.{SSemiColon, KIf, KWhile, KFor, KConst, KVar, KFunc, KTry, KThrow, KForEach, KAssert, tok, step, next_is}
use Rattle.grammar.specs.Tree.{Tree, Trees}
use Rattle.grammar.specs.Parsed.{refused, Reader, match, choose}
use Rattle.grammar.specs.Expressions.{Rec}
use Rattle.grammar.specs.Statements.{begun, throw, kept, var, const, if, assert, while, function, for, try, foreach}
use Rattle.grammar.specs.Rules.{Rules}
use Rattle.tokens.specs.declared.Keyword.{Keyword as Key}
use Rattle.tokens.specs.declared.Token.TheVariants as token
use Rattle.tokens.specs.Tokens.{word}
use Rattle.reader.specs.Promises.{further}
use Rattle.reader.proofs.Answers.{need_met, need_failed}

-- The statements that go further, each by its keyword.
module _ (rules : Rules) (ts : List ℕ) (expr : Rec) (stmt : Reader Trees) (at room : ℕ) where
  abbrev pub Begins : ℕ → Reader Tree → Type 0
  Begins w reader = tok ts at ≡ w → kept rules ts expr stmt at room ≡ begun rules ts expr stmt reader at room

  pub at_var : Begins KVar (λ k. var rules ts expr stmt (step ts k))
  unfolding kept match choose
  at_var e = rw e

  pub at_const : Begins KConst (λ k. const rules ts expr stmt (step ts k))
  unfolding kept match choose
  at_const e = rw e

  pub at_if : Begins KIf (if rules ts expr stmt)
  unfolding kept match choose
  at_if e = rw e

  pub at_assert : Begins KAssert (assert rules ts expr stmt)
  unfolding kept match choose
  at_assert e = rw e

  pub at_while : Begins KWhile (while rules ts expr stmt)
  unfolding kept match choose
  at_while e = rw e

  pub at_function : Begins KFunc (λ k. function rules ts expr stmt (step ts k))
  unfolding kept match choose
  at_function e = rw e

  pub at_for : Begins KFor (for rules ts expr stmt)
  unfolding kept match choose
  at_for e = rw e

  pub at_throw : Begins KThrow (throw rules ts expr stmt)
  unfolding kept match choose
  at_throw e = rw e

  pub at_try : Begins KTry (try rules ts expr stmt)
  unfolding kept match choose
  at_try e = rw e

  pub at_foreach : Begins KForEach (foreach rules ts expr stmt)
  unfolding kept match choose
  at_foreach e = rw e

  -- One that does not end at once.
  pub on : {w : ℕ} (reader : Reader Tree) → Begins w reader → tok ts at ≡ w → next_is ts at SSemiColon ≡ false → kept rules ts expr stmt at room ≡ reader at room
  unfolding begun
  on reader b e n = b e ∙ need_met _ _ _ (ap not n)

  -- By its keyword, where none that goes further ends at once.
  pub goes_on : {k q : Key} (reader : Reader Tree) → Begins (word (token.Keyword q)) reader → tok ts at ≡ word (token.Keyword k) → k ≡ q → further (word (token.Keyword q)) ≡ true
      → (further (word (token.Keyword k)) && next_is ts at SSemiColon) ≡ false → kept rules ts expr stmt at room ≡ reader at room
  goes_on reader b e i f n =
      let m = ap (λ (j : Key). further (word (token.Keyword j))) i ∙ f in
      on reader b (e ∙ ap (λ (j : Key). word (token.Keyword j)) i) (rw m at n)

  -- One that ends at once is refused.
  module _ (semi : next_is ts at SSemiColon ≡ true) where
    abbrev pub Stops : Type 0
    Stops = kept rules ts expr stmt at room ≡ refused 10 (step ts at)

    pub stop : {w : ℕ} (reader : Reader Tree) → Begins w reader → eqb (tok ts at) w ≡ true → Stops
    unfolding begun
    stop {w} reader b e = b (eqb-true (tok ts at) w e) ∙ need_failed _ _ _ (ap not semi)

    pub or : {a b : Bool} → (a ≡ true → Stops) → (b ≡ true → Stops) → (a || b) ≡ true → Stops
    or {a = true} f g e = f refl
    or {a = false} f g e = g e

    pub stops : further (tok ts at) ≡ true → Stops
    unfolding further
    stops = or (or (or (or (or (or (or (or (or
        (stop _ at_var)
        (stop _ at_const))
        (stop _ at_if))
        (stop _ at_assert))
        (stop _ at_while))
        (stop _ at_function))
        (stop _ at_for))
        (stop _ at_throw))
        (stop _ at_try))
        (stop _ at_foreach)
