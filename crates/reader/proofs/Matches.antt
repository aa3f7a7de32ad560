-- A match on the current token's word: the word from the token that the code has, and a word that no arm has. And a tree that a flag was set in.
use mathlib.Core.Path.{◌≡◌, refl, sym, ap, ◌∙◌}
use mathlib.Core.Bool.{Bool, true, false, not, cond, ◌&&◌, and-eq-true_iff}
use mathlib.Core.List.{List, [], ◌∷◌}
use Prim.Native.Nat.{ℕ, ◌+◌}
use lib.Dec.{eqb}
use borrow.Author.Tests.{not-true, eqb-true}
use Rattle.grammar.specs.Words.{Operator, Keyword, Integer, Str, Float, Char, Identifier, SLParen, SExcl, SLBrace, SNeg, SIncr, SDecr, SLBox, SDollar}
use Rattle.grammar.specs.Words.{KNone, KTrue, KFalse, KLambda, KThread, KAsync, tok, class}
use Rattle.grammar.specs.Tree.{Tree, nil, ◌▸◌, size, flagged}
use Rattle.grammar.specs.Parsed.{Parsed, refused, read, Reader, Arm, ◌⇒◌, match, choose, InvalidToken, InvalidSymbol, NotImplemented}
use Rattle.grammar.specs.Rules.{Rules}
use Rattle.grammar.specs.Expressions.{Rec, prefix_part, no_prefix}
use Rattle.rows.specs.Rows.{marked, bit}
use Rattle.rows.specs.declared.Flag.{Flag}
use Rattle.tokens.specs.declared.Token.{Token}
use Rattle.tokens.specs.Tokens.{word, token}
use Rattle.tokens.proofs.Round.{word_token}
use Rattle.std.specs.Prelude.{Ok, Err}
use Rattle.refusals.specs.Refusal.{Numbered, refusal}
use Rattle.answer.specs.Answer.{piece}
use Rattle.reader.specs.Meets.{Ready, Stands, Meets, one}
use Rattle.reader.proofs.Answers.{refuses, choose_false}
use Rattle.reader.proofs.Roots.{flagged_size, stands_marked}

-- The current word is that of the current token.
pub word_of : {ts xs : List ℕ} {first at : ℕ} {t : Token} → Ready ts xs first at → t ≡ token (tok ts at) → tok ts at ≡ word t
word_of {ts} {xs} {first} {at} h e = sym (ap word e ∙ word_token (tok ts at) (h.sound.good at))

-- The words of a match's arms.
abbrev pub heads : {A : Type 0} → List (Arm A) → List ℕ
heads [] = []
heads ((k ⇒ f) ∷ arms) = k ∷ heads arms

-- Whether a word is none of a list.
abbrev pub none : List ℕ → ℕ → Bool
none [] w = true
none (k ∷ ks) w = not (eqb w k) && none ks w

-- A word that no arm has gets the last reader.
pub unmatched : {A : Type 0} (w : ℕ) (arms : List (Arm A)) (other : Reader A) (at room : ℕ) → none (heads arms) w ≡ true → match w arms other at room ≡ other at room
unfolding match
unmatched w [] other at room h = refl
unmatched w ((k ⇒ f) ∷ arms) other at room h =
    let both = (and-eq-true_iff (not (eqb w k)) (none (heads arms) w)).0 h in
    choose_false _ _ (not-true _ both.0) ∙ unmatched w arms other at room both.1

-- The words that an expression begins with.
abbrev prefixes : List ℕ
prefixes =
    Identifier ∷ Integer ∷ Float ∷ Char ∷ Str ∷ KTrue ∷ KFalse ∷ KLambda ∷ KNone ∷ KThread ∷ KAsync ∷ SLBox ∷ SLBrace ∷ SIncr ∷ SDecr ∷ SExcl ∷ SNeg ∷ SLParen ∷ SDollar ∷ []

-- The number of the refusal of any other word.
abbrev reason_of : ℕ → ℕ
reason_of w = cond (eqb (class w) Keyword) NotImplemented (cond (eqb (class w) Operator) InvalidSymbol InvalidToken)

last : (ts : List ℕ) (at room : ℕ) → no_prefix ts at room ≡ refused (reason_of (tok ts at)) at
unfolding no_prefix choose
last ts at room = go (eqb (class (tok ts at)) Keyword) (eqb (class (tok ts at)) Operator)
  where
    go : (k o : Bool) → ◌≡◌ {A = Parsed Tree}
        (choose k (λ _. refused NotImplemented at) (λ _. choose o (λ _. refused InvalidSymbol at) (λ _. refused InvalidToken at)))
        (refused (cond k NotImplemented (cond o InvalidSymbol InvalidToken)) at)
    go true o = refl
    go false true = refl
    go false false = refl

-- Whether an expression that begins with the word is refused by this number.
abbrev pub no_start : ℕ → ℕ → Bool
no_start n w = none prefixes w && eqb (reason_of w) n

pub unstarted : {ts : List ℕ} {at first w : ℕ} {e : Numbered} {xs ys : List ℕ} (rules : Rules) (rec : Rec) (room n : ℕ) → tok ts at ≡ w → no_start n w ≡ true → e ≡ refusal n at
    → Meets one ts at (prefix_part rules ts rec at room) [] first (Err e) xs ys
unfolding prefix_part
unstarted {ts} {at} rules rec room n is h said =
    let both = (and-eq-true_iff (none prefixes (tok ts at)) (eqb (reason_of (tok ts at)) n)).0 (rw is h) in
    refuses _ n at (unmatched _ _ _ at room both.0 ∙ last ts at room ∙ ap (λ (i : ℕ). refused i at) (eqb-true _ n both.1)) said

-- The tree in the first rows, once a flag is set in its row, is the answer.
pub reads_marked : {ts : List ℕ} {from first k h left : ℕ} {xs ys zs : List ℕ} {d : ℕ} (f : Flag) (t : Tree) → Stands ts from ((t ▸ nil) ∷ []) first k left xs ys d
    → h ≡ first + size t → zs ≡ marked ys k f → Meets one ts from (read (flagged (bit f) t) d left) [] first (Ok (piece k h d)) xs zs
reads_marked {first = first} {k = k} {d = d} f t s eh e =
    record {
      met = record {
        rows = k;
        is = ap (λ (i : ℕ). Ok (piece k i d)) (eh ∙ ap (λ (i : ℕ). first + i) (sym (flagged_size (bit f) t)));
        stands = rw e (stands_marked t s f);
      };
    }
