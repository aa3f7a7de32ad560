-- What a survey answers, put together.
use Prim.Native.Nat.{ℕ}
use mathlib.Core.Path.{◌≡◌, ap, ◌∙◌}
use mathlib.Core.List.{List}
use lib.ListN.{length, get_or, replicate, length-replicate}
use Rattle.std.specs.Prelude.{Result, Err}
use Rattle.refusals.specs.Refusal.{Numbered, refusal}
use Rattle.trees.specs.Survey.{Surveyed}
use Rattle.trees.specs.Pool.{In}
use Rattle.trees.specs.Verdict.{NoTree, Verdict, no_root}
use Rattle.trees.proofs.Zeros.{zero_there}
use Rattle.trees.specs.Leaves.{Zero, Cleared, Leaves}

-- zeros that were filled in
pub all_zero : {m n : ℕ} {xs : List ℕ} → xs ≡ replicate m 0 → m ≡ n → Zero n xs
all_zero {m} e f = record { long = ap length e ∙ length-replicate m 0 ∙ f; each = λ i. ap (λ l. get_or l i 0) e ∙ zero_there m i }

module _ {pool : List ℕ} {root n : ℕ} {owners words queue : List ℕ} where
  -- without a root nothing is left
  pub rootless : (In pool root → ⊥) → Cleared n owners words queue → Leaves pool root n (Err (refusal NoTree 0)) owners words queue
  rootless out z =
      record {
        verdict = no_root out;
        owners_long = z.no_owners.long;
        words_long = z.no_words.long;
        links = λ i. absurd (out i);
        none = λ _. (z.no_owners, z.no_words);
        queue_none = z.no_queue;
      }

  -- with one its links
  pub found : {c : Result Unit Numbered} → In pool root → Verdict pool root c → Surveyed pool root owners words → length owners ≡ n → length words ≡ n → Zero n queue
      → Leaves pool root n c owners words queue
  found i v s l m z = record { verdict = v; owners_long = l; words_long = m; links = λ _. s; none = λ f. absurd (f i); queue_none = z }
