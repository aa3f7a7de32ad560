-- For each public function whose result no stream decides: its contract determines it, and every lent number that it leaves.
use Rattle.std.proofs.Common.{◌≡◌, ℕ, ◌<◌, Bool, true, false, List, length, get_or, EachIndex, IsTrue, ◌↔◌, refl, sym, ◌∙◌}
use Rattle.std.proofs.lemmas.List.{same_lists, get_or_default}
use Rattle.grammar.specs.Once.{Determines}
use Rattle.recorded.proofs.numbers.fill.Reads as fill
use Rattle.recorded.proofs.numbers.holds.Reads as holds
use Rattle.recorded.proofs.Recorded.count.Reads as count
use Rattle.recorded.proofs.Recorded.is.Reads as is
use Rattle.recorded.proofs.Tally.new.Reads as new

-- lists that have the same at each index are one
same_each : {A : Type 0} (at : ℕ → A) (xs ys : List A) → length xs ≡ length ys → EachIndex xs (λ i. get_or xs i (at i) ≡ at i) → EachIndex ys (λ i. get_or ys i (at i) ≡ at i) → xs ≡ ys
same_each at xs ys long p q =
    same_lists xs ys long (λ k d h.
    let h' : k < length ys = rw (long) at h in
    get_or_default xs k d (at k) h ∙ p k h ∙ sym (q k h') ∙ sym (get_or_default ys k d (at k) h'))

pub fill_determined : (t : _) (l : _) (c : _) (n : _) (nd : _) (k : _) (kd : _) (e : _) (ed : _) → Determines (fill.Post t l c n nd k kd e ed) (λ κs r left. left.0.now)
fill_determined t l c n nd k kd e ed κs args r r' left left' p q = same_each _ _ _ (p.0 ∙ sym q.0) p.1 q.1

-- two tests of one fact have one answer
same_test : {P : Type 0} (r r' : Bool) → IsTrue r ↔ P → IsTrue r' ↔ P → r ≡ r'
same_test true true p q = refl
same_test true false p q = sym (q.1 (p.0 refl))
same_test false true p q = p.1 (q.0 refl)
same_test false false p q = refl

pub holds_determined : (t : _) (l : _) (c : _) (n : _) (nd : _) (k : _) (kd : _) (e : _) (ed : _) → Determines (holds.Post t l c n nd k kd e ed) (λ κs r left. r)
holds_determined t l c n nd k kd e ed κs args r r' left left' p q = same_test r r' p q

pub count_determined : Determines count.Post (λ κs r left. r)
count_determined κs args r r' left left' p q = cc

pub is_determined : Determines is.Post (λ κs r left. r)
is_determined κs args r r' left left' p q = same_test r r' p q

pub new_determined : Determines {A = _ × _} new.Post (λ κs r left. (r.cases, r.differing))
new_determined κs args r r' left left' p q = cc
