-- The check over a file has one answer, and leaves one thing.
use Prim.Native.Nat.{ℕ}
use native.Mathlib.Omega.{arith}
use mathlib.Core.Path.{◌≡◌, refl, ap, sym, ◌∙◌}
use mathlib.Core.Logic.{⊎_elim}
use mathlib.Core.List.{List}
use lib.ListN.{length}
use Rattle.files.specs.File.{Content, read, refused}
use Rattle.slots.proofs.Either.{less_or}
use Rattle.trees.proofs.Linked.{in_or, one_survey}
use Rattle.trees.proofs.Unique.{one_zero}
use Rattle.std.specs.Prelude.{Result, Ok, Err}
use Rattle.refusals.specs.Refusal.{Numbered, refusal}
use Rattle.placed.specs.Over.{LowestOf, Over, bad_file, no_root, wrong_row, a_tree}
use Rattle.placed.specs.Left.{Left}

pub one_lowest_of : {pool : List ℕ} {root p q : ℕ} {P : ℕ → Type 0} → LowestOf pool root P p → LowestOf pool root P q → p ≡ q
one_lowest_of {pool} {root} {p} {q} l m =
    ⊎_elim (λ x. absurd (m.first p x l.reached l.has))
    (λ x. ⊎_elim (λ y. absurd (l.first q y m.reached m.has)) (λ y. omega arith) (less_or q p))
    (less_or p q)

-- a file isn't both refused and read
not_both : {A : Type 0} {c : Content} {words : List ℕ} {number place : ℕ} → c ≡ refused number place → c ≡ read words → A
not_both e f = absurd (let z : ◌≡◌ {A = ℕ} 0 1 = cc in omega arith)

pub one_over : {pool bytes : List ℕ} {root : ℕ} {a b : Result ℕ Numbered} → Over pool root bytes a → Over pool root bytes b → a ≡ b
one_over (bad_file e) (bad_file f) = cc
one_over (bad_file e) (no_root f n) = not_both e f
one_over (bad_file e) (wrong_row f i l) = not_both e f
one_over (bad_file e) (a_tree t f i g h o) = not_both e f
one_over (no_root e n) (bad_file f) = not_both f e
one_over (no_root e n) (no_root f m) = refl
one_over (no_root e n) (wrong_row f i l) = absurd (n i)
one_over (no_root e n) (a_tree t f i g h o) = absurd (n i)
one_over (wrong_row e i l) (bad_file f) = not_both f e
one_over (wrong_row e i l) (no_root f n) = absurd (n i)
one_over (wrong_row e i l) (wrong_row f j m) = ap (λ p. Err (refusal 38 p)) (one_lowest_of l m)
one_over (wrong_row {words} {p} e i l) (a_tree t f j g h o) = absurd (g p l.reached l.has)
one_over (a_tree t e i g h o) (bad_file f) = not_both f e
one_over (a_tree t e i g h o) (no_root f n) = absurd (n i)
one_over (a_tree t e i g h o) (wrong_row {words} {p} f j l) = absurd (g p l.reached l.has)
one_over (a_tree {words} t e i g h o) (a_tree {words = words'} t' f j g' h' o') = let x : words ≡ words' = cc in ap (λ ws. Ok (length ws)) x

-- the links that are left are those of one survey, or none where the root is no row
module _ {pool bytes : List ℕ} {root n : ℕ} where
  module _ {r r' : Result ℕ Numbered} {starts owners words queue starts' owners' words' queue' : List ℕ} (l : Left pool root bytes n r starts owners words queue)
      (m : Left pool root bytes n r' starts' owners' words' queue') where
    same_links : (owners ≡ owners') × (words ≡ words')
    same_links =
        ⊎_elim (λ i. one_survey (l.links i) (m.links i) (l.owners_long ∙ sym m.owners_long) (l.words_long ∙ sym m.words_long))
        (λ out.
        let y = l.none out in
        let z = m.none out in
        (one_zero y.0 z.0, one_zero y.1 z.1))
        (in_or pool root)

    pub one_left : ◌≡◌ {A = Result ℕ Numbered × List ℕ × List ℕ × List ℕ × List ℕ} (r, starts, owners, words, queue) (r', starts', owners', words', queue')
    one_left =
        let e : r ≡ r' = one_over l.verdict m.verdict in
        let s : starts ≡ starts' = l.index ∙ sym m.index in
        let o = same_links.0 in
        let w = same_links.1 in
        let q : queue ≡ queue' = one_zero l.queue_none m.queue_none in
        cc
