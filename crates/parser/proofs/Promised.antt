-- The promises of the entries: what is claimed of the definition, carried to every result that meets a contract.
use Prim.Native.Nat.{ℕ}
use mathlib.Core.Path.{◌≡◌, refl, sym, ap, ◌∙◌}
use mathlib.Core.Logic.{◌⊎◌, inl, inr, ⊎_elim}
use mathlib.Core.List.{List}
use Rattle.grammar.specs.Tree.{Trees, sizes}
use Rattle.grammar.specs.Parsed.{Parsed, refused, read}
use Rattle.grammar.specs.Script.{answer, pool, rows}
use Rattle.grammar.proofs.Answers.{answers}
use Rattle.grammar.proofs.Rows.{pool_rule}
use Rattle.grammar.proofs.Ends.{pool_ends, ends_told}
use Rattle.grammar.specs.Claims.{RowsEnd, EndsWhereLacking, Unless}
use Rattle.grammar.proofs.Strict.{strict_or_same}
use Rattle.grammar.proofs.Suffices.{rows_enough, largest_enough, rows_full}
use Rattle.std.specs.Prelude.{Ok, Err}
use Rattle.refusals.specs.Refusal.{refusal}
use Rattle.refusals.proofs.Laws.{same_number, same_place as same_spot, not_both}
use Rattle.answer.specs.Answer.{Entered, accepted, answered, numbers}
use Rattle.answer.proofs.Laws.{same_root, same_used, same_place}
use Rattle.parser.specs.Promises.{Numbered, ZeroAfter, Opens, ChainsAnswered, RuleAnswered, EndsAnswered, EndTells, EndsToldAnswered, EnoughAnswered}
use Rattle.parser.specs.Promises.{SameUnless, GiveUnless, StrictAnswered, AcceptsToo, StrictAccepted}

numbers_are : (P : Parsed Trees) → numbers (answered P) ≡ answer P
unfolding answer
numbers_are (refused n p) = refl
numbers_are (read us at left) = refl

pub numbered : Numbered
numbered P r words ys e = ap numbers e.answer ∙ numbers_are P

pub zero_after : ZeroAfter
unfolding pool
zero_after (refused n p) number place words ys e = e.left
zero_after (read us at left) number place words ys e = not_both e.answer refl

pub opens : Opens
opens (refused n p) root used place words ys e = not_both refl e.answer
opens (read us at left) root used place words ys e =
    let q : place ≡ at = same_place e.answer in
    record { trees = us; left = left; was_read = ap (λ (p : ℕ). read us p left) (sym q); all_used = same_used e.answer; root_last = same_root e.answer ∙ sym (same_used e.answer) }

pub chains_answered : ChainsAnswered
chains_answered rules ts deep s at used parts g r words ys enough e =
    let c = answers rules ts deep s at used parts g words enough in
    (numbered _ r words ys e ∙ c.0, e.left ∙ c.1)

pub rule_answered : RuleAnswered
rule_answered rules ts start room words r ys =
    let c = pool_rule rules ts start room words in
    (λ e. rw e.left c.0, λ e. rw e.left c.1, λ e. rw e.left c.2)

-- A refusal that an entry answers is the definition's.
was_refused : (P : Parsed Trees) {number place words : ℕ} {ys : List ℕ} → Entered P (Err (refusal number place)) words ys → P ≡ refused number place
was_refused (refused n p) e = let x = same_number e.answer in let y = same_spot e.answer in cc
was_refused (read us at left) e = not_both e.answer refl

-- What is claimed of an acceptance's trees and pool, of the words that an entry has left.
rows_end : (P : Parsed Trees) (start used place words left : ℕ) (ys : List ℕ) (us : Trees) → ys ≡ pool words P → P ≡ read us place left → used ≡ sizes us
    → RowsEnd (pool words (read us place left)) start (sizes us) place → RowsEnd ys start used place
rows_end P start used place words left ys us a b c h = rw (a, b, c) h

opened_ends : (P : Parsed Trees) (start root used place words : ℕ) (ys : List ℕ)
    → ((us : Trees) (left : ℕ) → P ≡ read us place left → RowsEnd (pool words (read us place left)) start (sizes us) place)
    → Entered P (Ok (accepted root used place)) words ys → RowsEnd ys start used place
opened_ends P start root used place words ys h e =
    let o = opens P root used place words ys e in
    rows_end P start used place words o.left ys o.trees e.left o.was_read o.all_used (h o.trees o.left o.was_read)

pub ends_answered : EndsAnswered
ends_answered rules ts start room root used place words ys = (
  opened_ends _ start root used place words ys (λ us left e. (pool_ends rules ts start room us place left).0 e words),
  opened_ends _ start root used place words ys (λ us left e. (pool_ends rules ts start room us place left).1 e words),
  opened_ends _ 0 root used place words ys (λ us left e. (pool_ends rules ts start room us place left).2 e words),
)

end_tells : (entry : (room : ℕ) → Parsed Trees) → EndsWhereLacking entry → EndTells entry
end_tells entry h root used place words fewer r n ys zs a e f lo hi q =
    let o = opens (entry (rows words)) root used place words ys e in
    let x = h (rows words) words r n o.trees place o.left o.was_read lo (rw (← o.all_used) hi) in (
      λ w. f.answer ∙ ap answered (ap entry q ∙ x.0 (rw (← e.left) w)),
      λ w. rw e.left (x.1 (rw (← q) (was_refused (entry (rows fewer)) (rw w at f)))),
    )

pub ends_told_answered : EndsToldAnswered
ends_told_answered rules ts start =
    let c = ends_told rules ts start in
    (end_tells _ c.0, end_tells _ c.1, end_tells _ c.2)

either : {P : Parsed Trees} {A B : Type 0} {number place words : ℕ} {ys : List ℕ} → (A → ¬ (P ≡ refused number place)) → (B → ¬ (P ≡ refused number place))
    → A ⊎ B → ¬ Entered P (Err (refusal number place)) words ys
either {P} f g h e = ⊎_elim (λ a. f a (was_refused P e)) (λ b. g b (was_refused P e)) h

pub enough_answered : EnoughAnswered
enough_answered rules ts start words = (
  λ h place ys. either (rows_enough rules ts start (rows words) place).0 (λ g. (largest_enough rules ts start (rows words) place (rows_full words g)).0) h,
  λ h place ys. either (rows_enough rules ts start (rows words) place).1 (λ g. (largest_enough rules ts start (rows words) place (rows_full words g)).1) h,
  λ h place ys. either (rows_enough rules ts start (rows words) place).2 (λ g. (largest_enough rules ts start (rows words) place (rows_full words g)).2) h,
)

same_unless : (n : ℕ) (P Q : Parsed Trees) → Unless n P Q → GiveUnless n P Q
same_unless n (refused m p) Q (inl h) r r' words ys ys' e e' = inl (p, e.answer ∙ ap (λ (k : ℕ). Err (refusal k p)) h)
same_unless n (read us at left) Q (inl h) r r' words ys ys' e e' = absurd h
same_unless n P Q (inr h) r r' words ys ys' e e' =
    inr (e.answer ∙ ap answered h ∙ sym e'.answer, e.left ∙ ap (pool words) h ∙ sym e'.left)

pub strict_answered : StrictAnswered
strict_answered ts start room =
    let h = strict_or_same ts start room in
    (same_unless _ _ _ h.0, same_unless _ _ _ h.1, same_unless _ _ _ h.2)

accepts_too : (n : ℕ) (P Q : Parsed Trees) → GiveUnless n P Q → AcceptsToo P Q
accepts_too n P Q h root used place words ys ys' r e e' = go (h _ r words ys ys' e e')
  where
    go : SameUnless n (Ok (accepted root used place)) r ys ys' → (r ≡ Ok (accepted root used place)) × (ys' ≡ ys)
    go (inl q) = not_both refl q.1
    go (inr q) = (sym q.0, sym q.1)

pub strict_accepted : StrictAccepted
strict_accepted ts start room =
    let h = strict_answered ts start room in
    (accepts_too _ _ _ h.0, accepts_too _ _ _ h.1, accepts_too _ _ _ h.2)
