-- What writing answers, put together; and that it has one answer.
use Prim.Native.Nat.{ℕ}
use native.Mathlib.Omega.{arith}
use mathlib.Core.Path.{◌≡◌, refl, ap}
use mathlib.Core.List.{List}
use lib.ListN.{length, replicate}
use Rattle.std.specs.Prelude.{Result, Ok, Err, IsErr, IsErrAnd, ⊤}
use Rattle.refusals.specs.declared.Reason.{Reason}
use Rattle.refusals.specs.Reasons.{number}
use Rattle.json_values.specs.declared.output.Out.{Out}
use Rattle.refusals.specs.Refusal.{Numbered, refusal}
use Rattle.grammar.specs.Tree.{Tree}
use Rattle.payloads.specs.Fields.{fields_of}
use Rattle.trees.specs.Pool.{Holds}
use Rattle.trees.proofs.Unique.{one_tree}
use Rattle.placed.specs.Over.{LowestOf, NoneOf, Over}
use Rattle.placed.proofs.Unique.{one_lowest_of, one_over}
use Rattle.json_text.specs.Json.{text}
use Rattle.json_values.specs.Puts.{Puts}
use Rattle.json_values.proofs.Puts.{puts_all, puts_not, why}
use Rattle.json_writer.specs.Deep.{TooDeep}
use Rattle.json_writer.specs.Tells.{Deep, cleared, Tells, no_tree, too_deep, too_short, a_text}

-- no check has two answers
clash : {A : Type 0} {pool file : List ℕ} {root count : ℕ} {e : Numbered} → Over pool root file (Err e) → Over pool root file (Ok count) → A
clash v w = let e = one_over v w in absurd (let z : ◌≡◌ {A = ℕ} 0 1 = cc in omega arith)

same_tree : (file : List ℕ) {pool : List ℕ} {root : ℕ} {t u : Tree} → Holds pool root t → Holds pool root u → text (fields_of file) t ≡ text (fields_of file) u
same_tree file {pool} h k = ap (text (fields_of file)) (one_tree pool h k)

module _ {pool : List ℕ} {root : ℕ} {file : List ℕ} {room : ℕ} where
  -- a refusal of the check, which is handed on, and that of a row that is too deep
  pub refuses : {e : Numbered} {r : Result ℕ Numbered} (out : List ℕ) → Over pool root file (Err e) → IsErr r × IsErrAnd r (λ f. f ≡ e) → length out ≡ room
      → Tells pool root file room r (cleared r out)
  refuses {e} {r} out v h l = go r h
    where
      go : (s : Result ℕ Numbered) → IsErr s × IsErrAnd s (λ f. f ≡ e) → Tells pool root file room s (cleared s out)
      go (Ok n) g = absurd g.1
      go (Err f) g = rw (g.1, l) (no_tree v)

  pub refuses_deep : {count p n : ℕ} → Over pool root file (Ok count) → LowestOf pool root (TooDeep pool root) p → n ≡ room
      → Tells pool root file room (Err (refusal Deep p)) (replicate n 0)
  refuses_deep v d l = rw l (too_deep v d)

  -- a text that is put into zeros, where there is room and where there is none
  module _ {count : ℕ} {o p : Out} (t : Tree) (v : Over pool root file (Ok count)) (low : NoneOf pool root (TooDeep pool root)) (h : Holds pool root t)
      (zeros : o.bytes.now ≡ replicate room 0) (front : o.at ≡ 0) where
    pub told : {u : ⊤} {last : List ℕ} → Puts (text (fields_of file) t) o p (Ok u) → last ≡ p.bytes.now → Tells pool root file room (Ok p.at) last
    told x e = let all = puts_all room zeros front x in rw (e, all.1, all.2) (a_text t v low h all.0)

    pub refuses_short : {e : Reason} {n : ℕ} → Puts (text (fields_of file) t) o p (Err e) → n ≡ room → Tells pool root file room (Err (refusal (number e) 0)) (replicate n 0)
    refuses_short x l = rw (why x.told, l) (too_short t v low h (puts_not room zeros front x))

  pub one_telling : {r s : Result ℕ Numbered} {out left : List ℕ} → Tells pool root file room r out → Tells pool root file room s left → ◌≡◌ {A = Result ℕ Numbered × List ℕ} (r, out) (s, left)
  one_telling (no_tree v) (no_tree w) = let e = one_over v w in cc
  one_telling (no_tree v) (too_deep w l) = clash v w
  one_telling (no_tree v) (too_short t w l h s) = clash v w
  one_telling (no_tree v) (a_text t w l h s) = clash v w
  one_telling (too_deep v l) (no_tree w) = clash w v
  one_telling (too_deep v l) (too_deep w m) = let e = one_lowest_of l m in cc
  one_telling (too_deep {p = p} v l) (too_short t w m h s) = absurd (m p l.reached l.has)
  one_telling (too_deep {p = p} v l) (a_text t w m h s) = absurd (m p l.reached l.has)
  one_telling (too_short t v l h s) (no_tree w) = clash w v
  one_telling (too_short t v l h s) (too_deep {p = p} w m) = absurd (l p m.reached m.has)
  one_telling (too_short t v l h s) (too_short u w m k j) = refl
  one_telling (too_short t v l h s) (a_text u w m k j) = absurd (omega (arith, s, j, ap length (same_tree file h k)))
  one_telling (a_text t v l h s) (no_tree w) = clash w v
  one_telling (a_text t v l h s) (too_deep {p = p} w m) = absurd (l p m.reached m.has)
  one_telling (a_text t v l h s) (too_short u w m k j) = absurd (omega (arith, s, j, ap length (same_tree file h k)))
  one_telling (a_text t v l h s) (a_text u w m k j) = let e = same_tree file h k in cc
