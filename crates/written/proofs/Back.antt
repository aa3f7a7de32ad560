-- What reads a written tree: from a place up to a place, as the same tree but for places, ends and grouped marks.
use Prim.Native.Nat.{ℕ, zero, suc, ◌+◌, ◌-◌, ◌≤◌, ◌<◌}
use native.Mathlib.Omega.{arith}
use mathlib.Core.Path.{◌≡◌, refl, ap, ◌∙◌}
use mathlib.Core.Bool.{true, false}
use mathlib.Core.List.{List}
use lib.Dec.{eqb}
use lib.ListN.{length}
use Rattle.grammar.specs.Words.{EOF, SLParen, SRparen, SSemiColon, SComma, tok, step, is, next_is, Zero, goes_on}
use Rattle.grammar.specs.Tree.{Tree, Trees, nil, ◌▸◌, size, sizes, join, flagged, Grouped}
use Rattle.grammar.specs.Parsed.{Parsed, read, Reader, ◌>>=◌, ◌>>◌, need, choose, match, turns}
use Rattle.grammar.specs.Rules.{Rules}
use Rattle.grammar.specs.Expressions.{Rec, entries, list_expr, prefix_part, sub_expression, operation, climb, level, expression}
use Rattle.slots.specs.Slots.{Takes, expressions, how_many}
use Rattle.written.specs.Written.{separated, write, writes}
use Rattle.written.specs.Claims.{deep, deeps}
use Rattle.written.proofs.Dress.{seen, seens, dressed, dresseds, inner, wrapped, regroup}
use Rattle.written.proofs.Stood.{Stood, Behind, behind, members}
use Rattle.written.proofs.Shapes.{Fit, AllFit, fit_head, fit_tail}
use Rattle.written.proofs.Signs.{Closes, closes, by_comma, inside}

-- One more behind a list.
pub join_one : (us : Trees) (t : Tree) (vs : Trees) → join (join us (t ▸ nil)) vs ≡ join us (t ▸ vs)
unfolding join
join_one nil t vs = refl
join_one (u ▸ us) t vs = rw (join_one us t vs)

pub join_nil : (us : Trees) → join us nil ≡ us
unfolding join
join_nil nil = refl
join_nil (u ▸ us) = rw (join_nil us)

some_turns : turns ≡ suc (suc (turns - 2))
unfolding turns
some_turns = refl

module _ (ts : List ℕ) where
  pub record Uptil (w : Tree → Tree) (R : Reader Tree) (at c : ℕ) (t : Tree) : Type 0 where
    pub tree : Tree
    pub last : ℕ
    pub same : seen tree ≡ w t
    pub stops : step ts last ≡ c
    pub on : last < step ts last
    pub reads : (room left : ℕ) → size t + left ≡ room → R at room ≡ read tree last left

  -- As it is in its brackets.
  abbrev pub Upto : Reader Tree → ℕ → ℕ → Tree → Type 0
  Upto R at c t = Uptil dressed R at c t

  -- The trees of a list, behind those read before.
  pub record Lot (R : ℕ → Parsed Trees) (before : Trees) (c : ℕ) (us : Trees) : Type 0 where
    pub trees : Trees
    pub last : ℕ
    pub same : seens trees ≡ dresseds us
    pub stops : step ts last ≡ c
    pub on : last < step ts last
    pub reads : (room left : ℕ) → sizes us + left ≡ room → R room ≡ read (join before trees) last left

  -- No more of them, and one more.
  pub lot_none : {R : ℕ → Parsed Trees} {before : Trees} {last c : ℕ} → step ts last ≡ c → last < step ts last → ((room : ℕ) → R room ≡ read before last room) → Lot R before c nil
  unfolding seens dresseds
  lot_none {before} {last} e f h = record {
    trees = nil;
    last = last;
    same = refl;
    stops = e;
    on = f;
    reads = λ room left q. let z : left ≡ room = omega arith in rw (z, join_nil before) (h room);
  }

  pub lot_one : {R S : ℕ → Parsed Trees} {before us : Trees} {c : ℕ} {t : Tree} (new : Tree) → seen new ≡ dressed t → ((room left : ℕ) → size t + left ≡ room → R room ≡ S left)
      → Lot S (join before (new ▸ nil)) c us → Lot R before c (t ▸ us)
  unfolding seens dresseds
  lot_one {before} {us} new same h v = record {
    trees = new ▸ v.trees;
    last = v.last;
    same = rw (same, v.same);
    stops = v.stops;
    on = v.on;
    reads = λ room left q.
        h room (sizes us + left) (omega arith) ∙ v.reads (sizes us + left) left refl ∙ ap (λ (all : Trees). read all v.last left) (join_one before new v.trees);
  }

  -- A reader of what is written in a slot, where what follows ends it.
  abbrev pub Item : Reader Tree → Takes → ℕ → Type 0
  Item R s d = (t : Tree) (at c : ℕ) → Fit s t → deep t ≤ d → Stood ts at (write t) c → Closes (tok ts c) → Upto R at c t

  pub followed : (us : Trees) (at c : ℕ) → Closes (tok ts c) → Behind ts SComma us at c → Closes (tok ts at)
  followed nil at c h e = rw e h
  followed (t ▸ us) at c h ((e, f), k) = rw e (closes by_comma)

  -- The loop over a list's entries: its end, and one turn.
  entries_none : (rules : Rules) (rec : Rec) (R : Reader Tree) (before : Trees) (n last c room : ℕ) → step ts last ≡ c → eqb (tok ts c) SComma ≡ false
      → entries rules ts rec R (suc n) before last room ≡ read before last room
  unfolding entries choose next_is is
  entries_none rules rec R before n last c room e comma = rw (e, comma)

  entries_one : (rules : Rules) (rec : Rec) (R : Reader Tree) (n last at b c : ℕ) (before us : Trees) (t : Tree) → step ts last ≡ at → tok ts at ≡ SComma
      → (u : Upto R (step ts at) b t) → Lot (entries rules ts rec R n (join before (u.tree ▸ nil)) u.last) (join before (u.tree ▸ nil)) c us
      → Lot (entries rules ts rec R (suc n) before last) before c (t ▸ us)
  unfolding entries choose next_is is ◌>>=◌
  entries_one rules rec R n last at b c before us t e sign u v = lot_one u.tree u.same (λ room left q. rw (e, sign, u.reads room left q)) v

  -- The entries of a list behind the first.
  pub entries_read : (rules : Rules) (rec : Rec) (R : Reader Tree) (s : Takes) (d : ℕ) → Item R s d → (us before : Trees) (n last at c : ℕ) → step ts last ≡ at → last < step ts last → Behind ts SComma us at c
      → AllFit s us → deeps us ≤ d → how_many us < n → Closes (tok ts c) → eqb (tok ts c) SComma ≡ false → Lot (entries rules ts rec R n before last) before c us
  unfolding deeps
  entries_read rules rec R s d item us before zero last at c e f h o l m close comma = absurd (omega arith)
  entries_read rules rec R s d item nil before (suc n) last at c e f h o l m close comma = lot_none (e ∙ h) f (λ room. entries_none rules rec R before n last c room (e ∙ h) comma)
  entries_read rules rec R s d item (t ▸ us) before (suc n) last at c e f ((sign, on), (b', k, rest)) o l m close comma =
      let u = item t (step ts at) b' (fit_head o) (omega arith) k (followed us b' c close rest) in
      let v = entries_read rules rec R s d item us (join before (u.tree ▸ nil)) n u.last b' c u.stops u.on rest (fit_tail o) (omega arith) (omega arith) close comma in
      entries_one rules rec R n last at b' c before us t e sign u v

  list_some : (rules : Rules) (rec : Rec) (at b c : ℕ) (t : Tree) (us : Trees) → eqb (tok ts (step ts at)) SRparen ≡ false
      → (u : Upto (rec Zero) (step ts at) b t) → Lot (entries rules ts rec (rec Zero) turns (u.tree ▸ nil) u.last) (u.tree ▸ nil) c us → Lot (list_expr rules ts rec at) nil c (t ▸ us)
  unfolding list_expr choose next_is is ◌>>=◌ join
  list_some rules rec at b c t us x u v = lot_one u.tree u.same (λ room left q. rw (x, u.reads room left q)) v

  -- The expressions of a list behind its opener.
  pub list_read : (rules : Rules) → length ts ≤ turns → (d at c w : ℕ) (t : Tree) (us : Trees) → Item (expression rules ts d Zero) expressions d → AllFit expressions (t ▸ us) → deeps (t ▸ us) ≤ d
      → Stood ts (step ts at) (separated SComma (writes (t ▸ us))) c → tok ts c ≡ w → Closes w → eqb w SComma ≡ false → eqb w EOF ≡ false
      → eqb (tok ts (step ts at)) SRparen ≡ false → Lot (list_expr rules ts (expression rules ts d) at) nil c (t ▸ us)
  unfolding deeps
  list_read rules short d at c w t us item o l h e close comma eof start =
      let (b', k, rest) = behind ts SComma (step ts at) c t us h in
      let close' : Closes (tok ts c) = rw e close in
      let comma' : eqb (tok ts c) SComma ≡ false = rw e comma in
      let u = item t (step ts at) b' (fit_head o) (omega arith) k (followed us b' c close' rest) in
      let in-range : how_many us < turns = omega (arith, members ts SComma b' c us rest, inside ts w c e eof) in
      let v = entries_read rules (expression rules ts d) (expression rules ts d Zero) expressions d item us (u.tree ▸ nil) turns u.last b' c u.stops u.on rest (fit_tail o) (omega arith) in-range close' comma' in
      list_some rules (expression rules ts d) at b' c t us start u v

  module _ (rules : Rules) where
    -- The first part of an expression.
    abbrev pub Part : ℕ → Reader Tree
    Part d = prefix_part rules ts (expression rules ts d)

    -- An expression is its first part, where what follows ends it, and where a semicolon follows.
    pub whole : (w : Tree → Tree) (d pre at c : ℕ) (t : Tree) → Uptil w (Part d) at c t → Closes (tok ts c) → Uptil w (expression rules ts (suc d) pre) at c t
    unfolding expression level next_is is choose climb ◌>>=◌
    whole w d pre at c t u close = record {
      tree = u.tree;
      last = u.last;
      same = u.same;
      stops = u.stops;
      on = u.on;
      reads = λ room left q. rw (u.reads room left q, u.stops, close.semi, some_turns, u.stops, close.halts pre);
    }

    -- In brackets.
    pub group : (d at c : ℕ) (t : Tree) → tok ts at ≡ SLParen → eqb (tok ts (step ts (step ts at))) SRparen ≡ false → wrapped t ≡ true → Uptil inner (expression rules ts d Zero) (step ts at) c t
        → tok ts c ≡ SRparen → c < step ts c → Upto (Part d) at (step ts c) t
    unfolding prefix_part match choose sub_expression need ◌>>◌ ◌>>=◌ next_is is
    group d at c t paren two is_one u close on = record {
      tree = flagged Grouped u.tree;
      last = c;
      same = regroup u.tree t is_one u.same;
      stops = refl;
      on = on;
      reads = λ room left q. rw (paren, two, u.reads room left q, u.stops, close);
    }

    -- A first part, an operator behind it, and the end.
    pub climbed : (d at e c x last : ℕ) (l t made : Tree) (u : Upto (Part d) at e l) → eqb (tok ts e) SSemiColon ≡ false → goes_on Zero (tok ts e) ≡ true
        → size t ≡ size l + x → ((left : ℕ) → operation rules ts (expression rules ts d) u.tree e (x + left) ≡ read made last left)
        → seen made ≡ inner t → step ts last ≡ c → last < step ts last → Closes (tok ts c) → Uptil inner (expression rules ts (suc d) Zero) at c t
    unfolding expression level next_is is choose climb ◌>>=◌
    climbed d at e c x last l t made u semi on sized op same stops further close = record {
      tree = made;
      last = last;
      same = same;
      stops = stops;
      on = further;
      reads = λ room left q. rw (u.reads room (x + left) (omega arith), u.stops, semi, some_turns, u.stops, on, op left, stops, close.halts Zero);
    }
