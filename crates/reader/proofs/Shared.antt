-- Readers of the definition that one function reads: var and const, else and finally.
use mathlib.Core.Path.{◌≡◌, refl, sym, ap}
use mathlib.Core.Bool.{Bool, true, false, not}
use mathlib.Core.List.{List}
use Prim.Native.Nat.{ℕ}
use Rattle.grammar.specs.Words.{Identifier, SLBrace, SSemiColon, KElse, KFinally, step, is, next_is}
use Rattle.grammar.specs.Tree.{Tree, Trees, nil, ◌▸◌}
use Rattle.grammar.specs.Tree as tree
use Rattle.grammar.specs.Parsed.{Parsed, read, Reader, ◌>>=◌, ◌>>◌, need, choose, build, InvalidIdentifier, InvalidSyntax, ConstWithoutValue, WrongSign}
use Rattle.grammar.specs.Rules.{Rules}
use Rattle.grammar.specs.Expressions.{Rec}
use Rattle.grammar.specs.Statements.{var, const, value, block, else, finally}
use Rattle.modes.specs.declared.Mode.{Mode}
use Rattle.modes.specs.declared.Due.{Due}
use Rattle.modes.specs.declared.Due.TheVariants.{Always, By}
use Rattle.modes.specs.Modes.{by, comes}
use Rattle.reader.specs.Promises.{braced, clause, var_or_const}
use Rattle.reader.proofs.Bodies.{braced_then}

-- A name with its value or without, at the place behind the keyword.
module _ (rules : Rules) (ts : List ℕ) (expr : Rec) (stmt : Reader Trees) (at room : ℕ) where
  pub var_as : var rules ts expr stmt (step ts at) room ≡ var_or_const rules ts expr stmt 34 (step ts at) room
  unfolding var var_or_const need ◌>>◌
  var_as = refl

  pub const_as : const rules ts expr stmt (step ts at) room ≡ var_or_const rules ts expr stmt 35 (step ts at) room
  unfolding const var_or_const need ◌>>◌ choose
  const_as = ap (λ (x : Parsed Tree). need (is ts (step ts at) Identifier) InvalidIdentifier (step ts at) >> x) (go (next_is ts (step ts at) SSemiColon))
    where
      go : (b : Bool) → (need (not b) ConstWithoutValue (step ts (step ts at)) >> value rules ts expr stmt (tree.const (step ts at)) (step ts (step ts at)) room)
          ≡ choose b (λ _. need false ConstWithoutValue (step ts (step ts at)) >> build (tree.const (step ts at) nil) (step ts (step ts at)) room)
          (λ _. value rules ts expr stmt (tree.const (step ts at)) (step ts (step ts at)) room)
      go true = refl
      go false = refl

-- The block of a keyword that comes next, or none.
as_clause : (ts : List ℕ) (at room : ℕ) (due : Due) (reader : Reader Tree) (keyword number : ℕ)
    → choose (next_is ts at keyword)
    (λ _. need (comes due ts (step ts at) SLBrace) number (step ts at) >> (reader (step ts at) room >>= λ (t, at, room). read (t ▸ nil) at room))
    (λ _. read nil at room)
    ≡ clause due ts reader keyword number at room
unfolding clause choose
as_clause ts at room due reader keyword number = go (next_is ts at keyword)
  where
    go : (b : Bool) → choose b
        (λ _. need (comes due ts (step ts at) SLBrace) number (step ts at) >> (reader (step ts at) room >>= λ (t, at, room). read (t ▸ nil) at room))
        (λ _. read nil at room)
        ≡ choose b (λ _. braced due ts reader number (step ts at) room >>= λ (t, at, room). read (t ▸ nil) at room) (λ _. read nil at room)
    go true = sym (braced_then ts _ (step ts at) room due reader number)
    go false = refl

pub else_as : (rules : Rules) (ts : List ℕ) (expr : Rec) (stmt : Reader Trees) (at room : ℕ)
    → else rules ts expr stmt at room ≡ clause Always ts (block rules ts expr stmt) KElse InvalidSyntax at room
unfolding else
else_as rules ts expr stmt at room = as_clause ts at room Always (block rules ts expr stmt) KElse InvalidSyntax

pub finally_as : (mode : Mode) (ts : List ℕ) (expr : Rec) (stmt : Reader Trees) (at room : ℕ)
    → finally (by mode) ts expr stmt at room ≡ clause (By mode) ts (block (by mode) ts expr stmt) KFinally WrongSign at room
unfolding finally
finally_as mode ts expr stmt at room = as_clause ts at room (By mode) (block (by mode) ts expr stmt) KFinally WrongSign
