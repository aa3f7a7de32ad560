-- Trees, the rows that they are laid out in, and a name for each kind of row.
use Rattle.std.specs.Prelude.{ℕ, ◌+◌, ◌/◌, ◌%◌, Bool, false, cond, List, [], ◌∷◌, ◌++◌, eqb}

infixr 50 ◌▸◌
mutual
  -- A tree: an infix row with its two sides, or a row of any other kind with its mark, its place and its four slots; last the place where
  -- the row ends, 0 until it is built.
  pub data Tree : Type 0 where
    infixed : (mark place : ℕ) (left right : Tree) (end : ℕ) → Tree
    node : (kind mark place : ℕ) (c0 c1 c2 c3 : Trees) (end : ℕ) → Tree

  -- The trees of a slot: none, one child, or the members of a list.
  pub data Trees : Type 0 where
    nil : Trees
    ◌▸◌ : Tree → Trees → Trees

abbrev mutual
  -- How many rows a tree takes.
  pub size : Tree → ℕ
  size (infixed m p l r z) = size l + size r + 1
  size (node k m p a b c d z) = sizes a + sizes b + sizes c + sizes d + 1

  -- How many rows the trees of a slot take.
  pub sizes : Trees → ℕ
  sizes nil = 0
  sizes (t ▸ ts) = size t + sizes ts

-- The reference of the first of the trees that are laid behind `first` rows, 0 for none.
abbrev pub head_ref : Trees → ℕ → ℕ
head_ref nil first = 0
head_ref (t ▸ ts) first = first + size t

-- How many words a row takes.
abbrev pub width : ℕ
width = 9

-- The words of a row.
abbrev pub row : (kind mark place c0 c1 c2 c3 next end : ℕ) → List ℕ
row k m p a b c d n z = k ∷ m ∷ p ∷ a ∷ b ∷ c ∷ d ∷ n ∷ z ∷ []

unfoldable mutual
  -- The words of a tree's rows behind `first` rows, with `next` in its own row, which is its last.
  pub lay : Tree → (first next : ℕ) → List ℕ
  lay (infixed m p l r z) first next =
      lay l first 0 ++ lay r (first + size l) 0 ++ row 12 m p (first + size l) (first + size l + size r) 0 0 next z
  lay (node k m p a b c d z) first next =
      lays a first
      ++ lays b (first + sizes a)
      ++ lays c (first + sizes a + sizes b)
      ++ lays d (first + sizes a + sizes b + sizes c)
      ++ row k m p (head_ref a first) (head_ref b (first + sizes a)) (head_ref c (first + sizes a + sizes b)) (head_ref d (first + sizes a + sizes b + sizes c)) next z

  -- The words of a slot's rows, each tree's next the one behind it.
  pub lays : Trees → (first : ℕ) → List ℕ
  lays nil first = []
  lays (t ▸ ts) first = lay t first (head_ref ts (first + size t)) ++ lays ts (first + size t)

-- A list with another list behind it.
unfoldable pub join : Trees → Trees → Trees
join nil us = us
join (t ▸ ts) us = t ▸ join ts us

-- A mark with a flag (1, 2 or 256) in it, once.
unfoldable pub flag : ℕ → ℕ → ℕ
flag f m = cond (eqb (m / f % 2) 0) (m + f) m

-- A tree with a flag in its own row.
unfoldable pub flagged : ℕ → Tree → Tree
flagged f (infixed m p l r z) = infixed (flag f m) p l r z
flagged f (node k m p a b c d z) = node k (flag f m) p a b c d z

-- A tree whose own row ends at a place.
abbrev pub ended : ℕ → Tree → Tree
ended at (infixed m p l r z) = infixed m p l r at
ended at (node k m p a b c d z) = node k m p a b c d at

-- The flags of a call started on a thread, of one not waited for, and of a row in brackets.
abbrev pub Thread : ℕ
Thread = 1

abbrev pub Async : ℕ
Async = 2

abbrev pub Grouped : ℕ
Grouped = 256

-- Whether a tree is a call.
unfoldable pub is_call : Tree → Bool
is_call (infixed m p l r z) = false
is_call (node k m p a b c d z) = eqb k 11

-- A row without children.
abbrev pub leaf : (kind mark place : ℕ) → Tree
leaf k m p = node k m p nil nil nil nil 0

-- The kinds of expressions: literals and names, with their place (and a bool's mark).
abbrev pub none : ℕ → Tree
none p = leaf 1 0 p

abbrev pub identifier : ℕ → Tree
identifier p = leaf 2 0 p

abbrev pub int : ℕ → Tree
int p = leaf 3 0 p

abbrev pub float : ℕ → Tree
float p = leaf 4 0 p

abbrev pub char : ℕ → Tree
char p = leaf 5 0 p

abbrev pub string : ℕ → Tree
string p = leaf 6 0 p

abbrev pub bool : ℕ → ℕ → Tree
bool m p = leaf 7 m p

abbrev pub name : ℕ → Tree
name p = leaf 18 0 p

-- The kinds of expressions: those with children (12, infix, is a constructor above).
abbrev pub array : ℕ → Trees → Tree
array p values = node 8 0 p values nil nil nil 0

abbrev pub hash : ℕ → Trees → Tree
hash p pairs = node 9 0 p pairs nil nil nil 0

abbrev pub index : ℕ → Tree → Tree → Tree
index p left i = node 10 0 p (left ▸ nil) (i ▸ nil) nil nil 0

abbrev pub call : ℕ → Tree → Trees → Tree
call p function arguments = node 11 0 p (function ▸ nil) arguments nil nil 0

abbrev pub prefix : ℕ → ℕ → Tree → Tree
prefix m p t = node 13 m p (t ▸ nil) nil nil nil 0

abbrev pub suffix : ℕ → ℕ → Tree → Tree
suffix m p t = node 14 m p (t ▸ nil) nil nil nil 0

abbrev pub lambda : ℕ → Trees → Tree → Tree
lambda p parameters body = node 15 0 p parameters (body ▸ nil) nil nil 0

abbrev pub shell : ℕ → ℕ → Tree → Tree
shell raw p t = node 16 raw p (t ▸ nil) nil nil nil 0

abbrev pub attribute : ℕ → Tree → Trees → Tree
attribute p parent names = node 17 0 p (parent ▸ nil) names nil nil 0

abbrev pub pair : ℕ → Tree → Tree → Tree
pair p key value = node 19 0 p (key ▸ nil) (value ▸ nil) nil nil 0

-- The kinds of statements.
abbrev pub break : ℕ → Tree
break p = leaf 32 0 p

abbrev pub continue : ℕ → Tree
continue p = leaf 33 0 p

abbrev pub var : ℕ → Trees → Tree
var p value = node 34 0 p value nil nil nil 0

abbrev pub const : ℕ → Trees → Tree
const p value = node 35 0 p value nil nil nil 0

abbrev pub return : ℕ → Trees → Tree
return p value = node 36 0 p value nil nil nil 0

abbrev pub throw : ℕ → Tree → Tree
throw p t = node 37 0 p (t ▸ nil) nil nil nil 0

abbrev pub expression_statement : ℕ → Tree → Tree
expression_statement p t = node 38 0 p (t ▸ nil) nil nil nil 0

abbrev pub try : ℕ → Tree → Tree → Tree → Trees → Tree
try p block exception catch final = node 39 0 p (block ▸ nil) (exception ▸ nil) (catch ▸ nil) final 0

abbrev pub function : ℕ → Trees → Tree → Tree
function p parameters body = node 40 0 p parameters (body ▸ nil) nil nil 0

abbrev pub for : ℕ → Tree → Tree → Tree → Tree
for p target iter block = node 41 0 p (target ▸ nil) (iter ▸ nil) (block ▸ nil) nil 0

abbrev pub while : ℕ → Tree → Tree → Tree
while p target block = node 42 0 p (target ▸ nil) (block ▸ nil) nil nil 0

abbrev pub assert : ℕ → Tree → Tree → Tree
assert p target fail = node 43 0 p (target ▸ nil) (fail ▸ nil) nil nil 0

abbrev pub if : ℕ → Tree → Tree → Trees → Tree
if p condition main alternate = node 44 0 p (condition ▸ nil) (main ▸ nil) alternate nil 0

abbrev pub foreach : ℕ → Tree → Tree → Tree → Tree → Tree
foreach p iter i element block = node 45 0 p (iter ▸ nil) (i ▸ nil) (element ▸ nil) (block ▸ nil) 0

abbrev pub block : ℕ → Trees → Tree
block p statements = node 46 0 p statements nil nil nil 0
