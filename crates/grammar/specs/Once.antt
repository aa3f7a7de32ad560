-- What it is that a contract has one result.
use Rattle.std.specs.Prelude.{◌≡◌}

-- A contract determines what is told: of two results that meet it for the same arguments the same is told. `post` is the contract as the
-- checker reads it; `left` has each parameter as the function leaves it, the first at `left.0`, the second at `left.1.0`, and so on.
abbrev pub Determines :
    {K : Type 0} {Args Result Left : K → Type 0} {A : Type 0}
    → (post : (κs : K) → Args κs → Result κs → Left κs → Type 0)
    → (told : (κs : K) → Result κs → Left κs → A)
    → Type 0
Determines {K} {Args} {Result} {Left} post told =
    (κs : K) (args : Args κs) (r r' : Result κs) (left left' : Left κs)
    → post κs args r left
    → post κs args r' left'
    → told κs r left ≡ told κs r' left'
