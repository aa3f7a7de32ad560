-- The sum of a mark and a flag.
use Prim.Native.Nat.{ℕ, ◌+◌, ◌/◌, ◌%◌, ◌^◌, ◌<◌}
use native.Mathlib.Omega.{arith}
use mathlib.Core.Path.{◌≡◌}
use Rattle.rows.specs.Rows.{bit}
use Rattle.rows.specs.declared.Flag.{Flag}
use Rattle.rows.specs.declared.Flag.TheVariants.{Thread, Async, Grouped}

-- every flag is some number
pub some_bit : (f : Flag) → 0 < bit f
some_bit Thread = omega arith
some_bit Async = omega arith
some_bit Grouped = omega arith

-- a flag that a mark lacks still fits
pub flag_fits : (f : Flag) (m : ℕ) → m < 2 ^ 32 → m / bit f % 2 ≡ 0 → m + bit f < 2 ^ 32
flag_fits Thread m h e = omega arith
flag_fits Async m h e = omega arith
flag_fits Grouped m h e = omega arith
