-- The difference of two numbers that fit an i64. Assumes nothing.
use Prim.Native.Nat.{ℕ, zero, suc, ◌+◌, ◌-◌, ◌^◌, ◌≤◌}
use native.Mathlib.Omega.{arith}
use mathlib.Core.Path.{◌≡◌, refl, ap}
use mathlib.Core.Bool.{Bool, true, false, cond}
use lib.Dec.{ltb}
use lib.IntN.{pos, negsuc, ◌-ℤ◌}
use mir.Syntax.{w64}
use mir.Val.{to_z, SFits}
use borrow.Author.Tests.{lt-ltb, le-ltb}
use Rattle.whole_floats.specs.Whole.{difference_of}

plain : (n : ℕ) → n ≤ 1000000000000000000 → to_z w64 n ≡ pos n
plain n h = rw (lt-ltb n (2 ^ 63) (omega arith))

minus : (a b : ℕ) → pos a -ℤ pos b ≡ difference_of a b
minus a zero = rw (le-ltb a 0 (omega arith)) (ap pos (let e : a + 0 ≡ a - 0 = omega arith in e))
minus a (suc b) = refl

pub less_is : (a b : ℕ) → a ≤ 1000000000000000000 → b ≤ 1000000000000000000 → to_z w64 a -ℤ to_z w64 b ≡ difference_of a b
less_is a b h k = rw (plain a h, plain b k) (minus a b)

pub less_fits : (a b : ℕ) → a ≤ 1000000000000000000 → b ≤ 1000000000000000000 → SFits w64 (difference_of a b)
less_fits a b h k = go (ltb a b)
  where
    go : (t : Bool) → SFits w64 (cond t (negsuc (b - suc a)) (pos (a - b)))
    go true = record { sfits = omega arith }
    go false = record { sfits = omega arith }
