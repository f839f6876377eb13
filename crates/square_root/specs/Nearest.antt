-- When a value is the one of binary64 that is nearest to a root: over whole numbers, by the squares of the two
-- neighbouring halfway points. And what `sqrt` makes of a value. Definitions only.
use Rattle.std.specs.Prelude.{ℕ, ◌+◌, ◌-◌, ◌*◌, ◌/◌, ◌%◌, ◌^◌, ◌<◌, false, cond, ◌≡◌, ltb, Float}
use Rattle.std.specs.Float.{binary64}
use Rattle.std.specs.Float.Ieee.{of_bits}
use Rattle.std.specs.Float.Ieee.Exact.{HasValue}
use Rattle.square_root.specs.Root.{sqrt_of}

-- The value with the bit pattern b, in units of the smallest one, 2 ^ -1074. A larger pattern is a larger value, so
-- b - 1 and b + 1 are the patterns of b's neighbours.
unfoldable pub val : ℕ → ℕ
val b = cond (ltb b (2 ^ 52)) b ((b % 2 ^ 52 + 2 ^ 52) * 2 ^ (b / 2 ^ 52 - 1))

-- The root of n lies between the two points that are halfway from b's value to its neighbours', in units. Both sides
-- are doubled and squared.
pub record Near (n b : ℕ) : Type 0 where
  pub low : (val (b - 1) + val b) * (val (b - 1) + val b) < 4 * n
  pub high : 4 * n < (val b + val (b + 1)) * (val b + val (b + 1))

-- r is the value nearest to the root of n * 2 ^ -1074, which in units is the root of n * 2 ^ 1074
pub record Nearest (n : ℕ) (r : Float) : Type 0 where
  pub bits : ℕ
  pub some : 0 < bits
  pub finite : bits < 2047 * 2 ^ 52
  pub is : r ≡ of_bits binary64 bits
  pub near : Near (n * 2 ^ 1074) bits

-- where x is finite and above zero, and so n * 2 ^ -1074 for some n, r is the value nearest to its root
abbrev pub IsNearest : Float → Float → Type 0
IsNearest x r = (n : ℕ) → 0 < n → HasValue x false n (2 ^ 1074) → Nearest n r

-- What `sqrt` makes of x. The first part is the whole: it has every value, a NaN, the zeros and the infinities
-- included. The second says it again, with no rounding spelled out, of a value that is finite and above zero.
pub record IsRoot (x r : Float) : Type 0 where
  pub is : r ≡ sqrt_of binary64 x
  pub nearest : IsNearest x r
