-- The square root of a float, rounded to the nearest value of its format and at a tie to the even one, as IEEE 754
-- has it. Definitions only.
use Prim.Native.Nat.{ℕ, zero, suc, ◌+◌, ◌-◌, ◌*◌, ◌/◌, ◌^◌, ◌≤◌, ◌<◌, compare}
use Rattle.std.specs.Prelude.{◌≡◌, ◌⊎◌, false, cond, leb, Float}
use Rattle.std.specs.Float.{nan, inf, fin, Format}
use Rattle.std.specs.Float.Ieee.{prec, low, up, down, size, nearest, units}

-- r is the whole part of n's root
abbrev pub WholeRoot : ℕ → ℕ → Type 0
WholeRoot n r = (r * r ≤ n) × (n < (r + 1) * (r + 1))

-- r, or r + 1 where the square of that is n at most
abbrev pub next : ℕ → ℕ → ℕ
next n r = r + cond (leb ((r + 1) * (r + 1)) n) 1 0

-- the whole part of the root of an n below 4 ^ d: twice that of n / 4, or one more
unfoldable pub isqrt_by : ℕ → ℕ → ℕ
isqrt_by zero n = 0
isqrt_by (suc d) n = next n (2 * isqrt_by d (n / 4))

-- the whole part of n's root
unfoldable pub isqrt : ℕ → ℕ
unfolding isqrt_by
isqrt n = isqrt_by (size n) n

-- The float of the format f that is nearest to the root of n, in units of f's smallest value. Of the root's whole part
-- f keeps the `prec` leading digits, q, and drops k. So the root lies between q and q + 1, times 2 ^ k, and halfway is
-- (2 * q + 1) / 2, times 2 ^ k. The root and the halfway point compare as their squares do.
unfoldable pub rooted : Format → ℕ → Float
unfolding isqrt size units
rooted f n =
    let k = size (isqrt n) - prec f in
    let q = isqrt n / 2 ^ k in
    units f false (nearest q (compare (4 * n) ((2 * q + 1) * (2 * q + 1) * 4 ^ k))) k

-- A NaN and a value below zero have a NaN, and a zero is its own root, with its sign. In units of the smallest value,
-- 2 ^ -low, the root of x is the root of x * 4 ^ low.
unfoldable pub sqrt_of : Format → Float → Float
unfolding rooted
sqrt_of f nan = nan
sqrt_of f (inf s) = cond s nan (inf s)
sqrt_of f (fin s zero e) = fin s zero e
sqrt_of f (fin s (suc m) e) = cond s nan (rooted f (suc m * up e * 4 ^ low f / down e))

-- A radicand m * 2 ^ t in the form that `assembled` takes: m has 53 digits, and the root is neither subnormal nor too
-- large.
pub record Radicand (m t : ℕ) : Type 0 where
  pub long : 2 ^ 52 ≤ m
  pub short : m < 2 ^ 53
  pub least : 54 ≤ t
  pub most : t < 4000

-- what d at the place p take, added to q: ((q + d * p) ^ 2 - q ^ 2) / p
abbrev pub takes : (q p d : ℕ) → ℕ
takes q p d = 2 * d * q + d * d * p

-- q' is q with the largest d at the place p that takes no more than r, and t is what it takes
pub record Pair (q r p q' t : ℕ) : Type 0 where
  pub d : ℕ
  pub root : q' ≡ q + d * p
  pub taken : t ≡ takes q p d
  pub held : t ≤ r
  pub largest : r < takes q p (d + 1)

-- of two steps, each a root and what it takes, the second where that is left, and else the first
abbrev pub Further : (q t r q' t' next took : ℕ) → Type 0
Further q t r q' t' next took = ((t' ≤ r) × (next ≡ q') × (took ≡ t')) ⊎ ((r < t') × (next ≡ q) × (took ≡ t))
