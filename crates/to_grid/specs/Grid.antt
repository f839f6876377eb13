-- A float on a grid of so many units in 1: the whole number nearest to units times its exact value. Definitions only.
use Rattle.std.specs.Prelude.{ℕ, ◌+◌, ◌*◌, ◌/◌, ◌^◌, ◌≤◌, ◌<◌, ◌≡◌, Bool, true, false, leb, ℤ, pos, neg_ℤ, Float}
use Rattle.std.specs.Float.{nan, inf, fin, binary64}
use Rattle.std.specs.Float.Ieee.{up, down, of_bits}
use Rattle.std.specs.Float.Ieee.Exact.{HasValue}
use Rattle.square_root.specs.Nearest.{val}

-- ---- nearest

-- g, or -g where the sign says so
abbrev pub signed : Bool → ℕ → ℤ
signed false g = pos g
signed true g = neg_ℤ (pos g)

-- the whole number nearest to a / c, and of two that are as near the larger
abbrev pub nearest_to : ℕ → ℕ → ℕ
nearest_to a c = (2 * a + c) / (2 * c)

-- that to units times the exact value of x, with its sign: of two that are as near the one farther from zero; 0 for what is not
-- finite
unfoldable pub nearest : ℕ → Float → ℤ
nearest units nan = pos 0
nearest units (inf s) = pos 0
nearest units (fin s m e) = signed s (nearest_to (units * (m * up e)) (down e))

-- ---- the same with no rounding spelled out

-- g is off a / c by a half at most, and where it is off by just a half it is above
pub record Rounded (a c g : ℕ) : Type 0 where
  pub over : 2 * (g * c) ≤ 2 * a + c
  pub under : 2 * a < 2 * (g * c) + c

-- where x is v times 2 ^ -1074 in size, z has its sign and is units times that, rounded
abbrev pub IsNearest : ℕ → Float → ℤ → Type 0
IsNearest units x z =
    (s : Bool) (v : ℕ) → HasValue x s v (2 ^ 1074) → (g : ℕ) × (z ≡ signed s g) × Rounded (units * v) (2 ^ 1074) g

-- What `on_grid` makes of x. The first part is the whole; the second says it again of every finite x, subnormals and both zeros
-- included.
pub record OnGrid (units : ℕ) (x : Float) (z : ℤ) : Type 0 where
  pub is : z ≡ nearest units x
  pub nearby : IsNearest units x z

-- ---- what fits the grid

-- units times the exact value of x is at most 1,000,000 in size
unfoldable pub fits_grid : ℕ → Float → Bool
fits_grid units nan = false
fits_grid units (inf s) = false
fits_grid units (fin s m e) = leb (units * (m * up e)) (1000000 * down e)

-- t is the largest float of these: its value, in units of 2 ^ -1074, and that of the next one
pub record Most (units : ℕ) (t : Float) : Type 0 where
  pub pattern : ℕ
  pub is : t ≡ of_bits binary64 pattern
  pub some : 0 < pattern
  pub small : pattern < 1043 * 2 ^ 52
  pub fits : units * val pattern ≤ 1000000 * 2 ^ 1074
  pub last : 1000000 * 2 ^ 1074 < units * val (pattern + 1)
