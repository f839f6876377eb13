-- Which way two vectors turn, by two products: each coordinate is 4,194,304 more than it is, so that none is below zero, and
-- what that adds to the products is added to the other side. Definitions only.
use Rattle.std.specs.Prelude.{ℕ, ◌+◌, ◌*◌, Bool, ◌&&◌, ◌||◌, cond, ltb, ℤ, pos, negsuc}
use Rattle.segments.specs.Segments.{counter_clockwise, clockwise}

-- 1 where (r, s) lies to the left of (p, q), -1 to the right, 0 where they are collinear
unfoldable pub side_of : ℕ → ℕ → ℕ → ℕ → ℤ
side_of p q r s =
    let left = p * s + 4194304 * (q + r) in
    let right = q * r + 4194304 * (p + s) in
    cond (ltb right left) (pos 1) (cond (ltb left right) (negsuc 0) (pos 0))

-- two turns are both counter-clockwise, or both clockwise
unfoldable pub same_side : ℤ → ℤ → Bool
same_side d e = counter_clockwise d && counter_clockwise e || clockwise d && clockwise e
