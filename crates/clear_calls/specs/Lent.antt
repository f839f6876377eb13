-- What the search and the check are lent, once the tests have passed. Definitions only.
use Rattle.std.specs.Prelude.{◌*◌, ◌/◌, ◌≤◌, ◌≡◌, true, List, length, ℤ}
use Rattle.whole_engine.specs.Rows.{all_in_bounds}
use Rattle.whole_moves.specs.Moved.{moved_by}

-- two polygons of 3 to 256 corners within the bounds, the orbiting one at the end of the move too
pub record WholeMove (st orb : List ℤ) (dx dy : ℤ) : Type 0 where
  pub ring_most : length st ≤ 512
  pub least : 6 ≤ length orb
  pub most : length orb ≤ 512
  pub ring_within : all_in_bounds st ≡ true
  pub starts_within : all_in_bounds orb ≡ true
  pub ends_within : all_in_bounds (moved_by dx dy orb) ≡ true

-- and a reason of four numbers for each edge of the stationary one
pub record WholeReason (st orb : List ℤ) (dx dy : ℤ) (ls : List ℤ) : Type 0 where
  pub polygons : WholeMove st orb dx dy
  pub four_each : length ls ≡ 4 * (length st / 2)
  pub lines_within : all_in_bounds ls ≡ true
