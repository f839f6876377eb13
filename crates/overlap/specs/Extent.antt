-- The least and the greatest of numbers, folded as `compute_bbox` and `project_polygon_on_axis` of `nfp_sliding.rs` do. Definitions only.
use Rattle.std.specs.Prelude.{ℕ, zero, suc, Bool, true, false, ◌||◌, List, Float}
use Rattle.std.specs.Float.{inf}
use Rattle.std.specs.Float.Ieee.{lt}
use Rattle.scalar.specs.Float.{◌⊕◌}
use Rattle.scalar.specs.Scalar.{smaller_of, larger_of}
use Rattle.plane.specs.Vector.{dot_of}
use Rattle.plane.specs.declared.Point.{Point}
use Rattle.ring.specs.Ring.{count, point_at}
use Rattle.overlap.specs.declared.Extent.{Extent}
use Rattle.overlap.specs.declared.Bounds.{Bounds}

-- an extent with one number more
unfoldable pub wider_of : Extent → Float → Extent
wider_of e v = record { min = smaller_of e.min v; max = larger_of e.max v }

-- the first k numbers of a row, from +infinity and -infinity
unfoldable pub extent_to : (ℕ → Float) → ℕ → Extent
extent_to f zero = record { min = inf false; max = inf true }
extent_to f (suc k) = wider_of (extent_to f k) (f k)

-- one ends more than the tolerance before the other begins
unfoldable pub apart_of : Extent → Extent → Float → Bool
apart_of a b tol = lt (a.max ⊕ tol) b.min || lt (b.max ⊕ tol) a.min

-- the coordinates of vertex i, and how far it lies along an axis
abbrev pub x_at : List Float → ℕ → Float
x_at r i = (point_at r i).x

abbrev pub y_at : List Float → ℕ → Float
y_at r i = (point_at r i).y

abbrev pub dot_at : List Float → Point → ℕ → Float
dot_at r axis i = dot_of (point_at r i) axis

-- `compute_bbox`: the bounding box
unfoldable pub box_of : List Float → Bounds
box_of r = record { x = extent_to (x_at r) (count r); y = extent_to (y_at r) (count r) }

-- `project_polygon_on_axis`: the extent along an axis
unfoldable pub shadow_of : List Float → Point → Extent
shadow_of r axis = extent_to (dot_at r axis) (count r)
