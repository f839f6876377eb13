-- On which side of a line a turn is, by the thresholds of `orientation`. Definitions only.
use Rattle.std.specs.Prelude.{Bool, not, ◌&&◌, ◌||◌, cond, Float}
use Rattle.std.specs.Float.Ieee.{lt, neg}
use Rattle.segments.specs.Segments.{eps}

-- not collinear
abbrev pub aside : Float → Bool
aside d = lt eps d || lt d (neg eps)

-- both counter-clockwise, or both clockwise
abbrev pub same_side : Float → Float → Bool
same_side d e = cond (lt eps d) (lt eps e) (lt d (neg eps) && (not (lt eps e) && lt e (neg eps)))
