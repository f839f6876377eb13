-- The slide along a vector, in the order of operations of `nfp_sliding.rs`. Definitions only.
use Rattle.std.specs.Prelude.{Bool, ◌&&◌, cond, List, ltb, Float, Option, None, Some}
use Rattle.std.specs.Float.Ieee.{lt}
use Rattle.scalar.specs.Float.{◌⊖◌, ◌⊗◌, float, f0}
use Rattle.scalar.specs.Scalar.{smaller_of, larger_of}
use Rattle.plane.specs.Vector.{point, plus_of, distance_of}
use Rattle.plane.specs.declared.Point.{Point}
use Rattle.ring.specs.Ring.{count}
use Rattle.vectors.specs.Fit.{f10}
use Rattle.vectors.specs.declared.TranslationVector.{TranslationVector}
use Rattle.collision.specs.Check.{collision_of}
use Rattle.collision.specs.declared.Hit.{Hit}
use Rattle.pass.specs.Stop.{short_move, path_closed}
use Rattle.pass.specs.declared.Margins.{Margins}
use Rattle.pass.specs.declared.Pose.{Pose}
use Rattle.pass.specs.declared.Step.{Step}
use Rattle.pass.specs.declared.Step.TheVariants.{Stop, Stay, Store}

-- 1000.0
abbrev pub f1000 : Float
f1000 = float 0x408f_4000_0000_0000

-- so far in a direction
unfoldable pub times_of : Point → Float → Point
times_of dir far = point (dir.x ⊗ far) (dir.y ⊗ far)

-- the full move, or the hit's distance less the tolerance
unfoldable pub made_of : Option Hit → Point → Float → Float → Point
made_of None dir far tol = times_of dir far
made_of (Some hit) dir far tol = times_of dir (larger_of (hit.distance ⊖ tol) f0)

unfoldable pub blocked_of : List Float → List Float → Point → Float → Float → Point
blocked_of st moved dir far tol = made_of (collision_of st moved (times_of dir far) tol) dir far tol

-- the path has more than two points, and the start is nearer than ten tolerances
unfoldable pub closes_of : List Float → Point → Point → Float → Bool
closes_of path at start tol = ltb 2 (count path) && lt (distance_of at start) (tol ⊗ f10)

-- a slide in the direction dir ends at a point: the trace ends where that closes the path
unfoldable pub land_of : Margins → Point → List Float → Pose → Point → Point → Step
land_of m start path pose dir at =
    cond (closes_of path at start m.tolerance) (Stop path_closed)
    (cond (lt m.smallest (distance_of at pose.position))
    (Store (record { position = at; previous = Some dir; stuck = 0 }))
    (Stay (record { position = at; previous = pose.previous; stuck = 0 })))

-- the trace ends where the vector, capped at 1000, is shorter than the smallest move
unfoldable pub slide_of : List Float → List Float → Margins → Point → List Float → Pose → TranslationVector → Step
slide_of st moved m start path pose v =
    let far = smaller_of v.distance f1000 in
    cond (lt far m.smallest) (Stop short_move)
    (land_of m start path pose v.direction (plus_of pose.position (blocked_of st moved v.direction far m.tolerance)))
