-- The scan of both kinds of pair, and the check of a move, in the order of `nfp_sliding.rs`. Definitions only.
use Rattle.std.specs.Prelude.{ℕ, cond, List, eqb, Float, Option, None}
use Rattle.std.specs.Float.Ieee.{lt, neg}
use Rattle.scalar.specs.Float.{◌⊖◌, ◌⊘◌}
use Rattle.plane.specs.Vector.{point, length_of}
use Rattle.plane.specs.declared.Point.{Point}
use Rattle.ring.specs.Ring.{count, point_at}
use Rattle.laws.specs.FirstBest.{nest}
use Rattle.collision.specs.Ray.{edge_ray}
use Rattle.collision.specs.Hit.{counted_of, nearer}
use Rattle.collision.specs.declared.Sweep.{Sweep}
use Rattle.collision.specs.declared.Hit.{Hit}

-- the vertex v of one ring against the edge e of the other: of kind 0 the edge is stationary's, of kind 1 orbiting's
unfoldable pub hit_of : List Float → List Float → Sweep → ℕ → ℕ → ℕ → Option Hit
hit_of vs es w kind v e =
    let ray = edge_ray (point_at vs v) w.dir es e w.tolerance in
    cond (eqb kind 0) (counted_of ray w 0 e v) (counted_of ray w 1 v e)

-- each vertex against each edge
unfoldable pub scan_of : List Float → List Float → Sweep → ℕ → Option Hit → Option Hit
scan_of vs es w kind before = nest nearer (hit_of vs es w kind) (count es) before (count vs)

-- the other way
unfoldable pub back_of : Sweep → Sweep
back_of w = record { dir = point (neg w.dir.x) (neg w.dir.y); limit = w.limit; tolerance = w.tolerance }

-- orbiting vertices against stationary edges, then stationary vertices against orbiting edges
unfoldable pub both_of : List Float → List Float → Sweep → Option Hit
both_of st orb w = scan_of st orb (back_of w) 1 (scan_of orb st w 0 None)

-- the rays of a move with its length: its direction, and the limit, its length less the tolerance
abbrev pub rays_by : Point → Float → Float → Sweep
rays_by move len tol = record { dir = point (move.x ⊘ len) (move.y ⊘ len); limit = len ⊖ tol; tolerance = tol }

unfoldable pub sweep_of : Point → Float → Sweep
sweep_of move tol = rays_by move (length_of move) tol

-- `check_translation_collision`: nothing where the move is shorter than the tolerance
unfoldable pub collision_of : List Float → List Float → Point → Float → Option Hit
collision_of st orb move tol = cond (lt (length_of move) tol) None (both_of st orb (sweep_of move tol))
