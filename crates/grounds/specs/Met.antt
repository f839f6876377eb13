-- What the search for the next hit of a ray answers. Definitions only.
use Rattle.std.specs.Prelude.{ℕ, ◌≤◌, ◌<◌, ◌≡◌, List, Option, Some, None, Float}
use Rattle.plane.specs.declared.Point.{Point}
use Rattle.collision.specs.Ray.{edge_ray}
use Rattle.collision.specs.Chained.{MissesTo}
use Rattle.grounds.specs.declared.Met.{Met}

-- an edge from one on and below another, and how far along the ray it is met; those before it are missed
pub record MetAt (es : List Float) (d : Point) (tol : Float) (o : Point) (from to : ℕ) (met : Met) : Type 0 where
  pub not_before : from ≤ met.edge
  pub below : met.edge < to
  pub misses : MissesTo es d tol o from met.edge
  pub hits : edge_ray o d es met.edge tol ≡ Some met.distance

-- such an edge, or all are missed
abbrev pub MetFirst : List Float → Point → Float → Point → ℕ → ℕ → Option Met → Type 0
MetFirst es d tol o from to None = MissesTo es d tol o from to
MetFirst es d tol o from to (Some met) = MetAt es d tol o from to met
