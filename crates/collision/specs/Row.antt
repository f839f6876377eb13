-- What the scan of a vertex against edges goes by. Definitions only.
use Rattle.std.specs.Prelude.{ℕ, ◌≡◌, false, List, Float, Option, Some, None}
use Rattle.std.specs.Float.{inf}
use Rattle.plane.specs.declared.Point.{Point}
use Rattle.laws.specs.FirstBest.{over}
use Rattle.collision.specs.Ray.{edge_ray}
use Rattle.collision.specs.Hit.{nearer}
use Rattle.collision.specs.Parts.{pair_by}
use Rattle.collision.specs.declared.Sweep.{Sweep}
use Rattle.collision.specs.declared.Hit.{Hit}

-- the vertex v, at o, against the edge e of a ring
unfoldable pub pair_at : Point → List Float → Sweep → ℕ → ℕ → ℕ → Option Hit
pair_at o es w kind v e = pair_by (edge_ray o w.dir es e w.tolerance) w kind v e

-- the distance below which a hit is nearer than what was found
unfoldable pub least_of : Option Hit → Float
least_of None = inf false
least_of (Some h) = h.distance

-- what was found among candidates below one number leads to what is found among those below another
pub record Onward (f : ℕ → Option Hit) (a b : ℕ) (before after : Option Hit) : Type 0 where
  pub leads : (from : Option Hit) → before ≡ over nearer f from a → after ≡ over nearer f from b
