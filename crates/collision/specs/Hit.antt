-- Which hits count, and which of two is kept. Definitions only.
use Rattle.std.specs.Prelude.{ℕ, Bool, true, false, ◌&&◌, cond, Float, Option, Some, None}
use Rattle.std.specs.Float.Ieee.{lt}
use Rattle.laws.specs.FirstBest.{better}
use Rattle.collision.specs.declared.Sweep.{Sweep}
use Rattle.collision.specs.declared.Hit.{Hit}

-- strictly between the tolerance and the limit
abbrev pub between : Float → Float → Float → Bool
between tol limit d = lt tol d && lt d limit

abbrev pub hit_with : Float → ℕ → ℕ → ℕ → Option Hit
hit_with d kind s o = Some (record { distance = d; kind = kind; stationary = s; orbiting = o })

-- a ray's hit where it counts, with its kind and its indices in stationary and orbiting
unfoldable pub counted_of : Option Float → Sweep → ℕ → ℕ → ℕ → Option Hit
counted_of None w kind s o = None
counted_of (Some d) w kind s o = cond (between w.tolerance w.limit d) (hit_with d kind s o) None

-- a hit is nearer than nothing, and than a hit whose distance is strictly larger
unfoldable pub nearer : Option Hit → Option Hit → Bool
nearer None best = false
nearer (Some h) None = true
nearer (Some h) (Some g) = lt h.distance g.distance

-- of what was found so far and a new one
abbrev pub kept_hit : Option Hit → Option Hit → Option Hit
kept_hit best new = better nearer best new
