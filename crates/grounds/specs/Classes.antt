-- Where a computed hit lies, too near, between or too far, and how many of the rule's pairs have a hit that passes a test. Definitions only.
use Rattle.std.specs.Prelude.{ℕ, Bool, false, not, ◌&&◌, List, Option, Some, None, Float}
use Rattle.std.specs.Float.Ieee.{le}
use Rattle.plane.specs.declared.Point.{Point}
use Rattle.laws.specs.Turns.{tally}
use Rattle.collision.specs.Hit.{between}
use Rattle.collision.specs.Nearest.{pair_no, scans, ray_at}
use Rattle.collision.specs.declared.Sweep.{Sweep}

-- at most the tolerance
abbrev pub too_near : Sweep → Float → Bool
too_near w d = le d w.tolerance

-- strictly between the tolerance and the limit, which is the length less the tolerance
abbrev pub in_between : Sweep → Float → Bool
in_between w d = between w.tolerance w.limit d

-- not too near, and at least the limit
abbrev pub too_far : Sweep → Float → Bool
too_far w d = not (le d w.tolerance) && le w.limit d

-- a ray hits, at a distance that passes
unfoldable pub hit_is : (Float → Bool) → Option Float → Bool
hit_is passes None = false
hit_is passes (Some d) = passes d

-- the pair number k has a computed hit at a distance that passes
abbrev pub hit_at : List Float → List Float → Point → Float → (Float → Bool) → ℕ → Bool
hit_at st orb move tol passes k = hit_is passes (ray_at st orb move tol (pair_no st orb k))

-- how many pairs have one
unfoldable pub how_many : List Float → List Float → Point → Float → (Float → Bool) → ℕ
how_many st orb move tol passes = tally (hit_at st orb move tol passes) (scans st orb)
