-- The parts of a pair's test: the parameter along the segment, that along the ray, and what is made of the two. Of most pairs
-- the first is all that has to be worked out. Definitions only.
use Rattle.std.specs.Prelude.{Some, None}
use Rattle.std.specs.Prelude.{ℕ, Bool, ◌&&◌, cond, eqb, Float, Option}
use Rattle.std.specs.Float.Ieee.{le, neg}
use Rattle.scalar.specs.Float.{◌⊕◌, f0, f1}
use Rattle.scalar.specs.Scalar.{larger_of}
use Rattle.collision.specs.Hit.{counted_of}
use Rattle.collision.specs.declared.Sweep.{Sweep}
use Rattle.collision.specs.declared.Hit.{Hit}

-- the parameter along the segment is within the tolerance
abbrev pub within_segment : Float → Float → Bool
within_segment u tol = le (neg tol) u && le u (f1 ⊕ tol)

-- the answer by the parameter along the ray alone
abbrev pub in_front : Float → Float → Option Float
in_front t tol = cond (le (neg tol) t) (Some (larger_of t f0)) None

-- a ray of the vertex v against the edge e
abbrev pub pair_by : Option Float → Sweep → ℕ → ℕ → ℕ → Option Hit
pair_by ray w kind v e = cond (eqb kind 0) (counted_of ray w 0 e v) (counted_of ray w 1 v e)
