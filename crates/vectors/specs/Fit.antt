-- Which vectors lead to no visited position. Definitions only.
use Rattle.std.specs.Prelude.{ℕ, Bool, true, false, not, List, [], ◌∷◌, Float}
use Rattle.std.specs.Float.Ieee.{lt}
use Rattle.scalar.specs.Float.{◌⊗◌, float, f1}
use Rattle.scalar.specs.Scalar.{smaller_of}
use Rattle.plane.specs.Vector.{distance_of, ahead_of}
use Rattle.plane.specs.declared.Point.{Point}
use Rattle.ring.specs.Ring.{count, point_at}
use Rattle.ring.specs.Each.{each}
use Rattle.vectors.specs.Vectors.{Sourced, vectors_of}
use Rattle.vectors.specs.declared.TranslationVector.{TranslationVector}

-- 10.0
abbrev pub f10 : Float
f10 = float 0x4024_0000_0000_0000

-- not nearer than ten tolerances to visited position i
unfoldable pub apart_from : Point → List Float → Float → ℕ → Bool
apart_from p visited tol i = not (lt (distance_of p (point_at visited i)) (tol ⊗ f10))

unfoldable pub visited_of : Point → List Float → Float → Bool
visited_of p visited tol = not (each (apart_from p visited tol) 0 (count visited))

-- where a vector leads, followed for 1.0 at most
unfoldable pub potential_of : Point → TranslationVector → Point
potential_of from v = ahead_of from v.direction (smaller_of v.distance f1)

unfoldable pub keeps : Point → List Float → Float → TranslationVector → Bool
keeps from visited tol v = not (visited_of (potential_of from v) visited tol)

abbrev pub keep_if : Bool → Sourced → List Sourced → List Sourced
keep_if true s ss = s ∷ ss
keep_if false s ss = ss

-- those vectors of a list of which a test holds
unfoldable pub kept_vectors : (TranslationVector → Bool) → List Sourced → List Sourced
kept_vectors p [] = []
kept_vectors p (s ∷ ss) = keep_if (p s.slide) s (kept_vectors p ss)

-- `handle_perfect_fit`: the vectors that lead to no visited position
abbrev pub fit_of : List Float → List Float → Point → List Float → Float → List Sourced
fit_of st orb from visited tol = kept_vectors (keeps from visited tol) (vectors_of st orb tol)
