-- The tests of the two calls, and that with nothing visited all vectors are kept. Assumes nothing.
use mathlib.Core.Path.{◌≡◌, refl}
use mathlib.Core.List.{List, [], ◌∷◌}
use lib.Ieee.{Float}
use Rattle.plane.specs.declared.Point.{Point}
use Rattle.ring.specs.Ring.{count}
use Rattle.ring.specs.Each.{each}
use Rattle.refusals.specs.Refusals.{none}
use Rattle.refusals.specs.Rows.{of_fit}
use Rattle.refusals.proofs.Sized.{fit_polygons}
use Rattle.pairs.specs.Pairs.{Sides}
use Rattle.contacts_call.proofs.Screened.{sides}
use Rattle.vectors.specs.Vectors.{Sourced, vectors_of}
use Rattle.vectors.specs.Fit.{visited_of, keeps, kept_vectors, fit_of}

keep_all : (from : Point) (tol : Float) (l : List Sourced) → kept_vectors (keeps from [] tol) l ≡ l
unfolding kept_vectors keeps visited_of each
keep_all from tol [] = refl
keep_all from tol (s ∷ ss) = rw (keep_all from tol ss)

pub all_fit : (st orb : List Float) (tol : Float) (from : Point) → fit_of st orb from [] tol ≡ vectors_of st orb tol
all_fit st orb tol from = keep_all from tol (vectors_of st orb tol)

-- two polygons and what is lent with them that are not refused
pub lent_is : (st orb : List Float) (from : Point) (visited : List Float) (tol : Float) → none ≡ of_fit st orb from visited tol → Sides (count st) (count orb)
lent_is st orb from visited tol e = let p = fit_polygons st orb from visited tol e refl refl in sides st orb p.0 p.1
