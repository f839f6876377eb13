-- The first fault of a path, by the contacts and the collision check of `nfp_sliding.rs`. Definitions only.
use Rattle.std.specs.Prelude.{ℕ, zero, suc, cond, List, Float, Option, None, Some}
use Rattle.plane.specs.Vector.{minus_of}
use Rattle.plane.specs.declared.Point as plane
use Rattle.ring.specs.Ring.{count, point_at, next_of}
use Rattle.ring.specs.Moved.{moved_of}
use Rattle.contacts.specs.Contacts.{has_contact}
use Rattle.collision.specs.Check.{collision_of}
use Rattle.collision.specs.declared.Hit.{Hit}
use Rattle.path_check.specs.declared.Fault.{Fault}
use Rattle.path_check.specs.declared.Fault.TheVariants.{Point, Leg}

-- the leg from the point i to the next, from the last to the first
unfoldable pub leg_of : List Float → ℕ → plane.Point
leg_of path i = minus_of (point_at path (next_of i (count path))) (point_at path i)

-- the leg i, by what it runs into
unfoldable pub leg_by : Option Hit → ℕ → Option Fault
leg_by None i = None
leg_by (Some hit) i = Some (Leg i)

-- the point i, at which the orbiting polygon is `moved`: it has no contact; and then the leg that leads on from it
unfoldable pub fault_by : List Float → List Float → Float → plane.Point → ℕ → Option Fault
fault_by st moved tol leg i = cond (has_contact st moved tol) (leg_by (collision_of st moved leg tol) i) (Some (Point i))

-- the orbiting polygon as drawn
unfoldable pub fault_at : List Float → List Float → Float → List Float → ℕ → Option Fault
fault_at st orb tol path i = fault_by st (moved_of orb (point_at path i)) tol (leg_of path i) i

unfoldable pub or_else : Option Fault → Option Fault → Option Fault
or_else None f = f
or_else (Some g) f = Some g

-- the first of so many, from k on
unfoldable pub first_fault : (ℕ → Option Fault) → ℕ → ℕ → Option Fault
first_fault f k zero = None
first_fault f k (suc more) = or_else (f k) (first_fault f (suc k) more)

-- point 0, leg 0, point 1 and so on
unfoldable pub path_fault : List Float → List Float → Float → List Float → Option Fault
path_fault st orb tol path = first_fault (fault_at st orb tol path) 0 (count path)
