-- What an answer says of a path. Definitions only.
use Rattle.std.specs.Prelude.{ℕ, ◌<◌, ◌≡◌, true, List, Float, Option, None, Some}
use Rattle.ring.specs.Ring.{count, point_at}
use Rattle.ring.specs.Moved.{moved_of}
use Rattle.contacts.specs.Contacts.{has_contact}
use Rattle.collision.specs.Check.{collision_of}
use Rattle.path_check.specs.Path.{leg_of}
use Rattle.path_check.specs.declared.Fault.{Fault}
use Rattle.path_check.specs.declared.Fault.TheVariants.{Point, Leg}

module _ (st orb : List Float) (tol : Float) (path : List Float) where
  -- at the point i the moved polygon has a contact
  abbrev pub Touches : ℕ → Type 0
  Touches i = has_contact st (moved_of orb (point_at path i)) tol ≡ true

  -- on the leg from the point i to the next the collision check answers nothing
  abbrev pub Free : ℕ → Type 0
  Free i = collision_of st (moved_of orb (point_at path i)) (leg_of path i) tol ≡ None

  -- so it is at each point below i and on the leg from there
  abbrev pub Good : ℕ → Type 0
  Good i = (j : ℕ) → j < i → Touches j × Free j

  -- all is good; or the first that is not is a point; or it is a leg
  pub data Told : Option Fault → Type 0 where
    accepted : Good (count path) → Told None
    point : {i : ℕ} → i < count path → Good i → (Touches i → ⊥) → Told (Some (Point i))
    leg : {i : ℕ} → i < count path → Good i → Touches i → (Free i → ⊥) → Told (Some (Leg i))
