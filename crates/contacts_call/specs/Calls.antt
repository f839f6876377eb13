-- What the call answers, and what it leaves in the rooms. Definitions only.
use Rattle.std.specs.Prelude.{ℕ, ◌*◌, List, [], ◌∷◌, length, Float}
use Rattle.ring.specs.Room.{laid}
use Rattle.refusals.specs.Refusals.{first_of}
use Rattle.refusals.specs.Rows.{of_touching, of_rooms}
use Rattle.refusals.specs.Answers.{Outcome, outcome, left}
use Rattle.refusals.specs.Refusals.{Told}
use Rattle.contacts.specs.Contacts.{contacts_of, points_of}
use Rattle.contacts_call.specs.Which.{entry, which_of}

abbrev pub contact_count : List Float → List Float → Float → ℕ
contact_count st orb tol = length (contacts_of st orb tol)

-- 1, 2, 3, then 5 where one of the two rooms is too short
unfoldable pub find_refusal : List Float → List Float → Float → ℕ → ℕ → Told
find_refusal st orb tol which points =
    let n = contact_count st orb tol in
    first_of (of_touching st orb tol ∷ of_rooms (entry * n) which (2 * n) points ∷ [])

abbrev pub find_call : List Float → List Float → Float → ℕ → ℕ → Outcome ℕ
find_call st orb tol which points = outcome (find_refusal st orb tol which points) (contact_count st orb tol)

abbrev pub find_which : List Float → List Float → Float → List ℕ → List Float → List ℕ
find_which st orb tol which points =
    left (find_refusal st orb tol (length which) (length points))
    (laid (which_of st orb (contacts_of st orb tol)) which) which

abbrev pub find_points : List Float → List Float → Float → List ℕ → List Float → List Float
find_points st orb tol which points =
    left (find_refusal st orb tol (length which) (length points)) (laid (points_of st orb (contacts_of st orb tol)) points) points
