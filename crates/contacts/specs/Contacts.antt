-- The contacts of two rings, by their pairs' numbers, in the order of these. Definitions only.
use Rattle.std.specs.Prelude.{ℕ, zero, suc, ◌-◌, Bool, true, false, List, [], ◌∷◌, Option, Some, None, Float}
use Rattle.ring.specs.Ring.{count}
use Rattle.pairs.specs.Pairs.{pair_count, pair_of}
use Rattle.contacts.specs.Touching.{touching, contact_point}

abbrev pub cons_if : Bool → ℕ → List ℕ → List ℕ
cons_if true k ks = k ∷ ks
cons_if false k ks = ks

-- those of so many numbers from k on of which a test holds
unfoldable pub picks : (ℕ → Bool) → ℕ → ℕ → List ℕ
picks p k zero = []
picks p k (suc more) = cons_if (p k) k (picks p (suc k) more)

-- pair k touches
abbrev pub touches_at : List Float → List Float → Float → ℕ → Bool
touches_at st orb tol k = touching st orb tol (pair_of (count st) (count orb) k)

-- the contacts from pair k on
abbrev pub contacts_from : List Float → List Float → Float → ℕ → List ℕ
contacts_from st orb tol k = picks (touches_at st orb tol) k (pair_count (count st) (count orb) - k)

-- `find_contacts`: all contacts
abbrev pub contacts_of : List Float → List Float → Float → List ℕ
contacts_of st orb tol = contacts_from st orb tol 0

abbrev pub some_of : List ℕ → Bool
some_of [] = false
some_of (k ∷ ks) = true

-- `has_contacts`
abbrev pub has_contact : List Float → List Float → Float → Bool
has_contact st orb tol = some_of (contacts_of st orb tol)

abbrev pub first_contact : List ℕ → Option ℕ
first_contact [] = None
first_contact (k ∷ ks) = Some k

-- per contact its point
unfoldable pub points_of : List Float → List Float → List ℕ → List Float
points_of st orb [] = []
points_of st orb (k ∷ ks) =
    let p = contact_point st orb (pair_of (count st) (count orb) k) in
    p.x ∷ p.y ∷ points_of st orb ks
