-- Shifts one after the other on one path with one k, and how often they inspect a place. Definitions only.
use Rattle.std.specs.Prelude.{ℕ, zero, suc, ◌+◌, ◌-◌, ◌/◌, cond, List, [], ◌∷◌, eqb}
use Rattle.inspection.specs.Places.{shift_places, following_start}

-- so many shifts, each started where the one before left off: the places of each
unfoldable pub shifts_from : ℕ → ℕ → ℕ → ℕ → List (List ℕ)
shifts_from n k start zero = []
shifts_from n k start (suc more) = shift_places n k start ∷ shifts_from n k (following_start n k start) more

-- how often a place stands in a list of places
unfoldable pub times_in : ℕ → List ℕ → ℕ
times_in place [] = 0
times_in place (p ∷ ps) = cond (eqb p place) 1 0 + times_in place ps

-- how often a place is inspected in a list of shifts
unfoldable pub times : ℕ → List (List ℕ) → ℕ
times place [] = 0
times place (shift ∷ shifts) = times_in place shift + times place shifts

-- n divided by k, rounded up
abbrev pub rounded_up : ℕ → ℕ → ℕ
rounded_up n k = (n + (k - 1)) / k
