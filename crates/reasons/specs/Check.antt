-- The check of a reason: whether each line parts its edge from the way, and then the balance. All lists hold x, y, x, y .. moved
-- up: st the stationary corners, a the orbiting ones at the start, b at the end, ls the points p, q of each line. Definitions
-- only.
use Rattle.std.specs.Prelude.{ℕ, suc, ◌+◌, ◌*◌, ◌/◌, ◌%◌, Bool, not, cond, List, ltb, eqb, length}
use Rattle.shifted.specs.Shifted.{spot_at}
use Rattle.shifted.specs.declared.Spot.{Spot}
use Rattle.reasons.specs.Reason.{marks_up, marks_down}
use Rattle.reasons.specs.Parting.{parts}
use Rattle.reasons.specs.Lowest.{lowest}
use Rattle.reasons.specs.First.{first_from}

-- what is found: the reason holds; this edge is the first that is not parted; all are, and the way is enclosed
pub data Ground : Type 0 where
  clear : Ground
  edge : ℕ → Ground
  enclosed : Ground

-- as many edges come up through the height h as go down, where their lines rise
unfoldable pub balance : ℕ → (ℕ → Spot) → (ℕ → Spot) → (ℕ → Spot) → ℕ → Bool
balance h p q s m = eqb (marks_up h p q s m) (marks_down h p q s m)

-- the edge j, where it is one of m; else the balance decides
unfoldable pub judged : ℕ → ℕ → Bool → Ground
judged m j even = cond (ltb j m) (edge j) (cond even clear enclosed)

-- of a ring of m corners at s, a way of n corners and a line p, q for each edge
unfoldable pub ground_of : (ℕ → Spot) → ℕ → (ℕ → Spot) → (ℕ → Spot) → ℕ → (ℕ → Spot) → (ℕ → Spot) → Ground
ground_of s m a b n p q =
    judged m (first_from (λ j. not (parts a b n (s j) (s (suc j)) (p j) (q j))) 0 m) (balance (lowest a b n) p q s m)

-- corner j of a closed ring: after the last comes the first
abbrev pub corner : List ℕ → ℕ → Spot
corner st j = spot_at st (j % (length st / 2))

-- the points of the line of edge j
abbrev pub line_from : List ℕ → ℕ → Spot
line_from ls j = spot_at ls (2 * j)

abbrev pub line_to : List ℕ → ℕ → Spot
line_to ls j = spot_at ls (2 * j + 1)

-- the balance of these lines at the height h
abbrev pub balance_at : List ℕ → List ℕ → ℕ → Bool
balance_at st ls h = balance h (line_from ls) (line_to ls) (corner st) (length st / 2)

-- the line of edge j parts it from the way
abbrev pub parts_at : List ℕ → List ℕ → List ℕ → List ℕ → ℕ → Bool
parts_at st a b ls j =
    parts (spot_at a) (spot_at b) (length a / 2) (corner st j) (corner st (suc j)) (line_from ls j) (line_to ls j)

abbrev pub check_of : List ℕ → List ℕ → List ℕ → List ℕ → Ground
check_of st a b ls =
    ground_of (corner st) (length st / 2) (spot_at a) (spot_at b) (length a / 2) (line_from ls) (line_to ls)
