-- The first leg of a closed path on which no reason is found that the way is clear. Definitions only.
use Rattle.std.specs.Prelude.{ℕ, zero, suc, ◌/◌, List, map, length, ℤ}
use Rattle.ring.specs.Ring.{next_of}
use Rattle.shifted.specs.Shifted.{up_of}
use Rattle.reasons.specs.Check.{Ground, clear, edge, enclosed}
use Rattle.reason_search.specs.Search.{search_of}
use Rattle.clear_path.specs.Rows.{placed_at}
use Rattle.clear_path.specs.declared.PathGround.{PathGround}
use Rattle.clear_path.specs.declared.PathGround.TheVariants.{Clear, Edge, Enclosed}

-- the orbiting corners at the point i, moved up
abbrev pub corners_at : List ℤ → List ℤ → ℕ → List ℕ
corners_at orb path i = map up_of (placed_at orb path i)

-- and at the end of the leg from there: at the next point, after the last at the first
abbrev pub corners_next : List ℤ → List ℤ → ℕ → List ℕ
corners_next orb path i = corners_at orb path (next_of i (length path / 2))

-- what the search finds on that leg, of stationary corners that are moved up
unfoldable pub leg_found : List ℕ → List ℤ → List ℤ → ℕ → Ground
leg_found st orb path i = search_of st (corners_at orb path i) (corners_next orb path i)

-- the leg i, by what is found there, and else what follows
unfoldable pub or_else : Ground → ℕ → PathGround → PathGround
or_else clear i rest = rest
or_else (edge j) i rest = Edge i j
or_else enclosed i rest = Enclosed i

-- the first of so many legs, from k on, that is not clear
unfoldable pub first_leg : (ℕ → Ground) → ℕ → ℕ → PathGround
first_leg f k zero = Clear
first_leg f k (suc more) = or_else (f k) k (first_leg f (suc k) more)
