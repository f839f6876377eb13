-- What the search and the check find of a disc that is put aside by `how`, in one of the ways of put_aside. All lists hold x, y,
-- x, y .. moved up: st the stationary corners, a the disc's at the start, b at the end; the move is from `from` to `to`.
-- Definitions only.
use Rattle.std.specs.Prelude.{ℕ, zero, suc, ◌+◌, ◌*◌, Bool, cond, ◌&&◌, List}
use Rattle.shifted.specs.declared.Spot.{Spot}
use Rattle.reasons.specs.Check.{Ground, clear, edge, enclosed, check_of}
use Rattle.reason_search.specs.Search.{search_of}
use Rattle.put_aside.specs.Aside.{width_of, aside, stays_on}

-- how deep at most something then reaches, in units: 3, 5 or 7
abbrev pub depth_of : ℕ → ℕ
depth_of how = 3 + 2 * width_of how

-- no corner leaves the grid, at the start nor at the end
abbrev pub stays_both : List ℕ → List ℕ → Spot → Spot → ℕ → Bool
stays_both a b from to how = stays_on a from to how && stays_on b from to how

-- what the search finds; where a corner leaves the grid, it finds nothing: edge 0
unfoldable pub found_by : List ℕ → List ℕ → List ℕ → Spot → Spot → ℕ → Ground
found_by st a b from to how =
    cond (stays_both a b from to how) (search_of st (aside a from to how) (aside b from to how)) (edge 0)

-- what the check finds of lines that are lent; where a corner leaves the grid, edge 0
unfoldable pub checked_by : List ℕ → List ℕ → List ℕ → Spot → Spot → ℕ → List ℕ → Ground
checked_by st a b from to how ls =
    cond (stays_both a b from to how) (check_of st (aside a from to how) (aside b from to how) ls) (edge 0)

-- ---- the least how that parts every edge

-- what is found: clear with this how; this is the first edge that is not parted; enclosed with this how
pub data Least : Type 0 where
  clear_by : ℕ → Least
  edge_first : ℕ → Least
  enclosed_by : ℕ → Least

-- by this how, where the search parts every edge, and else what follows
unfoldable pub or_else : Ground → ℕ → Least → Least
or_else clear how rest = clear_by how
or_else (edge j) how rest = rest
or_else enclosed how rest = enclosed_by how

-- the first of so many hows, from k on; the last word is for none
unfoldable pub least_from : (ℕ → Ground) → ℕ → ℕ → Least → Least
least_from f k zero last = last
least_from f k (suc more) last = or_else (f k) k (least_from f (suc k) more last)

-- the first edge that is not parted
abbrev pub unparted : Ground → ℕ
unparted clear = 0
unparted (edge j) = j
unparted enclosed = 0

-- of 0 to 20; where none parts every edge, the first edge that is not parted with 0
abbrev pub least_of : (ℕ → Ground) → Least
least_of f = least_from f 0 21 (edge_first (unparted (f 0)))

unfoldable pub least_how : List ℕ → List ℕ → List ℕ → Spot → Spot → Least
least_how st a b from to = least_of (found_by st a b from to)
