-- What an answer tells of the floats that were drawn: the stationary corners xs; the disc's ys, moved to (fx, fy) and going
-- straight on to (tx, ty); n units in 1. Definitions only.
use Rattle.std.specs.Prelude.{ℕ, ◌*◌, ◌≤◌, ◌≡◌, true, List, map, length, Float}
use Rattle.shifted.specs.Shifted.{up_of, spot_of}
use Rattle.shifted.specs.declared.Spot.{Spot}
use Rattle.whole_engine.specs.Rows.{all_in_bounds}
use Rattle.reasons.specs.Check.{Ground, clear, enclosed}
use Rattle.to_grid.specs.Grid.{nearest}
use Rattle.drawn.specs.Told.{ApartBy, WithinBy}
use Rattle.drawn_floats.specs.Picture.{Picture, placed}
use Rattle.drawn_aside.specs.Found.{depth_of, found_by, checked_by}

-- ---- on the grid, moved up

abbrev pub ring_up : ℕ → List Float → List ℕ
ring_up n xs = map up_of (map (nearest n) xs)

-- the disc at a position, and the position
abbrev pub disc_up : ℕ → List Float → Float → Float → List ℕ
disc_up n ys px py = map up_of (placed n ys px py)

abbrev pub spot_up : ℕ → Float → Float → Spot
spot_up n px py = spot_of (nearest n px) (nearest n py)

-- ---- of the drawing

-- whatever picture of these floats, exactly, and of the exact sums of corner and position: at no rational time does a point of a
-- drawn edge lie deeper than so many units inside the drawn moved polygon, and all that lies so deep is outside the drawn ring
abbrev pub DrawnApart : ℕ → List Float → List Float → Float → Float → Float → Float → ℕ → Type 0
DrawnApart n xs ys fx fy tx ty depth =
    (E : ℕ) (ring c d : List ℕ) → Picture E n xs ys fx fy tx ty ring c d → ApartBy (depth * (2 * E)) ring c d

-- the same of edges, and nothing that lies so deep is outside
abbrev pub DrawnWithin : ℕ → List Float → List Float → Float → Float → Float → Float → ℕ → Type 0
DrawnWithin n xs ys fx fy tx ty depth =
    (E : ℕ) (ring c d : List ℕ) → Picture E n xs ys fx fy tx ty ring c d → WithinBy (depth * (2 * E)) ring c d

-- all of it is on the grid, and the disc has a corner and no half of one
pub record OnTheGrid (n : ℕ) (xs ys : List Float) (fx fy tx ty : Float) : Type 0 where
  pub some : 2 ≤ length ys
  pub pairs : (k : ℕ) × (length ys ≡ 2 * k)
  pub ring_within : all_in_bounds (map (nearest n) xs) ≡ true
  pub starts_within : all_in_bounds (placed n ys fx fy) ≡ true
  pub ends_within : all_in_bounds (placed n ys tx ty) ≡ true

-- ---- the theorems (proofs/Told.antt)

module _ (n : ℕ) (xs ys : List Float) (fx fy tx ty : Float) (how : ℕ) where
  -- what the search finds, and what the check finds of lines ls
  abbrev pub found_on : Ground
  found_on = found_by (ring_up n xs) (disc_up n ys fx fy) (disc_up n ys tx ty) (spot_up n fx fy) (spot_up n tx ty) how

  abbrev pub checked_on : List ℕ → Ground
  checked_on ls = checked_by (ring_up n xs) (disc_up n ys fx fy) (disc_up n ys tx ty) (spot_up n fx fy) (spot_up n tx ty) how ls

-- where the check finds lines that are lent a reason, the drawing is apart but for the depth; where it finds the way enclosed, it
-- is within but for the depth; and the same of what the search finds
abbrev pub CheckedTold : Type 0
CheckedTold =
    (n : ℕ) (xs ys : List Float) (fx fy tx ty : Float) (how : ℕ) (ls : List ℕ) → OnTheGrid n xs ys fx fy tx ty
    → (checked_on n xs ys fx fy tx ty how ls ≡ clear → DrawnApart n xs ys fx fy tx ty (depth_of how))
    × (checked_on n xs ys fx fy tx ty how ls ≡ enclosed → DrawnWithin n xs ys fx fy tx ty (depth_of how))

abbrev pub FoundTold : Type 0
FoundTold =
    (n : ℕ) (xs ys : List Float) (fx fy tx ty : Float) (how : ℕ) → OnTheGrid n xs ys fx fy tx ty
    → (found_on n xs ys fx fy tx ty how ≡ clear → DrawnApart n xs ys fx fy tx ty (depth_of how))
    × (found_on n xs ys fx fy tx ty how ≡ enclosed → DrawnWithin n xs ys fx fy tx ty (depth_of how))
