-- Worked examples, by computation: a corner of the bounds, turns by one unit, segments that touch or lie apart on a line,
-- a square and a figure eight, and twice an area with its sign.
use Prim.Native.Nat.{ℕ}
use mathlib.Core.Path.{◌≡◌, refl}
use mathlib.Core.Bool.{true, false}
use mathlib.Core.List.{List, [], ◌∷◌}
use lib.Dec.{lit≤}
use lib.ListN.{get_or}
use lib.IntN.{pos, negsuc}
use lib.Ieee.{of_bits}
use Rattle.scalar.specs.Float.{float}
use Rattle.plane.specs.Vector.{point}
use Rattle.ring.specs.Each.{each}
use Rattle.segments.specs.Segments.{straddles_of, crosses_of}
use Rattle.simple_polygon.specs.Simple.{adjacent_of}
use Rattle.shifted.specs.declared.Spot.{Spot}
use Rattle.whole_rules.specs.Spots.{Placed}
use Rattle.whole_rules.specs.Segments.{whole_turn, whole_orientation, whole_on_segment, whole_touches, whole_intersect}
use Rattle.whole_rules.specs.Simple.{whole_clear_pair, whole_clear_row, whole_simple}
use Rattle.whole_rules.specs.Area.{left_to, right_to, WholeArea2}

abbrev spot : ℕ → ℕ → Spot
spot a b = record { x = a; y = b }

-- (-0.0, -1000000.0)
corner : Placed (point (float 0x8000_0000_0000_0000) (float 0xc12e_8480_0000_0000)) (spot 1000000 0)
unfolding of_bits
corner = record { across = refl; upward = refl; width = lit≤ tt; height = lit≤ tt }

-- from corner to corner, and one unit aside
on_the_line : whole_orientation (spot 0 0) (spot 2000000 2000000) (spot 1000000 1000000) ≡ pos 0
unfolding whole_turn
on_the_line = refl

one_left : whole_orientation (spot 0 0) (spot 2000000 2000000) (spot 1000000 1000001) ≡ pos 1
unfolding whole_turn
one_left = refl

one_right : whole_orientation (spot 0 0) (spot 2000000 2000000) (spot 1000001 1000000) ≡ negsuc 0
unfolding whole_turn
one_right = refl

touching : whole_intersect (spot 0 0) (spot 4 0) (spot 4 0) (spot 6 2) ≡ true
unfolding whole_intersect whole_touches whole_on_segment whole_turn crosses_of straddles_of
touching = refl

-- on one line, one unit apart
line_apart : whole_intersect (spot 0 0) (spot 4 0) (spot 5 0) (spot 8 0) ≡ false
unfolding whole_intersect whole_touches whole_on_segment whole_turn crosses_of straddles_of
line_apart = refl

-- ---- rings

abbrev along : List Spot → ℕ → Spot
along vs i = get_or vs i (spot 0 0)

abbrev square : List Spot
square = spot 0 0 ∷ spot 4 0 ∷ spot 4 4 ∷ spot 0 4 ∷ []

abbrev eight : List Spot
eight = spot 0 0 ∷ spot 4 4 ∷ spot 4 0 ∷ spot 0 4 ∷ []

is_simple : whole_simple (along square) 4 ≡ true
unfolding whole_simple whole_clear_row whole_clear_pair whole_intersect whole_touches whole_on_segment whole_turn crosses_of straddles_of adjacent_of each
is_simple = refl

is_not : whole_simple (along eight) 4 ≡ false
unfolding whole_simple whole_clear_row whole_clear_pair whole_intersect whole_touches whole_on_segment whole_turn crosses_of straddles_of adjacent_of each
is_not = refl

twice : WholeArea2 (along square) 4 (pos 32)
unfolding left_to right_to
twice = refl

clockwise : WholeArea2 (along (spot 0 0 ∷ spot 0 3 ∷ spot 4 0 ∷ [])) 3 (negsuc 11)
unfolding left_to right_to
clockwise = refl
