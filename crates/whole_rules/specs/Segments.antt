-- The segment predicates in whole numbers: no margin, no rounding. Definitions only.
use Rattle.std.specs.Prelude.{ℕ, ◌+◌, ◌*◌, min, max, Bool, ◌&&◌, ◌||◌, cond, ltb, leb, ℤ, pos, negsuc}
use Rattle.segments.specs.Segments.{collinear, crosses_of}
use Rattle.shifted.specs.declared.Spot.{Spot}

-- twice the area of a, b and c is what counts for the left less what counts for the right
abbrev pub left_of : Spot → Spot → Spot → ℕ
left_of a b c = b.x * c.y + a.y * c.x + a.x * b.y

abbrev pub right_of : Spot → Spot → Spot → ℕ
right_of a b c = a.x * c.y + b.y * c.x + b.x * a.y

-- the turn: 1 counter-clockwise, -1 clockwise, 0 collinear
unfoldable pub whole_turn : Spot → Spot → Spot → ℤ
whole_turn a b c =
    let l = left_of a b c in
    let r = right_of a b c in
    cond (ltb r l) (pos 1) (cond (ltb l r) (negsuc 0) (pos 0))

-- `orientation`: where no margin is left, the turn
abbrev pub whole_orientation : Spot → Spot → Spot → ℤ
whole_orientation a b c = whole_turn a b c

abbrev pub whole_between : ℕ → ℕ → ℕ → Bool
whole_between a b p = leb (min a b) p && leb p (max a b)

-- `on_segment`: within the box
unfoldable pub whole_on_segment : Spot → Spot → Spot → Bool
whole_on_segment a b p = whole_between a.x b.x p.x && whole_between a.y b.y p.y

unfoldable pub whole_touches : ℤ → Spot → Spot → Spot → Bool
whole_touches d a b p = collinear d && whole_on_segment a b p

-- `segments_intersect`
unfoldable pub whole_intersect : Spot → Spot → Spot → Spot → Bool
whole_intersect p1 p2 p3 p4 =
    let d1 = whole_orientation p3 p4 p1 in
    let d2 = whole_orientation p3 p4 p2 in
    let d3 = whole_orientation p1 p2 p3 in
    let d4 = whole_orientation p1 p2 p4 in
    crosses_of d1 d2 d3 d4
    || (whole_touches d1 p3 p4 p1 || (whole_touches d2 p3 p4 p2 || (whole_touches d3 p1 p2 p3 || whole_touches d4 p1 p2 p4)))
