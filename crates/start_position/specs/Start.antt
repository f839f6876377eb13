-- The lowest and the highest vertex of a ring, and where the slide starts, as `nfp_sliding.rs` compares. Definitions only.
use Rattle.std.specs.Prelude.{Bool, true, false, not, ◌&&◌, ◌||◌, List, Float}
use Rattle.std.specs.Float.Ieee.{lt}
use Rattle.plane.specs.Vector.{minus_of}
use Rattle.plane.specs.declared.Point.{Point}
use Rattle.ring.specs.Ring.{count, point_at}
use Rattle.laws.specs.FirstBest.{better, over}

-- ahead by one coordinate, and where neither is, further left
abbrev pub lex_of : Bool → Bool → Float → Float → Bool
lex_of ahead behind x y = ahead || not behind && lt x y

-- lower, or as low and further left: `min_by` replaces then, and keeps the first of equal ones
unfoldable pub lower_of : Point → Point → Bool
lower_of a b = lex_of (lt a.y b.y) (lt b.y a.y) a.x b.x

-- higher, or as high and further left: `max_by` keeps then, and takes the last of equal ones
unfoldable pub upper_of : Point → Point → Bool
upper_of a b = lex_of (lt b.y a.y) (lt a.y b.y) a.x b.x

abbrev pub higher_of : Point → Point → Bool
higher_of new best = not (upper_of best new)

-- which of two comes first, where the top is looked for and where the bottom is
abbrev pub order_of : Bool → Point → Point → Bool
order_of true new best = higher_of new best
order_of false new best = lower_of new best

abbrev pub kept_vertex : Bool → Point → Point → Point
kept_vertex top best new = better (order_of top) best new

-- the vertices in turn, from the first
unfoldable pub extreme_vertex : Bool → List Float → Point
extreme_vertex top r = over (order_of top) (point_at r) (point_at r 0) (count r)

-- stationary's lowest vertex less orbiting's highest
unfoldable pub start_of : List Float → List Float → Point
start_of st orb = minus_of (extreme_vertex false st) (extreme_vertex true orb)
