-- Two segments by four turns at hand, or by two of them. Assumes nothing.
use mathlib.Core.Path.{◌≡◌}
use mathlib.Core.Bool.{true, false, ◌||◌}
use lib.IntN.{ℤ}
use Rattle.segments.specs.Segments.{crosses_of}
use Rattle.shifted.specs.declared.Spot.{Spot}
use Rattle.whole_rules.specs.Segments.{whole_turn, whole_touches, whole_intersect}
use Rattle.whole_rules.proofs.Apart.{apart}
use Rattle.whole_engine.specs.Sides.{same_side}

pub by_turns : (p1 p2 p3 p4 : Spot) (d1 d2 d3 d4 : ℤ)
    → d1 ≡ whole_turn p3 p4 p1 → d2 ≡ whole_turn p3 p4 p2 → d3 ≡ whole_turn p1 p2 p3 → d4 ≡ whole_turn p1 p2 p4
    → whole_intersect p1 p2 p3 p4
    ≡ crosses_of d1 d2 d3 d4 || (whole_touches d1 p3 p4 p1 || (whole_touches d2 p3 p4 p2 || (whole_touches d3 p1 p2 p3 || whole_touches d4 p1 p2 p4)))
unfolding whole_intersect
by_turns p1 p2 p3 p4 d1 d2 d3 d4 e1 e2 e3 e4 = rw (e1, e2, e3, e4)

-- one segment lies on one side of the other
pub by_side : (p1 p2 p3 p4 : Spot) (d3 d4 : ℤ) → d3 ≡ whole_turn p1 p2 p3 → d4 ≡ whole_turn p1 p2 p4 → same_side d3 d4 ≡ true
    → whole_intersect p1 p2 p3 p4 ≡ false
unfolding same_side
by_side p1 p2 p3 p4 d3 d4 e f h = apart p1 p2 p3 p4 (rw (e, f) at h)
