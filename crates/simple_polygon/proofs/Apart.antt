-- Two segments of which one lies aside of the other's line, whose own ends are both off the one's line, do not meet. Assumes nothing.
use mathlib.Core.Path.{◌≡◌, refl, sym, ap}
use mathlib.Core.Bool.{Bool, true, false, not, ◌&&◌, ◌||◌, cond, and-false, true≢false}
use lib.IntN.{ℤ, pos, negsuc}
use lib.Ieee.{Float, lt, neg}
use Rattle.plane.specs.Vector.{turn_of}
use Rattle.plane.specs.declared.Point.{Point}
use Rattle.segments.specs.Segments.{eps, sign_of, orientation_of, collinear, straddles_of, crosses_of, touches_of, intersect_of}
use Rattle.simple_polygon.specs.Sides.{aside, same_side}

-- the sign by the two tests
abbrev by : Bool → Bool → ℤ
by p q = cond p (pos 1) (cond q (negsuc 0) (pos 0))

aside_by : (p q : Bool) → (p || q) ≡ true → collinear (by p q) ≡ false
aside_by true q h = refl
aside_by false true h = refl
aside_by false false h = cc

no_touch : (d : Float) → aside d ≡ true → collinear (sign_of d) ≡ false
unfolding sign_of
no_touch d h = aside_by (lt eps d) (lt d (neg eps)) h

same_by : (p q r s : Bool) → cond p r (q && (not r && s)) ≡ true
    → (straddles_of (by p q) (by r s) ≡ false) × ((p || q) ≡ true) × ((r || s) ≡ true)
unfolding straddles_of
same_by true q true s h = (refl, refl, refl)
same_by true q false s h = absurd (true≢false (sym h))
same_by false false r s h = absurd (true≢false (sym h))
same_by false true true s h = absurd (true≢false (sym h))
same_by false true false false h = absurd (true≢false (sym h))
same_by false true false true h = (refl, refl, refl)

no_straddle : (d e : Float) → same_side d e ≡ true
    → (straddles_of (sign_of d) (sign_of e) ≡ false) × (aside d ≡ true) × (aside e ≡ true)
unfolding sign_of
no_straddle d e h = same_by (lt eps d) (lt d (neg eps)) (lt eps e) (lt e (neg eps)) h

pub apart : (p1 p2 p3 p4 : Point) → same_side (turn_of p1 p2 p3) (turn_of p1 p2 p4) ≡ true → aside (turn_of p3 p4 p1) ≡ true
    → aside (turn_of p3 p4 p2) ≡ true → intersect_of p1 p2 p3 p4 ≡ false
unfolding intersect_of crosses_of touches_of orientation_of
apart p1 p2 p3 p4 h k l =
    let n = no_straddle _ _ h in
    rw (n.0, no_touch _ k, no_touch _ l, no_touch _ n.1, no_touch _ n.2, and-false _)

-- by the turns at hand
pub clear_of : (p1 p2 p3 p4 : Point) {d e : Float} → d ≡ turn_of p1 p2 p3 → e ≡ turn_of p1 p2 p4 → same_side d e ≡ true
    → aside (turn_of p3 p4 p1) ≡ true → aside (turn_of p3 p4 p2) ≡ true → true ≡ not (intersect_of p1 p2 p3 p4)
clear_of p1 p2 p3 p4 h k s l m = ap not (sym (apart p1 p2 p3 p4 (rw (h, k) at s) l m))
