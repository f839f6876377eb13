-- The segment predicates of `polygon_ops.rs`, in its order of operations. Definitions only.
use Rattle.std.specs.Prelude.{Bool, true, false, ◌&&◌, ◌||◌, cond, ℤ, pos, negsuc, zero, suc, Float}
use Rattle.std.specs.Float.Ieee.{lt, le, neg}
use Rattle.scalar.specs.Float.{◌⊕◌, ◌⊖◌, float}
use Rattle.scalar.specs.Scalar.{smaller_of, larger_of}
use Rattle.plane.specs.Vector.{turn_of}
use Rattle.plane.specs.declared.Point.{Point}

-- ORIENT_EPS, 1e-9
abbrev pub eps : Float
eps = float 0x3e11_2e0b_e826_d695

unfoldable pub sign_of : Float → ℤ
sign_of d = cond (lt eps d) (pos 1) (cond (lt d (neg eps)) (negsuc 0) (pos 0))

-- `orientation`
unfoldable pub orientation_of : Point → Point → Point → ℤ
orientation_of a b c = sign_of (turn_of a b c)

unfoldable pub between_of : Float → Float → Float → Bool
between_of a b p = le (smaller_of a b ⊖ eps) p && le p (larger_of a b ⊕ eps)

-- `on_segment`: within the box
unfoldable pub on_segment_of : Point → Point → Point → Bool
on_segment_of a b p = between_of a.x b.x p.x && between_of a.y b.y p.y

abbrev pub counter_clockwise : ℤ → Bool
counter_clockwise (pos zero) = false
counter_clockwise (pos (suc k)) = true
counter_clockwise (negsuc k) = false

abbrev pub clockwise : ℤ → Bool
clockwise (pos k) = false
clockwise (negsuc k) = true

abbrev pub collinear : ℤ → Bool
collinear (pos zero) = true
collinear (pos (suc k)) = false
collinear (negsuc k) = false

unfoldable pub straddles_of : ℤ → ℤ → Bool
straddles_of d e = counter_clockwise d && clockwise e || clockwise d && counter_clockwise e

-- a proper crossing
unfoldable pub crosses_of : ℤ → ℤ → ℤ → ℤ → Bool
crosses_of d1 d2 d3 d4 = straddles_of d1 d2 && straddles_of d3 d4

unfoldable pub touches_of : ℤ → Point → Point → Point → Bool
touches_of d a b p = collinear d && on_segment_of a b p

-- `segments_intersect`
unfoldable pub intersect_of : Point → Point → Point → Point → Bool
intersect_of p1 p2 p3 p4 =
    let d1 = orientation_of p3 p4 p1 in
    let d2 = orientation_of p3 p4 p2 in
    let d3 = orientation_of p1 p2 p3 in
    let d4 = orientation_of p1 p2 p4 in
    crosses_of d1 d2 d3 d4
    || (touches_of d1 p3 p4 p1 || (touches_of d2 p3 p4 p2 || (touches_of d3 p1 p2 p3 || touches_of d4 p1 p2 p4)))
