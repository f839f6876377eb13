-- The segment predicates of floats on whole coordinates are those of whole numbers. Assumes nothing.
use Prim.Native.Nat.{ℕ, ◌+◌, ◌*◌, ◌≤◌, ◌<◌, min, max}
use native.Mathlib.Omega.{arith}
use native.Mathlib.Nat.{mul-le-mul}
use mathlib.Core.Path.{◌≡◌}
use mathlib.Core.Bool.{cond}
use lib.Dec.{ltb, leb, lit<, lit≤}
use lib.IntN.{ℤ, pos, negsuc}
use lib.Ieee.{Float, of_bits, lt}
use borrow.Author.Tests.{leb-true, leb-false, le-leb, lt-leb}
use Rattle.scalar.specs.Float.{◌⊖◌, ◌⊗◌, f0}
use Rattle.scalar.specs.Scalar.{smaller_of, larger_of}
use Rattle.plane.specs.Vector.{minus_of, cross_of, turn_of}
use Rattle.plane.specs.declared.Point.{Point}
use Rattle.segments.specs.Segments.{eps, sign_of, orientation_of, between_of, on_segment_of, touches_of, intersect_of}
use Rattle.whole_floats.specs.Whole.{Whole}
use Rattle.whole_floats.proofs.Fraction.{agree}
use Rattle.whole_floats.proofs.Exact.{whole_same, difference, product}
use Rattle.whole_floats.proofs.Compare.{above_zero, below_zero}
use Rattle.whole_floats.proofs.Picked.{smaller, larger}
use Rattle.whole_floats.proofs.Margin.{Slight, above_margin, below_margin, less_margin, more_margin}
use Rattle.shifted.specs.declared.Spot.{Spot}
use Rattle.whole_rules.specs.Spots.{Placed}
use Rattle.whole_rules.specs.Segments.{left_of, right_of, whole_turn, whole_orientation, whole_between, whole_on_segment, whole_touches, whole_intersect}

-- ---- the turn

-- a difference of two coordinates
pub apart : (x y : Float) (X Y : ℕ) → Whole x X 1000000 → Whole y Y 1000000 → X ≤ 2000000 → Y ≤ 2000000 → Whole (x ⊖ y) X Y
apart x y X Y h k a b =
    whole_same (x ⊖ y) (X + 1000000) (1000000 + Y) X Y (omega arith) (difference x y X 1000000 Y 1000000 h k (omega arith) (omega arith))

-- a product of two such numbers
pub times : (x y : Float) (p q r s : ℕ) → Whole x p q → Whole y r s → p ≤ 2000000 → q ≤ 2000000 → r ≤ 2000000 → s ≤ 2000000
    → Whole (x ⊗ y) (p * r + q * s) (p * s + q * r)
times x y p q r s h k a b c d =
    let pr = mul-le-mul a c in
    let qs = mul-le-mul b d in
    let ps = mul-le-mul a d in
    let qr = mul-le-mul b c in
    product x y p q r s h k (omega arith) (omega arith)

pub sum_bound : {p q r s : ℕ} → p ≤ 2000000 → r ≤ 2000000 → q ≤ 2000000 → s ≤ 2000000 → p * r + q * s ≤ 8000000000000
sum_bound a b c d = let x = mul-le-mul a b in let y = mul-le-mul c d in omega arith

-- a difference of two such products
pub less : (x y : Float) (p q r s : ℕ) → Whole x p q → Whole y r s
    → p ≤ 8000000000000 → q ≤ 8000000000000 → r ≤ 8000000000000 → s ≤ 8000000000000 → Whole (x ⊖ y) (p + s) (q + r)
less x y p q r s h k a b c d = difference x y p q r s h k (omega arith) (omega arith)

products : (ax ay bx bY cx cy : ℕ)
    → bx * cy + ax * ay + (bY * ax + ay * cx) + (ax * cy + bY * cx + bx * ay)
    ≡ bx * cy + ay * cx + ax * bY + (bx * ay + ax * cy + (bY * cx + ay * ax))
products ax ay bx bY cx cy = omega arith

pub turn : (a b c : Point) (A B C : Spot) → Placed a A → Placed b B → Placed c C → Whole (turn_of a b c) (left_of A B C) (right_of A B C)
unfolding turn_of cross_of minus_of
turn a b c A B C P Q R =
    let bx = apart b.x a.x B.x A.x Q.across P.across Q.width P.width in
    let cy = apart c.y a.y C.y A.y R.upward P.upward R.height P.height in
    let by = apart b.y a.y B.y A.y Q.upward P.upward Q.height P.height in
    let cx = apart c.x a.x C.x A.x R.across P.across R.width P.width in
    let l = times (b.x ⊖ a.x) (c.y ⊖ a.y) B.x A.x C.y A.y bx cy Q.width P.width R.height P.height in
    let r = times (b.y ⊖ a.y) (c.x ⊖ a.x) B.y A.y C.x A.x by cx Q.height P.height R.width P.width in
    whole_same (turn_of a b c) (B.x * C.y + A.x * A.y + (B.y * A.x + A.y * C.x)) (B.x * A.y + A.x * C.y + (B.y * C.x + A.y * A.x))
    (left_of A B C) (right_of A B C) (products A.x A.y B.x B.y C.x C.y)
    (less ((b.x ⊖ a.x) ⊗ (c.y ⊖ a.y)) ((b.y ⊖ a.y) ⊗ (c.x ⊖ a.x)) _ _ _ _ l r
    (sum_bound Q.width R.height P.width P.height) (sum_bound Q.width P.height P.width R.height)
    (sum_bound Q.height R.width P.height P.width) (sum_bound Q.height P.width P.height R.width))

-- which side of 0.0 it is
pub turns_left : (a b c : Point) (A B C : Spot) → Placed a A → Placed b B → Placed c C
    → lt f0 (turn_of a b c) ≡ ltb (right_of A B C) (left_of A B C)
turns_left a b c A B C P Q R = above_zero (turn_of a b c) (left_of A B C) (right_of A B C) (turn a b c A B C P Q R)

pub turns_right : (a b c : Point) (A B C : Spot) → Placed a A → Placed b B → Placed c C
    → lt (turn_of a b c) f0 ≡ ltb (left_of A B C) (right_of A B C)
turns_right a b c A B C P Q R = below_zero (turn_of a b c) (left_of A B C) (right_of A B C) (turn a b c A B C P Q R)

-- ---- orientation

-- the margin of 1e-9
pub eps_slight : Slight eps
unfolding of_bits
eps_slight = (lit< tt, lit≤ tt)

sign : (d : Float) (p q : ℕ) → Whole d p q → sign_of d ≡ cond (ltb q p) (pos 1) (cond (ltb p q) (negsuc 0) (pos 0))
unfolding sign_of
sign d p q h = rw (above_margin eps d p q eps_slight h, below_margin eps d p q eps_slight h)

pub orientation : (a b c : Point) (A B C : Spot) → Placed a A → Placed b B → Placed c C → orientation_of a b c ≡ whole_orientation A B C
unfolding orientation_of whole_turn
orientation a b c A B C P Q R = sign (turn_of a b c) (left_of A B C) (right_of A B C) (turn a b c A B C P Q R)

-- ---- the box

shifted : (a b : ℕ) → leb a b ≡ leb (a + 1000000) (b + 1000000)
shifted a b =
    agree (leb a b) (leb (a + 1000000) (b + 1000000))
    (λ h. le-leb (a + 1000000) (b + 1000000) (let l = leb-true a b h in omega arith))
    (λ h. lt-leb (a + 1000000) (b + 1000000) (let l = leb-false a b h in omega arith))

between : (x y z : Float) (X Y Z : ℕ) → Whole x X 1000000 → Whole y Y 1000000 → Whole z Z 1000000 → X ≤ 2000000 → Y ≤ 2000000
    → between_of x y z ≡ whole_between X Y Z
unfolding between_of
between x y z X Y Z h k g a b =
    let l = less_margin eps (smaller_of x y) z (min X Y) 1000000 Z 1000000 eps_slight (smaller x y X 1000000 Y h k) g (omega arith) (omega arith) in
    let m = more_margin eps (larger_of x y) z (max X Y) 1000000 Z 1000000 eps_slight (larger x y X 1000000 Y h k) g (omega arith) (omega arith) in
    rw (l, m, ← shifted (min X Y) Z, ← shifted Z (max X Y))

pub on_segment : (a b p : Point) (A B C : Spot) → Placed a A → Placed b B → Placed p C → on_segment_of a b p ≡ whole_on_segment A B C
unfolding on_segment_of whole_on_segment
on_segment a b p A B C P Q R =
    let x = between a.x b.x p.x A.x B.x C.x P.across Q.across R.across P.width Q.width in
    let y = between a.y b.y p.y A.y B.y C.y P.upward Q.upward R.upward P.height Q.height in
    rw (x, y)

-- ---- two segments

touches : (d e : ℤ) (a b p : Point) (A B C : Spot) → d ≡ e → Placed a A → Placed b B → Placed p C
    → touches_of d a b p ≡ whole_touches e A B C
unfolding touches_of whole_touches
touches d e a b p A B C h P Q R = rw (h, on_segment a b p A B C P Q R)

pub intersect : (a b c d : Point) (A B C D : Spot) → Placed a A → Placed b B → Placed c C → Placed d D
    → intersect_of a b c d ≡ whole_intersect A B C D
unfolding intersect_of whole_intersect
intersect a b c d A B C D P Q R S =
    let d1 = orientation c d a C D A R S P in
    let d2 = orientation c d b C D B R S Q in
    let d3 = orientation a b c A B C P Q R in
    let d4 = orientation a b d A B D P Q S in
    let t1 = touches (orientation_of c d a) (whole_orientation C D A) c d a C D A d1 R S P in
    let t2 = touches (orientation_of c d b) (whole_orientation C D B) c d b C D B d2 R S Q in
    let t3 = touches (orientation_of a b c) (whole_orientation A B C) a b c A B C d3 P Q R in
    let t4 = touches (orientation_of a b d) (whole_orientation A B D) a b d A B D d4 P Q S in
    rw (t1, t2, t3, t4, d1, d2, d3, d4)
