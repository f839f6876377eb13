-- Two points that lie on one side of a line have no end of a segment on that line between them: where c and d turn the
-- same way from a b, the segments a b and c d do not meet. Assumes nothing.
use Prim.Native.Nat.{ℕ, zero, suc, ◌+◌, ◌-◌, ◌*◌, ◌≤◌, ◌<◌, min, max}
use native.Mathlib.Omega.{arith}
use native.Mathlib.Nat.{mul-le-mul, le_refl}
use mathlib.Core.Path.{◌≡◌, refl, sym, ap}
use mathlib.Core.Bool.{Bool, true, false, cond, ◌&&◌, ◌||◌, false≢true}
use lib.Dec.{ltb, leb}
use lib.IntN.{pos, negsuc}
use borrow.Author.Tests.{leb-true, leb-false, ltb-true, ltb-false}
use Rattle.laws.proofs.Both.{both}
use Rattle.segments.specs.Segments.{counter_clockwise, clockwise, collinear, crosses_of, straddles_of}
use Rattle.shifted.specs.declared.Spot.{Spot}
use Rattle.whole_rules.specs.Segments.{left_of, right_of, whole_turn, whole_between, whole_on_segment, whole_touches, whole_intersect}

cancel : (k x y : ℕ) → k * x < k * y → x < y
cancel k x y h = go (ltb x y) refl
  where
    go : (t : Bool) → ltb x y ≡ t → x < y
    go true e = ltb-true x y e
    go false e = let m = mul-le-mul (le_refl k) (ltb-false x y e) in absurd (omega arith)

-- ---- a lies between c and d, which rise: a is (x + p, y + r) for c at (x, y), and d is farther by q and s

rise_none : (x y u v p q r s : ℕ) → p * s ≡ r * q → p * y + r * u < r * x + p * v
    → s * (x + p) + q * v < s * u + q * (y + r) → p + q ≤ 0
rise_none x y u v p q r s e h k =
    let m = mul-le-mul (le_refl q) h in
    let n = mul-le-mul (le_refl p) k in
    let a : p * s * x ≡ r * q * x = ap (λ (z : ℕ). z * x) e in
    let b : p * s * p ≡ r * q * p = ap (λ (z : ℕ). z * p) e in
    let c : p * s * u ≡ r * q * u = ap (λ (z : ℕ). z * u) e in
    omega arith

rise : (x y u v p q r s : ℕ) → p * s ≡ r * q → p * y + r * u < r * x + p * v
    → s * (x + p) + q * v < s * u + q * (y + r) → ⊥
rise x y u v zero zero r s e h k =
    let a = cancel r u x (omega arith) in
    let b = cancel s x u (omega arith) in
    omega arith
rise x y u v zero (suc q) r s e h k = let n = rise_none x y u v zero (suc q) r s e h k in omega arith
rise x y u v (suc p) q r s e h k = let n = rise_none x y u v (suc p) q r s e h k in omega arith

-- ---- or they fall: c is (x, y + r) and d is (x + p + q, ..), a being at (x + p, y), and d lower by s

fall_none : (x y u v p q r s : ℕ) → p * s ≡ r * q → r * x + p * y < r * u + p * v → s * u + q * v < s * x + q * y → p + q ≤ 0
fall_none x y u v p q r s e h k =
    let m = mul-le-mul (le_refl q) h in
    let n = mul-le-mul (le_refl p) k in
    let a : p * s * x ≡ r * q * x = ap (λ (z : ℕ). z * x) e in
    let b : p * s * u ≡ r * q * u = ap (λ (z : ℕ). z * u) e in
    omega arith

fall : (x y u v p q r s : ℕ) → p * s ≡ r * q → r * x + p * y < r * u + p * v → s * u + q * v < s * x + q * y → ⊥
fall x y u v zero zero r s e h k =
    let a = cancel r x u (omega arith) in
    let b = cancel s u x (omega arith) in
    omega arith
fall x y u v zero (suc q) r s e h k = let n = fall_none x y u v zero (suc q) r s e h k in omega arith
fall x y u v (suc p) q r s e h k = let n = fall_none x y u v (suc p) q r s e h k in omega arith

-- ---- the same of coordinates: a = (ax, ay), b = (u, v), c = (cx, cy), d = (dx, dy)

rising : (ax ay u v cx cy dx dy : ℕ) → cx ≤ ax → ax ≤ dx → cy ≤ ay → ay ≤ dy
    → ax * cy + v * cx + u * ay < u * cy + ay * cx + ax * v → ax * dy + v * dx + u * ay < u * dy + ay * dx + ax * v
    → dx * ay + cy * ax + cx * dy ≡ cx * ay + dy * ax + dx * cy → ⊥
rising ax ay u v cx cy dx dy i j m n h k e = go (ax - cx) (dx - ax) (ay - cy) (dy - ay) (omega arith) (omega arith) (omega arith) (omega arith)
  where
    go : (p q r s : ℕ) → ax ≡ cx + p → dx ≡ cx + p + q → ay ≡ cy + r → dy ≡ cy + r + s → ⊥
    go p q r s a b c d =
        let h' = rw (a, c) at h in
        let k' = rw (a, b, c, d) at k in
        let e' = rw (a, b, c, d) at e in
        rise cx cy u v p q r s (omega (arith, e')) (omega (arith, h')) (omega (arith, k'))

falling : (ax ay u v cx cy dx dy : ℕ) → cx ≤ ax → ax ≤ dx → dy ≤ ay → ay ≤ cy
    → ax * cy + v * cx + u * ay < u * cy + ay * cx + ax * v → ax * dy + v * dx + u * ay < u * dy + ay * dx + ax * v
    → dx * ay + cy * ax + cx * dy ≡ cx * ay + dy * ax + dx * cy → ⊥
falling ax ay u v cx cy dx dy i j m n h k e = go (ax - cx) (dx - ax) (cy - ay) (ay - dy) (omega arith) (omega arith) (omega arith) (omega arith)
  where
    go : (p q r s : ℕ) → ax ≡ cx + p → dx ≡ cx + p + q → cy ≡ dy + s + r → ay ≡ dy + s → ⊥
    go p q r s a b c d =
        let h' = rw (a, c, d) at h in
        let k' = rw (a, b, d) at k in
        let e' = rw (a, b, c, d) at e in
        fall (cx + p) (dy + s) u v p q r s (omega (arith, e')) (omega (arith, h')) (omega (arith, k'))

-- ---- a lies in the box of c d, and in line with it

inside : (a b c d : Spot) → min c.x d.x ≤ a.x → a.x ≤ max c.x d.x → min c.y d.y ≤ a.y → a.y ≤ max c.y d.y
    → right_of a b c < left_of a b c → right_of a b d < left_of a b d → left_of c d a ≡ right_of c d a → ⊥
inside a b c d i j m n h k e = go (leb c.x d.x) (leb c.y d.y) refl refl
  where
    go : (s t : Bool) → leb c.x d.x ≡ s → leb c.y d.y ≡ t → ⊥
    go true true f g =
        let x = leb-true c.x d.x f in
        let y = leb-true c.y d.y g in
        rising a.x a.y b.x b.y c.x c.y d.x d.y (omega arith) (omega arith) (omega arith) (omega arith) h k e
    go false false f g =
        let x = leb-false c.x d.x f in
        let y = leb-false c.y d.y g in
        rising a.x a.y b.x b.y d.x d.y c.x c.y (omega arith) (omega arith) (omega arith) (omega arith) k h (sym e)
    go true false f g =
        let x = leb-true c.x d.x f in
        let y = leb-false c.y d.y g in
        falling a.x a.y b.x b.y c.x c.y d.x d.y (omega arith) (omega arith) (omega arith) (omega arith) h k e
    go false true f g =
        let x = leb-false c.x d.x f in
        let y = leb-true c.y d.y g in
        falling a.x a.y b.x b.y d.x d.y c.x c.y (omega arith) (omega arith) (omega arith) (omega arith) k h (sym e)

-- the plane with its axes exchanged, in which left is right
abbrev flip : Spot → Spot
flip a = record { x = a.y; y = a.x }

-- ---- turns as comparisons

is_left : (l r : ℕ) → cond (ltb r l) (pos 1) (cond (ltb l r) (negsuc 0) (pos 0)) ≡ pos 1 → r < l
is_left l r = go (ltb r l) (ltb l r) refl
  where
    go : (s t : Bool) → ltb r l ≡ s → cond s (pos 1) (cond t (negsuc 0) (pos 0)) ≡ pos 1 → r < l
    go true t e h = ltb-true r l e
    go false true e h = absurd (let z : ◌≡◌ {A = ℕ} 0 1 = cc in omega arith)
    go false false e h = absurd (let z : ◌≡◌ {A = ℕ} 0 1 = cc in omega arith)

is_right : (l r : ℕ) → cond (ltb r l) (pos 1) (cond (ltb l r) (negsuc 0) (pos 0)) ≡ negsuc 0 → l < r
is_right l r = go (ltb r l) (ltb l r) refl
  where
    go : (s t : Bool) → ltb l r ≡ t → cond s (pos 1) (cond t (negsuc 0) (pos 0)) ≡ negsuc 0 → l < r
    go s true e h = ltb-true l r e
    go true false e h = absurd (let z : ◌≡◌ {A = ℕ} 0 1 = cc in omega arith)
    go false false e h = absurd (let z : ◌≡◌ {A = ℕ} 0 1 = cc in omega arith)

is_level : (l r : ℕ) → collinear (cond (ltb r l) (pos 1) (cond (ltb l r) (negsuc 0) (pos 0))) ≡ true → l ≡ r
is_level l r = go (ltb r l) (ltb l r) refl refl
  where
    go : (s t : Bool) → ltb r l ≡ s → ltb l r ≡ t → collinear (cond s (pos 1) (cond t (negsuc 0) (pos 0))) ≡ true → l ≡ r
    go true t e f h = absurd (false≢true h)
    go false true e f h = absurd (false≢true h)
    go false false e f h = let x = ltb-false r l e in let y = ltb-false l r f in omega arith

left_turn : (a b c : Spot) → whole_turn a b c ≡ pos 1 → right_of a b c < left_of a b c
unfolding whole_turn
left_turn a b c h = is_left (left_of a b c) (right_of a b c) h

right_turn : (a b c : Spot) → whole_turn a b c ≡ negsuc 0 → left_of a b c < right_of a b c
unfolding whole_turn
right_turn a b c h = is_right (left_of a b c) (right_of a b c) h

-- ---- an end of a b does not touch c d

span : (a b p : ℕ) → whole_between a b p ≡ true → (min a b ≤ p) × (p ≤ max a b)
span a b p h = let t = both (leb (min a b) p) (leb p (max a b)) h in (leb-true (min a b) p t.0, leb-true p (max a b) t.1)

-- a does not touch c d if it cannot lie in line with it and in its box
off : (a c d : Spot)
    → (min c.x d.x ≤ a.x → a.x ≤ max c.x d.x → min c.y d.y ≤ a.y → a.y ≤ max c.y d.y → left_of c d a ≡ right_of c d a → ⊥)
    → whole_touches (whole_turn c d a) c d a ≡ false
unfolding whole_touches whole_turn whole_on_segment
off a c d never = go (whole_touches (whole_turn c d a) c d a) refl
  where
    go : (t : Bool) → whole_touches (whole_turn c d a) c d a ≡ t → t ≡ false
    go false e = refl
    go true e =
        let t = both (collinear (whole_turn c d a)) (whole_on_segment c d a) e in
        let x = both (whole_between c.x d.x a.x) (whole_between c.y d.y a.y) t.1 in
        let i = span c.x d.x a.x x.0 in
        let j = span c.y d.y a.y x.1 in
        absurd (never i.0 i.1 j.0 j.1 (is_level (left_of c d a) (right_of c d a) t.0))

-- both c and d lie to the left of a b, or both to the right
left_off : (a b c d : Spot) → right_of a b c < left_of a b c → right_of a b d < left_of a b d → whole_touches (whole_turn c d a) c d a ≡ false
left_off a b c d h k = off a c d (λ i j m n e. inside a b c d i j m n h k e)

right_off : (a b c d : Spot) → left_of a b c < right_of a b c → left_of a b d < right_of a b d → whole_touches (whole_turn c d a) c d a ≡ false
right_off a b c d h k =
    off a c d (λ i j m n e. inside (flip a) (flip b) (flip c) (flip d) m n i j (omega arith) (omega arith) (omega arith))

-- ---- two segments

none : (s t u : Bool) → t ≡ false → u ≡ false → s && false || (t || (u || (false || false))) ≡ false
none true t u h k = rw (h, k)
none false t u h k = rw (h, k)

apart_left : (a b c d : Spot) → whole_turn a b c ≡ pos 1 → whole_turn a b d ≡ pos 1 → whole_intersect a b c d ≡ false
unfolding whole_intersect crosses_of straddles_of whole_touches
apart_left a b c d h k =
    let x = left_turn a b c h in
    let y = left_turn a b d k in
    let t = left_off a b c d x y in
    let u = right_off b a c d x y in
    rw (h, k) (none (straddles_of (whole_turn c d a) (whole_turn c d b)) (whole_touches (whole_turn c d a) c d a) (whole_touches (whole_turn c d b) c d b) t u)

apart_right : (a b c d : Spot) → whole_turn a b c ≡ negsuc 0 → whole_turn a b d ≡ negsuc 0 → whole_intersect a b c d ≡ false
unfolding whole_intersect crosses_of straddles_of whole_touches
apart_right a b c d h k =
    let x = right_turn a b c h in
    let y = right_turn a b d k in
    let t = right_off a b c d x y in
    let u = left_off b a c d x y in
    rw (h, k) (none (straddles_of (whole_turn c d a) (whole_turn c d b)) (whole_touches (whole_turn c d a) c d a) (whole_touches (whole_turn c d b) c d b) t u)

-- ---- told by the signs of the turns

is_one : (a b c : Spot) → counter_clockwise (whole_turn a b c) ≡ true → whole_turn a b c ≡ pos 1
unfolding whole_turn
is_one a b c = go (ltb (right_of a b c) (left_of a b c)) (ltb (left_of a b c) (right_of a b c))
  where
    go : (s t : Bool) → counter_clockwise (cond s (pos 1) (cond t (negsuc 0) (pos 0))) ≡ true → cond s (pos 1) (cond t (negsuc 0) (pos 0)) ≡ pos 1
    go true t h = refl
    go false true h = absurd (false≢true h)
    go false false h = absurd (false≢true h)

is_minus : (a b c : Spot) → clockwise (whole_turn a b c) ≡ true → whole_turn a b c ≡ negsuc 0
unfolding whole_turn
is_minus a b c = go (ltb (right_of a b c) (left_of a b c)) (ltb (left_of a b c) (right_of a b c))
  where
    go : (s t : Bool) → clockwise (cond s (pos 1) (cond t (negsuc 0) (pos 0))) ≡ true → cond s (pos 1) (cond t (negsuc 0) (pos 0)) ≡ negsuc 0
    go true t h = absurd (false≢true h)
    go false true h = refl
    go false false h = absurd (false≢true h)

pub apart : (a b c d : Spot)
    → counter_clockwise (whole_turn a b c) && counter_clockwise (whole_turn a b d) || clockwise (whole_turn a b c) && clockwise (whole_turn a b d) ≡ true
    → whole_intersect a b c d ≡ false
apart a b c d =
    go (counter_clockwise (whole_turn a b c)) (counter_clockwise (whole_turn a b d)) (clockwise (whole_turn a b c)) (clockwise (whole_turn a b d)) refl refl refl refl
  where
    go : (s t u v : Bool) → counter_clockwise (whole_turn a b c) ≡ s → counter_clockwise (whole_turn a b d) ≡ t
        → clockwise (whole_turn a b c) ≡ u → clockwise (whole_turn a b d) ≡ v → s && t || u && v ≡ true → whole_intersect a b c d ≡ false
    go true true u v e f g i h = apart_left a b c d (is_one a b c e) (is_one a b d f)
    go true false true true e f g i h = apart_right a b c d (is_minus a b c g) (is_minus a b d i)
    go false t true true e f g i h = apart_right a b c d (is_minus a b c g) (is_minus a b d i)
    go true false false v e f g i h = absurd (false≢true h)
    go true false true false e f g i h = absurd (false≢true h)
    go false t false v e f g i h = absurd (false≢true h)
    go false t true false e f g i h = absurd (false≢true h)
