-- Two segments on one line that have a point in common: an end of one lies on the other. Assumes nothing.
use Prim.Native.Nat.{ℕ, ◌+◌, ◌*◌, ◌≤◌, ◌<◌}
use native.Mathlib.Omega.{arith}
use native.Mathlib.Nat.{mul-le-mul_left, le_of_lt}
use mathlib.Core.Path.{◌≡◌, refl, sym, ap}
use mathlib.Core.Bool.{Bool, true, false}
use lib.Dec.{leb}
use lib.IntN.{ℤ}
use borrow.Author.Tests.{leb-true, leb-false}
use Rattle.shifted.specs.declared.Spot.{Spot}
use Rattle.whole_rules.specs.Segments.{left_of, right_of}
use Rattle.whole_plane.proofs.Signs.{Turned, left, right, level, compared}
use Rattle.whole_plane.proofs.Shared.{Shared, turned, flip, flipped}
use Rattle.whole_plane.proofs.Touching.{Touch, On, on_turned, boxed, between}

pub data Meet (a b c d : Spot) : Type 0 where
  first : Touch c d a → Meet a b c d
  second : Touch c d b → Meet a b c d
  third : Touch a b c → Meet a b c d
  fourth : Touch a b d → Meet a b c d

touch_turned : {a b p : Spot} → Touch a b p → Touch b a p
touch_turned h =
    record {
      line = sym h.line;
      west = omega (arith, h.west);
      east = omega (arith, h.east);
      south = omega (arith, h.south);
      north = omega (arith, h.north);
    }

touch_flipped : {a b p : Spot} → Touch (flip a) (flip b) (flip p) → Touch a b p
touch_flipped h = record { line = omega (arith, h.line); west = h.south; east = h.north; south = h.west; north = h.east }

meet_turned : {a b c d : Spot} → Meet b a c d → Meet a b c d
meet_turned (first h) = second h
meet_turned (second h) = first h
meet_turned (third h) = third (touch_turned h)
meet_turned (fourth h) = fourth (touch_turned h)

meet_flipped : {a b c d : Spot} → Meet (flip a) (flip b) (flip c) (flip d) → Meet a b c d
meet_flipped (first h) = first (touch_flipped h)
meet_flipped (second h) = second (touch_flipped h)
meet_flipped (third h) = third (touch_flipped h)
meet_flipped (fourth h) = fourth (touch_flipped h)

-- the four ends are in line
pub record InLine (a b c d : Spot) : Type 0 where
  pub first_is : left_of c d a ≡ right_of c d a
  pub second_is : left_of c d b ≡ right_of c d b
  pub third_is : left_of a b c ≡ right_of a b c
  pub fourth_is : left_of a b d ≡ right_of a b d

-- ---- a lies to the west of b

data Spread (a b p : ℕ) : Type 0 where
  under : p < a → Spread a b p
  inside : a ≤ p → p ≤ b → Spread a b p
  over : b < p → Spread a b p

spread : (a b p : ℕ) → Spread a b p
spread a b p = go (leb a p) (leb p b) refl refl
  where
    go : (s t : Bool) → leb a p ≡ s → leb p b ≡ t → Spread a b p
    go false t e f = under (leb-false a p e)
    go true true e f = inside (leb-true a p e) (leb-true p b f)
    go true false e f = over (leb-false p b f)

-- the points c and d lie both under a, or both over b
both_under : (s s' t t' a b c d : ℕ) → s + s' ≡ t + t' → 0 < s + s' → s' * a + s * b ≡ t' * c + t * d → a < b → c < a → d < a → ⊥
both_under s s' t t' a b c d h k e l m n =
    let u = mul-le-mul_left s (le_of_lt l) in
    let v = mul-le-mul_left t' m in
    let w = mul-le-mul_left t n in
    let z : (s + s') * a ≡ (t + t') * a = ap (λ (i : ℕ). i * a) h in
    omega arith

both_over : (s s' t t' a b c d : ℕ) → s + s' ≡ t + t' → 0 < s + s' → s' * a + s * b ≡ t' * c + t * d → a < b → b < c → b < d → ⊥
both_over s s' t t' a b c d h k e l m n =
    let u = mul-le-mul_left s' (le_of_lt l) in
    let v = mul-le-mul_left t' m in
    let w = mul-le-mul_left t n in
    let z : (s + s') * b ≡ (t + t') * b = ap (λ (i : ℕ). i * b) h in
    omega arith

eastward : (a b c d : Spot) → Shared a b c d → InLine a b c d → a.x < b.x → Meet a b c d
eastward a b c d h l k = go (spread a.x b.x c.x) (spread a.x b.x d.x)
  where
    go : Spread a.x b.x c.x → Spread a.x b.x d.x → Meet a b c d
    go (inside i j) q = third (boxed l.third_is (between a b c k i j l.third_is))
    go (under i) (inside m n) = fourth (boxed l.fourth_is (between a b d k m n l.fourth_is))
    go (over i) (inside m n) = fourth (boxed l.fourth_is (between a b d k m n l.fourth_is))
    go (under i) (over m) = first (boxed l.first_is (between c d a (omega arith) (omega arith) (omega arith) l.first_is))
    go (over i) (under m) =
        first (boxed l.first_is (on_turned (between d c a (omega arith) (omega arith) (omega arith) (sym l.first_is))))
    go (under i) (under m) =
        absurd (both_under h.s h.s' h.t h.t' a.x b.x c.x d.x h.whole h.some h.across k i m)
    go (over i) (over m) =
        absurd (both_over h.s h.s' h.t h.t' a.x b.x c.x d.x h.whole h.some h.across k i m)

-- ---- however they lie

line_turned : {a b c d : Spot} → InLine a b c d → InLine b a c d
line_turned l = record { first_is = l.second_is; second_is = l.first_is; third_is = sym l.third_is; fourth_is = sym l.fourth_is }

line_flipped : {a b c d : Spot} → InLine a b c d → InLine (flip a) (flip b) (flip c) (flip d)
line_flipped l =
    record {
      first_is = omega (arith, l.first_is);
      second_is = omega (arith, l.second_is);
      third_is = omega (arith, l.third_is);
      fourth_is = omega (arith, l.fourth_is);
    }

-- a and b are one point
one_point : (s s' t t' a b k : ℕ) → a ≡ b → s + s' ≡ t + t' → s' * a + s * b ≡ k → (t + t') * a ≡ k
one_point s s' t t' a b k e h m =
    let u : s * a ≡ s * b = ap (λ (z : ℕ). s * z) e in
    let v : (s + s') * a ≡ (t + t') * a = ap (λ (z : ℕ). z * a) h in
    omega arith

same_point : (a b c d : Spot) → Shared a b c d → a.x ≡ b.x → a.y ≡ b.y → On c d a
same_point a b c d h e f =
    record {
      t = h.t;
      t' = h.t';
      some = omega (arith, h.some, h.whole);
      across = one_point h.s h.s' h.t h.t' a.x b.x _ e h.whole h.across;
      upward = one_point h.s h.s' h.t h.t' a.y b.y _ f h.whole h.upward;
    }

pub in_line : (a b c d : Spot) → Shared a b c d → InLine a b c d → Meet a b c d
in_line a b c d h l = by_width (compared a.x b.x)
  where
    by_height : {z : ℤ} → a.x ≡ b.x → Turned a.y b.y z → Meet a b c d
    by_height e (right k) = meet_flipped (eastward (flip a) (flip b) (flip c) (flip d) (flipped h) (line_flipped l) k)
    by_height e (left k) =
        meet_flipped (meet_turned (eastward (flip b) (flip a) (flip c) (flip d) (turned (flipped h)) (line_turned (line_flipped l)) k))
    by_height e (level k) = first (boxed l.first_is (same_point a b c d h e k))

    by_width : {z : ℤ} → Turned a.x b.x z → Meet a b c d
    by_width (right k) = eastward a b c d h l k
    by_width (left k) = meet_turned (eastward b a c d (turned h) (line_turned l) k)
    by_width (level k) = by_height k (compared a.y b.y)
