-- A point on a segment: in line with it and in its box, or dividing it as t to t'. Assumes nothing.
use Prim.Native.Nat.{ℕ, ◌+◌, ◌-◌, ◌*◌, ◌≤◌, ◌<◌, min, max}
use native.Mathlib.Omega.{arith}
use native.Mathlib.Nat.{mul-le-mul_left, le_of_mul-le-mul_left}
use mathlib.Core.Path.{◌≡◌, refl, sym, ap}
use mathlib.Core.Bool.{true, false≢true}
use lib.Dec.{leb}
use lib.IntN.{ℤ}
use borrow.Author.Tests.{leb-true, le-leb}
use Rattle.laws.proofs.Both.{both}
use Rattle.segments.specs.Segments.{collinear}
use Rattle.shifted.specs.declared.Spot.{Spot}
use Rattle.whole_rules.specs.Segments.{left_of, right_of, whole_turn, whole_between, whole_on_segment, whole_touches}
use Rattle.whole_plane.proofs.Signs.{Turned, left, right, level, compared, turn_is}
use Rattle.whole_plane.proofs.Shared.{flip}

-- in line with a b, and in its box
pub record Touch (a b p : Spot) : Type 0 where
  pub line : left_of a b p ≡ right_of a b p
  pub west : min a.x b.x ≤ p.x
  pub east : p.x ≤ max a.x b.x
  pub south : min a.y b.y ≤ p.y
  pub north : p.y ≤ max a.y b.y

-- a part of the way along a b
pub record On (a b p : Spot) : Type 0 where
  pub t : ℕ
  pub t' : ℕ
  pub some : 0 < t + t'
  pub across : (t + t') * p.x ≡ t' * a.x + t * b.x
  pub upward : (t + t') * p.y ≡ t' * a.y + t * b.y

pub on_turned : {a b p : Spot} → On b a p → On a b p
on_turned h =
    record {
      t = h.t';
      t' = h.t;
      some = omega (arith, h.some);
      across = omega (arith, h.across);
      upward = omega (arith, h.upward);
    }

on_flipped : {a b p : Spot} → On (flip a) (flip b) (flip p) → On a b p
on_flipped h = record { t = h.t; t' = h.t'; some = h.some; across = h.upward; upward = h.across }

-- ---- from the weights to the box

lower : (t t' a b p m : ℕ) → m ≤ a → m ≤ b → 0 < t + t' → (t + t') * p ≡ t' * a + t * b → m ≤ p
lower t t' a b p m i j h e =
    let u = mul-le-mul_left t' i in
    let v = mul-le-mul_left t j in
    le_of_mul-le-mul_left {k = t + t'} (omega arith) h

upper : (t t' a b p m : ℕ) → a ≤ m → b ≤ m → 0 < t + t' → (t + t') * p ≡ t' * a + t * b → p ≤ m
upper t t' a b p m i j h e =
    let u = mul-le-mul_left t' i in
    let v = mul-le-mul_left t j in
    le_of_mul-le-mul_left {k = t + t'} (omega arith) h

pub boxed : {a b p : Spot} → left_of a b p ≡ right_of a b p → On a b p → Touch a b p
boxed {a} {b} {p} e h =
    record {
      line = e;
      west = lower h.t h.t' a.x b.x p.x (min a.x b.x) (omega arith) (omega arith) h.some h.across;
      east = upper h.t h.t' a.x b.x p.x (max a.x b.x) (omega arith) (omega arith) h.some h.across;
      south = lower h.t h.t' a.y b.y p.y (min a.y b.y) (omega arith) (omega arith) h.some h.upward;
      north = upper h.t h.t' a.y b.y p.y (max a.y b.y) (omega arith) (omega arith) h.some h.upward;
    }

-- ---- from the box to the weights: a is (x, y) and b is (u, v), and p is (z, w) with z farther than x by i, nearer than u by j

part_x : (x u z i j : ℕ) → z ≡ x + i → u ≡ x + i + j → (i + j) * z ≡ j * x + i * u
part_x x u z i j m n =
    let a : (i + j) * z ≡ (i + j) * (x + i) = ap (λ (k : ℕ). (i + j) * k) m in
    let b : i * u ≡ i * (x + i + j) = ap (λ (k : ℕ). i * k) n in
    omega arith

part_y : (x y u v z w i j : ℕ) → z ≡ x + i → u ≡ x + i + j → u * w + y * z + x * v ≡ x * w + v * z + u * y → (i + j) * w ≡ j * y + i * v
part_y x y u v z w i j m n e =
    let a : u * w ≡ (x + i + j) * w = ap (λ (k : ℕ). k * w) n in
    let b : u * y ≡ (x + i + j) * y = ap (λ (k : ℕ). k * y) n in
    let c : y * z ≡ y * (x + i) = ap (λ (k : ℕ). y * k) m in
    let d : v * z ≡ v * (x + i) = ap (λ (k : ℕ). v * k) m in
    omega arith

pub between : (a b p : Spot) → a.x < b.x → a.x ≤ p.x → p.x ≤ b.x → left_of a b p ≡ right_of a b p → On a b p
between a b p k i j e =
    let m : p.x ≡ a.x + (p.x - a.x) = omega arith in
    let n : b.x ≡ a.x + (p.x - a.x) + (b.x - p.x) = omega arith in
    record {
      t = p.x - a.x;
      t' = b.x - p.x;
      some = omega arith;
      across = part_x a.x b.x p.x (p.x - a.x) (b.x - p.x) m n;
      upward = part_y a.x a.y b.x b.y p.x p.y (p.x - a.x) (b.x - p.x) m n e;
    }

pub touch_on : {a b p : Spot} → Touch a b p → On a b p
touch_on {a} {b} {p} h = by_width (compared a.x b.x)
  where
    by_height : {d : ℤ} → a.x ≡ b.x → Turned a.y b.y d → On a b p
    by_height e (right k) =
        on_flipped (between (flip a) (flip b) (flip p) k (omega (arith, h.south)) (omega (arith, h.north)) (omega (arith, h.line)))
    by_height e (left k) =
        on_flipped (on_turned
        (between (flip b) (flip a) (flip p) k (omega (arith, h.south)) (omega (arith, h.north)) (omega (arith, h.line))))
    by_height e (level k) =
        record {
          t = 0;
          t' = 1;
          some = omega arith;
          across = omega (arith, h.west, h.east);
          upward = omega (arith, h.south, h.north);
        }

    by_width : {d : ℤ} → Turned a.x b.x d → On a b p
    by_width (right k) = between a b p k (omega (arith, h.west)) (omega (arith, h.east)) h.line
    by_width (left k) = on_turned (between b a p k (omega (arith, h.west)) (omega (arith, h.east)) (sym h.line))
    by_width (level k) = by_height k (compared a.y b.y)

-- ---- as the rule has it

in_line : {l r : ℕ} {d : ℤ} → Turned l r d → collinear d ≡ true → l ≡ r
in_line (left h) e = absurd (false≢true e)
in_line (right h) e = absurd (false≢true e)
in_line (level h) e = h

is_in_line : {l r : ℕ} {d : ℤ} → Turned l r d → l ≡ r → collinear d ≡ true
is_in_line (left h) e = absurd (omega arith)
is_in_line (right h) e = absurd (omega arith)
is_in_line (level h) e = refl

span : (a b p : ℕ) → whole_between a b p ≡ true → (min a b ≤ p) × (p ≤ max a b)
span a b p h = let t = both (leb (min a b) p) (leb p (max a b)) h in (leb-true (min a b) p t.0, leb-true p (max a b) t.1)

pub touches : (a b p : Spot) → whole_touches (whole_turn a b p) a b p ≡ true → Touch a b p
unfolding whole_touches whole_on_segment
touches a b p h =
    let t = both (collinear (whole_turn a b p)) (whole_on_segment a b p) h in
    let u = both (whole_between a.x b.x p.x) (whole_between a.y b.y p.y) t.1 in
    let i = span a.x b.x p.x u.0 in
    let j = span a.y b.y p.y u.1 in
    record { line = in_line (turn_is a b p) t.0; west = i.0; east = i.1; south = j.0; north = j.1 }

pub touch_is : (a b p : Spot) → Touch a b p → whole_touches (whole_turn a b p) a b p ≡ true
unfolding whole_touches whole_on_segment
touch_is a b p h =
    rw (
      is_in_line (turn_is a b p) h.line,
      le-leb (min a.x b.x) p.x h.west,
      le-leb p.x (max a.x b.x) h.east,
      le-leb (min a.y b.y) p.y h.south,
      le-leb p.y (max a.y b.y) h.north,
    )
