-- How far a coordinate's picture is off its whole number: by half a unit at most, at a position by two halves, and put aside by so
-- much more. A whole number is a difference of two natural ones. Assumes nothing.
use Prim.Native.Nat.{ℕ, suc, ◌+◌, ◌*◌, ◌≤◌, ◌<◌}
use native.Mathlib.Omega.{arith}
use native.Mathlib.Nat.{mul-le-mul_left, le_of_mul-le-mul_right}
use mathlib.Core.Path.{◌≡◌, sym, ap, subst}
use mathlib.Core.Bool.{true, false}
use lib.IntN.{ℤ, pos, negsuc, neg_ℤ, ◌+ℤ◌}
use lib.Ieee.{Float, nan, inf, fin, up, down}
use lib.Ieee.Fits.{down_pos}
use borrow.Author.Tests.{ltb-true}
use Rattle.shifted.specs.Shifted.{in_bounds, up_of}
use Rattle.whole_floats.specs.Whole.{Difference}
use Rattle.whole_floats.proofs.Differences.{negated, added}
use Rattle.to_grid.specs.Grid.{nearest, Rounded}
use Rattle.to_grid.proofs.Rounding.{rounded}
use Rattle.drawn_floats.specs.Picture.{Exactly, size_of}

-- X, of the picture enlarged K times, is off the whole number z by F at most
pub record Off (K F : ℕ) (z : ℤ) (X : ℕ) : Type 0 where
  pub p : ℕ
  pub q : ℕ
  pub is : Difference z p q
  pub left : K * (p + 2000000) ≤ X + K * q + F
  pub right : X + K * q ≤ K * (p + 2000000) + F

-- ---- on the grid

-- in numbers: what is nearest to a / d, above zero and below
over_zero : (E X a d g : ℕ) → 0 < d → Rounded a d g → X * d ≡ 2 * E * (2000000 * d + a) → Off (2 * E) E (pos g) X
over_zero E X a d g o h e =
    record {
      p = g;
      q = 0;
      is = omega arith;
      left = le_of_mul-le-mul_right {k = d} (omega (arith, mul-le-mul_left E h.over)) o;
      right = le_of_mul-le-mul_right {k = d} (omega (arith, mul-le-mul_left E h.under)) o;
    }

below_zero : (E X a d g : ℕ) → 0 < d → Rounded a d g → X * d + 2 * E * a ≡ 2 * E * (2000000 * d) → Off (2 * E) E (neg_ℤ (pos g)) X
below_zero E X a d g o h e =
    record {
      p = 0;
      q = g;
      is = negated g 0 g (omega arith);
      left = le_of_mul-le-mul_right {k = d} (omega (arith, mul-le-mul_left E h.under)) o;
      right = le_of_mul-le-mul_right {k = d} (omega (arith, mul-le-mul_left E h.over)) o;
    }

pub off_grid : (E n : ℕ) (x : Float) (X : ℕ) → Exactly E n x X → Off (2 * E) E (nearest n x) X
unfolding nearest
off_grid E n nan X h = absurd h
off_grid E n (inf s) X h = absurd h
off_grid E n (fin false m e) X h =
    over_zero E X (n * (m * up e)) (down e) _ (down_pos e) (rounded (n * (m * up e)) (down e) (down_pos e)) h
off_grid E n (fin true m e) X h =
    below_zero E X (n * (m * up e)) (down e) _ (down_pos e) (rounded (n * (m * up e)) (down e) (down_pos e)) h

-- ---- at a position

pub off_placed : {K E F : ℕ} {z w : ℤ} {X U Z : ℕ} → Z + K * 2000000 ≡ X + U → Off K E z X → Off K F w U → Off K (E + F) (z +ℤ w) Z
off_placed {z = z} {w = w} e r s =
    record {
      p = r.p + s.p;
      q = r.q + s.q;
      is = added z w r.p r.q s.p s.q r.is s.is;
      left = omega (arith, r.left, s.left);
      right = omega (arith, r.right, s.right);
    }

-- ---- put aside

-- a whole number of size w at most, as a difference
small : (w : ℕ) (u : ℤ) → size_of u ≤ w → (p : ℕ) × (q : ℕ) × Difference u p q × (p ≤ q + w) × (q ≤ p + w)
small w (pos m) h = (m, 0, omega arith, omega arith, omega arith)
small w (negsuc m) h = (0, suc m, omega arith, omega arith, omega arith)

pub off_aside : {K F w : ℕ} (z u : ℤ) {a : ℤ} {X : ℕ} → size_of u ≤ w → a ≡ z +ℤ u → Off K F z X → Off K (F + K * w) a X
off_aside {K} {F} {w} z u {a} {X} h e r =
    let d = small w u h in
    let more = mul-le-mul_left K d.3 in
    let less = mul-le-mul_left K d.4 in
    record {
      p = r.p + d.0;
      q = r.q + d.1;
      is = subst (λ (v : ℤ). Difference v (r.p + d.0) (r.q + d.1)) (sym e) (added z u r.p r.q d.0 d.1 r.is d.2);
      left = omega (arith, r.left, more);
      right = omega (arith, r.right, less);
    }

-- ---- within the bounds, and moved up

up_is : (z : ℤ) (p q : ℕ) → in_bounds z ≡ true → Difference z p q → up_of z + q ≡ p + 1000000
unfolding up_of
up_is (pos n) p q h e = rw h (omega arith)
up_is (negsuc n) p q h e = rw h (omega (arith, ltb-true n 1000000 h))

pub off_up : {K F : ℕ} (z : ℤ) {X : ℕ} → in_bounds z ≡ true → Off K F z X
    → (K * (up_of z + 1000000) ≤ X + F) × (X ≤ K * (up_of z + 1000000) + F)
off_up {K} z h r =
    let e = ap (λ u. K * u) (up_is z r.p r.q h r.is) in
    (omega (arith, r.left), omega (arith, r.right))
