-- A loop that widens an extent by one number after the other. Assumes nothing.
use Prim.Native.Nat.{ℕ, ◌+◌, ◌≤◌}
use mathlib.Core.Path.{◌≡◌, refl}
use mathlib.Core.List.{List}
use native.Mathlib.Omega.{arith}
use native.Mathlib.Numerals.{add-one}
use lib.Ieee.{Float, neg, div, of_bits}
use Rattle.scalar.specs.Float.{◌⊘◌, f0, f1}
use Rattle.plane.specs.Vector.{dot_of}
use Rattle.plane.specs.declared.Point.{Point}
use Rattle.ring.specs.Ring.{count, point_at}
use Rattle.overlap.specs.Extent.{wider_of, extent_to, x_at, y_at, dot_at, box_of}
use Rattle.overlap.specs.declared.Extent.{Extent}
use Rattle.overlap.specs.declared.Bounds.{Bounds}

module _ (f : ℕ → Float) where
  -- before the first number
  pub none_yet : ◌≡◌ {A = Extent} (record { min = f1 ⊘ f0; max = neg f1 ⊘ f0 }) (extent_to f 0)
  unfolding extent_to div neg of_bits
  none_yet = refl

  one_more : (i : ℕ) {e g : Extent} {v : Float} → e ≡ extent_to f i → v ≡ f i → g ≡ wider_of e v → g ≡ extent_to f (i + 1)
  unfolding extent_to
  one_more i h k q = rw (q, h, k, add-one i)

module _ (r : List Float) (i : ℕ) {e g : Extent} {p : Point} (at : p ≡ point_at r i) where
  pub x_more : e ≡ extent_to (x_at r) i → g ≡ wider_of e p.x → g ≡ extent_to (x_at r) (i + 1)
  x_more h q = one_more (x_at r) i h (rw at) q

  pub y_more : e ≡ extent_to (y_at r) i → g ≡ wider_of e p.y → g ≡ extent_to (y_at r) (i + 1)
  y_more h q = one_more (y_at r) i h (rw at) q

  pub dot_more : (axis : Point) {v : Float} → e ≡ extent_to (dot_at r axis) i → v ≡ dot_of p axis → g ≡ wider_of e v → g ≡ extent_to (dot_at r axis) (i + 1)
  dot_more axis h k q = one_more (dot_at r axis) i h (rw (k, at)) q

-- all are taken
pub box_all : (r : List Float) (i : ℕ) {a b : Extent} → i ≤ count r → count r ≤ i → a ≡ extent_to (x_at r) i → b ≡ extent_to (y_at r) i
    → ◌≡◌ {A = Bounds} (record { x = a; y = b }) (box_of r)
unfolding box_of
box_all r i lo hi h k = let e : i ≡ count r = omega arith in rw (h, k, e)
