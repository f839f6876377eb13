-- The floats of integers within a million are placed as the integers are, and with a vertex so is the vertex after it.
-- Assumes nothing.
use Prim.Native.Nat.{ℕ, zero, suc, ◌+◌, ◌*◌, ◌/◌, ◌<◌}
use native.Mathlib.Omega.{arith}
use native.Mathlib.Nat.{mod-lt}
use mathlib.Core.Path.{◌≡◌, refl}
use mathlib.Core.List.{List, [], ◌∷◌, map}
use lib.ListN.{length, get_or, length-map}
use lib.IntN.{ℤ, pos}
use lib.Ieee.{Float, nan, binary64, of_int}
use Rattle.plane.specs.Vector.{point}
use Rattle.ring.specs.Ring.{count, point_at, next_of}
use Rattle.whole_floats.proofs.Exact.{of_integer}
use Rattle.shifted.specs.declared.Spot.{Spot}
use Rattle.whole_rules.specs.Spots.{Placed, PlacedRing, Stands, StandingRing}

pub next_placed : (r : List Float) (at : ℕ → Spot) → PlacedRing r at → (i : ℕ) → i < count r
    → Placed (point_at r (next_of i (count r))) (at (next_of i (count r)))
next_placed r at P i h = P (next_of i (count r)) (mod-lt (i + 1) (omega arith))

-- ---- integers

pub placed : (u v : ℤ) (A : Spot) → Stands u v A → Placed (point (of_int binary64 u) (of_int binary64 v)) A
placed u v A S =
    let a = S.width in
    let b = S.height in
    record {
      across = of_integer u A.x 1000000 S.across (omega arith) (omega arith);
      upward = of_integer v A.y 1000000 S.upward (omega arith) (omega arith);
      width = a;
      height = b;
    }

float_at : (zs : List ℤ) (i : ℕ) → i < length zs → get_or (map (of_int binary64) zs) i nan ≡ of_int binary64 (get_or zs i (pos 0))
float_at [] i h = absurd (omega arith)
float_at (z ∷ zs) zero h = refl
float_at (z ∷ zs) (suc i) h = float_at zs i (omega arith)

pub placed_ring : (zs : List ℤ) (at : ℕ → Spot) → StandingRing zs at → PlacedRing (map (of_int binary64) zs) at
unfolding point_at
placed_ring zs at S i h =
    let l = length-map zs (of_int binary64) in
    let k : i < length zs / 2 = omega arith in
    let a : 2 * i < length zs = omega arith in
    let b : 2 * i + 1 < length zs = omega arith in
    rw (float_at zs (2 * i) a, float_at zs (2 * i + 1) b) (placed (get_or zs (2 * i) (pos 0)) (get_or zs (2 * i + 1) (pos 0)) (at i) (S i k))
