-- A polygon made counter-clockwise has the polygon's own numbers, as many: what holds of each number of the one holds of
-- each of the other, and so coordinates stay coordinates. Assumes nothing.
use Prim.Native.Nat.{ℕ, ◌+◌, ◌*◌, ◌-◌, ◌/◌, ◌%◌, ◌<◌}
use native.Mathlib.Omega.{arith}
use native.Mathlib.Nat.{eq-zero-or-pos}
use mathlib.Core.Path.{◌≡◌, refl, ap, ◌∙◌}
use mathlib.Core.Logic.{inl, inr}
use mathlib.Core.Bool.{Bool, true, false}
use mathlib.Core.List.{List}
use lib.ListN.{length, get_or}
use lib.Ieee.{Float, nan, lt}
use Rattle.scalar.specs.Float.{f0}
use Rattle.plane.specs.declared.Point.{Point}
use Rattle.ring.specs.Ring.{count, point_at}
use Rattle.refusals.specs.Bounds.{every, coordinates, coordinate}
use Rattle.refusals.proofs.Every.{every_at, every_of}
use Rattle.ring.proofs.Points.{points_at}
use Rattle.winding.specs.Winding.{area_of, ordered_vertex, ccw_of}
use Rattle.winding.proofs.Order.{chosen, ccw_length}

module _ (r : List Float) (even : length r % 2 ≡ 0) where
  -- the vertex in its place is one of the polygon's
  ordered : (reverse : Bool) (k : ℕ) → k < count r → (m : ℕ) × (m < count r) × (ordered_vertex r reverse k ≡ point_at r m)
  unfolding ordered_vertex
  ordered true k h = (count r - 1 - k, omega arith, refl)
  ordered false k h = (k, h, refl)

  vertex : (k : ℕ) → k < count r → (m : ℕ) × (m < count r) × (point_at (ccw_of r) k ≡ point_at r m)
  unfolding ccw_of
  vertex k h =
      let reverse = lt (area_of r) f0 in
      let o = ordered reverse k h in
      (o.0, o.1, rw (← chosen r reverse even) (points_at (ordered_vertex r reverse) (count r) k h ∙ o.2))

  -- each number is one of the polygon's
  pub ccw_number : (i : ℕ) → i < length r → (j : ℕ) × (j < length r) × (get_or (ccw_of r) i nan ≡ get_or r j nan)
  unfolding point_at
  ccw_number i h =
      let k : i / 2 < count r = omega arith in
      let v = vertex (i / 2) k in
      let m = v.0 in
      elim (eq-zero-or-pos (i % 2)) [
        | inl e ↦ let q : i ≡ 2 * (i / 2) = omega arith in
            (2 * m, omega (arith, v.1), ap (λ (n : ℕ). get_or (ccw_of r) n nan) q ∙ ap (λ (p : Point). p.x) v.2)
        | inr e ↦ let q : i ≡ 2 * (i / 2) + 1 = omega arith in
            (2 * m + 1, omega (arith, v.1), ap (λ (n : ℕ). get_or (ccw_of r) n nan) q ∙ ap (λ (p : Point). p.y) v.2)
      ]

  pub ccw_every : (p : Float → Bool) → every p r ≡ true → every p (ccw_of r) ≡ true
  ccw_every p h =
      every_of p (ccw_of r)
      (λ i l. let n = ccw_number i (rw (ccw_length r even) at l) in rw n.2 (every_at p r n.0 h n.1))

  pub ccw_coordinates : coordinates r ≡ true → coordinates (ccw_of r) ≡ true
  ccw_coordinates h = ccw_every coordinate h
