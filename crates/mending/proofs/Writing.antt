-- The loop of `write_mended`, over plain values. The invariant: the first i vertices are written, s of them to the ring and g to the report, and
-- what is left of each list is what the vertices from i on give. Assumes nothing.
use Prim.Native.Nat.{ℕ, ◌+◌, ◌*◌, ◌≤◌, ◌<◌}
use mathlib.Core.Path.{◌≡◌, refl}
use mathlib.Core.Bool.{true, false}
use mathlib.Core.List.{List, [], ◌∷◌}
use native.Mathlib.Omega.{arith}
use lib.ListN.{length, set}
use lib.Ieee.{Float}
use Rattle.plane.specs.declared.Point.{Point}
use Rattle.ring.specs.Ring.{count, point_at}
use Rattle.ring.specs.Room.{laid, put_at}
use Rattle.contacts_call.proofs.Filling.{Filling, begun, put, fits, filled}
use Rattle.mending.specs.Mending.{goes_at, why_of, staying_from, going_from, staying, going, vertices_at, whys_at, mended_of, dropped_of, dropped_points}
use Rattle.mending.proofs.Counting.{stay_here, stay_past, stay_end, go_here, go_past, go_end}

pub vertices_length : (r : List Float) (is : List ℕ) → length (vertices_at r is) ≡ 2 * length is
unfolding vertices_at
vertices_length r [] = refl
vertices_length r (i ∷ is) = omega (arith, vertices_length r is)

pub whys_length : (r : List Float) (is : List ℕ) → length (whys_at r is) ≡ 2 * length is
unfolding whys_at
whys_length r [] = refl
whys_length r (i ∷ is) = omega (arith, whys_length r is)

-- two numbers more
twice : (n : ℕ) → 2 * n + 1 + 1 ≡ 2 * (n + 1)
twice n = omega arith

module _ (r room₀ : List Float) (dropped₀ : List ℕ) (points₀ : List Float) where
  pub record Writing (room : List Float) (dropped : List ℕ) (points : List Float) (s g i : ℕ) : Type 0 where
    pub most : i ≤ count r
    pub parts : s + g ≡ i
    pub ring : Filling (mended_of r) room₀ room (vertices_at r (staying_from r i)) (2 * s)
    pub whys : Filling (dropped_of r) dropped₀ dropped (whys_at r (going_from r i)) (2 * g)
    pub spots : Filling (dropped_points r) points₀ points (vertices_at r (going_from r i)) (2 * g)

  pub start : Writing room₀ dropped₀ points₀ 0 0 0
  start = record { most = omega arith; parts = omega arith; ring = begun _ _; whys = begun _ _; spots = begun _ _ }

  module _ (hr : 2 * length (staying r) ≤ length room₀) (hd : 2 * length (going r) ≤ length dropped₀) (hp : 2 * length (going r) ≤ length points₀) where
    room_holds : length (mended_of r) ≤ length room₀
    room_holds = omega (arith, vertices_length r (staying r))

    whys_hold : length (dropped_of r) ≤ length dropped₀
    whys_hold = omega (arith, whys_length r (going r))

    spots_hold : length (dropped_points r) ≤ length points₀
    spots_hold = omega (arith, vertices_length r (going r))

    module _ {room : List Float} {dropped : List ℕ} {points : List Float} {s g i : ℕ} (h : i < count r) (w : Writing room dropped points s g i) where
      module _ (t : goes_at r i ≡ false) where
        left_ring : Filling (mended_of r) room₀ room (vertices_at r (i ∷ staying_from r (i + 1))) (2 * s)
        left_ring = rw (stay_here r i h t) at w.ring

        pub ring_fits : 2 * s + 1 < length room
        unfolding vertices_at
        ring_fits = omega (arith, fits room_holds left_ring)

        pub stay : {p : Point} {next : List Float} → p ≡ point_at r i → next ≡ put_at room s p → Writing next dropped points (s + 1) g (i + 1)
        unfolding vertices_at put_at
        stay e n =
            record {
              most = omega arith;
              parts = omega (arith, w.parts);
              ring = rw (n, e, ← twice s) (put (put left_ring));
              whys = rw (← go_past r i h t) w.whys;
              spots = rw (← go_past r i h t) w.spots;
            }

      module _ (t : goes_at r i ≡ true) where
        left_whys : Filling (dropped_of r) dropped₀ dropped (whys_at r (i ∷ going_from r (i + 1))) (2 * g)
        left_whys = rw (go_here r i h t) at w.whys

        left_spots : Filling (dropped_points r) points₀ points (vertices_at r (i ∷ going_from r (i + 1))) (2 * g)
        left_spots = rw (go_here r i h t) at w.spots

        pub whys_fit : 2 * g + 1 < length dropped
        unfolding whys_at
        whys_fit = omega (arith, fits whys_hold left_whys)

        pub spots_fit : 2 * g + 1 < length points
        unfolding vertices_at
        spots_fit = omega (arith, fits spots_hold left_spots)

        pub go : {why : ℕ} {p : Point} {next : List ℕ} {then : List Float} → why ≡ why_of r i → p ≡ point_at r i
            → next ≡ set (set dropped (2 * g) i) (2 * g + 1) why → then ≡ put_at points g p → Writing room next then s (g + 1) (i + 1)
        unfolding vertices_at whys_at put_at
        go y e n m =
            record {
              most = omega arith;
              parts = omega (arith, w.parts);
              ring = rw (← stay_past r i h t) w.ring;
              whys = rw (n, y, ← twice g) (put (put left_whys));
              spots = rw (m, e, ← twice g) (put (put left_spots));
            }

    pub done : {room : List Float} {dropped : List ℕ} {points : List Float} {s g i : ℕ} → count r ≤ i → Writing room dropped points s g i
        → (room ≡ laid (mended_of r) room₀) × (dropped ≡ laid (dropped_of r) dropped₀) × (points ≡ laid (dropped_points r) points₀)
    unfolding vertices_at whys_at
    done {room} {dropped} {points} {s} {g} {i} h w = (
      filled room_holds (rw (stay_end r i h) at w.ring),
      filled whys_hold (rw (go_end r i h) at w.whys),
      filled spots_hold (rw (go_end r i h) at w.spots),
    )
