-- A moved ring: as many vertices, each the vertex plus the point; and the front of the room that it was written to. Assumes nothing.
use Prim.Native.Nat.{ℕ, ◌%◌, ◌<◌}
use mathlib.Core.Path.{◌≡◌}
use mathlib.Core.List.{List}
use native.Mathlib.Omega.{arith}
use lib.ListN.{length, take}
use lib.Seq.{take_at}
use lib.Ieee.{Float}
use Rattle.plane.specs.declared.Point.{Point}
use Rattle.plane.specs.Vector.{plus_of}
use Rattle.ring.specs.Ring.{count, point_at}
use Rattle.ring.specs.Room.{laid}
use Rattle.ring.specs.Moved.{moved_at, moved_of}
use Rattle.ring.proofs.Points.{points_length, points_count, points_at}

module _ (r : List Float) (p : Point) where
  -- vertex i, moved
  pub moved_at_lem : (i : ℕ) {v w : Point} → v ≡ point_at r i → w ≡ plus_of v p → w ≡ moved_at r p i
  moved_at_lem i e h = rw (h, e)

  pub moved_count : count (moved_of r p) ≡ count r
  unfolding moved_of
  moved_count = points_count _ (count r)

  pub moved_vertex : (i : ℕ) → i < count r → point_at (moved_of r p) i ≡ moved_at r p i
  unfolding moved_of
  moved_vertex i h = points_at (moved_at r p) (count r) i h

  pub moved_length : length r % 2 ≡ 0 → length (moved_of r p) ≡ length r
  unfolding moved_of
  moved_length even = omega (arith, points_length (moved_at r p) (count r))

  -- the moved ring is what stands at the room's front
  pub moved_front : (room : List Float) → length r % 2 ≡ 0 → take (length r) (laid (moved_of r p) room) ≡ moved_of r p
  moved_front room even = take_at (moved_of r p) _ (length r) (moved_length even)
