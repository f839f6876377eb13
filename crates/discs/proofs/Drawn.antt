-- A disc's vertices: how each is made, how long their list is, and the front of the array that it was drawn in. Assumes nothing.
use Prim.Native.Nat.{ℕ, ◌*◌, ◌<◌}
use mathlib.Core.Path.{◌≡◌}
use mathlib.Core.List.{List}
use lib.ListN.{length, take}
use lib.Seq.{take_at}
use lib.Ieee.{Float}
use mir.Syntax.{w32}
use mir.Val.{to_z, of_z}
use mir.ValLaws.{to_z-of_z}
use Rattle.plane.specs.declared.Point.{Point}
use Rattle.ring.specs.Room.{laid}
use Rattle.ring.proofs.Points.{points_length}
use Rattle.disc_table.specs.declared.Entry.{Entry}
use Rattle.discs.specs.Disc.{entry_at, reach_of, vertex_of, disc_of}
use Rattle.discs.proofs.Turned.{at_narrow, narrow_fits}

module _ (centre : Point) (radius : Float) (m : ℕ) where
  -- a vertex of its entry, whose numbers the machine reads back
  pub vertex_is : (i : ℕ) {e : Entry} {u v : Float} → i < 4 * m → e ≡ entry_at m i
      → u ≡ reach_of centre.x radius (to_z w32 (of_z w32 e.x)) → v ≡ reach_of centre.y radius (to_z w32 (of_z w32 e.y))
      → ◌≡◌ {A = Point} (record { x = u; y = v }) (vertex_of centre radius m i)
  unfolding vertex_of
  vertex_is i l h p q =
      let n = at_narrow m i l in
      rw (p, q, h, to_z-of_z w32 (entry_at m i).x (narrow_fits (entry_at m i).x n.0), to_z-of_z w32 (entry_at m i).y (narrow_fits (entry_at m i).y n.1))

  pub disc_length : length (disc_of centre radius m) ≡ 2 * (4 * m)
  unfolding disc_of
  disc_length = points_length _ (4 * m)

  pub disc_front : (room : List Float) → take (2 * (4 * m)) (laid (disc_of centre radius m) room) ≡ disc_of centre radius m
  disc_front room = take_at (disc_of centre radius m) _ (2 * (4 * m)) disc_length
