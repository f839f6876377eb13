-- The polygon moved into the front of a room, and what lists that are not refused are known to be. Assumes nothing.
use Prim.Native.Nat.{ℕ, ◌%◌}
use mathlib.Core.Path.{◌≡◌, refl}
use mathlib.Core.List.{List}
use native.Mathlib.Omega.{arith}
use lib.ListN.{length, take}
use lib.Ieee.{Float}
use Rattle.plane.specs.declared.Point.{Point}
use Rattle.ring.specs.Ring.{count}
use Rattle.ring.specs.Room.{laid}
use Rattle.ring.specs.Moved.{moved_of}
use Rattle.ring.proofs.Moved.{moved_front, moved_count}
use Rattle.pairs.specs.Pairs.{Sides}
use Rattle.refusals.specs.Refusals.{none, first}
use Rattle.refusals.specs.Lists.{list_fault, polygon_extent}
use Rattle.refusals.specs.declared.Settings.{Settings}
use Rattle.refusals.proofs.Sized.{Polygon, row_parts, fine, is_polygon}
use Rattle.path_check.specs.Rows.{path_extent, path_lengths, path_numbers, of_path}

-- the front of the room is the moved polygon, with as many vertices
pub fronted : (orb : List Float) (by : Point) (held : List Float) {room : List Float} → length orb % 2 ≡ 0 → room ≡ laid (moved_of orb by) held
    → take (length orb) room ≡ moved_of orb by
fronted orb by held even e = rw e (moved_front orb by held even)

pub sides : (sn : ℕ) (orb : List Float) (by : Point) {front : List Float} → front ≡ moved_of orb by → Sides sn (count orb) → Sides sn (count front)
sides sn orb by e d = rw (e, moved_count orb by) d

pub lent_sides : (st orb : List Float) → Polygon st → Polygon orb → Sides (count st) (count orb)
lent_sides st orb p q =
    record {
      stationary_some = omega (arith, p.least);
      stationary_most = omega (arith, p.most);
      orbiting_some = omega (arith, q.least);
      orbiting_most = omega (arith, q.most);
    }

-- polygons that are not refused
module _ (st orb : List Float) (s : Settings) (path : List Float) where
  pub polygons : none ≡ of_path st orb s path → Polygon st × Polygon orb
  unfolding of_path path_lengths
  polygons e =
      let last = list_fault (path_extent path) 2 in
      let lists = (row_parts (path_lengths st orb path) (path_numbers st orb s path) (rw (← e) refl)).0 in
      let a = row_parts (list_fault (polygon_extent st) 0) (first (list_fault (polygon_extent orb) 1) last) lists in
      let b = row_parts (list_fault (polygon_extent orb) 1) last a.1 in
      (is_polygon st (fine (polygon_extent st) 0 a.0), is_polygon orb (fine (polygon_extent orb) 1 b.0))
