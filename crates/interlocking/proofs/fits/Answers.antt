-- `interlocking::fits` meets its contract: the front of the array is the moved polygon. Assumes nothing.
use native.Mathlib.Omega.{arith}
use Prim.Native.Nat.{◌%◌}
use mathlib.Core.Path.{◌≡◌, sym}
use mathlib.Core.Bool.{Bool, not}
use mathlib.Core.List.{List}
use lib.ListN.{length, take}
use lib.Seq.{length-take-le}
use lib.Ieee.{Float}
use Rattle.scalar.specs.Float.{f1e_6}
use Rattle.plane.specs.declared.Point.{Point}
use Rattle.ring.specs.Room.{laid}
use Rattle.ring.specs.Moved.{moved_of}
use Rattle.ring.proofs.Moved.{moved_front}
use Rattle.overlap.specs.Overlap.{overlap_of}
use Rattle.interlocking.specs.Interlocking.{fits_of}
use Rattle.interlocking.proofs.fits.Goals as goal

-- what is tested is the moved polygon
tested : (s o : List Float) (at : Point) (d : List Float) {room : List Float} {v : Bool} → length o % 2 ≡ 0 → room ≡ laid (moved_of o at) d
    → v ≡ overlap_of s (take (length o) room) f1e_6 → not v ≡ fits_of s o at
unfolding fits_of
tested s o at d even e h = rw (h, e, moved_front o at d even)

pub slice_bounds-polygons_overlap-end : goal.slice_bounds-polygons_overlap-end
slice_bounds-polygons_overlap-end c = sym (length-take-le _ _ (omega (arith, c.move_ring.auto.room)))

pub returns : goal.returns
returns c =
    tested _ _ _ _ c.requires.orbiting_len c.move_ring.ensures c.polygons_overlap.ensures
