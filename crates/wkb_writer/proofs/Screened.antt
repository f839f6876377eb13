-- What the writer's tests say: a polygon, and a room that holds its drawing. Assumes nothing.
use Prim.Native.Nat.{ℕ, ◌≤◌}
use mathlib.Core.Path.{◌≡◌, refl}
use mathlib.Core.Bool.{true}
use mathlib.Core.List.{List}
use lib.Dec.{leb}
use lib.Ieee.{Float}
use borrow.Author.Tests.{leb-true}
use Rattle.refusals.specs.Refusals.{passed}
use Rattle.refusals.specs.Screens.{short_room}
use Rattle.refusals.specs.Rows.{of_polygon}
use Rattle.refusals.proofs.Sized.{Polygon, one_polygon, row_parts, holds}
use Rattle.wkb_layout.specs.Writer.{drawing_size, write_wkb_refusal}

pub takes : (xs : List Float) (size : ℕ) → passed (write_wkb_refusal xs size) ≡ true → Polygon xs × (drawing_size xs ≤ size)
unfolding write_wkb_refusal
takes xs size h =
    let p = row_parts (of_polygon xs) (short_room (drawing_size xs) size) h in
    ((one_polygon xs p.0).0, leb-true (drawing_size xs) size (holds (leb (drawing_size xs) size) 4 0 refl p.1))
