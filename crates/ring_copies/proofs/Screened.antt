-- What the tests before a copy say: a ring, and a room that holds the points. Assumes nothing.
use Prim.Native.Nat.{ℕ, ◌*◌, ◌≤◌}
use mathlib.Core.Path.{◌≡◌, refl, ap, sym}
use mathlib.Core.List.{List}
use lib.Dec.{leb}
use lib.Ieee.{Float}
use borrow.Author.Tests.{leb-true}
use Rattle.refusals.specs.Refusals.{none, passed}
use Rattle.refusals.specs.Screens.{wrong_room}
use Rattle.refusals.specs.Rows.{of_ring}
use Rattle.refusals.proofs.Sized.{Sized, holds, is_ring}

module _ (r : List Float) (points size : ℕ) where
  pub fits : none ≡ of_ring r → none ≡ wrong_room points size → Sized r × (2 * points ≤ size)
  fits e f =
      (is_ring r (ap passed (sym e)), leb-true _ _ (holds (leb (2 * points) size) 5 0 refl (ap passed (sym f))))
