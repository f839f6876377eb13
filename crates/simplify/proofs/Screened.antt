-- What the tests of the call say: the list is even and its answer fits. Assumes nothing.
use Prim.Native.Nat.{ℕ, ◌*◌, ◌%◌, ◌≤◌}
use mathlib.Core.Path.{◌≡◌, refl}
use mathlib.Core.List.{List}
use lib.ListN.{length}
use lib.Dec.{leb}
use lib.Ieee.{Float}
use borrow.Author.Tests.{leb-true}
use Rattle.ring.specs.Ring.{count}
use Rattle.refusals.specs.Refusals.{none}
use Rattle.refusals.specs.Screens.{wrong_room}
use Rattle.refusals.specs.Rows.{of_list}
use Rattle.refusals.proofs.Sized.{holds, is_list}
use Rattle.simplify.specs.Simplify.{simplified}

module _ (r : List Float) (tol : Float) (size : ℕ) where
  pub even : none ≡ of_list r tol → length r % 2 ≡ 0
  even e = is_list r tol (rw (← e))

  pub fits : none ≡ wrong_room (count (simplified r tol)) size → 2 * count (simplified r tol) ≤ size
  fits e = leb-true _ _ (holds (leb (2 * count (simplified r tol)) size) 5 0 refl (rw (← e)))
