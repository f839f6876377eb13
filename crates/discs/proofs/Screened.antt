-- What the tests of the call say: the quarter is one of the seven, and the disc fits the room. Assumes nothing.
use Prim.Native.Nat.{ℕ}
use mathlib.Core.Path.{◌≡◌, refl}
use mathlib.Core.Bool.{true}
use lib.Ieee.{Float}
use Rattle.plane.specs.declared.Point.{Point}
use Rattle.refusals.specs.Refusals.{none, first}
use Rattle.refusals.specs.Screens.{wrong_position}
use Rattle.refusals.proofs.Sized.{row_parts, holds}
use Rattle.discs.specs.Disc.{quarter_ok}
use Rattle.discs.specs.Calls.{wrong_quarter, wrong_radius, of_disc}

module _ (centre : Point) (radius : Float) (m : ℕ) where
  -- what is lent passes, so the quarter is one of the seven
  pub taken : none ≡ of_disc centre radius m → quarter_ok m ≡ true
  unfolding of_disc
  taken e =
      let p = row_parts (wrong_quarter m) (first (wrong_radius radius) (wrong_position centre)) (rw (← e)) in
      holds (quarter_ok m) 12 0 refl p.0
