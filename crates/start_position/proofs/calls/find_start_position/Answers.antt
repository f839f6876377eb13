-- `start_position::calls::find_start_position` meets its contract: polygons that are not refused have vertices. Assumes nothing.
use native.Mathlib.Omega.{arith}
use Rattle.refusals.proofs.Sized.{two_polygons}
use Rattle.start_position.proofs.calls.find_start_position.Goals as goal

pub find_start_position-requires : goal.find_start_position-requires
find_start_position-requires c =
    let a = c.args in
    let f = two_polygons a.stationary.now a.orbiting.now (rw (← c.in_ok-two_polygons.ensures)) in
    (omega (arith, f.0.least), omega (arith, f.1.least))
