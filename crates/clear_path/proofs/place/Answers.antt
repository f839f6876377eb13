-- `clear_path::place` meets its contract: the move to the point is as it stands in the path. Assumes nothing.
use Prim.Native.Nat.{◌+◌, ◌*◌}
use mathlib.Core.Path.{◌∙◌}
use lib.ListN.{get_or}
use lib.IntN.{ℤ, pos}
use Rattle.ring.specs.Room.{laid}
use Rattle.whole_moves.specs.Moved.{moved_up}
use Rattle.clear_calls.proofs.Passed.{as_lent}
use Rattle.clear_path.proofs.place.Goals as goal

pub returns : goal.returns
returns c =
    let s = c.args in
    let path = s.path.now in
    c.lift_moved.ensures
    ∙ as_lent {dx = get_or path (2 * s.i) (pos 0)} {dy = get_or path (2 * s.i + 1) (pos 0)}
    (λ (x y : ℤ). laid (moved_up s.orbiting.now x y) s.room.now)
    (record { sfits = c.lift_moved-arg-1.given }) (record { sfits = c.lift_moved-arg-2-1.given })
