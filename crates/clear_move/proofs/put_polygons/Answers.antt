-- `clear_move::put_polygons` meets its contract: each list at the front of a room. Assumes nothing.
use Rattle.std.proofs.Common.{w32}
use mir.ValLaws.{to_z-of_z}
use Rattle.print.proofs.Puts.{reads}
use Rattle.clear_move.proofs.Inputs.{front, same_pair}
use Rattle.clear_move.proofs.put_polygons.Goals as goal

pub returns : goal.returns
returns c =
    reads
    (same_pair (front c.args.stationary.now _ c.whole_list.ensures) (front c.args.orbiting.now _ c.whole_list-2.ensures)
    (to_z-of_z w32 _ c.ranges.dx) (to_z-of_z w32 _ c.ranges.dy))
    c.put_pair.ensures
