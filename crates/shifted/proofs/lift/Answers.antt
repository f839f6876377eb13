-- `shifted::lift` meets its contract. The invariant: the first i numbers are written, and the rest of the room is as it
-- came. Assumes nothing.
use mathlib.Core.Path.{◌≡◌}
use lib.ListN.{get_or}
use lib.IntN.{pos}
use Rattle.std.proofs.Common.{rules}
use Rattle.shifted.specs.Shifted.{up_of}
use Rattle.shifted.proofs.Lifted.{turn}
use Rattle.shifted.proofs.lift.Goals as goal

pub loop-i-preserved : goal.loop-i-preserved
loop-i-preserved c =
    let is : c.up.result ≡ up_of (get_or c.args.list.now c.loop-i.i (pos 0)) = search rules in
    turn c.requires c.loop-i-test.true is c.loop-i.invariant
