-- `whole_moves::lift_moved` meets its contract. The invariant: what is written, and then what is left of the list, moved by d
-- first, is the whole list moved; the rest of the room is as it came. Assumes nothing.
use lib.ListN.{get_or}
use mir.Syntax.{w32}
use mir.Val.{to_z}
use mir.ValLaws.{to_z-of_z}
use lib.IntN.{pos, ◌+ℤ◌}
use Rattle.std.proofs.Common.{◌≡◌, rules}
use Rattle.shifted.specs.Shifted.{up_of}
use Rattle.whole_moves.proofs.Turns.{lift_turn, lift_end}
use Rattle.whole_moves.proofs.lift_moved.Goals as goal

pub loop-i-preserved : goal.loop-i-preserved
loop-i-preserved c =
    let z = get_or c.args.list.now c.loop-i.i (pos 0) in
    let is : c.up_moved.result ≡ up_of (z +ℤ to_z w32 c.loop-i.d-bits) = search rules in
    lift_turn _ _ _ _ c.requires c.loop-i-test.true is c.loop-i.invariant

pub returns : goal.returns
returns c =
    rw (← to_z-of_z w32 _ c.ranges.dx, ← to_z-of_z w32 _ c.ranges.dy) (lift_end _ _ _ _ c.loop-i-test.false c.loop-i.invariant)
