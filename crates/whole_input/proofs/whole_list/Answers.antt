-- `whole_input::whole_list` meets its contract. The invariant: the first i whole parts are written, and the rest of the room is
-- as it came. Assumes nothing.
use Rattle.std.proofs.Common.{◌∙◌, w32}
use lib.Ieee.{nan}
use mir.ValLaws.{to_z-of_z}
use Rattle.refusals.specs.Bounds.{coordinate}
use Rattle.refusals.proofs.Every.{every_at}
use Rattle.ring.proofs.Mapped.{start, turn, done}
use Rattle.whole_input.specs.Whole.{whole_part}
use Rattle.whole_input.proofs.whole_list.Goals as goal

pub loop-i-init : goal.loop-i-init
loop-i-init c = start whole_part _ _

pub whole_part-requires : goal.whole_part-requires
whole_part-requires c =
    every_at coordinate _ c.loop-i.i c.requires.0 c.loop-i-test.true

pub loop-i-preserved : goal.loop-i-preserved
loop-i-preserved c =
    let is = to_z-of_z w32 _ (record { sfits = c.whole_part.type_inv }) ∙ c.whole_part.ensures in
    turn whole_part nan c.requires.1 c.loop-i-test.true is c.loop-i.invariant

pub returns : goal.returns
returns c = done whole_part c.loop-i-test.false c.loop-i.invariant
