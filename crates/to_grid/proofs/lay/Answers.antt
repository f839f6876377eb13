-- `to_grid::lay` meets its contract. The invariant: the first i numbers are on the grid, and the rest of the room is as it came.
-- Assumes nothing.
use mathlib.Core.Path.{◌∙◌}
use lib.Ieee.{nan}
use mir.Syntax.{w32}
use mir.ValLaws.{to_z-of_z}
use Rattle.ring.proofs.Mapped.{start, turn, done}
use Rattle.refusals.proofs.Every.{every_at}
use Rattle.to_grid.specs.Grid.{nearest, fits_grid}
use Rattle.to_grid.proofs.lay.Goals as goal

pub loop-i-init : goal.loop-i-init
loop-i-init c = start (nearest c.args.units) _ _

pub on_grid-requires : goal.on_grid-requires
on_grid-requires c =
    let p = c.requires.list_value in
    (every_at (fits_grid _) _ c.loop-i.i p.0 c.loop-i-test.true, p.1, p.2)

pub loop-i-preserved : goal.loop-i-preserved
loop-i-preserved c =
    let is = to_z-of_z w32 _ (record { sfits = c.on_grid.type_inv }) ∙ c.on_grid.ensures.is in
    turn (nearest _) nan c.requires.list_in_bounds c.loop-i-test.true is c.loop-i.invariant

pub returns : goal.returns
returns c = done (nearest _) c.loop-i-test.false c.loop-i.invariant
