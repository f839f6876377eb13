-- `drawn_rows::is_placed` meets its contract. The invariant: the points from i on decide. Assumes nothing.
use Prim.Native.Nat.{◌+◌, ◌*◌}
use mathlib.Core.Path.{◌≡◌, sym, ◌∙◌}
use native.Mathlib.Omega.{arith}
use lib.Seq.{length-take-le}
use mir.Syntax.{w32}
use mir.ValLaws.{to_z-of_z}
use Rattle.ring.proofs.Each.{each_on, each_off, each_end}
use Rattle.refusals.proofs.Every.{every_at}
use Rattle.clear_path.specs.Rows.{is_placed}
use Rattle.clear_path.proofs.Placed.{all_left}
use Rattle.to_grid.specs.Grid.{fits_grid}
use Rattle.drawn_rows.specs.Rows.{grid_of}
use Rattle.drawn_rows.proofs.Placed.{placed_is}
use Rattle.drawn_rows.proofs.is_placed.Goals as goal
use Rattle.drawn_rows.proofs.is_placed.Goals.{After-are_moved_within}
use Rattle.drawn_rows.proofs.is_placed.Lts.View.{up-After-are_moved_within}

-- the test of the point i
is : (c : After-are_moved_within)
    → (c.are_moved_within.result
    ≡ is_placed (grid_of c.args.units c.args.orbiting.now) (grid_of c.args.units c.args.path.now) c.loop-i.i)
is c =
    placed_is c.args.units c.args.orbiting.now c.args.path.now c.loop-i.i _ c.lay.ensures
    (to_z-of_z w32 _ (record { sfits = c.on_grid-x.type_inv }) ∙ c.on_grid-x.ensures.is)
    (to_z-of_z w32 _ (record { sfits = c.on_grid-y.type_inv }) ∙ c.on_grid-y.ensures.is)
    c.are_moved_within.ensures

pub lay-requires : goal.lay-requires
lay-requires c = record { list_value = (c.requires.orbiting_value.0, c.requires.le_units.0, c.requires.le_units.1); list_in_bounds = c.requires.le_units.2 }

pub loop-i-init : goal.loop-i-init
loop-i-init c = all_left _ _

pub on_grid-x-requires : goal.on_grid-x-requires
on_grid-x-requires c =
    (every_at (fits_grid _) _ (2 * c.loop-i.i) c.requires.orbiting_value.1 (omega arith), c.requires.le_units.0, c.requires.le_units.1)

pub on_grid-y-requires : goal.on_grid-y-requires
on_grid-y-requires c =
    (every_at (fits_grid _) _ (2 * c.loop-i.i + 1) c.requires.orbiting_value.1 (omega arith), c.requires.le_units.0, c.requires.le_units.1)

pub slice_bounds-are_moved_within-end : goal.slice_bounds-are_moved_within-end
slice_bounds-are_moved_within-end c =
    sym (length-take-le _ _ (omega (arith, c.lay.auto.room)))

pub loop-i-preserved : goal.loop-i-preserved
loop-i-preserved c =
    let t = c.if-not-are_moved_within.false in
    c.loop-i.invariant ∙ each_on _ _ _ c.loop-i-test.true (sym (is (up-After-are_moved_within _ _ _ _ _ _ c.before.before)) ∙ t)

pub returns-then-not-are_moved_within : goal.returns-then-not-are_moved_within
returns-then-not-are_moved_within c =
    sym (c.loop-i.invariant ∙ each_off _ _ _ c.loop-i-test.true (sym (is (up-After-are_moved_within _ _ _ _ _ _ c.before.before)) ∙ c.if-not-are_moved_within.true))

pub returns : goal.returns
returns c = sym (c.loop-i.invariant ∙ each_end _ _ _ c.loop-i-test.false)
