-- `path_check::fault_at` meets its contract: the front of the room is the moved polygon. Assumes nothing.
use native.Mathlib.Omega.{arith}
use mathlib.Core.Path.{refl, sym, ◌∙◌}
use lib.Seq.{length-take-le}
use Rattle.path_check.specs.Path.{fault_at}
use Rattle.path_check.proofs.Placed.{fronted, sides}
use Rattle.path_check.proofs.fault_at.Goals as goal

pub slice_bounds-fault_by-end-2 : goal.slice_bounds-fault_by-end-2
slice_bounds-fault_by-end-2 c =
    sym (length-take-le _ _ (omega (arith, c.move_ring.auto.room, c.requires.orbiting_len.1)))

pub fault_by-requires : goal.fault_by-requires
fault_by-requires c =
    sides _ _ _ (fronted _ _ _ c.requires.orbiting_len.0 c.move_ring.ensures) c.requires.sides

pub returns : goal.returns
unfolding fault_at
returns c =
    c.fault_by.ensures
    ∙ (rw (fronted _ _ _ c.requires.orbiting_len.0 c.move_ring.ensures, c.leg_of.ensures, c.point_at.ensures) refl)
