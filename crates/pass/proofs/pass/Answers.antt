-- `pass::pass` meets its contract: the front of the room is the moved polygon. Assumes nothing.
use native.Mathlib.Omega.{arith}
use mathlib.Core.Path.{refl, sym, ◌∙◌}
use lib.Seq.{length-take-le}
use Rattle.pass.specs.Pass.{pass_of}
use Rattle.pass.proofs.Cases.{fronted, sides, as_many}
use Rattle.pass.proofs.pass.Goals as goal

pub slice_bounds-pass_at-end-2 : goal.slice_bounds-pass_at-end-2
slice_bounds-pass_at-end-2 c =
    sym (length-take-le _ _ (omega (arith, c.move_ring.auto.room, c.requires.orbiting_len_bound.1)))

pub pass_at-requires : goal.pass_at-requires
pass_at-requires c =
    let f = fronted _ _ _ c.requires.orbiting_len c.move_ring.ensures in
    record { orbiting_len = c.requires.orbiting_len; orbiting_len_bound = c.requires.orbiting_len_bound.0; sides = sides _ _ _ f c.requires.sides; directed = c.requires.directed.0; moved_value = (as_many _ _ f, c.requires.directed.1) }

pub returns : goal.returns
unfolding pass_of
returns c =
    c.pass_at.ensures ∙ (rw (fronted _ _ _ c.requires.orbiting_len c.move_ring.ensures) refl)
