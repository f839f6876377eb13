use Rattle.ring.proofs.Mapped.{Written}
use Rattle.shifted.specs.Shifted.{up_of}
use Rattle.to_grid.specs.Grid.{nearest}
use Rattle.clear_drawn.proofs.lift_drawn.Given as goal

abbrev pub invariant-loop-i : goal.invariant-loop-i
invariant-loop-i l = Written (λ x. up_of (nearest l.units x)) l.list l.initial.room l.room l.i
