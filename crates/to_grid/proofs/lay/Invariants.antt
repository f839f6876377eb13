use Rattle.ring.proofs.Mapped.{Written}
use Rattle.to_grid.specs.Grid.{nearest}
use Rattle.to_grid.proofs.lay.Given as goal

abbrev pub invariant-loop-i : goal.invariant-loop-i
invariant-loop-i l = Written (nearest l.units) l.list l.initial.room l.room l.i
