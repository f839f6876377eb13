use mathlib.Core.Path.{◌≡◌}
use lib.ListN.{drop}
use Rattle.refusals.specs.Bounds.{coordinate, every}
use Rattle.refusals.proofs.test.are_coordinates.Given as goal

abbrev pub invariant-loop-x : goal.invariant-loop-x
invariant-loop-x l = every coordinate l.list ≡ every coordinate (drop l.x-index l.list)
