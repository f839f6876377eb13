use mathlib.Core.Path.{◌≡◌}
use lib.ListN.{drop}
use Rattle.refusals.specs.Bounds.{finite, every}
use Rattle.refusals.proofs.test.are_finite.Given as goal

abbrev pub invariant-loop-x : goal.invariant-loop-x
invariant-loop-x l = every finite l.list ≡ every finite (drop l.x-index l.list)
