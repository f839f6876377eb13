use Prim.Native.Nat.{◌<◌}
use mathlib.Core.Path.{◌≡◌}
use Rattle.ring.specs.Ring.{point_at}
use Rattle.chains.proofs.Edges.{Taken}
use Rattle.chains.proofs.chain_of.Given as goal

abbrev pub invariant-loop-e : goal.invariant-loop-e
invariant-loop-e l = Taken l.edges l.dir l.from l.frame l.far l.e × (l.e < l.to → l.p ≡ point_at l.edges l.e)
