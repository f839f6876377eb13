use Prim.Native.Nat.{◌*◌, min}
use mathlib.Core.Path.{◌≡◌}
use Rattle.ring_distance.specs.Squared.{squared_to}
use Rattle.ring_distance.proofs.to_chains.Given as goal

abbrev pub invariant-loop-c : goal.invariant-loop-c
invariant-loop-c l = l.least ≡ squared_to l.p l.ring l.before (min (8 * l.c) l.n)
