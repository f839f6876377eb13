use Prim.Native.Nat.{◌*◌, min}
use mathlib.Core.Path.{◌≡◌}
use lib.ListN.{length}
use Rattle.ring_distance.specs.Far.{Tabled}
use Rattle.ring_distance.proofs.far.fill_chains.Given as goal

abbrev pub invariant-loop-c : goal.invariant-loop-c
invariant-loop-c l = (length l.table ≡ length l.initial.table) × Tabled l.table l.ring (min (8 * l.c) l.n)
