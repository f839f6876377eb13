use Prim.Native.Nat.{◌*◌}
use mathlib.Core.Path.{◌≡◌}
use lib.ListN.{length}
use Rattle.std.proofs.Common.{min}
use Rattle.chains.specs.Chain.{Tabled}
use Rattle.chains.proofs.fill.Given as goal

abbrev pub invariant-loop-c : goal.invariant-loop-c
invariant-loop-c l = (length l.table ≡ length l.initial.table) × Tabled l.table l.dir l.edges (min (8 * l.c) l.n)
