use Prim.Native.Nat.{◌*◌, min}
use Rattle.collision.specs.Row.{pair_at, Onward}
use Rattle.collision.proofs.chained_row.Given as goal

abbrev pub invariant-loop-c : goal.invariant-loop-c
invariant-loop-c l = Onward (pair_at l.origin l.edges l.sweep l.kind l.v) 0 (min (8 * l.c) l.m) l.initial.best l.best
