use Prim.Native.Nat.{◌*◌, ◌-◌}
use Rattle.ring_copies.proofs.Turning.{Turning}
use Rattle.ring_copies.proofs.mirror.Given as goal

abbrev pub invariant-loop-i : goal.invariant-loop-i
invariant-loop-i l = Turning l.ring l.initial.room l.room (2 * (l.n - l.i)) (2 * l.i)
