use Prim.Native.Nat.{◌<◌}
use mathlib.Core.Path.{◌≡◌}
use Rattle.ring.specs.Ring.{point_at}
use Rattle.frames.specs.Frame.{Around}
use Rattle.frames.proofs.frame_of.Given as goal

abbrev pub invariant-loop-i : goal.invariant-loop-i
invariant-loop-i l = Around l.q l.ring l.i × (l.i < l.n → l.a ≡ point_at l.ring l.i)
