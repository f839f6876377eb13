use Prim.Native.Nat.{◌<◌}
use mathlib.Core.Path.{◌≡◌}
use Rattle.ring.specs.Ring.{point_at}
use Rattle.contacts.specs.Rows.{on_edge}
use Rattle.contacts.proofs.Rowing.{Sought}
use Rattle.contacts.proofs.rows.near_edge.Given as goal

abbrev pub invariant-loop-i : goal.invariant-loop-i
invariant-loop-i l = Sought (on_edge l.p l.ring l.tol) l.from l.n l.i × (l.i < l.n → l.a ≡ point_at l.ring l.i)
