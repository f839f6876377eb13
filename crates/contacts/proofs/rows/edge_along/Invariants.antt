use Prim.Native.Nat.{◌<◌}
use mathlib.Core.Path.{◌≡◌}
use Rattle.plane.specs.Segment.{near_segment_of}
use Rattle.ring.specs.Ring.{point_at}
use Rattle.contacts.specs.Rows.{along_edge}
use Rattle.contacts.proofs.Rowing.{Sought}
use Rattle.contacts.proofs.rows.edge_along.Given as goal

abbrev pub invariant-loop-i : goal.invariant-loop-i
invariant-loop-i l = Sought (along_edge l.a l.b l.ring l.tol) l.from l.n l.i × (l.i < l.n → l.c ≡ point_at l.ring l.i) × (l.i < l.n → l.starts ≡ near_segment_of (point_at l.ring l.i) l.a l.b l.tol)
