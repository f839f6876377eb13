use Prim.Native.Nat.{◌+◌, ◌*◌, ◌<◌}
use Rattle.contacts.specs.Rows.{on_edge_at}
use Rattle.contacts.proofs.Rowing.{Sought}
use Rattle.contacts.proofs.rows.scan_vertices.Given as goal

abbrev pub invariant-loop-i : goal.invariant-loop-i
invariant-loop-i l = Sought (on_edge_at l.points l.ring l.tol) (l.v * l.en + l.e) (l.vn * l.en) (l.i * l.en + l.from) × (l.i < l.vn → l.from < l.en)
