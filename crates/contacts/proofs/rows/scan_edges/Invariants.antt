use Prim.Native.Nat.{◌+◌, ◌*◌, ◌<◌}
use Rattle.contacts.specs.Rows.{along_edge_at}
use Rattle.contacts.proofs.Rowing.{Sought}
use Rattle.contacts.proofs.rows.scan_edges.Given as goal

abbrev pub invariant-loop-i : goal.invariant-loop-i
invariant-loop-i l = Sought (along_edge_at l.stationary l.orbiting l.tol) (l.s * l.on + l.o) (l.sn * l.on) (l.i * l.on + l.from) × (l.i < l.sn → l.from < l.on)
