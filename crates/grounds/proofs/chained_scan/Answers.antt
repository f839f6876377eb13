-- `grounds::chained_scan` meets its contract: the table, and then the scan. Assumes nothing.
use native.Mathlib.Omega.{arith}
use Rattle.grounds.proofs.chained_scan.Goals as goal

pub scan_by-requires : goal.scan_by-requires
scan_by-requires c =
    let p = c.requires in
    record { vertices_bound = (p.0, p.1.edges, p.2); ready = λ h. record { few = p.1; room = omega (arith, c.fill.auto.table); chains = c.fill.ensures } }
