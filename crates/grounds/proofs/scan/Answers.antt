-- `grounds::scan` meets its contract: with a table, or an empty one. Assumes nothing.
use native.Mathlib.Omega.{arith}
use Rattle.grounds.proofs.scan.Goals as goal

pub chained_scan-requires : goal.chained_scan-requires
chained_scan-requires c =
    let p = c.requires in
    let h = c.is_chained.ensures c.if-is_chained.true in
    (p.0, record { edges = h.0; near = h.1 }, p.2)

pub scan_by-requires : goal.scan_by-requires
scan_by-requires c = record { vertices_bound = c.requires; ready = λ h. absurd (omega (arith, h)) }
