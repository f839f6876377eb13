-- `collision::scan` meets its contract: with a table, or each edge tried. Assumes nothing.
use Rattle.collision.proofs.scan.Goals as goal

pub chained_scan-requires : goal.chained_scan-requires
chained_scan-requires c = let h = c.is_chained.ensures c.if-is_chained.true in record { edges = h.0; near = h.1 }
