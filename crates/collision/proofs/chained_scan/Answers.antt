-- `collision::chained_scan` meets its contract: the table, and then the scan. Assumes nothing.
use native.Mathlib.Omega.{arith}
use Rattle.collision.proofs.chained_scan.Goals as goal

pub rows_by-requires : goal.rows_by-requires
rows_by-requires c =
    record { few = c.requires; room = omega (arith, c.fill.auto.table); chains = c.fill.ensures }
