-- `ring_distance::far::fill` meets its contract: `proofs/Filled.antt` has the law. Assumes nothing.
use native.Mathlib.Omega.{arith}
use Rattle.ring_distance.proofs.Filled.{whole_tabled}
use Rattle.ring_distance.proofs.far.fill.Goals as goal

pub returns : goal.returns
returns c =
    let r = c.requires in
    let k = c.fill_chains.auto.table in
    whole_tabled _ _ _ r.1 (omega (arith, k, r.2)) c.put_bounds.auto.table c.fill_chains.ensures c.bounds_of.ensures c.put_bounds.ensures
