-- `ring_distance::far::fill_chains` meets its contract: `proofs/Filled.antt` has the laws. The invariant: the bounds of the chains before c are
-- in the table. Assumes nothing.
use Prim.Native.Nat.{◌*◌, ◌/◌, ◌<◌, min}
use mathlib.Core.Path.{◌≡◌}
use native.Mathlib.Omega.{arith}
use Rattle.ring.specs.Ring.{count}
use Rattle.chains.proofs.Table.{chain_to}
use Rattle.ring_distance.proofs.Filled.{one_tabled}
use Rattle.ring_distance.proofs.far.fill_chains.Goals as goal

pub loop-c-preserved : goal.loop-c-preserved
loop-c-preserved c =
    let k = c.loop-c.c in
    let n = count c.args.ring.now in
    let i = c.loop-c.invariant in
    let end = c.chain_end.ensures in
    let b : 8 * k < n = omega (arith, c.div_ceil-c-end.ensures, c.loop-c-test.true) in
    let d : 8 * k / 8 ≡ k = omega arith in
    let e : min (8 * k) n ≡ 8 * k = omega (arith, b) in
    let f = chain_to k n _ end.1 end.2 end.3 in
    let t = one_tabled _ _ (8 * k) c.chain_end.result c.bounds_of.result {u = c.put_bounds.new.table} (rw e at i.1) (omega arith) (omega (arith, i.0, b, c.requires)) (omega (arith, end.2)) c.bounds_of.ensures (rw d c.put_bounds.ensures) in
    (omega (arith, c.put_bounds.auto.table, i.0), rw f at t)

pub returns : goal.returns
returns c = λ k x i h. c.loop-c.invariant.1 k x i (omega (arith, h, c.div_ceil-c-end.ensures, c.loop-c-test.false))
