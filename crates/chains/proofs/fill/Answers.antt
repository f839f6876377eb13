-- `chains::fill` meets its contract: `proofs/Table.antt` has the laws. The invariant: the chains before c are in the table. Assumes nothing.
use Prim.Native.Nat.{◌*◌, ◌/◌, ◌<◌, min}
use mathlib.Core.Path.{◌≡◌}
use native.Mathlib.Omega.{arith}
use Rattle.ring.specs.Ring.{count}
use Rattle.chains.proofs.Table.{one_tabled, chain_to}
use Rattle.chains.proofs.fill.Goals as goal

pub loop-c-preserved : goal.loop-c-preserved
loop-c-preserved c =
    let k = c.loop-c.c in
    let n = count c.args.edges.now in
    let i = c.loop-c.invariant in
    let end = c.chain_end.ensures in
    let b : 8 * k < n = omega (arith, c.div_ceil-c-end.ensures, c.loop-c-test.true) in
    let d : 8 * k / 8 ≡ k = omega arith in
    let e : min (8 * k) n ≡ 8 * k = omega (arith, b) in
    let f = chain_to k n _ end.1 end.2 end.3 in
    let t = one_tabled _ _ _ (8 * k) c.chain_end.result c.chain_of.result {u = c.put_chain.new.table} (rw e at i.1) (omega arith) (omega (arith, i.0, b, c.requires)) (omega (arith, end.2)) c.chain_of.ensures (rw d c.put_chain.ensures) in
    (omega (arith, c.put_chain.auto.table, i.0), rw f at t)
