-- `ring_copies::mirror` meets its contract. `proofs/Turning.antt` has the invariant. Assumes nothing.
use Prim.Native.Nat.{◌*◌, ◌-◌}
use mathlib.Core.Path.{◌≡◌}
use native.Mathlib.Omega.{arith}
use lib.ListN.{length}
use Rattle.ring.specs.Ring.{count}
use Rattle.ring_copies.proofs.Turning.{start, vertex, done}
use Rattle.ring_copies.proofs.mirror.Goals as goal

pub loop-i-init : goal.loop-i-init
loop-i-init c =
    let r = c.args.ring.now in
    let e : 2 * (count r - 0) ≡ length r = omega (arith, c.requires.ring_len) in
    rw e (start _ _ c.requires.ring_len)

pub put-requires : goal.put-requires
put-requires c =
    let t = c.loop-i.invariant in
    omega (arith, t.same, c.loop-i-test.true, c.requires.ring_in_bounds)

pub loop-i-preserved : goal.loop-i-preserved
loop-i-preserved c =
    vertex c.requires.ring_in_bounds c.loop-i-test.true c.loop-i.invariant c.point_at-p.ensures c.put.ensures

pub returns : goal.returns
returns c = done (omega (arith, c.loop-i-test.false)) c.loop-i.invariant
